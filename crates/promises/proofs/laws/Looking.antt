-- Next wake and length: what they answer, in deadlines and in timers.
use mathlib.Core.Path.{◌≡◌, refl, sym, ap, ◌∙◌, subst}
use mathlib.Core.Logic.{◌⊎◌, inl, inr, ⊎_elim, by_cases}
use mathlib.Core.Bool.{true}
use mathlib.Core.List.{List, [], ◌∷◌, nil≢cons}
use mathlib.Core.Option.{Option, none, some-ne-none}
use Prim.Native.Nat.{ℕ, ◌/◌, ◌≤◌, ◌<◌}
use native.Mathlib.Nat.{le_trans}
use native.Mathlib.Decide.{ℕ_discrete, dec_lt}
use native.Mathlib.Omega.{arith}
use borrow.Author.Tests.{lt-ltb, ltb-true}
use Rattle.times.specs.Times.{floor, block_end}
use Rattle.times.proofs.laws.Quotients.{floor_le, floor_zero}
use Rattle.links.specs.Lists.{Mem}
use Rattle.links.specs.Links.{at}
use Rattle.links.specs.Count.{cnt}
use Rattle.places.specs.Places.{slot_place, parking, expired, free, level_at}
use Rattle.places.proofs.laws.Whole as place_laws
use Rattle.wheel.specs.Wheel.{Lists, Rule, NextList, in_slot, in_parking, NoneWaits, Polls, idle, early, out, drain}
use Rattle.wheel.specs.Between.{Between}
use Rattle.wheel.proofs.laws.Between.{rule_between}
use Rattle.wheel.proofs.laws.Next.{list_height, list_some, list_late, list_start, list_least, list_one, list_not_none}
use Rattle.wheel.proofs.laws.One.{Same, polls_one}
use Rattle.wheel.proofs.laws.Poll.{none_waits}
use Rattle.queue.specs.declared.Answer.{Answer}
use Rattle.queue.specs.Told.{Told, told, handing}
use Rattle.queue.specs.Told as T
use Rattle.records.specs.View.{View, with_elapsed, with_lists}
use Rattle.records.specs.Records.{At}
use Rattle.queue.specs.Steps.{QueuePolls, polled, popped, handed, nothing, Wakes, sleeps, starts, NextWake, at_once, from_wheel}
use Rattle.records.specs.Words.{QueueWords, AtRest, count, elapsed, mark_of, view, Sound, PastKept}
use Rattle.records.proofs.laws.Words.{view_fixed}
use Rattle.records.proofs.laws.Inner.{mark_at}
use Rattle.queue.specs.Inner.{pending_in}
use Rattle.queue.proofs.laws.Polls.{pending_is}
use Rattle.delay_queue.specs.Claims.{WakeClaim, LengthClaim, PollClaim}
use Rattle.pausing.proofs.laws.Works.{not_before}
use Rattle.promises.specs.Polling.{IsPending}
use Rattle.promises.specs.Looking.{InList, WakesAt, NonePending, NextAt, Before, at_time, Idle, is_pending}
use Rattle.promises.proofs.laws.Polling.{none_out, goes_on_says}
use Rattle.promises.proofs.laws.Parked.{list_before}

-- ---- the wheel's answer

first_wakes : {v : View} → Between v.deadline v.elapsed v.lists → {k p c : ℕ} → NextList v.elapsed v.lists k p c → WakesAt v c
first_wakes {v} B {k} {p = here} {c} X =
    let level = list_height X in
    let o = list_some X in
    let h = o.0 in
    let m : Mem h (v.lists here) = rw o.2 (inl refl) in
    let is : (x : ℕ) → Mem x (v.lists here) → c ≡ floor (here / 64) (v.deadline x)
    = λ x m. sym (list_start B X x m) ∙ ap (λ j. floor j (v.deadline x)) (sym level.0) in
    record {
      not_past = list_late B X;
      in_time = λ x p o. le_trans (list_least B X p x o.below o.member) (floor_le (level_at p) (v.deadline x));
      item = h;
      place = here;
      waits = record { below = level.1; member = m };
      rounded = is h m;
      exact = λ l. sym (list_start B X h m) ∙ ap (λ j. floor j (v.deadline h)) (zero_level l level.0) ∙ floor_zero (v.deadline h);
      least = λ x p o f.
          by_cases (ℕ_discrete p here)
          (λ e. rw e (is x (rw e at o.member)))
          (λ d.
          let a : v.deadline x ≤ v.deadline h = f h here (record { below = level.1; member = m }) in
          let b = list_before B X h m p x o.below d o.member in
          absurd (omega (arith, floor_le (level_at p) (v.deadline x))));
    }
  where
    zero_level : {p k : ℕ} → p < 64 → level_at p ≡ k → k ≡ 0
    zero_level l e = omega arith

-- an answer `wake w` or `wake -`
wakes_at : {v : View} → Between v.deadline v.elapsed v.lists → {x : Told} {w : ℕ} → Wakes v x → x ≡ T.wake w → WakesAt v w
wakes_at {v} B (sleeps E) e = let z : ◌≡◌ {A = ℕ} 0 1 = cc in absurd (omega arith)
wakes_at {v} B {w = w} (starts {c = c} X) e = let z : c ≡ w = cc in rw (← z) (first_wakes B X)

wakes_never : {v : View} {x : Told} → Wakes v x → x ≡ T.never → NoneWaits v.lists
wakes_never (sleeps E) e = E
wakes_never (starts X) e = let z : ◌≡◌ {A = ℕ} 0 1 = cc in absurd (omega arith)

never_wakes : {v : View} {x : Told} → Wakes v x → NoneWaits v.lists → x ≡ T.never
never_wakes (sleeps E) G = refl
never_wakes (starts X) G = absurd (list_not_none X G)

-- ---- next wake

no_members : (l : List ℕ) → ((i : ℕ) → Mem i l → ⊥) → l ≡ []
no_members [] f = refl
no_members (x ∷ l) f = absurd (f x (inl refl))

-- a pending timer lies on the wheel or is parked, or has expired
pending_where : {v : View} {r : ℕ} → IsPending v r → ((p : ℕ) × InList v r p) ⊎ Mem r (v.lists expired)
pending_where {v} {r} (p, a) =
    by_cases (dec_lt p expired)
    (λ h. inl (p, record { below = h; member = a.member }))
    (λ h. let e : p ≡ expired = omega (arith, h, a.timed) in inr (rw e at a.member))

none_in : (l : List ℕ) → l ≡ [] → (i : ℕ) → Mem i l → ⊥
none_in l n i m = rw n at m

next_never : {v : View} {x : Told} → NextWake v x → x ≡ T.never → NonePending v
next_never (at_once n) e r o = let z : ◌≡◌ {A = ℕ} 0 1 = cc in absurd (omega arith)
next_never {v} (from_wheel n W) e r o =
    ⊎_elim
    (λ s. none_waits (wakes_never W e) s.0 r s.1.below s.1.member)
    (none_in (v.lists expired) n r)
    (pending_where o)

never_next : {v : View} {x : Told} → NextWake v x → NonePending v → x ≡ T.never
never_next (at_once {r} n) N = absurd (N r (expired, record { timed = omega arith; member = rw n (inl refl) }))
never_next {v} (from_wheel n W) N =
    let none : (q : ℕ) → q < expired → v.lists q ≡ []
    = λ q h. no_members (v.lists q) (λ i m. N i (q, record { timed = omega (arith, h); member = m })) in
    never_wakes W (λ q h. none q (omega (arith, h)), none parking (omega arith))

-- what has expired wakes at once
now_at : {v : View} → Rule v.deadline v.elapsed v.lists → {r : ℕ} {l : List ℕ} → v.lists expired ≡ r ∷ l → NextAt v v.elapsed
now_at {v} R n =
    record {
      not_past = omega arith;
      in_time = λ x o. ⊎_elim (λ s. not_before R s.0 x s.1.below s.1.member) (λ m. omega (arith, R.expired x m)) (pending_where o);
      due = λ x m. (refl, sym (R.expired x m));
      ahead = λ z. absurd (nil≢cons (sym z ∙ n));
    }

-- with nothing expired the wheel speaks for all
wheel_at : {v : View} {w : ℕ} → v.lists expired ≡ [] → WakesAt v w → NextAt v w
wheel_at {v} n A =
    record {
      not_past = A.not_past;
      in_time = λ x o. ⊎_elim (λ s. A.in_time x s.0 s.1) (λ m. absurd (none_in (v.lists expired) n x m)) (pending_where o);
      due = λ x m. absurd (none_in (v.lists expired) n x m);
      ahead = λ z. A;
    }

next_at : {v : View} → Rule v.deadline v.elapsed v.lists → {x : Told} {w : ℕ} → NextWake v x → x ≡ T.wake w → NextAt v w
next_at {v} R {w = w} (at_once n) e = let z : v.elapsed ≡ w = cc in rw (← z) (now_at R n)
next_at R (from_wheel n W) e = wheel_at n (wakes_at (rule_between R) W e)

next_now : {v : View} {x : Told} {r : ℕ} {l : List ℕ} → NextWake v x → v.lists expired ≡ r ∷ l → x ≡ T.wake v.elapsed
next_now (at_once n) e = refl
next_now (from_wheel n W) e = absurd (nil≢cons (sym n ∙ e))

-- all that is pending is parked, and something is
parked_start : {v : View} {k p c : ℕ} → NextList v.elapsed v.lists k p c → ((y p : ℕ) → At v y p → p ≡ parking) → c ≡ block_end v.elapsed
parked_start (in_slot {k} {s} F) only =
    let z : slot_place k s ≡ parking = only F.head (slot_place k s)
    (record { timed = omega (arith, F.within, F.is); member = rw F.filled (inl refl) }) in
    absurd (omega (arith, z, F.within, F.is))
parked_start (in_parking E is) only = refl

next_parked : {v : View} {x : Told} {r : ℕ} → NextWake v x → At v r parking → ((y p : ℕ) → At v y p → p ≡ parking) → x ≡ T.wake (block_end v.elapsed)
next_parked (at_once {r} n) a only = absurd (omega (arith, only r expired (record { timed = omega arith; member = rw n (inl refl) })))
next_parked {r = r} (from_wheel n (sleeps E)) a only = absurd (none_waits E parking r (omega arith) a.member)
next_parked {v} (from_wheel n (starts X)) a only = rw (parked_start X only) refl

-- while no poll is in hand: else it is refused with 12 (02 [10])
module _ {s : QueueWords} {a : Answer} (W : WakeClaim s a) (S : Sound s) (z : AtRest s) where
  -- `wake -` exactly when nothing is pending
  pub never_exactly : (told a ≡ T.never → NonePending (view s)) × (NonePending (view s) → told a ≡ T.never)
  never_exactly = (next_never ((W.good S).free z).done, never_next ((W.good S).free z).done)

  -- 02 [1]: "next wake is elapsed whenever the expired stack holds anything": whatever lies on the wheel
  pub wake_at_once : {r : ℕ} {l : List ℕ} → (view s).lists expired ≡ r ∷ l → told a ≡ T.wake (elapsed s)
  wake_at_once e = next_now ((W.good S).free z).done e

  -- "and the wheel's answer otherwise": in deadlines, of all that is pending
  pub wake_in_time : {w : ℕ} → told a ≡ T.wake w → NextAt (view s) w
  wake_in_time e = next_at (S.rule.free z) ((W.good S).free z).done e

  -- 02 [12]: "A wake with only parked timers is the block start."
  pub wake_parked : {r : ℕ} → At (view s) r parking → ((y p : ℕ) → At (view s) y p → p ≡ parking) → told a ≡ T.wake (block_end (elapsed s))
  wake_parked p only = next_parked ((W.good S).free z).done p only

-- ---- a poll before the wake

idled : (v : View) {m n now c : ℕ} {M : Lists} → Same none m n c M none 0 0 now v.lists
    → (T.none m n ≡ T.none 0 0) × (with_elapsed c (with_lists M v) ≡ with_elapsed now v)
idled v R = (rw (R.moves, R.drains), λ i. with_elapsed (R.elapsed i) (with_lists (R.lists i) v))

-- nothing to do, where the next list starts past now: nothing but elapsed changes
idle_before : {v : View} {now : ℕ} {x y : Told} {u : View} → v.lists expired ≡ [] → Wakes v x → QueuePolls v now y u → Before now x
    → (y ≡ T.none 0 0) × (u ≡ with_elapsed now v)
idle_before n W (handed (popped e) G) f = absurd (nil≢cons (sym n ∙ e))
idle_before n (sleeps E) (handed (polled e P) G) f = absurd (some-ne-none _ (polls_one P (idle E)).got)
idle_before {v} n (sleeps E) (nothing (polled e P)) f = idled v (polls_one P (idle E))
idle_before n (starts X) (handed (polled e P) G) f = absurd (some-ne-none _ (polls_one P (early X (f _ refl))).got)
idle_before {v} n (starts X) (nothing (polled e P)) f = idled v (polls_one P (early X (f _ refl)))

-- and only there
idle_first : {d : ℕ → ℕ} {now e : ℕ} {L : Lists} {got : Option ℕ} {m n c : ℕ} {M : Lists} → Polls d now e L got m n c M → got ≡ none → n ≡ 0
    → {k p b : ℕ} → NextList e L k p b → now < b
idle_first (idle E) g h X = absurd (list_not_none X E)
idle_first (early Y l) g h X = rw (list_one X Y).start l
idle_first (out G l i) g h X = absurd (some-ne-none _ g)
idle_first (drain Y l D r) g h X = absurd (omega arith)

idle_only : {v : View} {now w : ℕ} {x y : Told} {u : View} → Wakes v x → QueuePolls v now y u → y ≡ T.none 0 0 → x ≡ T.wake w → now < w
idle_only (sleeps E) P h e = let z : ◌≡◌ {A = ℕ} 0 1 = cc in absurd (omega arith)
idle_only (starts X) (handed T G) h e = absurd (none_out (ap handing (sym h) ∙ goes_on_says G))
idle_only {v} {w = w} (starts {c = c} X) (nothing {m} {n} (polled i P)) h e =
    let z : n ≡ 0 = cc in
    let q : c ≡ w = cc in
    rw (← q) (idle_first P refl z X)

-- the same of next wake, with no word on the expired stack: elapsed itself is not before the wake that it calls for
idle_next : {v : View} {now : ℕ} {x y : Told} {u : View} → v.elapsed ≤ now → NextWake v x → QueuePolls v now y u → Before now x
    → (y ≡ T.none 0 0) × (u ≡ with_elapsed now v)
idle_next h (at_once n) P f = absurd (omega (arith, h, f _ refl))
idle_next h (from_wheel n W) P f = idle_before n W P f

only_next : {v : View} {now : ℕ} {x y : Told} {u : View} → NextWake v x → QueuePolls v now y u → y ≡ T.none 0 0 → Before now x
only_next (at_once n) (handed T G) h w e = absurd (none_out (ap handing (sym h) ∙ goes_on_says G))
only_next (at_once n) (nothing (polled i P)) h w e = absurd (nil≢cons (sym i ∙ n))
only_next (from_wheel n W) P h w e = idle_only W P h e

-- a view that differs in elapsed alone is that of words that do
only_elapsed : {s t : QueueWords} {now : ℕ} → Sound s → AtRest s → Sound t → PastKept (count s) s t → view t ≡ with_elapsed now (view s) → t ≡ at_time now s
only_elapsed {s} {t} {now} S z T K e =
    let A = S.standing in
    let R : Rule (at s.deadlines) now (view s).lists
    = subst (λ (v : View). Rule v.deadline v.elapsed v.lists) e (T.rule.free (ap (λ (v : View). v.hand) e ∙ z)) in
    let S' : Sound (at_time now s)
    = record {
      standing =
          record {
            fits = A.fits;
            whole = record { places = A.whole.places; occupied = A.whole.occupied };
            turns = A.turns;
            retired = A.retired;
          };
      rule = record { free = λ _. R; inside = λ d. absurd (d z) };
      no_now = λ _. S.no_now z;
    } in
    view_fixed S' T e (record { links = K.links; values = K.values; deadlines = K.deadlines; turns = K.turns })

-- "An empty wheel or a slot start past now ends it": a poll from elapsed on finds something to do exactly from next wake on. Before, it "hands out nothing,
-- makes no moves and changes only elapsed" (02 [14])
pub idle_exactly : {s t : QueueWords} {a b : Answer} {now : ℕ} → WakeClaim s a → PollClaim s now b t → Sound s → AtRest s → elapsed s ≤ now
    → (Before now (told a) → Idle s now b t) × (told b ≡ T.none 0 0 → Before now (told a))
idle_exactly W P S z h =
    let x = ((W.good S).free z).done in
    let y = ((P.good S).free z).done h in
    (λ f. let i = idle_next h x y.1 f in record { told = i.0; only = only_elapsed S z y.0 y.2 i.1 }, only_next x y.1)

-- ---- length

-- "marks tell the true place": the test passes exactly the records that wait in a list of timers
pub pending_exactly : {s : QueueWords} → Sound s → (i : ℕ) → i < count s
    → (is_pending s i ≡ true → (p : ℕ) × At (view s) i p) × ((p : ℕ) → At (view s) i p → is_pending s i ≡ true)
pending_exactly {s} S i h = (
  λ e. let l = ltb-true (mark_of s i) free e in (
    mark_of s i,
    record { timed = l; member = place_laws.marked_member S.standing.whole.places i h (omega arith) },
  ),
  λ p a. lt-ltb (mark_of s i) free (omega (arith, mark_at S.standing a)),
)

-- "`len n`": n is how many of the records 0, .., N - 1 are pending
pub length_counts : {s : QueueWords} {a : Answer} → LengthClaim s a → Sound s → told a ≡ T.len (cnt (is_pending s) (count s))
unfolding pending_in
length_counts C S = (C.good S).done ∙ ap T.len (sym (pending_is S))
