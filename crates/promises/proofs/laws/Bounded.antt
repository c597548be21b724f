-- Demand 3 in its own sentences: each poll of a run reports the levels that were lost, all moves are at most six for each accepted insert or reset, and a
-- due timer is out or removed within as many accepted polls as timers were pending.
use mathlib.Core.Path.{◌≡◌, refl, sym, ap, ◌∙◌, subst}
use mathlib.Core.Logic.{inl, ⊎_elim, by_cases}
use mathlib.Core.Bool.{Bool, true, false, not, ◌&&◌, cond, true≢false, and-false}
use mathlib.Core.List.{List, [], ◌∷◌}
use mathlib.Core.Option.{Option, none, some}
use Prim.Native.Nat.{ℕ, ◌+◌, ◌-◌, ◌≤◌, ◌<◌, max}
use native.Mathlib.Decide.{dec_lt, ℕ_discrete}
use native.Mathlib.Omega.{arith}
use borrow.Author.Tests.{le-leb, lt-ltb, le-ltb}
use Rattle.times.specs.Times.{slot_of}
use Rattle.times.proofs.laws.Quotients.{slot_lt}
use Rattle.links.specs.Lists.{nobody, Mem, change}
use Rattle.places.specs.Places.{slot_place, expired, level_at}
use Rattle.wheel.specs.Wheel.{Lists, arrive}
use Rattle.wheel.specs.Limited.{Outcome, ended as stopped, yet, Limited, rests, waits, hands, finds, stops, moves, empties}
use Rattle.wheel.specs.Moves.{gotten}
use Rattle.wheel.proofs.laws.Moves.{got_none, got_some}
use Rattle.wheel.proofs.laws.Next.{list_height}
use Rattle.wheel.proofs.laws.Sums.{mem_left, mem_joined}
use Rattle.wheel.specs.Drain.{heights}
use Rattle.queue.specs.declared.Answer.TheVariants as A
use Rattle.queue.specs.Told.{told, Told, handing}
use Rattle.queue.specs.Told as T
use Rattle.queue.specs.Steps.{pending, GoesOn, once, again, ended, TakesSome, popped_some, polled_some, PollsSome, handed_some, nothing_some, not_yet}
use Rattle.records.specs.Records.{At, target, placed}
use Rattle.records.specs.Slices.{Fits}
use Rattle.records.specs.View.{View}
use Rattle.records.specs.Words.{QueueWords, AtRest, slices, view, Sound}
use Rattle.records.specs.Format.{InRange}
use Rattle.delay_queue.specs.declared.Call.{Call}
use Rattle.delay_queue.specs.declared.Call.TheVariants as C
use Rattle.delay_queue.specs.Claims.{Formatted, RemoveClaim, CallClaim}
use Rattle.promises.specs.OneCall.{is_no, blank, one}
use Rattle.promises.specs.Runs.{Asked, Runs, rest, next, ends, is_poll, All, tally_ended, moves_of, Each}
use Rattle.pausing.specs.Pausing.{PollTaken}
use Rattle.promises.specs.Polls.{PollAt, whole, limited}
use Rattle.promises.specs.Polling.{Dead}
use Rattle.promises.specs.Waiting.{Undisturbed, due_poll, NoneRepeats}
use Rattle.promises.specs.Keys.{asked}
use Rattle.promises.specs.KeysReach.{Reaches}
use Rattle.promises.specs.Shown.{polled_at70}
use Rattle.promises.specs.Bounded.{Fresh, height_at, LosesLevels, ReportsLost, AtOrPast, DueAfter, OutOrRemoved, out, removed, Within, LeavesWithin, WaitsBounded, WorkBounded, IsSetAgain}
use Rattle.promises.proofs.laws.Decided.{fits_dec, range_dec}
use Rattle.promises.proofs.laws.OneCall.{call_sound, fits, one_made, insert_shown}
use Rattle.promises.proofs.laws.Runs.{run_sound}
use Rattle.promises.proofs.laws.Views.{call_goes}
use Rattle.promises.proofs.laws.Polling.{none_out, no_last, freed_beside}
use Rattle.promises.proofs.laws.Does.{poll_done, poll_taken}
use Rattle.promises.proofs.laws.Moves.{view_heights, moves_bounded}
use Rattle.promises.proofs.laws.Waiting.{pending_some, counted, Went, comes, leaves, went, dead_run}
use Rattle.promises.proofs.laws.Waiting as waiting_laws
use Rattle.promises.proofs.laws.Shown.{waiting, waiting_deadline, waiting_pending, waited_shown}
use Rattle.promises.proofs.laws.TakesOut.{one_list, taken_out, key_of_names}

-- ---- moves

-- a fresh store is one that format has made
fresh_formatted : {t : QueueWords} (F : Fresh t) → Formatted F.lent F.n F.turn F.answer t
fresh_formatted {t} F = by (fits_dec F.lent F.n) (range_dec F.turn)
  where
    not_refused : {j : ℕ} → told F.answer ≡ T.no j → ⊥
    not_refused e = true≢false (sym (ap is_no e) ∙ ap is_no F.done)

    by : Dec (Fits (slices F.lent) F.n) → Dec (InRange F.turn) → Formatted F.lent F.n F.turn F.answer t
    by (no f) i = absurd (not_refused (F.formats.short f).told)
    by (yes x) (no f) = absurd (not_refused (F.formats.outside x f).told)
    by (yes x) (yes y) = F.formats.done x y

-- ---- no timer rises

height_most : (p : ℕ) → height_at p ≤ level_at p
height_most p =
    by_cases (dec_lt p expired) (λ h. rw (lt-ltb p expired h) (omega arith)) (λ h. rw (le-ltb p expired (omega arith)) (omega arith))

Below : Option ℕ → Type 0
Below none = Unit {0}
Below (some p) = p < expired

-- who lies in a place after a call of the wheel lay as high or higher before it
module _ {d : ℕ → ℕ} {now : ℕ} where
  limited_falls : {h : Option ℕ} {b e m n c : ℕ} {L N : Lists} {o : Outcome} → Limited d now h b e L o m n c N → Below h → (y q : ℕ) → Mem y (N q)
      → (p : ℕ) × Mem y (L p) × (height_at q ≤ height_at p)
  unfolding arrive Below
  limited_falls (rests E) h y q k = (q, k, omega arith)
  limited_falls (waits F g) h y q k = (q, k, omega arith)
  limited_falls (hands {s = s} {x = x} {L = L} {l = l} F g is) h y q k = (q, mem_left L (slot_place 0 s) x l is q y k, omega arith)
  limited_falls (finds X g r) h y q k = limited_falls r (list_height X).1 y q k
  limited_falls (stops i) h y q k = (q, k, omega arith)
  limited_falls (moves {p = p} {x = x} {L = L} {l = l} i r) h y q k =
      let a = limited_falls r h y q k in
      let o = slot_place (level_at p - 1) (slot_of (d x) (level_at p - 1)) in
      let top : height_at p ≡ level_at p = rw (lt-ltb p expired h) refl in
      ⊎_elim
      (λ z.
      let low : height_at a.0 ≤ level_at a.0 = height_most a.0 in
      (p, rw (z.1, i) (inl refl), omega (arith, a.2, low, top, z.0, slot_lt (d x) (level_at p - 1))))
      (λ m. (a.0, mem_left L p x l i a.0 y m, a.2))
      (mem_joined (change L p l) o x a.0 y a.1)
  limited_falls (empties i r) h y q k = limited_falls r tt y q k

module _ {s : QueueWords} (S : Sound s) {now : ℕ} (h : PollTaken (view s) now) where
  hand_below : Below (gotten s.hand)
  unfolding Below
  hand_below =
      by_cases (ℕ_discrete s.hand nobody)
      (λ z. subst (λ (o : Option ℕ). Below o) (sym (got_none s.hand z)) tt)
      (λ d. subst (λ (o : Option ℕ). Below o) (sym (got_some s.hand d)) (S.rule.inside d).below)

  takes_falls : {limit m n : ℕ} {o : Outcome} {u : View} → TakesSome (view s) now limit o m n u → (y q : ℕ) → Mem y (u.lists q)
      → (p : ℕ) × Mem y ((view s).lists p) × (height_at q ≤ height_at p)
  takes_falls (popped_some {r = r} {l = l} e) y q k = (q, mem_left (view s).lists expired r l e q y k, omega arith)
  takes_falls (polled_some {o = stopped g} e r) y q k = limited_falls r hand_below y q k
  takes_falls (polled_some {o = yet g} e r) y q k = limited_falls r hand_below y q k

  -- who is not set again lies where it lay before the hand-out
  goes_from : {limit r m n : ℕ} {u : View} {x : Told} {w : View} → TakesSome (view s) now limit (stopped (some r)) m n u → GoesOn (view s) r m n u x w
      → (y q : ℕ) → (IsSetAgain (view s) x y → ⊥) → At w y q → Mem y (u.lists q)
  unfolding placed
  goes_from {r = r} {u = u} T (once z) y q f a = rw ((freed_beside r u).lists q a.timed) at a.member
  goes_from {r = r} {u = u} T (ended p g) y q f a = rw ((freed_beside r u).lists q a.timed) at a.member
  goes_from {r = r} {u = u} T (again p g) y q f a =
      let O = taken_out S h T in
      let N = key_of_names S (O.out r refl).1 in
      let more : y ≡ r → (view s).period y ≡ 0 → ⊥ = λ e z. omega (arith, ap (view s).period e, p) in
      let when = max ((view s).deadline r + (view s).period r) u.elapsed in
      ⊎_elim (λ z. absurd (f (_, _, _, _, _, refl, z.1 ∙ N.number, ⊎_elim (more z.1) no_last))) (λ m. m)
      (mem_joined u.lists (target u.elapsed when) r q y a.member)

  poll_falls : {limit : ℕ} {x : Told} {w : View} → PollsSome (view s) now limit x w → (y p q : ℕ) → (IsSetAgain (view s) x y → ⊥) → At (view s) y p
      → At w y q → height_at q ≤ height_at p
  poll_falls (handed_some T G) y p q f a b =
      let k = takes_falls T y q (goes_from T G y q f b) in
      subst (λ (j : ℕ). height_at q ≤ height_at j) (one_list S y k.0 p k.1 a.member) k.2
  poll_falls (nothing_some T) y p q f a b =
      let k = takes_falls T y q b.member in
      subst (λ (j : ℕ). height_at q ≤ height_at j) (one_list S y k.0 p k.1 a.member) k.2
  poll_falls (not_yet T) y p q f a b =
      let k = takes_falls T y q b.member in
      subst (λ (j : ℕ). height_at q ≤ height_at j) (one_list S y k.0 p k.1 a.member) k.2

  poll_loses : {limit : ℕ} {x : Told} {w : View} → PollsSome (view s) now limit x w → LosesLevels (view s) x w
  poll_loses Q =
      let M = view_heights S h Q in
      record {
        added = M.0;
        lost = M.1;
        nothing_added = M.2;
        height_added = M.3;
        none_rises = λ y p q f a b. poll_falls Q y p q f a b;
      }

-- a poll that is refused reports nothing and changes nothing
poll_lost : {s : QueueWords} (x : Asked) (t : QueueWords) → Sound s → CallClaim x.call s x.answer t → ReportsLost s x t
poll_lost {s} x t S A now at =
    ⊎_elim
    (λ r.
    let R = r.1 in
    let nobody-set : (y : ℕ) → IsSetAgain (view s) (told x.answer) y → ⊥ = λ y z. none_out (ap handing (sym R.told) ∙ z.5) in
    record {
      added = 0;
      lost = omega (arith, ap moves_of R.told, ap (λ z. heights (view z).lists) R.same);
      nothing_added = λ f. refl;
      height_added = λ y q z b. absurd (nobody-set y z);
      none_rises = λ y p q f a b.
          let c : At (view s) y q = rw R.same at b in
          let z : p ≡ q = one_list S y p q a.member c.member in
          rw z (omega arith);
    })
    (λ K. poll_loses S K (poll_done S at K x.answer t A).1)
    (poll_taken S at A)

-- "each poll reports as many moves as the pending timers lost in levels during it": so from any sound store
pub each_lost : {s u : QueueWords} {l : List Asked} → Sound s → (R : Runs s l u) → Each ReportsLost R
each_lost S rest = tt
each_lost S (next {s} {t} {u} {x} {l} A R) = (poll_lost x t S A, each_lost (call_sound x.call s x.answer t A S) R)

-- ---- waiting

-- a poll at or past d is one at which d is due
due_counted : (d : ℕ) (c : Call) (b : Bool) → ((now : ℕ) → PollAt c now → b ≡ true → d ≤ now)
    → ◌≡◌ {A = ℕ} (cond (due_poll d c && b) 1 0) (cond (is_poll c && b) 1 0)
due_counted d (C.Format n turn) b f = refl
due_counted d (C.Insert value when period) b f = refl
due_counted d (C.Reset key when) b f = refl
due_counted d (C.Remove key) b f = refl
due_counted d (C.Poll now) true f = rw (le-leb d now (f now whole refl))
due_counted d (C.Poll now) false f = rw (and-false (due_poll d (C.Poll now)))
due_counted d (C.PollSome now limit) true f = rw (le-leb d now (f now limited refl))
due_counted d (C.PollSome now limit) false f = rw (and-false (due_poll d (C.PollSome now limit)))
due_counted d C.Wake b f = refl
due_counted d C.Length b f = refl
due_counted d C.Clear b f = refl

-- what has ended was accepted
ends_accepted : (x : Told) → ends x ≡ true → not (is_no x) ≡ true
ends_accepted T.ok e = refl
ends_accepted (T.key k) e = refl
ends_accepted (T.gone v d) e = refl
ends_accepted (T.out k v d m n) e = refl
ends_accepted (T.last k v d m n) e = refl
ends_accepted (T.none m n) e = refl
ends_accepted (T.yet m n) e = refl
ends_accepted (T.wake t) e = refl
ends_accepted T.never e = refl
ends_accepted (T.len n) e = refl
ends_accepted (T.no n) e = absurd (true≢false (sym e))

one_call : (c : Call) (b : Bool) → cond (is_poll c && b) 1 0 ≤ 1
one_call c b = by (is_poll c && b)
  where
    by : (b : Bool) → cond b 1 0 ≤ 1
    by true = omega arith
    by false = omega arith

-- a call goes before
within_later : {n m : ℕ} {P : Asked → Type 0} {x : Asked} {l : List Asked} → tally_ended is_poll (x ∷ []) + n ≤ m → Within n P l → Within m P (x ∷ l)
within_later {x = x} h W =
    record {
      front = x ∷ W.front;
      call = W.call;
      behind = W.behind;
      split = ap (λ z. x ∷ z) W.split;
      such = W.such;
      few = omega (arith, W.few);
    }

-- the timer waits on, and each ended poll has handed out another; or it is out or removed
data Ending (s : QueueWords) (l : List Asked) (u : QueueWords) (k v d : ℕ) : Type 0 where
  still : Reaches (view u) k v 0 d → pending (view u) + tally_ended is_poll l ≤ pending (view s) → Ending s l u k v d
  left : LeavesWithin (pending (view s)) k v d l u → Ending s l u k v d

due_ends : {s u : QueueWords} {l : List Asked} {k v d : ℕ} → Sound s → NoneRepeats (view s) → Reaches (view s) k v 0 d → Runs s l u
    → All Undisturbed l
    → All (AtOrPast d) l
    → Ending s l u k v d
due_ends S nr R rest q a = still R (omega arith)
due_ends {k = k} {v = v} {d = d} S nr R (next {s} {t} {u} {x} {l} A r) q a =
    by (went S nr R (call_goes x.call s x.answer t S A) q.0) (λ o M. due_ends after o M r q.1 a.1)
  where
    after : Sound t
    after = call_sound x.call s x.answer t A S

    same : counted d x.call (told x.answer) ≡ cond (is_poll x.call && ends (told x.answer)) 1 0
    same = due_counted d x.call (ends (told x.answer)) (λ now at e. a.0 now at (ends_accepted (told x.answer) e))

    later : pending (view t) + counted d x.call (told x.answer) ≤ pending (view s) → Ending t l u k v d → Ending s (x ∷ l) u k v d
    later c (still M h) = still M (omega (arith, same))
    later c (left L) = left (record { within = within_later (omega (arith, same)) L.within; dead = L.dead })

    at_once : OutOrRemoved k v d x → Dead (view t) k → Ending s (x ∷ l) u k v d
    at_once o h =
        left (record {
          within = record {
            front = [];
            call = x;
            behind = l;
            split = refl;
            such = o;
            few = omega (arith, one_call x.call (ends (told x.answer)), pending_some R.names.pending);
          };
          dead = dead_run after r q.1 h;
        })

    -- accepted, so no poll was in hand
    answers : x.call ≡ C.Remove k → is_no (told x.answer) ≡ false → told x.answer ≡ T.gone v d
    answers e f =
        let B : RemoveClaim s k x.answer t = subst (λ c. CallClaim c s x.answer t) e A in
        let z : AtRest s = by_cases (ℕ_discrete s.hand nobody) (λ q. q)
        (λ q. absurd (true≢false (sym (ap is_no ((B.good S).held q).told) ∙ f))) in
        (((B.good S).free z).done R.number R.place R.names).told ∙ (λ i. T.gone (R.value i) (R.deadline i))

    by : Went (view s) k v d x.call (told x.answer) (view t) → (NoneRepeats (view t) → Reaches (view t) k v 0 d → Ending t l u k v d)
        → Ending s (x ∷ l) u k v d
    by (waiting_laws.waits M o c) f = later c (f o M)
    by (comes e z h) f = at_once (out e z) h
    by (leaves e z h) f = at_once (removed e (answers e z)) h

-- "A timer that is due, with no insert, reset, clear or format after that and every poll's now at or past its deadline, is out or removed within as many
-- accepted polls as timers were pending": so in any sound store
pub due_within : {s : QueueWords} → Sound s → WaitsBounded s
due_within {s} S k r p l u D enough =
    by
    (due_ends S D.once
    (record { number = r; place = p; names = D.names; value = refl; period = D.once r (p, D.names.pending); deadline = refl }) D.runs
    D.undisturbed D.past)
  where
    by : Ending s l u k ((view s).value r) ((view s).deadline r)
        → LeavesWithin (pending (view s)) k ((view s).value r) ((view s).deadline r) l u
    by (still R c) = absurd (omega (arith, enough, pending_some R.names.pending))
    by (left L) = L

-- ---- the demand

-- "The work is bounded. From a fresh store and any calls on it, each poll reports as many moves as the pending timers lost in levels during it, so all moves
-- come to at most five for each accepted insert or reset. A timer that is due, .., is out or removed within as many accepted polls as timers were pending."
-- 02 [12]: "Demand 3's five becomes six."
pub work_bounded : {t : QueueWords} → Fresh t → WorkBounded t
work_bounded F =
    let M = fresh_formatted F in
    record {
      moves = λ l s R. record { each = each_lost M.sound R; all = moves_bounded M R };
      waits = λ l s R. due_within (run_sound M.sound R);
    }

-- ---- such runs there are: a fresh store of one record, a timer for 70 inserted at 0, and a poll at 70

pub fresh_shown : Fresh one
fresh_shown =
    record {
      lent = blank;
      n = 1;
      turn = 1;
      answer = A.Done;
      formats = record {
        short = λ f. absurd (f fits);
        outside = λ x f. absurd (f (record { some = omega arith; last = omega arith }));
        done = λ x y. one_made;
      };
      done = refl;
    }

pub due_shown : (u : QueueWords) × Runs one (asked (C.Insert 7 70 0) (A.Key 65536) ∷ []) waiting × DueAfter waiting 65536 0 65 polled_at70 u
    × (pending (view waiting) ≤ tally_ended is_poll polled_at70)
due_shown =
    let w = waited_shown in (
      w.0,
      next insert_shown.1 rest,
      record {
        names = w.1.names;
        once = w.1.once;
        runs = w.1.runs;
        undisturbed = w.1.undisturbed;
        past = (λ now at h. at_seventy at, tt);
      },
      omega (arith, waiting_pending),
    )
  where
    at_seventy : {now : ℕ} → PollAt (C.Poll 70) now → (view waiting).deadline 0 ≤ now
    at_seventy whole = omega (arith, waiting_deadline)
