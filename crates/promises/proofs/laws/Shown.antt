-- What the promises of polls and of waiting ask can be met: in a store of one record a timer for 70 is inserted at 0 and polled at 70, at once or with a pause.
use mathlib.Core.Path.{◌≡◌, refl, sym, ap, ◌∙◌, subst}
use mathlib.Core.Logic.{inl, by_cases}
use mathlib.Core.Bool.{false}
use mathlib.Core.List.{List, [], ◌∷◌}
use Prim.Native.Nat.{ℕ, ◌≤◌, ◌<◌}
use native.Mathlib.Nat.{zero-add}
use native.Mathlib.Decide.{ℕ_discrete}
use native.Mathlib.Omega.{arith}
use Rattle.times.specs.Times.{width, slot_of, level_below, level_of}
use Rattle.links.specs.Lists.{Mem, change}
use Rattle.links.proofs.laws.Lists.{change_same, change_other}
use Rattle.places.specs.Places.{expired, free, put, level_at}
use Rattle.places.specs.Format.{over, formatted}
use Rattle.places.proofs.laws.Whole as place_laws
use Rattle.wheel.specs.Wheel.{place_for}
use Rattle.wheel.specs.Sums.{total}
use Rattle.wheel.proofs.laws.Sums.{total_ext, total_more, put_mem}
use Rattle.wheel.specs.Drain.{heights}
use Rattle.queue.specs.declared.Answer.{Answer}
use Rattle.queue.specs.declared.Answer.TheVariants as A
use Rattle.queue.specs.Told.{Told, timer, told, Hands}
use Rattle.queue.specs.Told as T
use Rattle.records.specs.View.{View, with_value, with_period, upd}
use Rattle.records.specs.Records.{key_of, At, taken, target, placed, number_in}
use Rattle.queue.proofs.laws.Polls.{some_size}
use Rattle.promises.specs.Bounded.{IsSetAgain}
use Rattle.promises.proofs.laws.Polling.{plain_out}
use Rattle.queue.specs.Steps.{pending}
use Rattle.records.specs.Words.{QueueWords, AtRest, MidPoll, count, elapsed, view, Sound}
use Rattle.records.proofs.laws.Words.{upd_same}
use Rattle.records.proofs.laws.Cases.{takes_so}
use Rattle.delay_queue.specs.Claims.{PollClaim, PollSomeClaim}
use Rattle.promises.proofs.laws.Met.{poll_met}
use Rattle.promises.proofs.laws.Once.{told_one}
use Rattle.promises.specs.OneCall.{one, is_no}
use Rattle.promises.proofs.laws.OneCall.{call_met, call_sound, some_says, one_sound, one_free, insert_shown}
use Rattle.promises.proofs.laws.Chained.{limit_zero, rest_of_whole}
use Rattle.promises.specs.Runs.{Asked, Runs, rest, next, All, moves_of, tally_ended}
use Rattle.promises.specs.Polling.{drains_of, HandsLeast}
use Rattle.promises.proofs.laws.Polling.{poll_least, poll_drains, whole_no_yet, taken_from_rest}
use Rattle.promises.proofs.laws.Does.{poll_done}
use Rattle.promises.proofs.laws.Views.{call_goes, goes_rest}
use Rattle.promises.specs.Polls.{whole}
use Rattle.pausing.specs.Pausing.{added, SaysYet, PollTaken}
use Rattle.pausing.proofs.laws.Pausing.{some_on}
use Rattle.delay_queue.specs.declared.Call.TheVariants as C
use Rattle.promises.proofs.laws.Moves.{total_none, moves_are_heights}
use Rattle.promises.specs.Waiting.{Undisturbed, due_poll, NotRemoved, Waited}
use Rattle.promises.specs.Chained.{OnlyHeld}
use Rattle.promises.specs.Shown.{polled_at70, paused_at70}

-- ---- before: nothing is pending

one_count : count one ≡ 1
unfolding formatted
one_count = refl

-- a sound store of one record that is not in the place p
alone : {s : QueueWords} → Sound s → count s ≡ 1 → (p : ℕ) → (Mem 0 ((view s).lists p) → ⊥) → (view s).lists p ≡ []
alone {s} S c p f = by ((view s).lists p) refl
  where
    by : (l : List ℕ) → (view s).lists p ≡ l → (view s).lists p ≡ []
    by [] e = e
    by (x ∷ l) e =
        let m : Mem x ((view s).lists p) = rw e (inl refl) in
        let z : x ≡ 0 = omega (arith, place_laws.member_below S.standing.whole.places p x m) in
        absurd (f (rw z at m))

one_empty : (p : ℕ) → p < free → (view one).lists p ≡ []
one_empty p h =
    let W = one_sound.standing.whole.places in
    let f : Mem 0 ((view one).lists free) = rw one_free (inl refl) in
    alone one_sound one_count p (λ m. omega (arith, place_laws.member_mark W p 0 m, place_laws.member_mark W free 0 f))

-- ---- the timer is inserted

abbrev pub waiting : QueueWords
waiting = insert_shown.0

abbrev pub waiting_sound : Sound waiting
waiting_sound = insert_shown.2

waiting_view : view waiting ≡ placed 0 70 (with_period (upd (view one).period 0 0) (with_value (upd (view one).value 0 7) (taken [] (view one))))
waiting_view = (((insert_shown.1.good one_sound).free refl).done 0 [] one_free (takes_so (omega arith) (λ h. omega arith))).view

place_70 : target 0 70 ≡ 65
unfolding target place_for level_of level_below slot_of width
place_70 = refl

waiting_lists : (view waiting).lists ≡ change (change (view one).lists free []) 65 (put 65 0 (change (view one).lists free [] 65))
unfolding placed
waiting_lists =
    let L = change (view one).lists free [] in
    ap (λ v. v.lists) waiting_view ∙ ap (λ p. change L p (put p 0 (L p))) place_70

waiting_size : count waiting ≡ 1
unfolding placed
waiting_size = ap (λ v. v.n) waiting_view ∙ one_count

waiting_elapsed : elapsed waiting ≡ 0
unfolding placed
waiting_elapsed = ap (λ v. v.elapsed) waiting_view

waiting_value : (view waiting).value 0 ≡ 7
unfolding placed
waiting_value = ap (λ v. v.value 0) waiting_view ∙ upd_same (view one).value 0 7

waiting_period : (view waiting).period 0 ≡ 0
unfolding placed
waiting_period = ap (λ v. v.period 0) waiting_view ∙ upd_same (view one).period 0 0

pub waiting_deadline : (view waiting).deadline 0 ≡ 70
unfolding placed
waiting_deadline = ap (λ v. v.deadline 0) waiting_view ∙ upd_same (view one).deadline 0 70

waiting_turn : (view waiting).turn 0 ≡ 1
unfolding placed over
waiting_turn = ap (λ v. v.turn 0) waiting_view

waiting_at : At (view waiting) 0 65
waiting_at =
    record {
      timed = omega arith;
      member =
          let L = change (view one).lists free [] in
          let m : Mem 0 (change L 65 (put 65 0 (L 65)) 65) = rw (change_same L 65 (put 65 0 (L 65))) (put_mem 65 0 0 (L 65) (inl refl)) in
          subst (λ M. Mem 0 (M 65)) (sym waiting_lists) m;
    }

waiting_total : (u : ℕ → ℕ → ℕ) (n : ℕ) → 65 < n → n ≤ free → total u n (view waiting).lists ≡ u 65 0
waiting_total u n h k =
    let L = change (view one).lists free [] in
    let empty : (p : ℕ) → p < n → L p ≡ [] = λ p g. change_other (view one).lists free [] p (omega arith) ∙ one_empty p (omega arith) in
    omega (arith, ap (total u n) waiting_lists, total_more u n L 65 0 h, total_ext u n L (λ p. []) empty, total_none u n)

waiting_heights : heights (view waiting).lists ≡ 1
unfolding heights
waiting_heights = waiting_total (λ p x. level_at p) expired (omega arith) (omega arith)

pub waiting_pending : pending (view waiting) ≡ 1
unfolding pending
waiting_pending = waiting_total (λ p x. 1) free (omega arith) (omega arith)

-- ---- and polled

-- who is set again is who is handed out
again_is : (v : View) {x : Told} {k w d m n r y : ℕ} → Hands x k w d m n → r ≡ number_in k → IsSetAgain v x y → y ≡ r
again_is v {k = k} {w} {d} {m} {n} z e g =
    let q : timer k w d m n ≡ timer g.0 g.1 g.2 g.3 g.4 = sym z ∙ g.5 in
    let c : g.0 ≡ k = cc in
    g.6 ∙ ap (λ j. number_in j) c ∙ sym e

module _ {s : QueueWords} (S : Sound s) (c : count s ≡ 1) {p now : ℕ} (b : At (view s) 0 p) (still : AtRest s) (not_back : elapsed s ≤ now)
    (due : (view s).deadline 0 ≤ now) (once : (view s).period 0 ≡ 0) where
  -- nothing is pending when the only record has left
  left_empty : {t : QueueWords} → Sound t → count t ≡ 1 → ((q : ℕ) → At (view t) 0 q → ⊥) → heights (view t).lists ≡ 0
  unfolding heights
  left_empty {t} T e f =
      total_ext (λ q x. level_at q) expired (view t).lists (λ q. [])
      (λ q h. alone T e q (λ m. f q (record { timed = omega arith; member = m })))
      ∙ total_none (λ q x. level_at q) expired

  -- the only timer, due and at height 1, comes out with one move and one drain
  comes_out : heights (view s).lists ≡ 1 → {a : Answer} {t : QueueWords} → PollClaim s now a t
      → told a ≡ T.out (key_of (view s) 0) ((view s).value 0) ((view s).deadline 0) 1 1
  comes_out high {a} {t} P =
      let K = taken_from_rest s still not_back in
      let L = poll_least S whole K a t P (whole_no_yet S K P) in
      let o = L.hands_out.1 (0, (p, b), due) in
      by (L.out o.0 o.1 o.2 o.3 o.4 o.5) o.5
    where
      by : {k w d m n : ℕ} → HandsLeast (view s) now k w d (told a) (view t) → Hands (told a) k w d m n
          → told a ≡ T.out (key_of (view s) 0) ((view s).value 0) ((view s).deadline 0) 1 1
      by {k} {w} {d} {m} {n} H hands =
          let K = taken_from_rest s still not_back in
          let Q = (poll_done S whole K a t P).1 in
          let z : H.timer ≡ 0 = omega arith in
          let zero : (view s).period H.timer ≡ 0 = ap (view s).period z ∙ once in
          let is : told a ≡ T.out k w d m n = plain_out S K Q hands H.names.number zero in
          let E = H.gone (inl zero) in
          let t₀ : (view s).turn H.timer ≡ (view s).turn 0 = ap (view s).turn z in
          let e₁ : k ≡ key_of (view s) 0 = omega arith in
          let e₂ : w ≡ (view s).value 0 = H.value ∙ ap (view s).value z in
          let e₃ : d ≡ (view s).deadline 0 = H.deadline ∙ ap (view s).deadline z in
          let size : count t ≡ 1 = some_size Q ∙ c in
          let low : heights (view t).lists ≡ 0
          = left_empty (((P.good S).free still).done not_back).0 size (λ q x. E.gone (q, rw z x)) in
          let D = poll_drains S still not_back P in
          let m₁ : moves_of (told a) ≡ m = ap moves_of is in
          let n₁ : drains_of (told a) ≡ n = ap drains_of is in
          let M = moves_are_heights S whole K a t P in
          let same : M.0 ≡ 0 = M.2 (λ y g. g.7 (inl (ap (view s).period (again_is (view s) hands H.names.number g) ∙ zero))) in
          let e₄ : m ≡ 1 = omega (arith, M.1, same) in
          let some : n ≡ 0 → m ≡ 0 = λ q. sym m₁ ∙ D.1.0 (n₁ ∙ q) in
          let e₅ : n ≡ 1 = by_cases (ℕ_discrete n 0) (λ q. absurd (omega (arith, some q))) (λ q. omega arith) in
          is ∙ rw (e₁, e₂, e₃, e₄, e₅)

waiting_rest : AtRest waiting
waiting_rest = goes_rest (call_goes (C.Insert 7 70 0) one (A.Key 65536) waiting one_sound insert_shown.1) (λ y. key_no_yet y) refl
  where
    key_no_yet : {k : ℕ} → SaysYet (T.key k) → ⊥
    key_no_yet y = let e = y.2 in let z : ◌≡◌ {A = ℕ} 0 1 = cc in omega arith

-- a poll that hands out a timer
pub poll_shown : (t : QueueWords) × PollClaim waiting 70 (A.Out 65536 7 70 1 1) t
poll_shown =
    let m = poll_met waiting 70 in
    let e = comes_out waiting_sound waiting_size waiting_at waiting_rest (omega (arith, waiting_elapsed))
    (omega (arith, waiting_deadline)) waiting_period waiting_heights m.2 in
    let k : key_of (view waiting) 0 ≡ 65536 = omega (arith, waiting_turn) in
    let f : m.0 ≡ A.Out 65536 7 70 1 1 = told_one m.0 (A.Out 65536 7 70 1 1) (e ∙ rw (k, waiting_value, waiting_deadline)) in
    (m.1, rw f at m.2)

-- ---- what `waiting_bounded` and `due_comes_out` ask

-- from that store, whatever undisturbed run has a poll at 70 that ends
waited : {l : List Asked} {t : QueueWords} → Runs waiting l t → All Undisturbed l → 1 ≤ tally_ended (due_poll 70) l → Waited waiting l t 65536 0 65
waited {l} R u e =
    record {
      sound = waiting_sound;
      names = record { number = refl; below = omega (arith, waiting_size); pending = waiting_at; turn = waiting_turn };
      once = λ y k.
          let b = place_laws.member_below waiting_sound.standing.whole.places k.0 y k.1.member in
          let z : y ≡ 0 = omega (arith, b, waiting_size) in
          ap (view waiting).period z ∙ waiting_period;
      runs = R;
      undisturbed = u;
      enough = rw (waiting_deadline, waiting_pending) e;
    }

-- a poll is no remove
no_remove : {now k : ℕ} → C.Poll now ≡ C.Remove k → ⊥
no_remove e = let z : ◌≡◌ {A = ℕ} 0 1 = cc in omega arith

no_remove_some : {now b k : ℕ} → C.PollSome now b ≡ C.Remove k → ⊥
no_remove_some e = let z : ◌≡◌ {A = ℕ} 0 1 = cc in omega arith

pub waited_shown : (t : QueueWords) × Waited waiting polled_at70 t 65536 0 65 × All (NotRemoved 65536) polled_at70
waited_shown = let m = poll_shown in (m.0, waited (next m.1 rest) (refl, tt) (omega arith), (λ e. absurd (no_remove e), tt))

-- ---- 02 [10]: a pause

-- a poll with limit 0 only puts itself in hand
pub yet_shown : (t : QueueWords) × PollSomeClaim waiting 70 0 (A.NotYet 0 0) t × OnlyHeld waiting 70 t
yet_shown =
    let y = call_met (C.PollSome 70 0) waiting in
    let K : PollTaken (view waiting) 70 = taken_from_rest waiting waiting_rest (omega (arith, waiting_elapsed)) in
    let taken : is_no (told y.0) ≡ false = some_says (some_on waiting_sound K y.2).1 in
    let D = (limit_zero y.0 (A.Out 65536 7 70 1 1) y.2 poll_shown.1 taken).due (λ e. omega (arith, e)) in
    let is : y.0 ≡ A.NotYet 0 0 = told_one y.0 (A.NotYet 0 0) D.0 in
    (y.1, rw is at y.2, D.1)

-- a sound store with a poll in hand there is
pub held_shown : (s : QueueWords) × Sound s × MidPoll s
held_shown =
    let y = yet_shown in
    (y.0, call_sound (C.PollSome 70 0) waiting (A.NotYet 0 0) y.0 y.1 waiting_sound, λ z. y.2.some (sym (ap (λ u. u.hand) y.2.is) ∙ z))

-- the due timer waits over a "not yet", and the poll that ends hands it out
pub paused_shown : (t : QueueWords) × Waited waiting paused_at70 t 65536 0 65 × All (NotRemoved 65536) paused_at70
paused_shown =
    let w = poll_shown in
    let y = yet_shown in
    let r = rest_of_whole (A.NotYet 0 0) (A.Out 65536 7 70 1 1) y.1 refl w.1 in
    let same : r.0 ≡ A.Out 65536 7 70 1 1 = told_one r.0 (A.Out 65536 7 70 1 1) (sym (r.2 ∙ added_none (told r.0))) in (
      w.0,
      waited (next y.1 (next (rw same at r.1) rest)) (refl, (refl, tt)) (omega arith),
      (λ e. absurd (no_remove_some e), (λ e. absurd (no_remove e), tt)),
    )
  where
    added_none : (x : Told) → added 0 0 x ≡ x
    added_none T.ok = refl
    added_none (T.key k) = refl
    added_none (T.gone v d) = refl
    added_none (T.out k v d m n) = rw (zero-add m, zero-add n)
    added_none (T.last k v d m n) = rw (zero-add m, zero-add n)
    added_none (T.none m n) = rw (zero-add m, zero-add n)
    added_none (T.yet m n) = rw (zero-add m, zero-add n)
    added_none (T.wake t) = refl
    added_none T.never = refl
    added_none (T.len k) = refl
    added_none (T.no k) = refl
