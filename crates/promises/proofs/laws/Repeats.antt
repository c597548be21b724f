-- Timers that repeat (02 [7]): a key keeps its period (`period_kept`), the timer is set again exactly if it repeats and this was not the last time
-- (`repeats_same_key`), when it is (`last_exactly`), and how far apart two hand-outs of one key are (`second_out`).
use mathlib.Core.Path.{◌≡◌, refl, sym, ap, ◌∙◌, subst}
use mathlib.Core.Logic.{◌≢◌, ◌↔◌, inl, inr, ⊎_elim, by_cases}
use mathlib.Core.Bool.{Bool, false, not, ◌&&◌}
use mathlib.Core.List.{List, []}
use mathlib.Core.Option.{some}
use Prim.Native.Nat.{ℕ, ◌+◌, ◌<◌, ◌≤◌}
use native.Mathlib.Omega.{arith}
use Rattle.links.proofs.laws.Lists.{change_other}
use Rattle.times.specs.Times.{block}
use Rattle.places.specs.Places.{free}
use Rattle.places.specs.Format.{over}
use Rattle.queue.specs.declared.Answer.{Answer}
use Rattle.queue.specs.declared.Answer.TheVariants as A
use Rattle.queue.specs.Told.{Told, told, Hands, timer, handing}
use Rattle.queue.specs.Told as T
use Rattle.queue.specs.Steps.{TakesSome, PollsSome, GoesOn, once, again, ended, handed_some, nothing_some, not_yet}
use Rattle.records.specs.View.{View}
use Rattle.records.specs.Records.{key_of, At, Names, left, placed, freed, number_in, NoMore}
use Rattle.records.specs.Words.{QueueWords, AtRest, elapsed, view, Sound}
use Rattle.wheel.specs.Limited.{ended as stopped}
use Rattle.pausing.specs.Pausing.{SaysYet, PollTaken}
use Rattle.promises.specs.Polls.{PollAt, whole, limited}
use Rattle.records.proofs.laws.Words.{upd_other}
use Rattle.records.proofs.laws.Cases.{takes_so}
use Rattle.delay_queue.specs.declared.Call.{Call}
use Rattle.delay_queue.specs.declared.Call.TheVariants as C
use Rattle.delay_queue.specs.Claims.{CallClaim}
use Rattle.promises.specs.Runs.{Asked, Runs, rest, next, All, NoFormat, Each, is_format}
use Rattle.promises.specs.KeysStay.{HandsKey}
use Rattle.promises.specs.KeysReach.{Reaches}
use Rattle.promises.specs.Polling.{IsPending, PollLeast, SaysLast, Finished, SetAgain}
use Rattle.promises.specs.OneCall.{one, is_no}
use Rattle.promises.specs.First.{NotSet}
use Rattle.promises.specs.Repeats.{NoNextTime, NotReset, ThreeTimes}
use Rattle.promises.proofs.laws.OneCall.{call_sound, one_sound, one_free}
use Rattle.promises.proofs.laws.Met.{insert_met, poll_met}
use Rattle.promises.proofs.laws.Once.{told_one}
use Rattle.promises.proofs.laws.Runs.{run_sound}
use Rattle.promises.proofs.laws.Views.{ViewGoes, refuses, formats, inserts, resets, removes, polls, wakes, counts, clears, call_goes, out_polls, goes_rest}
use Rattle.promises.proofs.laws.TakesOut.{one_list, taken_out, none_before, key_of_names}
use Rattle.promises.proofs.laws.Polling.{freed_beside, poll_least, poll_clock, view_least, view_clock, whole_no_yet, taken_from_rest, clock_before, goes_on_says, placed_clock, none_out, no_last, out_or_last}
use Rattle.promises.proofs.laws.KeysOne.{does_onward}
use Rattle.promises.proofs.laws.KeysGone.{Given, names_given, given_onward, given_kept, out_spent}
use Rattle.promises.proofs.laws.KeysReach.{insert_reaches, reaches_on, out_tells, key_one}
use Rattle.promises.proofs.laws.Outs.{does_was, emptied, done_dec}
use Rattle.promises.proofs.laws.First.{run_was}
use Rattle.promises.proofs.laws.KeysStay.{key_is}

-- ---- a key keeps its value and its period

-- r has in w the value and the period that it has in v
record SameOwn (v w : View) (r : ℕ) : Type 0 where
  value : w.value r ≡ v.value r
  period : w.period r ≡ v.period r

own_then : {u v w : View} {r : ℕ} → SameOwn u v r → SameOwn v w r → SameOwn u w r
own_then A B = record { value = B.value ∙ A.value; period = B.period ∙ A.period }

freed_own : (i : ℕ) (v : View) (r : ℕ) → SameOwn v (freed i v) r
freed_own i v r = let B = freed_beside i v in record { value = ap (λ f. f r) B.value; period = ap (λ f. f r) B.period }

placed_own : (i when : ℕ) (v : View) (r : ℕ) → SameOwn v (placed i when v) r
unfolding placed
placed_own i when v r = record { value = refl; period = refl }

left_own : (p i : ℕ) (v : View) (r : ℕ) → SameOwn v (left p i v) r
unfolding left
left_own p i v r = record { value = refl; period = refl }

goes_own : {v : View} {i m n : ℕ} {u : View} {x : Told} {w : View} → GoesOn v i m n u x w → (r : ℕ) → SameOwn u w r
goes_own {i = i} {u = u} (once z) r = freed_own i u r
goes_own {v} {i} {u = u} (again p f) r = placed_own i (v.deadline i + v.period i) u r
goes_own {i = i} {u = u} (ended p f) r = freed_own i u r

module _ {s : QueueWords} (S : Sound s) where
  abbrev v : View
  v = view s

  -- one that is pending before and after a call has kept them: "a reset or leaving keeps the period"
  call_own : {c : Call} {x : Told} {w : View} → ViewGoes v c x w → (c ≡ C.Clear → (r p : ℕ) → At w r p → ⊥) → {r p q : ℕ} → At v r q → At w r p
      → SameOwn v w r
  call_own refuses none b a = record { value = refl; period = refl }
  call_own (formats {n} {turn}) none {r} {p} b a = absurd (rw (change_other (λ q. []) free _ p (omega (arith, a.timed))) at a.member)
  call_own (inserts {value} {when} {period} {r = i} {l = l} e) none {r} {p} {q} b a =
      let d : r ≢ i = λ z. omega (arith, b.timed, one_list S i q free (rw z at b.member) (rw e (inl refl))) in
      own_then (record { value = upd_other v.value i value r d; period = upd_other v.period i period r d }) (placed_own i when _ r)
  call_own (resets {when = when} {r = i} {p = p} N) none {r} b a = own_then (left_own p i v r) (placed_own i when (left p i v) r)
  call_own (removes {r = i} {p = p} N) none {r} b a = own_then (left_own p i v r) (freed_own i (left p i v) r)
  call_own (polls c h (handed_some T G)) none {r} b a =
      let O = taken_out S h T in
      own_then (record { value = ap (λ f. f r) O.value; period = ap (λ f. f r) O.period }) (goes_own G r)
  call_own (polls c h (nothing_some T)) none {r} b a =
      let O = taken_out S h T in
      record { value = ap (λ f. f r) O.value; period = ap (λ f. f r) O.period }
  call_own (polls c h (not_yet T)) none {r} b a =
      let O = taken_out S h T in
      record { value = ap (λ f. f r) O.value; period = ap (λ f. f r) O.period }
  call_own (wakes W) none b a = record { value = refl; period = refl }
  call_own counts none b a = record { value = refl; period = refl }
  call_own (clears c) none {r} {p} b a = absurd (none refl r p a)

-- whomever k names has the value x and the period q
Holds : View → ℕ → ℕ → ℕ → Type 0
Holds v k x q = (r p : ℕ) → Names v k r p → (v.value r ≡ x) × (v.period r ≡ q)

run_holds : {s t : QueueWords} {l : List Asked} (k x q : ℕ) → Sound s → Given (view s) k → Holds (view s) k x q → Runs s l t → NoFormat l
    → Holds (view t) k x q
unfolding Holds
run_holds k x q S G H rest f = H
run_holds k x q S G H (next {s} {t} {x = y} A R) f =
    let D = call_goes y.call s y.answer t S A in
    let none = emptied S y t A in
    let H' : Holds (view t) k x q
    = λ r p N.
    ⊎_elim (λ e. absurd (given_kept S D G e))
    (λ M.
    let O = call_own S D none M.1.pending N.pending in
    let h = H r M.0 M.1 in
    (O.value ∙ h.0, O.period ∙ h.1))
    (does_was S D none N) in
    run_holds k x q (call_sound y.call s y.answer t A S) (given_onward (does_onward S D f.0 (number_in k)) G) H' R f.1

-- "A record gains a period": the key of an accepted insert has the period that was given, and the value, over resets and hand-outs and whatever else,
-- until the next format
pub period_kept : {s t u : QueueWords} {value when period k : ℕ} {a : Answer} {l : List Asked} → Sound s → CallClaim (C.Insert value when period) s a t
    → told a ≡ T.key k → Runs t l u → NoFormat l → (r p : ℕ) → Names (view u) k r p → ((view u).value r ≡ value) × ((view u).period r ≡ period)
unfolding Holds
period_kept {s} {t} {value = value} {when} {period} {k} {a} S A e R f =
    let Z = call_sound (C.Insert value when period) s a t A S in
    let I = insert_reaches S A e in
    let H : Holds (view t) k value period
    = λ r p N. let y = (key_one Z N I.names).0 in (ap (view t).value y ∙ I.value, ap (view t).period y ∙ I.period) in
    run_holds k value period Z (names_given Z I.names) H R f

-- ---- set again, or for the last time

-- what hands out has ended
out_ended : {x : Told} {k w d m n : ℕ} → Hands x k w d m n → SaysYet x → ⊥
out_ended o y = none_out (ap handing (sym y.2) ∙ o)

-- the numbers are those of refusal 4
next_time : (e w : ℕ) → e < w → NoMore e w ↔ NoNextTime e w
next_time e w h = (to, from)
  where
    to : NoMore e w → NoNextTime e w
    to (inl y) = inl (omega arith)
    to (inr y) = inr (omega (arith, y.0, y.1))

    from : NoNextTime e w → NoMore e w
    from (inl y) = inl (omega arith)
    from (inr y) = inr (h, omega arith)

-- a call that hands out a timer: a poll, whole or not
module _ {s : QueueWords} (S : Sound s) (c : Call) (a : Answer) (t : QueueWords) (A : CallClaim c s a t) {k w d m n : ℕ} (o : Hands (told a) k w d m n) where
  abbrev now : ℕ
  now = (out_polls (call_goes c s a t S A) o).0

  abbrev limit : ℕ
  limit = (out_polls (call_goes c s a t S A) o).2.0

  h : PollTaken (view s) now
  h = (out_polls (call_goes c s a t S A) o).1

  Q : PollsSome (view s) now limit (told a) (view t)
  Q = (out_polls (call_goes c s a t S A) o).2.1

  -- "the same poll places it at w plus period under the same key": exactly if it repeats and the answer does not say that it was the last time
  pub repeats_same_key : ((0 < (view s).period (number_in k)) × (SaysLast (told a) → ⊥)) ↔ SetAgain (view s) k (number_in k) (view t)
  repeats_same_key =
      let H = (view_least S h Q (out_ended o)).out k w d m n o in
      let is : H.timer ≡ number_in k = H.names.number in (
        λ y. rw (← is) (H.again (⊎_elim (λ z. omega (arith, y.0, z, ap (view s).period is)) y.1)),
        λ y.
            let dead : Finished (view s) H.timer (told a) → ⊥ = λ z. (H.gone z).dead (number_in k) y.place y.names in
            let more : (view s).period H.timer ≢ 0 = λ z. dead (inl z) in
            (omega (arith, more, ap (view s).period is), λ z. dead (inr z)),
      )

  -- it is the last time exactly if there is no next one, seen from elapsed after the hand-out
  goes_last : {i m₁ n₁ : ℕ} {u : View} {x : Told} {z : View} → TakesSome (view s) now limit (stopped (some i)) m₁ n₁ u → GoesOn (view s) i m₁ n₁ u x z
      → i ≡ number_in k → (view s).deadline i ≡ d
      → SaysLast x ↔ ((0 < (view s).period (number_in k)) × NoNextTime z.elapsed (d + (view s).period (number_in k)))
  goes_last {i} T (once f) is due = (λ y. absurd (no_last y), λ y. absurd (omega (arith, y.0, f, ap (view s).period is)))
  goes_last {i} {u = u} T (again p f) is due =
      let more = ap (view s).period is in
      let c : (placed i ((view s).deadline i + (view s).period i) u).elapsed ≡ u.elapsed = placed_clock i ((view s).deadline i + (view s).period i) u in (
        λ y. absurd (no_last y),
        λ y.
            absurd (f ((next_time u.elapsed ((view s).deadline i + (view s).period i) (omega (arith, clock_before S h T, p))).1
            (rw (c, ← due, ← more) at y.1))),
      )
  goes_last {i} {u = u} T (ended p f) is due =
      let more = ap (view s).period is in
      let c = (freed_beside i u).elapsed in (
        λ y. (
          omega (arith, p, more),
          rw (c, ← due, ← more) ((next_time u.elapsed ((view s).deadline i + (view s).period i) (omega (arith, clock_before S h T, p))).0 f),
        ),
        λ y. (_, _, _, _, _, refl),
      )

  last_of : {x : Told} {z : View} → PollsSome (view s) now limit x z → Hands x k w d m n
      → SaysLast x ↔ ((0 < (view s).period (number_in k)) × NoNextTime z.elapsed (d + (view s).period (number_in k)))
  last_of (nothing_some T) y = absurd (none_out y)
  last_of (not_yet T) y = absurd (none_out y)
  last_of (handed_some {r = i} {m = m₁} {n = n₁} T G) y =
      let e : timer (key_of (view s) i) ((view s).value i) ((view s).deadline i) m₁ n₁ ≡ timer k w d m n = sym (goes_on_says G) ∙ y in
      let q : key_of (view s) i ≡ k = cc in
      let due : (view s).deadline i ≡ d = cc in
      goes_last T G ((key_of_names S ((taken_out S h T).out i refl).1).number ∙ ap (λ j. number_in j) q) due

  -- "If refusals 4 or 5 would meet that deadline at the elapsed time after the hand-out, or it passes 2^64-1, the record is freed and the answer says it
  -- was the last time."
  pub last_exactly : SaysLast (told a) ↔ ((0 < (view s).period (number_in k)) × NoNextTime (elapsed t) (d + (view s).period (number_in k)))
  last_exactly = last_of Q o

  -- elapsed after the hand-out and w lie in one block, and within one lap of level 0, also where elapsed before it lay in the block before (02 [12])
  pub out_near : (block (elapsed t) ≡ block d) × (elapsed t ≤ d) × (d < elapsed t + 64)
  out_near =
      let H = (view_least S h Q (out_ended o)).out k w d m n o in
      let b = none_before S H.timer H.place H.names.pending in
      let c = (view_clock S h Q).out k w d m n o in
      (omega (arith, b, H.deadline, c), omega (arith, b, H.deadline, c), omega (arith, c))

  -- so that with a period of at most 2^36-64 it is the last time by passing 2^64-1 alone: 02 [12]'s "the repeat rule follow", a repeat may park
  pub repeats_on : (view s).period (number_in k) ≤ 68719476672 → d + (view s).period (number_in k) < 18446744073709551616 → SaysLast (told a) → ⊥
  repeats_on few fits y = ⊎_elim (λ z. omega (arith, fits, z)) (λ z. omega (arith, few, z, out_near.2)) (last_exactly.0 y).1

  -- "at the elapsed time after the hand-out" and nowhere else: with a period of 2^36-1, never too far from w itself, it is the last time exactly where elapsed
  -- is not w
  pub longest_period : (view s).period (number_in k) ≡ 68719476735 → d + 68719476735 < 18446744073709551616 → SaysLast (told a) ↔ (elapsed t ≢ d)
  longest_period long fits = (
    λ y e. ⊎_elim (λ z. omega (arith, fits, long, z)) (λ z. omega (arith, long, z, e)) (last_exactly.0 y).1,
    λ n. last_exactly.1 (omega (arith, long), inr (omega (arith, long, n, out_near.1))),
  )

-- ---- two hand-outs of one key

each_unset : {s t : QueueWords} {l : List Asked} (k : ℕ) → Sound s → Given (view s) k → (R : Runs s l t) → NoFormat l → All (NotReset k) l
    → All (λ x. HandsKey k (told x.answer) → ⊥) l → Each (NotSet k) R
each_unset k S G rest f g o = tt
each_unset k S G (next {s} {t} {x = x} A R) f g o =
    let D = call_goes x.call s x.answer t S A in (
      unset,
      each_unset k (call_sound x.call s x.answer t A S) (given_onward (does_onward S D f.0 (number_in k)) G) R f.1 g.1 o.1,
    )
  where
    unset : NotSet k s x t
    unset when (inl z) = given_kept S (call_goes x.call s x.answer t S A) G z.3
    unset when (inr (inl z)) = g.0 when z.0 z.1
    unset when (inr (inr z)) = o.0 (_, _, _, _, ap handing z.6)

polls_format : {c : Call} {now : ℕ} → PollAt c now → (b : Bool) → (is_format c && b) ≡ false
polls_format whole b = refl
polls_format limited b = refl

-- of two hand-outs of k in succession, with no accepted reset of k or format in between, the second shows the first's value, and its deadline plus the
-- period
pub second_out : {s u : QueueWords} {k w d m n w₂ d₂ m₂ n₂ : ℕ} {l : List Asked} → Sound s → (c : Call) (a : Answer) (t : QueueWords)
    → CallClaim c s a t → Hands (told a) k w d m n → Runs t l u → NoFormat l → All (NotReset k) l → All (λ x. HandsKey k (told x.answer) → ⊥) l
    → (c₂ : Call) (b : Answer) (z : QueueWords) → CallClaim c₂ u b z → Hands (told b) k w₂ d₂ m₂ n₂ → (w₂ ≡ w) × (d₂ ≡ d + (view s).period (number_in k))
second_out {s} {u} {k} {w} {d} {m} {n} S c a t A o R f g none c₂ b z B o₂ =
    let T = call_sound c s a t A S in
    let U = run_sound T R in
    let D = call_goes c s a t S A in
    let P = out_polls D o in
    let H = out_spent S D o in
    let H₂ = out_spent U (call_goes c₂ u b z U B) o₂ in
    let G = given_onward (does_onward S D (polls_format P.3 (not (is_no (told a)))) (number_in k)) (names_given S H.names) in
    let W = run_was T R (each_unset k T G R f g none) H₂.names in
    let L = (view_least S P.1 P.2.1 (out_ended o)).out k w d m n o in
    by_cases (done_dec (view s) L.timer (told a)) (λ y. absurd ((L.gone y).dead _ W.place W.names))
    (λ y.
    let Q = L.again y in
    let K : Reaches (view t) k ((view s).value L.timer) ((view s).period L.timer) ((view s).deadline L.timer + (view s).period L.timer)
    = record { number = L.timer; place = Q.place; names = Q.names; value = Q.value; period = Q.period; deadline = Q.deadline } in
    let E = out_tells U c₂ b z B (reaches_on T K R W.spared) o₂ in
    (E.0 ∙ sym L.value, omega (arith, E.1, L.deadline, ap (view s).period L.names.number)))

-- ---- such runs there are

-- the timer of k waits alone, with the value x, the period q and the deadline d
record Alone (s : QueueWords) (k x q d : ℕ) : Type 0 where
  sound : Sound s
  at_rest : AtRest s
  ahead : elapsed s ≤ d
  reaches : Reaches (view s) k x q d
  only : (y : ℕ) → IsPending (view s) y → y ≡ reaches.number

-- polled at its time it is handed out, and waits alone for the next
record NextOut (s : QueueWords) (k x q d : ℕ) : Type 0 where
  answer : Answer
  left : QueueWords
  poll : CallClaim (C.Poll d) s answer left
  moves : ℕ
  drains : ℕ
  out : told answer ≡ T.out k x d moves drains
  then : Alone left k x q (d + q)

none_next : (e w : ℕ) → e ≤ w → w < 68719476736 → NoNextTime e w → ⊥
none_next e w h l (inl y) = omega arith
none_next e w h l (inr y) = omega arith

module _ {s : QueueWords} {k x q d : ℕ} (W : Alone s k x q d) where
  abbrev reply : Answer
  reply = (poll_met s d).0

  abbrev store : QueueWords
  store = (poll_met s d).1

  abbrev claim : CallClaim (C.Poll d) s reply store
  claim = (poll_met s d).2

  taken : PollTaken (view s) d
  taken = taken_from_rest s W.at_rest W.ahead

  ends : SaysYet (told reply) → ⊥
  ends = whole_no_yet W.sound taken claim

  least : PollLeast (view s) d (told reply) (view store)
  least = poll_least W.sound whole taken reply store claim ends

  -- it is handed out, since it is due and no other waits
  comes_out : (m n : ℕ) × Hands (told reply) k x d m n
  comes_out =
      let R = W.reaches in
      let o = least.hands_out.1 (R.number, (R.place, R.names.pending), omega (arith, R.deadline)) in
      let H = least.out o.0 o.1 o.2 o.3 o.4 o.5 in
      let i : H.timer ≡ R.number = W.only H.timer (H.place, H.names.pending) in
      let key : o.0 ≡ k = key_is H.names ∙ ap (key_of (view s)) i ∙ sym (key_is R.names) in
      let value : o.1 ≡ x = H.value ∙ ap (view s).value i ∙ R.value in
      let time : o.2 ≡ d = H.deadline ∙ ap (view s).deadline i ∙ R.deadline in
      let same : timer o.0 o.1 o.2 o.3 o.4 ≡ timer k x d o.3 o.4 = cc in
      (o.3, o.4, o.5 ∙ same)

  its_period : (view s).period (number_in k) ≡ q
  its_period = ap (view s).period (sym W.reaches.names.number) ∙ W.reaches.period

  -- elapsed has not passed it
  still_before : elapsed store ≤ d
  still_before =
      omega (arith, (poll_clock W.sound whole taken reply store claim).out k x d comes_out.0 comes_out.1 comes_out.2, W.ahead)

  module _ (more : 0 < q) (low : d + q < 68719476736) where
    not_last : SaysLast (told reply) → ⊥
    not_last y =
        none_next (elapsed store) (d + (view s).period (number_in k)) (omega (arith, still_before)) (omega (arith, its_period, low))
        ((last_exactly W.sound (C.Poll d) reply store claim comes_out.2).0 y).1

    alone_again : Alone store k x q (d + q)
    alone_again =
        let R = W.reaches in
        let Q = (repeats_same_key W.sound (C.Poll d) reply store claim comes_out.2).0 (omega (arith, its_period, more), not_last) in
        let L = least.out k x d comes_out.0 comes_out.1 comes_out.2 in
        record {
          sound = call_sound (C.Poll d) s reply store claim W.sound;
          at_rest = goes_rest (call_goes (C.Poll d) s reply store W.sound claim) ends W.at_rest;
          ahead = omega (arith, still_before);
          reaches = record {
            number = number_in k;
            place = Q.place;
            names = Q.names;
            value = Q.value ∙ ap (view s).value (sym R.names.number) ∙ R.value;
            period = Q.period ∙ its_period;
            deadline = omega (arith, Q.deadline, its_period, R.deadline, ap (view s).deadline R.names.number);
          };
          only = λ y p. W.only y (L.only y p) ∙ R.names.number;
        }

next_out : {s : QueueWords} {k x q d : ℕ} → Alone s k x q d → 0 < q → d + q < 68719476736 → NextOut s k x q d
next_out {s} {d = d} W more low =
    let o = comes_out W in
    record {
      answer = (poll_met s d).0;
      left = (poll_met s d).1;
      poll = (poll_met s d).2;
      moves = o.0;
      drains = o.1;
      out = ⊎_elim (λ y. y) (λ y. absurd (not_last W more low (_, _, _, _, _, y))) (out_or_last (told (poll_met s d).0) o.2);
      then = alone_again W more low;
    }

pub three_times : ThreeTimes
unfolding over placed
three_times =
    let m = insert_met one 7 2400000 2400000 in
    let D = ((m.2.good one_sound).free refl).done 0 [] one_free (takes_so (omega arith) (λ h. omega arith)) in
    let e : m.0 ≡ A.Key 65536 = told_one m.0 (A.Key 65536) D.told in
    let I : CallClaim (C.Insert 7 2400000 2400000) one (A.Key 65536) m.1
    = subst (λ a. CallClaim (C.Insert 7 2400000 2400000) one a m.1) e m.2 in
    let R = insert_reaches one_sound I refl in
    let W : Alone m.1 65536 7 2400000 2400000
    = record {
      sound = D.sound;
      at_rest = ap (λ v. v.hand) D.view;
      ahead = omega (arith, ap (λ v. v.elapsed) D.view);
      reaches = R;
      only = λ y p. omega (arith, (key_of_names D.sound p.1).below, R.names.below, ap (λ v. v.n) D.view);
    } in
    let a = next_out W (omega arith) (omega arith) in
    let b = next_out a.then (omega arith) (omega arith) in
    let c = next_out b.then (omega arith) (omega arith) in
    record {
      one = a.answer;
      two = b.answer;
      three = c.answer;
      left = c.left;
      run = next I (next a.poll (next b.poll (next c.poll rest)));
      outs = ((a.moves, a.drains, a.out), (b.moves, b.drains, b.out), (c.moves, c.drains, c.out));
    }
