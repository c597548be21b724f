-- Any call: its claim allows one answer and one final content, and there is one; a sound store stays sound; words past what N records need stay, and
-- after a refusal all do.
use mathlib.Core.Path.{◌≡◌, refl, sym, ap, ◌∙◌}
use mathlib.Core.Logic.{by_cases}
use mathlib.Core.Bool.{false, true≢false}
use mathlib.Core.List.{List, [], ◌∷◌}
use Prim.Native.Nat.{ℕ}
use native.Mathlib.Decide.{ℕ_discrete, dec_lt}
use native.Mathlib.Omega.{arith}
use Rattle.links.specs.Lists.{nobody}
use Rattle.links.proofs.laws.Lists.{change_same}
use Rattle.places.specs.Places.{free}
use Rattle.places.specs.Format.{over, range}
use Rattle.queue.specs.declared.Answer.{Answer}
use Rattle.queue.specs.declared.Answer.TheVariants as A
use Rattle.queue.specs.Told.{Told, told}
use Rattle.queue.specs.Told as T
use Rattle.records.specs.View.{View}
use Rattle.queue.specs.Steps.{PollsSome, handed_some, nothing_some, not_yet, PollsRest, handed_rest, nothing_rest, GoesOn}
use Rattle.queue.specs.Steps.{QueuePolls, polled, handed, nothing, sleeps, starts, NextWake, at_once, from_wheel, once, again, ended}
use Rattle.records.specs.Words.{QueueWords, count, elapsed, view, Sound, slices, PastKept}
use Rattle.records.proofs.laws.Words.{past_refl}
use Rattle.queue.specs.Calls.{Answered, InsertOn, ResetOn, RemoveOn, PollOn, Freely, Resuming, RestOn, SomeOn, PollSomeOn}
use Rattle.delay_queue.specs.declared.Call.{Call}
use Rattle.delay_queue.specs.declared.Call.TheVariants as C
use Rattle.delay_queue.specs.Claims.{Formatted, FormatClaim, Judging, InsertClaim, CallClaim}
use Rattle.records.proofs.laws.Cases.{by_deadline, takes_so, by_key}
use Rattle.promises.proofs.laws.Decided.{sound_dec, fits_dec, range_dec}
use Rattle.delay_queue.proofs.laws.Format.{formats}
use Rattle.promises.specs.Met.{Met}
use Rattle.promises.proofs.laws.Met.{format_met, insert_met, reset_met, remove_met, poll_met, limited_met, wake_met, length_met, clear_met}
use Rattle.promises.proofs.laws.Once.{told_one, format_once, insert_once, reset_once, remove_once, poll_once, limited_once, wake_once, length_once, clear_once}
use Rattle.records.specs.Slices.{Fits}
use Rattle.promises.specs.OneCall.{reach, is_no, Ends, accepted, refused, blank, one}

-- "For every input, each public call's claim determines its answer and the final content of everything lent, refused calls too."
pub call_once : (c : Call) (s : QueueWords) (a a' : Answer) (t t' : QueueWords) → CallClaim c s a t → CallClaim c s a' t'
    → (a ≡ a') × (t ≡ t')
call_once (C.Format n turn) s a a' t t' A B = format_once A B
call_once (C.Insert value when period) s a a' t t' A B = insert_once A B
call_once (C.Reset key when) s a a' t t' A B = reset_once A B
call_once (C.Remove key) s a a' t t' A B = remove_once A B
call_once (C.Poll now) s a a' t t' A B = poll_once A B
call_once (C.PollSome now limit) s a a' t t' A B = limited_once A B
call_once C.Wake s a a' t t' A B = (wake_once A.0 B.0, A.1 ∙ sym B.1)
call_once C.Length s a a' t t' A B = (length_once A.0 B.0, A.1 ∙ sym B.1)
call_once C.Clear s a a' t t' A B = clear_once A B

-- and there is such an answer, whatever the call and whatever is lent
pub call_met : (c : Call) (s : QueueWords) → Met (CallClaim c s)
call_met (C.Format n turn) s = format_met s n turn
call_met (C.Insert value when period) s = insert_met s value when period
call_met (C.Reset key when) s = reset_met s key when
call_met (C.Remove key) s = remove_met s key
call_met (C.Poll now) s = poll_met s now
call_met (C.PollSome now limit) s = limited_met s now limit
call_met C.Wake s = let m = wake_met s in (m.0, s, (m.1, refl))
call_met C.Length s = let m = length_met s in (m.0, s, (m.1, refl))
call_met C.Clear s = clear_met s

-- ---- how a call ends

answered : {s t : QueueWords} {a : Answer} {x : Told} {v : View} → is_no x ≡ false → Answered s a x v t → Ends (count s) s a t
answered e A = accepted (record { says = ap is_no A.told ∙ e; sound = A.sound; kept = A.kept })

-- next wake and length leave what they find
looks : {s : QueueWords} {a : Answer} → Sound s → is_no (told a) ≡ false → Ends (count s) s a s
looks {s} S e = accepted (record { says = e; sound = S; kept = past_refl (count s) s })

left_so : {s t : QueueWords} {a : Answer} → t ≡ s → Ends (count s) s a s → Ends (count s) s a t
left_so {s} {t} {a} e E = rw e E

goes_says : {v : View} {r m n : ℕ} {u : View} {x : Told} {w : View} → GoesOn v r m n u x w → is_no x ≡ false
goes_says (once z) = refl
goes_says (again p f) = refl
goes_says (ended p f) = refl

pub polls_says : {v : View} {now : ℕ} {x : Told} {u : View} → QueuePolls v now x u → is_no x ≡ false
polls_says (handed T G) = goes_says G
polls_says (nothing (polled e P)) = refl

pub some_says : {v : View} {now limit : ℕ} {x : Told} {u : View} → PollsSome v now limit x u → is_no x ≡ false
some_says (handed_some T G) = goes_says G
some_says (nothing_some T) = refl
some_says (not_yet T) = refl

pub rest_says : {v : View} {now : ℕ} {x : Told} {u : View} → PollsRest v now x u → is_no x ≡ false
rest_says (handed_rest T G) = goes_says G
rest_says (nothing_rest T) = refl

pub wakes_says : {v : View} {x : Told} → NextWake v x → is_no x ≡ false
wakes_says (at_once e) = refl
wakes_says (from_wheel e (sleeps E)) = refl
wakes_says (from_wheel e (starts F)) = refl

module _ {s t : QueueWords} {a : Answer} where
  judging_ends : {On : Type 0} → Judging s a t On → (Sound s → On → Ends (count s) s a t) → Ends (count s) s a t
  judging_ends J f = by_cases (sound_dec s) (λ S. f S (J.good S)) (λ n. refused 2 (J.bad n))

  format_ends : {n turn : ℕ} → FormatClaim s n turn a t → Ends n s a t
  format_ends {n} {turn} F =
      by_cases (fits_dec s n)
      (λ x.
      by_cases (range_dec turn)
      (λ y. let D = F.done x y in accepted (record { says = ap is_no D.told; sound = D.sound; kept = D.kept }))
      (λ f. refused 8 (F.outside x f)))
      (λ f. refused 1 (F.short f))

  insert_ends : {value when period : ℕ} → InsertOn s value when period a t → Ends (count s) s a t
  insert_ends {value} {when} I = by ((view s).lists free) refl
    where
      by : (l : List ℕ) → (view s).lists free ≡ l → Ends (count s) s a t
      by [] e = refused 3 (I.full e)
      by (r ∷ l) e =
          by_deadline (elapsed s) when
          (λ f. refused 11 (I.old r l e f))
          (λ f. refused 4 (I.far r l e f))
          (λ f. answered refl (I.done r l e f))

  reset_ends : {key when : ℕ} → Sound s → ResetOn s key when a t → Ends (count s) s a t
  reset_ends {key} {when} S R =
      by_key S key
      (λ r p N.
      by_deadline (elapsed s) when
      (λ f. refused 11 (R.old r p N f))
      (λ f. refused 4 (R.far r p N f))
      (λ f. answered refl (R.done r p N f)))
      (λ f. refused 6 (R.dead f))

  remove_ends : {key : ℕ} → Sound s → RemoveOn s key a t → Ends (count s) s a t
  remove_ends {key} S R = by_key S key (λ r p N. answered refl (R.done r p N)) (λ f. refused 6 (R.dead f))

  poll_ends : {time : ℕ} → PollOn s time a t → Ends (count s) s a t
  poll_ends {time} P =
      by_cases (dec_lt time (elapsed s))
      (λ h. refused 7 (P.back h))
      (λ h. let d = P.done (omega arith) in accepted (record { says = polls_says d.1; sound = d.0; kept = d.2 }))

  -- while a poll is in hand
  freely_ends : {On : Type 0} → Freely s a t On → (On → Ends (count s) s a t) → Ends (count s) s a t
  freely_ends J f = by_cases (ℕ_discrete s.hand nobody) (λ z. f (J.free z)) (λ d. refused 12 (J.held d))

  resuming_ends : {time : ℕ} {On Rest : Type 0} → Resuming s time a t On Rest → (On → Ends (count s) s a t) → (Rest → Ends (count s) s a t)
      → Ends (count s) s a t
  resuming_ends {time} J f g =
      by_cases (ℕ_discrete s.hand nobody)
      (λ z. f (J.free z))
      (λ d. by_cases (ℕ_discrete time s.until) (λ e. g (J.same d e)) (λ n. refused 12 (J.other d n)))

  rest_ends : {time : ℕ} → RestOn s time a t → Ends (count s) s a t
  rest_ends d = accepted (record { says = rest_says d.1; sound = d.0; kept = d.2 })

  some_ends : {time limit : ℕ} → SomeOn s time limit a t → Ends (count s) s a t
  some_ends d = accepted (record { says = some_says d.1; sound = d.0; kept = d.2 })

  begin_ends : {time limit : ℕ} → PollSomeOn s time limit a t → Ends (count s) s a t
  begin_ends {time} P = by_cases (dec_lt time (elapsed s)) (λ h. refused 7 (P.back h)) (λ h. some_ends (P.done (omega arith)))

pub call_ends : (c : Call) (s : QueueWords) (a : Answer) (t : QueueWords) → CallClaim c s a t → Ends (reach c s) s a t
call_ends (C.Format n turn) s a t A = format_ends A
call_ends (C.Insert value when period) s a t A = judging_ends A (λ S F. freely_ends F insert_ends)
call_ends (C.Reset key when) s a t A = judging_ends A (λ S F. freely_ends F (reset_ends S))
call_ends (C.Remove key) s a t A = judging_ends A (λ S F. freely_ends F (remove_ends S))
call_ends (C.Poll now) s a t A = judging_ends A (λ S F. resuming_ends F poll_ends rest_ends)
call_ends (C.PollSome now limit) s a t A = judging_ends A (λ S F. resuming_ends F begin_ends some_ends)
call_ends C.Wake s a t A = left_so A.1 (judging_ends A.0 (λ S F. freely_ends F (λ W. looks S (wakes_says W.done))))
call_ends C.Length s a t A = left_so A.1 (judging_ends A.0 (λ S W. looks S (ap is_no W.done)))
call_ends C.Clear s a t A = judging_ends A (λ S K. answered refl K.done)

-- ---- what follows

module _ (c : Call) (s : QueueWords) (a : Answer) (t : QueueWords) (A : CallClaim c s a t) where
  -- "Every call on a sound store leaves a sound one."
  pub call_sound : Sound s → Sound t
  call_sound S = by (call_ends c s a t A)
    where
      by : Ends (reach c s) s a t → Sound t
      by (refused k R) = rw R.same S
      by (accepted B) = B.sound

  -- "Words of a slice past what N records need are never changed by any call."
  pub past_kept : PastKept (reach c s) s t
  past_kept = by (call_ends c s a t A)
    where
      by : Ends (reach c s) s a t → PastKept (reach c s) s t
      by (refused k R) = rw R.same (past_refl (reach c s) s)
      by (accepted B) = B.kept

  -- "A refusal answers its number alone; every lent slice stays word for word the same, and the state that went in by value is handed back equal."
  pub refusal_same : (k : ℕ) → told a ≡ T.no k → t ≡ s
  refusal_same k e = by (call_ends c s a t A)
    where
      by : Ends (reach c s) s a t → t ≡ s
      by (refused j R) = R.same
      by (accepted B) = absurd (true≢false (sym (ap is_no e) ∙ B.says))

-- ---- a sound store there is: one record, freshly formatted over words of 0

pub fits : Fits (slices blank) 1
fits =
    record {
      some = omega arith;
      few = omega arith;
      room = record {
        values = omega arith;
        deadlines = omega arith;
        links = record { nexts = omega arith; prevs = omega arith; marks = omega arith };
        turns = omega arith;
      };
    }

pub one_made : Formatted blank 1 1 A.Done one
one_made =
    formats blank fits (record { some = omega arith; last = omega arith })
    (record { wheel = refl; values = refl; deadlines = refl; turns = refl; hand = refl; until = refl }) refl

pub one_sound : Sound one
one_sound = one_made.sound

pub one_free : (view one).lists free ≡ 0 ∷ []
unfolding range
one_free = ap (λ v. v.lists free) one_made.view ∙ change_same (λ p. []) free (range 1 0)

-- a call that is accepted: the first key of a first turn of 1
pub insert_shown : (t : QueueWords) × InsertClaim one 7 70 0 (A.Key 65536) t × Sound t
unfolding over
insert_shown =
    let m = insert_met one 7 70 0 in
    let D = ((m.2.good one_sound).free refl).done 0 [] one_free (takes_so (omega arith) (λ h. omega arith)) in
    let e : m.0 ≡ A.Key 65536 = told_one m.0 (A.Key 65536) D.told in
    (m.1, rw e at m.2, D.sound)
