-- A call on a store of which it is known whether it is sound. On a sound one it leaves a sound one (`call_sound`); on another it answers 2, but for a
-- format, after which the store is sound exactly if it was accepted (`call_ends`).
use mathlib.Core.Path.{◌≡◌, refl, sym, ap, ◌∙◌, subst}
use mathlib.Core.Logic.{◌≢◌, by_cases}
use mathlib.Core.Bool.{Bool, true, false, not, true≢false, false≢true}
use mathlib.Core.List.{[], ◌∷◌}
use Prim.Native.Nat.{ℕ}
use native.Mathlib.Decide.{ℕ_discrete}
use types.Run.{OneOf, miss}
use denote.Enum.Declared.{tag_of}
use Rattle.contracts.specs.Tells.{Tells}
use Rattle.links.specs.Lists.{nobody}
use Rattle.queue.specs.declared.Answer.{Answer}
use Rattle.queue.specs.declared.Answer.TheVariants as A
use Rattle.queue.specs.contracts.Answer as answer
use Rattle.queue.specs.Told.{told}
use Rattle.records.specs.Words.{QueueWords, MidPoll, Sound}
use Rattle.queue.specs.Calls.{Freely}
use Rattle.delay_queue.specs.declared.Call.{Call}
use Rattle.delay_queue.specs.declared.Call.TheVariants as C
use Rattle.delay_queue.specs.contracts.Call as call
use Rattle.delay_queue.specs.Claims.{Judging, FormatClaim, CallClaim}
use Rattle.delay_queue.proofs.laws.Back.{by_call}
use Rattle.promises.specs.OneCall.{is_no, Ends, refused, accepted}
use Rattle.promises.proofs.laws.OneCall.{call_ends, call_sound}
use Rattle.run.specs.Run.{MustWait, Knows}

-- ---- `accepted`

-- an answer with another tag than that of `No`
pub is_accepted : (a : Answer) → OneOf (0 ∷ 1 ∷ 2 ∷ 3 ∷ 4 ∷ 5 ∷ 6 ∷ 7 ∷ 8 ∷ 9 ∷ []) (tag_of answer.the_type a) → true ≡ not (is_no (told a))
is_accepted A.Done x = refl
is_accepted (A.Key k) x = refl
is_accepted (A.Gone v d) x = refl
is_accepted (A.Out k v d m n) x = refl
is_accepted (A.Last k v d m n) x = refl
is_accepted (A.Nothing m n) x = refl
is_accepted (A.NotYet m n) x = refl
is_accepted (A.Wake t) x = refl
is_accepted A.NoWake x = refl
is_accepted (A.Length n) x = refl
is_accepted (A.No n) x = absurd (miss (0 ∷ 1 ∷ 2 ∷ 3 ∷ 4 ∷ 5 ∷ 6 ∷ 7 ∷ 8 ∷ 9 ∷ []) 10 tt x)

-- ---- `must_wait`

pub none_waits : {h : ℕ} (c : Call) → h ≡ nobody → Tells ((h ≢ nobody) × MustWait c) false
none_waits c e = record { yes = λ z. absurd (false≢true z); no = λ _ w. w.0 e }

-- a call with a tag of those that do not wait
pub goes_through : {h : ℕ} (c : Call) → OneOf (0 ∷ 4 ∷ 5 ∷ 7 ∷ 8 ∷ []) (tag_of call.the_type c) → Tells ((h ≢ nobody) × MustWait c) false
goes_through c x = record { yes = λ z. absurd (false≢true z); no = λ _ w. by c x w.1 }
  where
    by : (c : Call) → OneOf (0 ∷ 4 ∷ 5 ∷ 7 ∷ 8 ∷ []) (tag_of call.the_type c) → MustWait c → ⊥
    by (C.Format n turn) x w = w
    by (C.Insert value when period) x w = miss (0 ∷ 4 ∷ 5 ∷ 7 ∷ 8 ∷ []) 1 tt x
    by (C.Reset key when) x w = miss (0 ∷ 4 ∷ 5 ∷ 7 ∷ 8 ∷ []) 2 tt x
    by (C.Remove key) x w = miss (0 ∷ 4 ∷ 5 ∷ 7 ∷ 8 ∷ []) 3 tt x
    by (C.Poll now) x w = w
    by (C.PollSome now limit) x w = w
    by C.Wake x w = miss (0 ∷ 4 ∷ 5 ∷ 7 ∷ 8 ∷ []) 6 tt x
    by C.Length x w = w
    by C.Clear x w = w

pub waits_so : {c k : Call} {h : ℕ} → h ≢ nobody → c ≡ k → MustWait k → Tells ((h ≢ nobody) × MustWait c) true
waits_so d e w = record { yes = λ _. (d, rw e w); no = λ z. absurd (true≢false z) }

-- ---- `on_sound`

module _ {s : QueueWords} where
  held : {On : Type 0} → Sound s → MidPoll s → Judging s (A.No 12) s (Freely s (A.No 12) s On)
  held S d =
      record {
        bad = λ f. absurd (f S);
        good = λ _. record { held = λ _. record { told = refl; same = refl }; free = λ z. absurd (d z) };
      }

  pub held_up : (c : Call) → Sound s → MidPoll s × MustWait c → CallClaim c s (A.No 12) s
  held_up (C.Format n turn) S w = absurd w.1
  held_up (C.Insert value when period) S w = held S w.0
  held_up (C.Reset key when) S w = held S w.0
  held_up (C.Remove key) S w = held S w.0
  held_up (C.Poll now) S w = absurd w.1
  held_up (C.PollSome now limit) S w = absurd w.1
  held_up C.Wake S w = (held S w.0, refl)
  held_up C.Length S w = absurd w.1
  held_up C.Clear S w = absurd w.1

-- a call that waits is made with no poll in hand
pub at_rest : {c k : Call} {h : ℕ} {b : Bool} → Tells ((h ≢ nobody) × MustWait c) b → b ≡ false → c ≡ k → MustWait k → h ≡ nobody
at_rest {h = h} T f e w = by_cases (ℕ_discrete h nobody) (λ z. z) (λ d. absurd (T.no f (d, rw e w)))

-- ---- `known`

module _ {s t : QueueWords} {a : Answer} where
  pub knows_sound : (c : Call) → Sound s → CallClaim c s a t → Knows c s a t true
  knows_sound c S A = record { does = A; tells = record { yes = λ e. call_sound c s a t A S; no = λ e. absurd (true≢false e) } }

  ended : {n : ℕ} → (Sound s → ⊥) → Ends n s a t → Tells (Sound t) (not (is_no (told a)))
  ended f (refused k R) =
      let e : not (is_no (told a)) ≡ false = ap (λ x. not (is_no x)) R.told in
      record { yes = λ y. absurd (true≢false (sym y ∙ e)); no = λ z S. f (rw R.same at S) }
  ended f (accepted B) =
      let e : not (is_no (told a)) ≡ true = ap not B.says in
      record { yes = λ y. B.sound; no = λ z. absurd (true≢false (sym e ∙ z)) }

  pub knows_format : {c : Call} {n turn : ℕ} {b : Bool} → (Sound s → ⊥) → c ≡ C.Format n turn → FormatClaim s n turn a t
      → b ≡ not (is_no (told a)) → Knows c s a t b
  knows_format {c} {n} {turn} {b} f e F q =
      record {
        does = by_call s t a e F;
        tells = subst (λ (x : Bool). Tells (Sound t) x) (sym q) (ended f (call_ends (C.Format n turn) s a t F));
      }

judged_no : {s : QueueWords} {On : Type 0} → (Sound s → ⊥) → Judging s (A.No 2) s On
judged_no f = record { bad = λ g. record { told = refl; same = refl }; good = λ S. absurd (f S) }

-- a call with another tag than that of `Format`
answers_two : {s : QueueWords} (c : Call) → (Sound s → ⊥) → OneOf (1 ∷ 2 ∷ 3 ∷ 4 ∷ 5 ∷ 6 ∷ 7 ∷ 8 ∷ []) (tag_of call.the_type c) → CallClaim c s (A.No 2) s
answers_two (C.Format n turn) f x = absurd (miss (1 ∷ 2 ∷ 3 ∷ 4 ∷ 5 ∷ 6 ∷ 7 ∷ 8 ∷ []) 0 tt x)
answers_two (C.Insert value when period) f x = judged_no f
answers_two (C.Reset key when) f x = judged_no f
answers_two (C.Remove key) f x = judged_no f
answers_two (C.Poll now) f x = judged_no f
answers_two (C.PollSome now limit) f x = judged_no f
answers_two C.Wake f x = (judged_no f, refl)
answers_two C.Length f x = (judged_no f, refl)
answers_two C.Clear f x = judged_no f

pub knows_not : {s : QueueWords} (c : Call) → (Sound s → ⊥) → OneOf (1 ∷ 2 ∷ 3 ∷ 4 ∷ 5 ∷ 6 ∷ 7 ∷ 8 ∷ []) (tag_of call.the_type c)
    → Knows c s (A.No 2) s false
knows_not c f x = record { does = answers_two c f x; tells = record { yes = λ e. absurd (false≢true e); no = λ e. f } }
