-- A step with its journal: its claim allows one outcome, and there is one; which steps are not written, and that those change nothing.
use mathlib.Core.Path.{◌≡◌, refl, sym, ap, ◌∙◌}
use mathlib.Core.Logic.{by_cases}
use mathlib.Core.Bool.{Bool, true, false, ◌||◌, false≢true}
use mathlib.Core.List.{List, [], ◌++◌, append_assoc}
use Prim.Native.Nat.{ℕ, zero, suc}
use native.Mathlib.Decide.{ℕ_discrete}
use native.Mathlib.Omega.{arith}
use borrow.Author.Tests.{ne_eqb}
use lib.Dec.{eqb}
use lib.ListN.{length}
use Rattle.queue.specs.declared.Answer.{Answer}
use Rattle.queue.specs.declared.Answer.TheVariants as A
use Rattle.queue.specs.Told.{Told, told}
use Rattle.queue.specs.Told as T
use Rattle.records.specs.Words.{QueueWords}
use Rattle.delay_queue.specs.declared.Call.{Call}
use Rattle.delay_queue.specs.declared.Call.TheVariants as C
use Rattle.delay_queue.specs.Claims.{CallClaim}
use Rattle.promises.proofs.laws.Once.{told_one}
use Rattle.promises.proofs.laws.OneCall.{call_once, call_met, refusal_same}
use Rattle.entries.specs.declared.Step.{Step}
use Rattle.entries.specs.declared.Step.TheVariants as S
use Rattle.entries.specs.Entries.{entry, step_bytes}
use Rattle.entries.proofs.laws.Writing.{entry_length, pair_size}
use Rattle.journal.specs.Journal.{Acts, asks, opened, open_twice, closed, not_open, unwritten, written, ActClaim, Noted, Journals, rest, next}

-- ---- one outcome

pub acts_once : {x : Step} {o p q : Bool} {s t u : QueueWords} {a b : Answer} → Acts o s x a p t → Acts o s x b q u
    → (a ≡ b) × (p ≡ q) × (t ≡ u)
acts_once {s = s} {t} {u} {a} {b} (asks {c = c} A) (asks B) = let r = call_once c s a b t u A B in (r.0, refl, r.1)
acts_once {a = a} {b} (opened e) (opened f) = (told_one a b (e ∙ sym f), refl, refl)
acts_once {a = a} {b} (open_twice e) (open_twice f) = (told_one a b (e ∙ sym f), refl, refl)
acts_once {a = a} {b} (closed e) (closed f) = (told_one a b (e ∙ sym f), refl, refl)
acts_once {a = a} {b} (not_open e) (not_open f) = (told_one a b (e ∙ sym f), refl, refl)

-- "Write each call ..": the claim of `act` leaves one answer, one store, one state of the patch and the same bytes
pub act_once : {x : Step} {o p q : Bool} {s t u : QueueWords} {a b : Answer} {k l : List ℕ} → ActClaim o s x a p t k → ActClaim o s x b q u l
    → (a ≡ b) × (p ≡ q) × (t ≡ u) × (k ≡ l)
act_once {x} {k = k} A B =
    let r = acts_once A.acts B.acts in
    (r.0, r.1, r.2, A.writes ∙ ap (λ (y : Answer). written x (told y)) r.0 ∙ sym B.writes)

pub acts_met : (x : Step) (o : Bool) (s : QueueWords) → (a : Answer) × (p : Bool) × (t : QueueWords) × Acts o s x a p t
acts_met (S.Asks c) o s = let m = call_met c s in (m.0, o, m.1, asks m.2)
acts_met S.Open true s = (A.No 13, true, s, open_twice refl)
acts_met S.Open false s = (A.Done, true, s, opened refl)
acts_met S.Close true s = (A.Done, false, s, closed refl)
acts_met S.Close false s = (A.No 13, false, s, not_open refl)

-- ---- what is not written

-- for the code
pub note_none : (x : Step) (a : Answer) {k : List ℕ} → unwritten (told a) ≡ true → k ≡ [] → k ≡ written x (told a)
unfolding written
note_none x a e w = rw e w

pub note_some : (x : Step) (a : Answer) {k : List ℕ} → unwritten (told a) ≡ false → k ≡ step_bytes x → k ≡ written x (told a)
unfolding written
note_some x a e w = rw e w

-- "save one refused with 1, 2 or 13"
pub data Saved : ℕ → Type 0 where
  one : Saved 1
  two : Saved 2
  thirteen : Saved 13

saved_so : (n : ℕ) → (eqb n 1 || (eqb n 2 || eqb n 13)) ≡ true → Saved n
saved_so n e =
    by_cases (ℕ_discrete n 1) (λ (h : n ≡ 1). rw h one)
    (λ h₁.
    by_cases (ℕ_discrete n 2) (λ (h : n ≡ 2). rw h two)
    (λ h₂.
    by_cases (ℕ_discrete n 13) (λ (h : n ≡ 13). rw h thirteen)
    (λ h₃. absurd (false≢true (rw (ne_eqb n 1 h₁, ne_eqb n 2 h₂, ne_eqb n 13 h₃) at e)))))

pub unwritten_no : (t : Told) → unwritten t ≡ true → (n : ℕ) × (t ≡ T.no n) × Saved n
unwritten_no T.ok e = absurd (false≢true e)
unwritten_no (T.key k) e = absurd (false≢true e)
unwritten_no (T.gone v d) e = absurd (false≢true e)
unwritten_no (T.out k v d m n) e = absurd (false≢true e)
unwritten_no (T.last k v d m n) e = absurd (false≢true e)
unwritten_no (T.none m n) e = absurd (false≢true e)
unwritten_no (T.yet m n) e = absurd (false≢true e)
unwritten_no (T.wake t) e = absurd (false≢true e)
unwritten_no T.never e = absurd (false≢true e)
unwritten_no (T.len n) e = absurd (false≢true e)
unwritten_no (T.no n) e = (n, refl, saved_so n e)

pub no_unwritten : {t : Told} {n : ℕ} → t ≡ T.no n → Saved n → unwritten t ≡ true
no_unwritten e one = ap unwritten e
no_unwritten e two = ap unwritten e
no_unwritten e thirteen = ap unwritten e

-- a step that is not written changes nothing
pub unwritten_same : {x : Step} {o p : Bool} {s t : QueueWords} {a : Answer} → Acts o s x a p t → unwritten (told a) ≡ true
    → (p ≡ o) × (t ≡ s)
unwritten_same {s = s} {t} {a} (asks {c = c} A) e = let r = unwritten_no (told a) e in (refl, refusal_same c s a t A r.0 r.1)
unwritten_same (opened f) e = absurd (false≢true (sym (ap unwritten f) ∙ e))
unwritten_same (open_twice f) e = (refl, refl)
unwritten_same (closed f) e = absurd (false≢true (sym (ap unwritten f) ∙ e))
unwritten_same (not_open f) e = (refl, refl)

-- nor does one that has no bytes: next wake and length
none_not : (a b c : ℕ) → entry a b c ≡ [] → ⊥
none_not a b c e = omega (arith, entry_length a b c, ap (λ (l : List ℕ). length l) e)

call_no_bytes : (c : Call) (s t : QueueWords) (a : Answer) → CallClaim c s a t → step_bytes (S.Asks c) ≡ [] → t ≡ s
call_no_bytes (C.Format n turn) s t a A e = absurd (none_not 1 n turn e)
call_no_bytes (C.Insert value when zero) s t a A e = absurd (none_not 2 value when e)
call_no_bytes (C.Insert value when (suc k)) s t a A e = absurd (omega (arith, pair_size value when (suc k) (omega arith), ap (λ (l : List ℕ). length l) e))
call_no_bytes (C.Reset key when) s t a A e = absurd (none_not 3 key when e)
call_no_bytes (C.Remove key) s t a A e = absurd (none_not 4 key 0 e)
call_no_bytes (C.Poll now) s t a A e = absurd (none_not 5 now 0 e)
call_no_bytes (C.PollSome now limit) s t a A e = absurd (none_not 11 now limit e)
call_no_bytes C.Wake s t a A e = A.1
call_no_bytes C.Length s t a A e = A.1
call_no_bytes C.Clear s t a A e = absurd (none_not 6 0 0 e)

pub no_bytes_same : {x : Step} {o p : Bool} {s t : QueueWords} {a : Answer} → Acts o s x a p t → step_bytes x ≡ [] → (p ≡ o) × (t ≡ s)
no_bytes_same {a = a} (asks {c = c} A) e = (refl, call_no_bytes c _ _ a A e)
no_bytes_same (opened f) e = absurd (none_not 7 0 0 e)
no_bytes_same (open_twice f) e = absurd (none_not 7 0 0 e)
no_bytes_same (closed f) e = absurd (none_not 8 0 0 e)
no_bytes_same (not_open f) e = absurd (none_not 8 0 0 e)

-- ---- runs

-- one run behind another: "the length kept, from which writing goes on"
pub journals_more : {o p q : Bool} {s t u : QueueWords} {k l : List Noted} {J K : List ℕ} → Journals o s k J p t → Journals p t l K q u
    → Journals o s (k ++ l) (J ++ K) q u
journals_more rest S = S
journals_more (next f A R) S = rw append_assoc (next f A (journals_more R S))
