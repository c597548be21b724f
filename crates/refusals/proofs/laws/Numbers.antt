-- What a number tells of an answer: a refusal has one, and 0 is none.
use mathlib.Core.Path.{◌≡◌, subst, ap, sym, ◌∙◌}
use mathlib.Core.Logic.{◌≢◌}
use Prim.Native.Nat.{ℕ}
use native.Mathlib.Omega.{arith}
use Rattle.std.specs.Prelude.{Result, Ok, Err}
use Rattle.refusals.specs.declared.Refusal.{Refusal}
use Rattle.refusals.specs.declared.Refusal.TheVariants.{NoRoom, NotSound, Full, TooFar, DeadKey, BackInTime, BadTurn, BadLimit, TimeOver, TooOld, PollInHand, BadPatch}
use Rattle.refusals.specs.Numbers.{number, no_in}

pub number_some : (x : Refusal) → number x ≢ 0
number_some NoRoom = λ z. absurd (omega arith)
number_some NotSound = λ z. absurd (omega arith)
number_some Full = λ z. absurd (omega arith)
number_some TooFar = λ z. absurd (omega arith)
number_some DeadKey = λ z. absurd (omega arith)
number_some BackInTime = λ z. absurd (omega arith)
number_some BadTurn = λ z. absurd (omega arith)
number_some BadLimit = λ z. absurd (omega arith)
number_some TimeOver = λ z. absurd (omega arith)
number_some TooOld = λ z. absurd (omega arith)
number_some PollInHand = λ z. absurd (omega arith)
number_some BadPatch = λ z. absurd (omega arith)

module _ {r : Result (Unit {0}) Refusal} where
  -- what holds of the number that r tells, by r's case
  pub refused : (P : ℕ → Type 0) → P (no_in r) → {x : Refusal} → r ≡ Err x → P (number x)
  refused P p e = subst (λ v. P (no_in v)) e p

  pub refused_some : {x : Refusal} → r ≡ Err x → no_in r ≢ 0
  refused_some {x} e z = number_some x (sym (ap no_in e) ∙ z)

  pub taken_none : {u : Unit {0}} → r ≡ Ok u → no_in r ≡ 0
  taken_none e = ap no_in e
