-- Laws of functions that decide.
use mathlib.Core.Path.{◌≡◌, sym}
use mathlib.Core.Bool.{Bool, true, false, true≢false}
use Prim.Native.Nat.{ℕ, ◌≤◌}
use native.Mathlib.Omega.{arith}
use lib.Dec.{eqb, leb}
use borrow.Author.Tests.{eqb-true, eqb-false, leb-true, leb-false}
use Rattle.contracts.specs.Tells.{Tells}

pub tells_yes : {P : Type 0} → P → Tells P true
tells_yes p = record { yes = λ e. p; no = λ e. absurd (true≢false e) }

pub tells_no : {P : Type 0} → (P → ⊥) → Tells P false
tells_no f = record { yes = λ e. absurd (true≢false (sym e)); no = λ e. f }

-- where P and Q are as good as each other
pub tells_by : {P Q : Type 0} {b : Bool} → Tells P b → (P → Q) → (Q → P) → Tells Q b
tells_by t f g = record { yes = λ e. f (t.yes e); no = λ e q. t.no e (g q) }

pub tells_le : (a b : ℕ) → Tells (a ≤ b) (leb a b)
tells_le a b = record { yes = leb-true a b; no = λ e h. omega (arith, leb-false a b e) }

pub tells_eq : (a b : ℕ) → Tells (a ≡ b) (eqb a b)
tells_eq a b = record { yes = eqb-true a b; no = eqb-false a b }
