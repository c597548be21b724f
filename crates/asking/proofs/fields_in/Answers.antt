-- `fields_in` finds the numbers: none in nothing, and any others behind a space (`no_space`).
use native.Mathlib.Omega.{arith}
use Rattle.asking.proofs.laws.Reading.{no_numbers, no_space}
use Rattle.asking.proofs.fields_in.Goals as goal

pub returns-in-empty : goal.returns-in-empty
returns-in-empty c =
    no_numbers _ (omega (arith, c.in-empty.len_below))

pub returns-in_default : goal.returns-in_default
returns-in_default c =
    no_space _ (omega (arith, c.in_default.len_at_least)) (λ e. omega (arith, e))
