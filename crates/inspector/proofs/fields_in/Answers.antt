-- `fields_in` finds no fields but behind a space (`a_space`, `no_space`, `no_fields`).
use native.Mathlib.Omega.{arith}
use Rattle.inspector.proofs.laws.Reading.{no_fields, no_space, a_space}
use Rattle.inspector.proofs.fields_in.Goals as goal

pub returns-in-32 : goal.returns-in-32
returns-in-32 c =
    a_space _ c.fields_behind.result (omega (arith, c.in-32.len_at_least)) (omega arith) c.fields_behind.ensures

pub returns-in_default : goal.returns-in_default
returns-in_default c =
    no_fields _ (omega (arith, c.in_default.len_below))

pub returns-in_default-2 : goal.returns-in_default-2
returns-in_default-2 c =
    no_space _ (λ e. omega (arith, e))
