-- `read_line` keeps the claim on reading: `whole_line` has the letter and the fields of a line that is neither empty nor long.
use mathlib.Core.Path.{refl}
use native.Mathlib.Omega.{arith}
use Rattle.std.specs.Prelude.{Some, None}
use Rattle.inspector.specs.Parts.{entry_of}
use Rattle.inspector.proofs.laws.Reading.{whole_line}
use Rattle.inspector.proofs.read_line.Goals as goal

pub returns-in_err-fields_in : goal.returns-in_err-fields_in
unfolding entry_of
returns-in_err-fields_in c =
    rw c.from_residual.ensures
    (whole_line _ None None (omega (arith, c.in-len1-up.len_at_least)) (omega (arith, c.if-line-gt80.false)) c.in_err-fields_in.ensures refl)

pub returns : goal.returns
returns c =
    whole_line _ (Some c.in_ok-fields_in.field-0) _ (omega (arith, c.in-len1-up.len_at_least)) (omega (arith, c.if-line-gt80.false))
    c.in_ok-fields_in.ensures c.entry_of.ensures
