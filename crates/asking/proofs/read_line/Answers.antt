-- `read_line` keeps the claim on reading: `whole_line` has the letter and the numbers of a line that is neither empty nor long.
use native.Mathlib.Omega.{arith}
use Rattle.std.specs.Prelude.{Some}
use Rattle.asking.proofs.laws.Finding.{whole_line}
use Rattle.asking.proofs.read_line.Goals as goal

pub returns : goal.returns
returns c =
    whole_line _ (Some c.in_ok-fields_in.field-0) _ (omega (arith, c.in-len1-up.len_at_least)) (omega (arith, c.if-line-gt80.false)) c.in_ok-fields_in.ensures
    c.call_of.ensures
