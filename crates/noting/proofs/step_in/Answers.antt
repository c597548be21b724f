-- `step_in` meets its claim: an `o`, an `e`, or what `read_line` has read (`said_asks`, `said_bad`).
use Rattle.noting.specs.Means.{opens, ends, is}
use Rattle.noting.proofs.laws.Means.{said_asks, said_bad}
use Rattle.noting.proofs.step_in.Goals as goal

pub returns-then-is_byte : goal.returns-then-is_byte
returns-then-is_byte c =
    is (opens (c.is_byte.ensures.yes c.if-is_byte.true))

pub returns-then-is_byte-2 : goal.returns-then-is_byte-2
returns-then-is_byte-2 c =
    is (ends (c.is_byte-2.ensures.yes c.if-is_byte-2.true))

pub returns-in_err-read_line : goal.returns-in_err-read_line
returns-in_err-read_line c =
    rw c.from_residual.ensures
    (said_bad c.in_err-read_line.ensures (c.is_byte.ensures.no c.if-is_byte.false) (c.is_byte-2.ensures.no c.if-is_byte-2.false))

pub returns : goal.returns
returns c =
    said_asks c.in_ok-read_line.ensures
