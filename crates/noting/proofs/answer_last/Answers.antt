-- `answer_last` meets its claim: nothing is kept, or it is done as a line.
use native.Mathlib.Omega.{arith}
use Rattle.noting.specs.Line.{none, some}
use Rattle.noting.proofs.answer_last.Goals as goal

pub returns-then-line-eq0 : goal.returns-then-line-eq0
returns-then-line-eq0 c =
    none (omega (arith, c.if-line-eq0.true))

pub returns : goal.returns
returns c =
    some (omega (arith, c.if-line-eq0.false)) c.answer_line.ensures
