-- `answer_lines` meets its claim: what comes of where it stands comes of where it began (`Reaches`), a line more does not change that
-- (`reaches_more`), and it stops where it does not go on.
use native.Mathlib.Omega.{arith}
use Rattle.noting.specs.Feed.{stops}
use Rattle.noting.proofs.laws.NextLines.{reaches_none, reaches_more, next_forth}
use Rattle.noting.proofs.answer_lines.Goals as goal

pub loop-line-init : goal.loop-line-init
loop-line-init c =
    reaches_none

pub next_line-r-requires : goal.next_line-r-requires
next_line-r-requires c =
    (c.goes.ensures.yes c.loop-line-test.true).1.0

pub loop-line-smaller : goal.loop-line-smaller
loop-line-smaller c =
    let g = c.goes.ensures.yes c.loop-line-test.true in
    omega (arith, g.0, next_forth g.0 c.next_line-r.ensures)

pub loop-line-preserved : goal.loop-line-preserved
loop-line-preserved c =
    reaches_more c.loop-line.invariant (c.goes.ensures.yes c.loop-line-test.true) c.next_line-r.ensures

pub returns : goal.returns
returns c =
    c.loop-line.invariant.then _ (stops (c.goes.ensures.no c.loop-line-test.false))
