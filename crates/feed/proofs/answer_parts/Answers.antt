-- `answer_parts` meets its claim: what comes of where it stands comes of where it began (`Reaches`), a line more does not change that
-- (`reaches_more`), and it stops where it does not go on.
use native.Mathlib.Omega.{arith}
use Rattle.feed.specs.Feed.{stops}
use Rattle.feed.proofs.laws.NextLines.{reaches_none, reaches_more, next_forth}
use Rattle.feed.proofs.answer_parts.Goals as goal

pub loop-line-init : goal.loop-line-init
loop-line-init c =
    (reaches_none, c.requires)

pub next_line-fed-requires : goal.next_line-fed-requires
next_line-fed-requires c =
    c.loop-line.invariant.1

pub loop-line-smaller : goal.loop-line-smaller
loop-line-smaller c =
    let g = c.goes.ensures.yes c.loop-line-test.true in
    omega (arith, g.0, next_forth g.0 c.next_line-fed.ensures.does)

pub loop-line-preserved : goal.loop-line-preserved
loop-line-preserved c =
    let I = c.loop-line.invariant in
    let g = c.goes.ensures.yes c.loop-line-test.true in (
      reaches_more I.0 g c.next_line-fed.ensures.does,
      c.next_line-fed.ensures.tells,
    )

pub returns : goal.returns
returns c =
    c.loop-line.invariant.0.then _ (stops (c.goes.ensures.no c.loop-line-test.false))
