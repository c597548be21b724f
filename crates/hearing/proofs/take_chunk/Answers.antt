-- a line, or a part of one, does not change what comes of it (`reaches_line`, `reaches_part`)
use Rattle.std.proofs.Common.{arith}
use Rattle.lines.specs.Running.{used}
use Rattle.lines.proofs.laws.Once.{take_forth}
use Rattle.lines.proofs.laws.Running.{reaches_line, reaches_part}
use Rattle.hearing.proofs.take_chunk.Goals as goal

pub loop-i-smaller-then-t : goal.loop-i-smaller-then-t
loop-i-smaller-then-t g c = omega (arith, take_forth _ c.take_line-t.ensures c.loop-i-test.true)

pub loop-i-preserved-then-t : goal.loop-i-preserved-then-t
loop-i-preserved-then-t g c = reaches_line c.loop-i.invariant c.loop-i-test.true c.take_line-t.ensures _ c.if-t.true c.hear.ensures

pub loop-i-preserved : goal.loop-i-preserved
loop-i-preserved g c = reaches_part c.loop-i.invariant c.loop-i-test.true c.take_line-t.ensures c.if-t.false

pub returns : goal.returns
returns g c = c.loop-i.invariant.then _ _ _ (used c.loop-i-test.false)
