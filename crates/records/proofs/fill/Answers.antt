-- `fill` meets its contract: the words passed are x (`fill_next`).
use Rattle.records.proofs.laws.Format.{fill_begun, fill_next, fill_end}
use Rattle.records.proofs.fill.Goals as goal

pub loop-i-init : goal.loop-i-init
loop-i-init c =
    fill_begun _ _ _

pub loop-i-preserved : goal.loop-i-preserved
loop-i-preserved c =
    fill_next _ _ _ c.loop-i.invariant c.loop-i-test.true

pub returns : goal.returns
returns c =
    fill_end _ _ _ c.loop-i.invariant c.loop-i-test.false
