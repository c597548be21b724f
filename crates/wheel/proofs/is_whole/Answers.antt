-- `is_whole` meets its contract: the levels passed are walked and have their rows (`judge_next`), or a list is wrong (`judge_wrong`), or a row is not
-- that of the heads (`judge_other`); all passed, the rest decides (`judge_end`).
use Rattle.wheel.proofs.laws.Judged.{judge_begun, judge_wrong, judge_other, judge_next, judge_end}
use Rattle.wheel.proofs.is_whole.Goals as goal

pub loop-level-init : goal.loop-level-init
loop-level-init c =
    rw c.count_of-left.ensures (judge_begun _)

pub returns-in_default : goal.returns-in_default
returns-in_default c =
    judge_wrong c.loop-level.invariant c.loop-level-test.true c.walk_level-walked.ensures c.in_default.is

pub returns-then-seen-occupied : goal.returns-then-seen-occupied
returns-then-seen-occupied c =
    judge_other c.loop-level.invariant c.loop-level-test.true c.walk_level-walked.ensures _ c.in-Some.is c.if-seen-occupied.true

pub loop-level-preserved : goal.loop-level-preserved
loop-level-preserved c =
    judge_next c.loop-level.invariant c.loop-level-test.true c.walk_level-walked.ensures _ c.in-Some.is c.if-seen-occupied.false

pub returns : goal.returns
returns c =
    judge_end c.loop-level.invariant c.requires c.loop-level-test.false c.walk_rest.ensures
