-- `poll_expiration` meets its contract: what the drain says from here it says from the start with the moves so far (`step_more`), until the limit is used
-- up (`step_full`) or nobody is left (`step_done`).
use native.Mathlib.Omega.{arith}
use Rattle.wheel.proofs.laws.Moves.{step_start, step_can, step_full, step_more, step_done}
use Rattle.wheel.proofs.poll_expiration.Goals as goal

pub loop-left-init : goal.loop-left-init
loop-left-init c =
    step_start c.requires _

pub returns-then-left-eq0 : goal.returns-then-left-eq0
returns-then-left-eq0 c =
    step_full c.requires c.loop-left.invariant c.if-left-eq0.true

pub move_entry-item-requires : goal.move_entry-item-requires
move_entry-item-requires c =
    step_can c.requires c.loop-left.invariant

pub returns-then-item : goal.returns-then-item
returns-then-item c =
    step_done c.requires c.loop-left.invariant c.move_entry-item.ensures c.if-item.true

pub overflow_sub-left : goal.overflow_sub-left
overflow_sub-left c =
    omega (arith, c.if-left-eq0.false)

pub loop-left-smaller : goal.loop-left-smaller
loop-left-smaller c =
    omega (arith, c.if-left-eq0.false)

pub loop-left-preserved : goal.loop-left-preserved
loop-left-preserved c =
    step_more c.requires c.loop-left.invariant c.move_entry-item.ensures c.if-left-eq0.false c.if-item.false
