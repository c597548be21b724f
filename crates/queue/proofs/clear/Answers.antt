-- `clear` meets its contract: the records passed are done (`clear_step`), and then all are (`clear_done`).
use borrow.Author.Rules.{rules}
use native.Mathlib.Omega.{arith}
use Rattle.queue.proofs.laws.Polls.{clear_none, clear_step, clear_done}
use Rattle.queue.proofs.clear.Goals as goal

pub loop-i-init : goal.loop-i-init
loop-i-init c =
    (c.count_of-n.ensures, clear_none c.requires)

pub loop-i-preserved : goal.loop-i-preserved
loop-i-preserved c = (
  c.loop-i.invariant.0,
  clear_step c.loop-i.invariant.1 (search rules) c.clear_one.ensures,
)

pub returns : goal.returns
returns c =
    λ h u. clear_done c.loop-i.invariant.1 (omega arith) h u
