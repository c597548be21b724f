-- `clear_one` meets its contract: not pending (`clear_stays`), or unlinked and freed (`clear_goes`).
use Rattle.places.proofs.laws.Asked.{below, past}
use Rattle.queue.proofs.laws.Polls.{clear_stays, clear_leaves, clear_frees, clear_goes}
use Rattle.queue.proofs.clear_one.Goals as goal

pub returns-then-not-is_pending : goal.returns-then-not-is_pending
returns-then-not-is_pending c =
    clear_stays c.requires.standing c.requires.item_bound (past c.is_pending.ensures c.if-not-is_pending.true)

pub remove-requires : goal.remove-requires
remove-requires c =
    clear_leaves c.requires.standing c.requires.item_bound (below c.is_pending.ensures c.if-not-is_pending.false)

pub leave-requires : goal.leave-requires
leave-requires c =
    clear_frees c.requires.standing c.requires.item_bound (below c.is_pending.ensures c.if-not-is_pending.false) c.remove.ensures

pub returns : goal.returns
returns c =
    clear_goes c.requires.standing c.requires.item_bound (below c.is_pending.ensures c.if-not-is_pending.false)
    c.remove.ensures c.leave.ensures
