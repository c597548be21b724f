-- `remove` meets its contract: the list is no slot (`leaves_aside`), more are left (`leaves_more`), or it was the last (`leaves_last`).
use mathlib.Core.Path.{ap}
use mathlib.Core.Bool.{not}
use Rattle.places.proofs.laws.Asked.{past, slot_parts}
use Rattle.wheel.proofs.laws.Words.{leave_asks, leaves_aside, leaves_more, leaves_flag, leaves_last}
use Rattle.wheel.proofs.remove.Goals as goal

pub remove-requires : goal.remove-requires
remove-requires c = leave_asks c.requires

pub returns-then-not-is_slot : goal.returns-then-not-is_slot
returns-then-not-is_slot c = leaves_aside c.requires c.remove.ensures (past c.is_slot.ensures c.if-not-is_slot.true)

pub returns-then-heads-level : goal.returns-then-heads-level
returns-then-heads-level c =
    let q = slot_parts c.is_slot.ensures (ap not c.if-not-is_slot.false) c.level_of-level.ensures c.slot_of-slot.ensures in
    leaves_more c.requires c.remove.ensures _ _ q.0 q.1 q.2 c.if-heads-level.true

pub clear-requires : goal.clear-requires
clear-requires c =
    let q = slot_parts c.is_slot.ensures (ap not c.if-not-is_slot.false) c.level_of-level.ensures c.slot_of-slot.ensures in
    (q.1, leaves_flag c.requires c.remove.ensures _ _ q.0 q.1 q.2)

pub returns : goal.returns
returns c =
    let q = slot_parts c.is_slot.ensures (ap not c.if-not-is_slot.false) c.level_of-level.ensures c.slot_of-slot.ensures in
    leaves_last c.requires c.remove.ensures _ _ q.0 q.1 q.2 c.if-heads-level.false c.clear.ensures
