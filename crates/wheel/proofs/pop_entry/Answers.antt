-- `pop_entry` meets its contract: nobody was there (`slot_none`), more are left (`slot_more`), or it was the last (`slot_last`).
use Rattle.wheel.proofs.laws.Words.{pop_asks, slot_none, slot_more, slot_flag, slot_last}
use Rattle.wheel.proofs.pop_entry.Goals as goal

pub pop_slot-item-requires : goal.pop_slot-item-requires
pop_slot-item-requires c =
    pop_asks c.requires

pub returns-then-item : goal.returns-then-item
returns-then-item c =
    slot_none c.requires c.pop_slot-item.ensures.value (c.pop_slot-item.ensures.slotwise _) c.if-item.true

pub returns-then-heads-level : goal.returns-then-heads-level
returns-then-heads-level c =
    slot_more c.requires c.pop_slot-item.ensures.value (c.pop_slot-item.ensures.slotwise _) c.if-item.false c.if-heads-level.true

pub clear-requires : goal.clear-requires
clear-requires c =
    let pre = c.requires in
    (pre.slot, slot_flag pre c.pop_slot-item.ensures.value (c.pop_slot-item.ensures.slotwise _) c.if-item.false)

pub returns : goal.returns
returns c =
    slot_last c.requires c.pop_slot-item.ensures.value (c.pop_slot-item.ensures.slotwise _) c.if-item.false c.if-heads-level.false c.clear.ensures
