-- `add_entry` meets its contract: one list and one flag change (`add_law`).
use Rattle.wheel.proofs.laws.Words.{add_slot, add_push, add_law}
use Rattle.wheel.proofs.add_entry.Goals as goal

pub push_slot-requires : goal.push_slot-requires
push_slot-requires c =
    add_push c.requires _ _ c.slot_for-slot.ensures

pub set-requires : goal.set-requires
set-requires c =
    (add_slot c.requires _ _ c.slot_for-slot.ensures).1

pub returns : goal.returns
returns c =
    add_law c.requires _ _ c.slot_for-slot.ensures (c.push_slot.ensures _) c.set.ensures
