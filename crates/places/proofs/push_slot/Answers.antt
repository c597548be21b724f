-- `push_slot` meets its contract, store by store (`push_slot_is`).
use mathlib.Core.Path.{refl}
use Rattle.places.proofs.laws.Words.{push_slot_is}
use Rattle.places.proofs.push_slot.Goals as goal

pub returns : goal.returns
returns c =
    push_slot_is _ _ c.requires.level c.requires.slot _ _ _ _ _ c.slot_place.ensures c.add-first.ensures.value refl c.add-first.ensures.marks_value
