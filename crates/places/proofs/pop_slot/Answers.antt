-- `pop_slot` meets its contract: nobody was there (`pop_none`), or the head leaves (`pop_slot_is`).
use mathlib.Core.Path.{refl}
use Rattle.places.proofs.laws.Heads.{slot_head_lem}
use Rattle.places.proofs.laws.Words.{pop_none, pop_slot_is}
use Rattle.places.proofs.pop_slot.Goals as goal

pub returns-then-item : goal.returns-then-item
returns-then-item c =
    record { value = refl; slotwise = λ st. pop_none _ _ _ (slot_head_lem _ _ c.requires.level c.requires.slot st _) c.if-item.true }

pub cut-left-requires : goal.cut-left-requires
cut-left-requires c =
    c.requires.linked c.if-item.false

pub returns : goal.returns
returns c =
    let there = c.if-item.false in
    let pre = c.requires in
    record { value = refl; slotwise = pop_slot_is _ _ pre.level pre.slot _ _ _ _ refl there (pre.marked there) c.cut-left.ensures.value refl c.cut-left.ensures.marks_value }
