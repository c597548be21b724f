-- `place` meets its contract: in a slot (`placed_slot`), or in a list that is none (`placed_aside`).
use Rattle.records.proofs.laws.Inner.{place_insert, placed_slot, place_aside, placed_aside}
use Rattle.records.proofs.place.Goals as goal

pub insert-requires : goal.insert-requires
insert-requires c =
    place_insert c.requires (c.has_slot.ensures.yes c.if-has_slot.true)

pub returns-then-has_slot : goal.returns-then-has_slot
returns-then-has_slot c =
    placed_slot c.requires (c.has_slot.ensures.yes c.if-has_slot.true) c.insert.ensures

pub aside-list-requires : goal.aside-list-requires
aside-list-requires c =
    c.has_slot.ensures.no c.if-has_slot.false

pub push-requires : goal.push-requires
push-requires c =
    place_aside c.requires _ c.aside-list.ensures.1 c.aside-list.ensures.2

pub returns : goal.returns
returns c =
    placed_aside c.requires _ _ c.aside-list.ensures.0 c.max.ensures c.push.ensures
