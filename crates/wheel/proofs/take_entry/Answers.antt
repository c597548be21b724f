-- `take_entry` meets its contract: a slot's head is popped, and above the six levels only the parking list is left (`taken_parking`).
use Rattle.wheel.proofs.laws.Moves.{take_slot, taken_parking}
use Rattle.wheel.proofs.take_entry.Goals as goal

pub pop_entry-requires : goal.pop_entry-requires
pop_entry-requires c =
    take_slot c.requires c.if-level-lt-NUM_LEVELS.true

pub returns : goal.returns
returns c =
    taken_parking c.requires c.if-level-lt-NUM_LEVELS.false c.pop.ensures
