-- `insert` meets its contract: the level is that of the deadline.
use Rattle.wheel.proofs.laws.Moves.{insert_adds, inserted}
use Rattle.wheel.proofs.insert.Goals as goal

pub level_for-level-requires : goal.level_for-level-requires
level_for-level-requires c =
    c.requires.near

pub add_entry-requires : goal.add_entry-requires
add_entry-requires c =
    insert_adds c.requires _ c.level_for-level.ensures

pub returns : goal.returns
returns c =
    inserted _ _ _ _ c.level_for-level.ensures c.add_entry.ensures
