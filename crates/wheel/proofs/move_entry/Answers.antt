-- `move_entry` meets its contract: nobody was there (`moved_none`), or the head was popped and added one level down (`moved_some`).
use mathlib.Core.Path.{refl}
use Rattle.wheel.proofs.laws.Moves.{moved_none, move_deadline, move_adds, moved_some}
use Rattle.wheel.proofs.move_entry.Goals as goal

pub returns-then-item : goal.returns-then-item
returns-then-item c =
    moved_none c.requires c.take_entry-item.ensures c.if-item.true

pub bounds-deadlines-item : goal.bounds-deadlines-item
bounds-deadlines-item c =
    move_deadline c.requires c.take_entry-item.ensures c.if-item.false

pub add_entry-requires : goal.add_entry-requires
add_entry-requires c =
    move_adds c.requires c.take_entry-item.ensures c.if-item.false

pub returns : goal.returns
returns c =
    moved_some c.requires c.take_entry-item.ensures c.if-item.false _ refl c.add_entry.ensures
