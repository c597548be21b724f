-- `remove` meets its contract: a dead key, or unlinked and freed (`remove_done`).
use mathlib.Core.Path.{refl}
use Rattle.records.proofs.laws.Found.{find_at, find_nowhere}
use Rattle.queue.proofs.laws.Calls.{find_room, remove_dead, found_leaves, found_words, remove_frees, remove_done}
use Rattle.queue.proofs.remove.Goals as goal

pub find-found-requires : goal.find-found-requires
find-found-requires c =
    rw c.count_of.ensures (find_room c.requires)

pub returns-in_default : goal.returns-in_default
returns-in_default c =
    remove_dead c.requires refl _ 0
    (find_nowhere c.count_of.ensures c.find-found.ensures c.in_default.is)

pub value_of-value-requires : goal.value_of-value-requires
value_of-value-requires c =
    (found_words c.requires refl _ 0
    (find_at c.count_of.ensures c.find-found.ensures _ c.in-Some.is)).0

pub bounds-deadlines-item : goal.bounds-deadlines-item
bounds-deadlines-item c =
    (found_words c.requires refl _ 0
    (find_at c.count_of.ensures c.find-found.ensures _ c.in-Some.is)).1

pub remove-requires : goal.remove-requires
remove-requires c =
    found_leaves c.requires refl _ 0
    (find_at c.count_of.ensures c.find-found.ensures _ c.in-Some.is)

pub leave-requires : goal.leave-requires
leave-requires c =
    remove_frees c.requires refl _ 0
    (find_at c.count_of.ensures c.find-found.ensures _ c.in-Some.is) c.remove.ensures

pub returns : goal.returns
returns c =
    remove_done c.requires refl _ 0
    (find_at c.count_of.ensures c.find-found.ensures _ c.in-Some.is)
    c.remove.ensures _ _ c.value_of-value.ensures refl c.leave.ensures
