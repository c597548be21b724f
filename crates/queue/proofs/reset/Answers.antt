-- `reset` meets its contract: a dead key, a deadline that is refused, or unlinked and placed (`reset_done`).
use mathlib.Core.Path.{refl}
use Rattle.records.proofs.laws.Found.{find_at, find_nowhere}
use Rattle.queue.proofs.laws.Calls.{find_room, reset_dead, found_leaves, reset_refused, reset_place, reset_done}
use Rattle.refusals.proofs.laws.Numbers.{number_some, refused, taken_none}
use Rattle.records.specs.Found.{DeadlineNo}
use Rattle.queue.proofs.reset.Goals as goal

pub find-found-requires : goal.find-found-requires
find-found-requires c =
    rw c.count_of.ensures (find_room c.requires)

pub returns-in_default : goal.returns-in_default
returns-in_default c =
    reset_dead c.requires refl _ _
    (find_nowhere c.count_of.ensures c.find-found.ensures c.in_default.is)

pub returns-in-Err : goal.returns-in-Err
returns-in-Err c =
    rw c.number.ensures
    (reset_refused c.requires refl _ _
    (find_at c.count_of.ensures c.find-found.ensures _ c.in-Some.is)
    (refused (DeadlineNo _ _) c.deadline_no.ensures c.in-Err.is) (number_some _))

pub remove-requires : goal.remove-requires
remove-requires c =
    found_leaves c.requires refl _ 0
    (find_at c.count_of.ensures c.find-found.ensures _ c.in-Some.is)

pub place-requires : goal.place-requires
place-requires c =
    reset_place c.requires refl _ _
    (find_at c.count_of.ensures c.find-found.ensures _ c.in-Some.is)
    c.deadline_no.ensures (taken_none c.in_default-deadline_no.is) c.remove.ensures

pub returns : goal.returns
returns c =
    reset_done c.requires refl _ _
    (find_at c.count_of.ensures c.find-found.ensures _ c.in-Some.is)
    c.deadline_no.ensures (taken_none c.in_default-deadline_no.is) c.remove.ensures c.place.ensures
