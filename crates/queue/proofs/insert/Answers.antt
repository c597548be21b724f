-- `insert` meets its contract: full, a deadline that is refused, or taken, given its value and period and placed (`insert_done`).
use mathlib.Core.Path.{refl, sym, ◌∙◌}
use native.Mathlib.Omega.{arith}
use Rattle.queue.proofs.laws.Calls.{insert_full, insert_refused, insert_words, insert_place, insert_done}
use Rattle.refusals.proofs.laws.Numbers.{number_some, refused, taken_none}
use Rattle.records.specs.Found.{DeadlineNo}
use Rattle.queue.proofs.insert.Goals as goal

pub returns-then-first_free-eq-NOBODY : goal.returns-then-first_free-eq-NOBODY
returns-then-first_free-eq-NOBODY c =
    insert_full c.requires refl _ _ _ (sym c.first_free.ensures ∙ c.if-first_free-eq-NOBODY.true)

pub returns-in-Err : goal.returns-in-Err
returns-in-Err c =
    rw c.number.ensures
    (insert_refused c.requires refl _ _ _ (λ z. c.if-first_free-eq-NOBODY.false (c.first_free.ensures ∙ z))
    (refused (DeadlineNo _ _) c.deadline_no.ensures c.in-Err.is) (number_some _))

pub pop-item-requires : goal.pop-item-requires
pop-item-requires c =
    (c.requires.standing.whole, omega arith, omega arith)

pub give-requires : goal.give-requires
give-requires c =
    (insert_words c.requires refl 0 _ 0 (λ z. c.if-first_free-eq-NOBODY.false (c.first_free.ensures ∙ z))
    c.deadline_no.ensures (taken_none c.in_default.is) c.pop-item.ensures).0

pub bounds-turns-item : goal.bounds-turns-item
bounds-turns-item c =
    (insert_words c.requires refl 0 _ 0 (λ z. c.if-first_free-eq-NOBODY.false (c.first_free.ensures ∙ z))
    c.deadline_no.ensures (taken_none c.in_default.is) c.pop-item.ensures).1

pub key_of-key-requires : goal.key_of-key-requires
key_of-key-requires c =
    (insert_words c.requires refl 0 _ 0 (λ z. c.if-first_free-eq-NOBODY.false (c.first_free.ensures ∙ z))
    c.deadline_no.ensures (taken_none c.in_default.is) c.pop-item.ensures).2

pub place-requires : goal.place-requires
place-requires c =
    insert_place c.requires refl 0 _ 0 (λ z. c.if-first_free-eq-NOBODY.false (c.first_free.ensures ∙ z)) c.deadline_no.ensures (taken_none c.in_default.is) c.pop-item.ensures

pub returns : goal.returns
returns c =
    rw c.give.ensures
    (insert_done c.requires refl _ _ _ (λ z. c.if-first_free-eq-NOBODY.false (c.first_free.ensures ∙ z)) c.deadline_no.ensures (taken_none c.in_default.is)
    c.pop-item.ensures _ c.key_of-key.ensures c.place.ensures)
