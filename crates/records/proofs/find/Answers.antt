-- `find` meets its contract, test by test.
use mathlib.Core.Path.{ap}
use mathlib.Core.Bool.{not}
use Rattle.records.proofs.laws.Found.{find_mark, find_turn, found}
use Rattle.records.proofs.find.Goals as goal

pub returns-then-not-is_pending : goal.returns-then-not-is_pending
returns-then-not-is_pending c =
    find_mark c.number_of-item.ensures c.is_pending.ensures (ap not c.if-not-is_pending.true)

pub returns-then-turns-item : goal.returns-then-turns-item
returns-then-turns-item c =
    find_turn c.number_of-item.ensures c.turn_of.ensures c.if-turns-item.true

pub returns : goal.returns
returns c =
    found c.number_of-item.ensures c.if-n-item.false c.is_pending.ensures (ap not c.if-not-is_pending.false)
    c.turn_of.ensures c.if-turns-item.false
