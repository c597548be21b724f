-- `is_place` meets its contract, test by test.
use mathlib.Core.Path.{sym, ◌∙◌}
use native.Mathlib.Omega.{arith}
use borrow.Author.Tests.{eqb-true, eqb-false}
use Rattle.times.proofs.laws.Levels.{level_is}
use Rattle.times.proofs.laws.Quotients.{slot_lt}
use Rattle.contracts.proofs.laws.Tells.{tells_no}
use Rattle.judge.proofs.laws.Judge.{place_above, place_hand, place_low}
use Rattle.judge.proofs.is_place.Goals as goal

pub returns-then-when-clock : goal.returns-then-when-clock
returns-then-when-clock c =
    tells_no (λ o. omega (arith, o.late))

pub returns-then-not-same_block : goal.returns-then-not-same_block
returns-then-not-same_block c =
    tells_no (λ o. eqb-false _ _ (sym c.same_block.ensures ∙ c.if-not-same_block.true) o.near)

pub level_for-level-requires : goal.level_for-level-requires
level_for-level-requires c =
    sym (eqb-true _ _ (sym c.same_block.ensures ∙ c.if-not-same_block.false))

pub slot_for-slot-requires : goal.slot_for-slot-requires
slot_for-slot-requires c =
    omega (arith, c.level_for-level.ensures, (level_is c.args.clock c.args.when).within)

pub slot_place-requires : goal.slot_place-requires
slot_place-requires c = (
  omega (arith, c.level_for-level.ensures, (level_is c.args.clock c.args.when).within),
  omega (arith, c.slot_for-slot.ensures, slot_lt c.args.when c.level_for-level.result),
)

pub returns-then-low-level : goal.returns-then-low-level
returns-then-low-level c =
    place_above c.if-when-clock.false (eqb-true _ _ (sym c.same_block.ensures ∙ c.if-not-same_block.false))
    c.level_for-level.ensures c.if-low-level.true c.slot_for-slot.ensures c.slot_place.ensures

pub returns-then-place-hand : goal.returns-then-place-hand
returns-then-place-hand c =
    place_hand c.if-when-clock.false (eqb-true _ _ (sym c.same_block.ensures ∙ c.if-not-same_block.false))
    c.level_for-level.ensures c.if-low-level.false c.if-place-hand.true

pub slot_place-requires-2 : goal.slot_place-requires-2
slot_place-requires-2 c =
    (c.requires, omega (arith, c.slot_for-slot-2.ensures, slot_lt c.args.when c.args.low))

pub returns : goal.returns
returns c =
    place_low c.if-when-clock.false (eqb-true _ _ (sym c.same_block.ensures ∙ c.if-not-same_block.false))
    c.level_for-level.ensures c.if-low-level.false c.if-place-hand.false c.slot_for-slot-2.ensures c.slot_place-2.ensures
