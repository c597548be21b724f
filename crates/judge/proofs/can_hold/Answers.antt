-- `can_hold` meets its contract, test by test.
use native.Mathlib.Omega.{arith}
use mathlib.Core.Path.{sym, ◌∙◌, subst}
use Rattle.contracts.specs.Tells.{Tells}
use Rattle.contracts.proofs.laws.Tells.{tells_no}
use Rattle.judge.proofs.laws.Judge.{hold_parking, hold_own, hold_later, start_of}
use Rattle.judge.proofs.can_hold.Goals as goal

pub returns-then-hand-ge-EXPIRED : goal.returns-then-hand-ge-EXPIRED
returns-then-hand-ge-EXPIRED c =
    tells_no (λ H. omega (arith, H.below, c.if-hand-ge-EXPIRED.true))

pub returns-then-level-eq0 : goal.returns-then-level-eq0
returns-then-level-eq0 c =
    tells_no (λ H. omega (arith, H.high, c.level_of-level.ensures, c.if-level-eq0.true))

pub head_of-requires : goal.head_of-requires
head_of-requires c =
    omega (arith, c.if-hand-ge-EXPIRED.false)

pub returns-then-head_of : goal.returns-then-head_of
returns-then-head_of c =
    tells_no (λ H. H.filled (sym c.head_of.ensures ∙ c.if-head_of.true))

pub returns-then-head_of-2 : goal.returns-then-head_of-2
returns-then-head_of-2 c =
    tells_no (λ H. c.if-head_of-2.true (c.head_of-2.ensures ∙ H.expired))

pub returns-then-hand-eq-PARKING : goal.returns-then-hand-eq-PARKING
returns-then-hand-eq-PARKING c =
    subst (Tells _) (sym c.block_over.ensures)
    (hold_parking (omega (arith, c.if-hand-ge-EXPIRED.false)) (λ w. c.if-level-eq0.false (c.level_of-level.ensures ∙ w))
    (λ w. c.if-head_of.false (c.head_of.ensures ∙ w)) (sym c.head_of-2.ensures ∙ c.if-head_of-2.false) c.if-hand-eq-PARKING.true)

pub slot_start-start-requires : goal.slot_start-start-requires
slot_start-start-requires c =
    (omega (arith, c.if-hand-ge-EXPIRED.false, c.if-hand-eq-PARKING.false, c.level_of-level.ensures), omega (arith, c.slot_of-slot.ensures))

pub returns-then-until-start : goal.returns-then-until-start
returns-then-until-start c =
    let z = start_of _ _ c.if-hand-eq-PARKING.false c.level_of-level.ensures c.slot_of-slot.ensures c.slot_start-start.ensures in
    tells_no (λ H. omega (arith, H.due, z, c.if-until-start.true))

pub is_own-requires : goal.is_own-requires
is_own-requires c =
    omega (arith, c.if-hand-ge-EXPIRED.false, c.if-hand-eq-PARKING.false, c.level_of-level.ensures)

pub returns-then-start-elapsed : goal.returns-then-start-elapsed
returns-then-start-elapsed c =
    let z = start_of _ _ c.if-hand-eq-PARKING.false c.level_of-level.ensures c.slot_of-slot.ensures c.slot_start-start.ensures in
    hold_own (omega (arith, c.if-hand-ge-EXPIRED.false)) (λ w. c.if-level-eq0.false (c.level_of-level.ensures ∙ w))
    (λ w. c.if-head_of.false (c.head_of.ensures ∙ w)) (sym c.head_of-2.ensures ∙ c.if-head_of-2.false) z c.if-until-start.false c.if-start-elapsed.true
    (rw (c.level_of-level.ensures, c.head_of-parked.ensures) at c.is_own.ensures)

pub returns : goal.returns
returns c =
    let z = start_of _ _ c.if-hand-eq-PARKING.false c.level_of-level.ensures c.slot_of-slot.ensures c.slot_start-start.ensures in
    hold_later (omega (arith, c.if-hand-ge-EXPIRED.false)) (λ w. c.if-level-eq0.false (c.level_of-level.ensures ∙ w))
    (λ w. c.if-head_of.false (c.head_of.ensures ∙ w)) (sym c.head_of-2.ensures ∙ c.if-head_of-2.false) z c.if-until-start.false c.if-start-elapsed.false
