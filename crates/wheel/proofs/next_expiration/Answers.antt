-- `next_expiration` meets its contract: the levels passed are empty, and the lowest slot of the first that is not is the first from elapsed on (`next_found`).
-- Where all are, the parking list is left (`parking_found`).
use native.Mathlib.Omega.{arith}
use borrow.Author.Count.{below_more}
use Rattle.wheel.proofs.laws.Expiration.{next_found, none_found, parking_found}
use Rattle.wheel.proofs.next_expiration.Goals as goal

pub loop-level-init : goal.loop-level-init
loop-level-init c =
    (omega arith, λ j h. absurd (omega arith))

pub first_slot-slot-requires : goal.first_slot-slot-requires
first_slot-slot-requires c =
    omega (arith, c.if-row-ne0.true)

pub slot_start-deadline-requires : goal.slot_start-deadline-requires
slot_start-deadline-requires c =
    (omega arith, c.first_slot-slot.ensures.within)

pub returns-then-row-ne0 : goal.returns-then-row-ne0
returns-then-row-ne0 c =
    λ L S. next_found S.occupied _ _ _ _ (omega arith) c.loop-level.invariant.1 c.requires.occupied c.first_slot-slot.ensures
    c.slot_start-deadline.ensures

pub loop-level-preserved : goal.loop-level-preserved
loop-level-preserved c =
    (omega arith, below_more _ _ c.loop-level.invariant.1 c.if-row-ne0.false)

pub returns-then-parking-eq-NOBODY : goal.returns-then-parking-eq-NOBODY
returns-then-parking-eq-NOBODY c =
    λ L S. none_found S (λ j h. c.loop-level.invariant.1 j (omega arith)) c.if-parking-eq-NOBODY.true

pub bounds-deadlines-parking : goal.bounds-deadlines-parking
bounds-deadlines-parking c =
    c.requires.deadline c.if-parking-eq-NOBODY.false

pub returns : goal.returns
returns c =
    λ L S. parking_found S (λ j h. c.loop-level.invariant.1 j (omega arith)) c.if-parking-eq-NOBODY.false _ c.block_start.ensures
