-- `list_start` meets its contract: the next block's start for the parking list, else the slot's.
use mathlib.Core.Path.{sym, ap, ◌∙◌}
use native.Mathlib.Omega.{arith}
use Rattle.wheel.specs.Limited.{start}
use Rattle.wheel.proofs.laws.Limited.{start_slot_at, start_parking, parking_fits}
use Rattle.wheel.proofs.list_start.Goals as goal

pub block_end-requires : goal.block_end-requires
block_end-requires c =
    parking_fits _ _ _ c.if-place-eq-PARKING.true c.requires.1

pub returns-then-place-eq-PARKING : goal.returns-then-place-eq-PARKING
returns-then-place-eq-PARKING c =
    c.block_end.ensures ∙ sym (start_parking _) ∙ ap (start _) (sym c.if-place-eq-PARKING.true)

pub slot_start-requires : goal.slot_start-requires
slot_start-requires c =
    omega (arith, c.requires.0, c.if-place-eq-PARKING.false, c.level_of.ensures, c.slot_of.ensures)

pub returns : goal.returns
returns c =
    rw (start_slot_at _ _ c.if-place-eq-PARKING.false) (c.slot_start.ensures ∙ rw (c.level_of.ensures, c.slot_of.ensures))
