-- `row::first_slot` meets its contract: the trailing zeros of a row are its lowest slot (`trailing_lowest`).
use native.Mathlib.Nat.{lt_of_le_of_lt}
use native.Mathlib.Omega.{arith}
use lib.Count.{trailing_le}
use Rattle.row.proofs.laws.Code.{trailing_lowest}
use Rattle.row.proofs.first_slot.Statement.{statement}
use Rattle.row.proofs.first_slot.Tie as tie

cast-result : tie.Need-overflow_cast-result
cast-result c = record { fits = lt_of_le_of_lt (trailing_le 64 _) (omega arith) }

returns : tie.Need-returns
returns c = trailing_lowest 64 _ c.requires c.ranges.occupied.fits

pub first_slot_spec : {M : Type 1} → statement M
first_slot_spec = tie.close (tie.spec cast-result returns)
