-- `times::slot_start` meets its contract: the laps, the slot and the width make the start (`start_laps`), within a u64 (`start_lt`).
use native.Mathlib.Omega.{arith}
use borrow.Author.Rules.{rules}
use Rattle.times.proofs.laws.Starts.{start_laps, start_lt, slots_lt}
use Rattle.times.proofs.slot_start.Statement.{statement}
use Rattle.times.proofs.slot_start.Tie as tie

mul-result : tie.Need-overflow_mul-result
mul-result c = omega (arith, slots_lt _ _ _ c.requires.0 c.requires.1 c.ranges.elapsed.fits)

add-result : tie.Need-overflow_add-result
add-result c = record { fits = slots_lt _ _ _ c.requires.0 c.requires.1 c.ranges.elapsed.fits }

mul-result-2 : tie.Need-overflow_mul-result-2
mul-result-2 c =
    rw c.slot_range.ensures record { fits = start_lt _ _ _ c.before.requires.0 c.before.requires.1 c.before.ranges.elapsed.fits }

returns : tie.Need-returns
returns c = rw c.slot_range.ensures (start_laps _ _ _)

pub slot_start_spec : {M : Type 1} → statement M
slot_start_spec =
    tie.close (tie.spec (λ c. search rules) (λ c. search rules) (λ c. search rules) mul-result add-result
    (λ c κs. search rules) mul-result-2 returns)
