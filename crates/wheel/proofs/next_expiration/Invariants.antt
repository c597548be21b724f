-- `next_expiration` meets its contract: the levels passed are empty, and the lowest slot of the first that is not is the first from elapsed on (`next_found`).
-- Where all are, the parking list is left (`parking_found`).
use mathlib.Core.Path.{◌≡◌}
use Prim.Native.Nat.{ℕ, ◌≤◌, ◌<◌}
use Rattle.links.specs.Links.{at}
use Rattle.wheel.proofs.next_expiration.Given as goal

abbrev pub invariant-loop-level : goal.invariant-loop-level
invariant-loop-level l =
    (l.level ≤ 6) × ((j : ℕ) → j < l.level → at l.occupied j ≡ 0)
