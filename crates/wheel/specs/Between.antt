-- The rule inside a poll, where an entry may lie one level too high: over the clock e, an entry at level k shares its quotient at k + 1 with e and
-- its slot does not start before e. Between calls every slot above level 0 starts after e besides.
use Rattle.std.specs.Prelude.{◌≡◌, ◌≢◌, ℕ, suc, ◌≤◌, ◌<◌}
use Rattle.times.specs.Times.{slot_of, floor, Lies, NextBlock}
use Rattle.links.specs.Lists.{Mem}
use Rattle.places.specs.Places.{slots, parking, level_at, slot_at}
use Rattle.wheel.specs.Wheel.{Lists}

-- in a slot of its own, which does not start before elapsed
pub record Spot (p e w : ℕ) : Type 0 where
  pub slot : slot_at p ≡ slot_of w (level_at p)
  pub lies : Lies (level_at p) e w

-- between two drains: a slot above another's level starts after elapsed
pub record Between (d : ℕ → ℕ) (e : ℕ) (L : Lists) : Type 0 where
  pub spot : (p x : ℕ) → p < slots → Mem x (L p) → Spot p e (d x)
  pub later : (p x q y : ℕ) → p < slots → q < slots → Mem x (L p) → Mem y (L q) → level_at q < level_at p → e < floor (level_at p) (d x)
  pub parked : (x : ℕ) → Mem x (L parking) → NextBlock e (d x)

-- inside a drain of h, a list of height k + 1 that starts at e: nothing lies lower than level k, and what else lies no lower than h starts
-- later. Where it is not the parking list that is drained, what is parked lies in the block after e's
pub record Draining (d : ℕ → ℕ) (k h e : ℕ) (L : Lists) : Type 0 where
  pub spot : (q y : ℕ) → q < slots → Mem y (L q) → Spot q e (d y)
  pub hand : (y : ℕ) → Mem y (L h) → floor (suc k) (d y) ≡ e
  pub low : (q y : ℕ) → q < slots → Mem y (L q) → k ≤ level_at q
  pub later : (q y : ℕ) → q < slots → q ≢ h → Mem y (L q) → k < level_at q → e < floor (level_at q) (d y)
  pub parked : (y : ℕ) → h ≢ parking → Mem y (L parking) → NextBlock e (d y)
