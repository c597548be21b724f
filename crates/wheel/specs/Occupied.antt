-- The occupied rows: "occupied bits name exactly the non-empty slots".
use Rattle.std.specs.Prelude.{◌≡◌, Bool, true, false, List, [], ◌∷◌, ℕ, ◌<◌, length}
use Rattle.row.specs.Row.{row_of}
use Rattle.links.specs.Links.{at}
use Rattle.places.specs.Places.{slot_place}
use Rattle.wheel.specs.Wheel.{Lists}

abbrev pub filled : List ℕ → Bool
filled [] = false
filled (x ∷ l) = true

-- the flags of level k
abbrev pub flags : Lists → ℕ → ℕ → Bool
flags L k s = filled (L (slot_place k s))

-- six rows, each with the flags of its level
pub record Occupied (occ : List ℕ) (L : Lists) : Type 0 where
  pub six : length occ ≡ 6
  pub row : (k : ℕ) → k < 6 → at occ k ≡ row_of (flags L k)
