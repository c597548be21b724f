-- A timer that is lost: in none of document 01's places.
use Rattle.std.specs.Prelude.{◌≢◌, ℕ, ◌<◌}
use Rattle.links.specs.Lists.{Mem}
use Rattle.places.specs.Places.{retired}
use Rattle.records.specs.Words.{QueueWords, count, mark_of, view}

-- "every record is in exactly one place (free, retired, expired stack or one slot)", and "marks tell the true place": the record i is in none of them, as
-- the first half of a reset leaves it, at whatever turn
pub record Lost (s : QueueWords) (i : ℕ) : Type 0 where
  pub below : i < count s
  pub nowhere : (p : ℕ) → Mem i ((view s).lists p) → ⊥
  pub mark : mark_of s i ≢ retired
