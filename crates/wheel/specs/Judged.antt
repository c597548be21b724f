-- What the judge of the wheel asks.
use Rattle.std.specs.Prelude.{◌≡◌, ◌≤◌, length}
use Rattle.links.specs.Lists.{nobody}
use Rattle.links.specs.Links.{Room}
use Rattle.places.specs.Heads.{Shape}
use Rattle.wheel.specs.Words.{WheelWords, count}

-- what the types of occupied and heads say, and that the slices of the links are long enough
pub record CanJudge (t : WheelWords) : Type 0 where
  pub six : length t.occupied ≡ 6
  pub shape : Shape t.places.heads
  pub room : Room (count t) t.places.links
  pub few : count t ≤ nobody
