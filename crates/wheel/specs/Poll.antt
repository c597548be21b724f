-- What a poll of the wheel does, by the rules alone (`poll_law`): a least due timer or none, the rest kept, the clock, the moves. (That it does one thing only
-- stands in One.antt.)
use Rattle.std.proofs.Math.Option.{Option, none, some}
use Rattle.std.specs.Prelude.{ℕ, ◌*◌, ◌/◌, ◌≤◌, ◌<◌, max}
use Rattle.links.specs.Lists.{Mem}
use Rattle.places.specs.Places.{expired}
use Rattle.wheel.specs.Wheel.{Lists}

-- y waits in a slot or is parked
abbrev pub Waits : Lists → ℕ → Type 0
Waits L y = (p : ℕ) × (p < expired) × Mem y (L p)

-- handed out: waiting, due, and a least one. Nothing handed out: nothing due
abbrev pub Fair : (ℕ → ℕ) → ℕ → Lists → Option ℕ → Type 0
Fair d now L none = (y : ℕ) → Waits L y → now < d y
Fair d now L (some x) = Waits L x × (d x ≤ now) × ((y : ℕ) → Waits L y → d x ≤ d y)

-- "So after a poll that hands out w, elapsed is the larger of e and 64 x floor(w/64)."
abbrev pub clock_after : (ℕ → ℕ) → ℕ → ℕ → Option ℕ → ℕ
clock_after d now e none = now
clock_after d now e (some x) = max e (64 * (d x / 64))
