-- Words of the promises on a reading, and on what a poll hands out.
use Rattle.std.specs.Prelude.{◌≡◌, true, false, ◌⊎◌, ◌↔◌, ℕ, ◌+◌, ◌-◌, ◌≤◌, Ok, Float}
use Rattle.std.specs.Float.Ieee.{lt, le, is_nan}
use Rattle.gauge.specs.declared.Gauge.{Gauge}
use Rattle.gauge.specs.declared.Light.TheVariants as L
use Rattle.gauge.specs.Gauge.{nought, lateness, noted}
use Rattle.gauge.specs.Light.{Reading}

-- "below zero or not a number"
abbrev pub BadLimit : Float → Type 0
BadLimit x = (lt x nought ≡ true) ⊎ (is_nan x ≡ true)

-- neither limit is
abbrev pub Limits : Float → Float → Type 0
Limits s l = BadLimit s ⊎ BadLimit l → ⊥

-- r is what g reads at the slow limit s and the late limit l: each light exactly when the paper says
pub record LightExactly (g : Gauge) (s l : Float) (r : Reading) : Type 0 where
  pub late : (x : Float) → (r ≡ Ok (L.Late x)) ↔ (Limits s l × (g.any ≡ true) × (le l g.worst ≡ true) × (x ≡ g.worst))
  pub slow : (x : Float)
      → (r ≡ Ok (L.Slow x))
      ↔ (Limits s l × (g.any ≡ true) × (le l g.worst ≡ false) × (le s g.smoothed ≡ true) × (x ≡ g.smoothed))
  pub calm : (r ≡ Ok L.Calm)
      ↔ (Limits s l × ((g.any ≡ false) ⊎ ((g.any ≡ true) × (le l g.worst ≡ false) × (le s g.smoothed ≡ false))))

-- a timer that was handed out at `now` with the deadline d: it was due, so that `now - d` is the difference itself, and this lateness is
-- noted
pub record HandedLate (now d : ℕ) (g g' : Gauge) : Type 0 where
  pub due : d ≤ now
  pub difference : (now - d) + d ≡ now
  pub not_negative : lt (lateness now d) nought ≡ false
  pub noted : g' ≡ noted g (lateness now d)
