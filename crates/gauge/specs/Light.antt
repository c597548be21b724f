-- What a gauge reads at two limits, in document 02's words.
use Rattle.std.specs.Prelude.{Bool, cond, not, ◌||◌, ℕ, Result, Ok, Err, Float}
use Rattle.std.specs.Float.Ieee.{lt, le, is_nan}
use Rattle.gauge.specs.declared.Gauge.{Gauge}
use Rattle.gauge.specs.declared.Light.{Light}
use Rattle.gauge.specs.declared.Light.TheVariants as L
use Rattle.gauge.specs.Gauge.{nought}

-- "The light reads calm, slow with the smoothed value, or late with the worst value. It is late if worst is at or over the late limit,
-- else slow if smoothed is at or over the slow limit, else calm. Before any timer it is calm."
unfoldable pub light_of : Gauge → Float → Float → Light
light_of g slow late =
    cond (not g.any) L.Calm
    (cond (le late g.worst) (L.Late g.worst)
    (cond (le slow g.smoothed) (L.Slow g.smoothed) L.Calm))

-- "A limit below zero or not a number is refused with 9"
abbrev pub bad_limit : Float → Bool
bad_limit x = lt x nought || is_nan x

-- a light, or the number of a refusal
abbrev pub Reading : Type 0
Reading = Result Light ℕ

unfoldable pub reading_of : Gauge → Float → Float → Reading
reading_of g slow late = cond (bad_limit slow || bad_limit late) (Err 9) (Ok (light_of g slow late))
