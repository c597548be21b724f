-- What a gauge of lateness becomes, in document 02's words. `add`, `sub` and `div` are Rust's operations on f64, each rounded once.
use Rattle.std.specs.Prelude.{◌≡◌, true, false, cond, ℕ, ◌-◌, min, pos, Float}
use Rattle.std.specs.Float.{fin, binary64}
use Rattle.std.specs.Float.Ieee.{add, sub, div, lt, of_int}
use Rattle.queue.specs.Told.{Told, Hands}
use Rattle.gauge.specs.declared.Gauge.{Gauge}

-- 0.0, and 8.0, which is 1 * 2 ^ 3
abbrev pub nought : Float
nought = fin false 0 (pos 0)

abbrev pub eight : Float
eight = fin false 1 (pos 3)

-- a gauge before any timer: "with no latenesses both numbers are zero"
abbrev pub zeros : Gauge
zeros = record { smoothed = nought; worst = nought; any = false }

-- ---- "For each timer handed out, lateness is now less deadline, capped at 4,294,967,295 and converted."

abbrev pub most : ℕ
most = 4294967295

-- capped and converted
unfoldable pub float_of : ℕ → Float
float_of n = of_int binary64 (pos (min n most))

-- now less deadline is 0 where the deadline lies ahead
abbrev pub lateness : ℕ → ℕ → Float
lateness now deadline = float_of (now - deadline)

-- ---- "Smoothed starts as the first lateness, then becomes smoothed + (late - smoothed) / 8, each operation rounded once in that order."

unfoldable pub smoother : Float → Float → Float
smoother smoothed late = add binary64 smoothed (div binary64 (sub binary64 late smoothed) eight)

abbrev pub worse : Float → Float → Float
worse worst late = cond (lt worst late) late worst

-- the gauge after one lateness more
unfoldable pub noted : Gauge → Float → Gauge
noted g late =
    record {
      smoothed = cond g.any (smoother g.smoothed late) late;
      worst = cond g.any (worse g.worst late) late;
      any = true;
    }

-- what a poll at `now` answered: "each timer handed out" is noted, and nothing else is
pub record AnswerClaim (g : Gauge) (now : ℕ) (x : Told) (g' : Gauge) : Type 0 where
  pub handed : (k v d m n : ℕ) → Hands x k v d m n → g' ≡ noted g (lateness now d)
  pub otherwise : ((k v d m n : ℕ) → Hands x k v d m n → ⊥) → g' ≡ g
