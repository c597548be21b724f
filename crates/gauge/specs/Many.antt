-- Many latenesses, one after the other.
use Rattle.std.specs.Prelude.{List, [], ◌∷◌, map, ℕ, max, Float}
use Rattle.gauge.specs.declared.Gauge.{Gauge}
use Rattle.gauge.specs.Gauge.{float_of, noted}

-- the gauge after them
abbrev pub noted_all : Gauge → List Float → Gauge
noted_all g [] = g
noted_all g (l ∷ ls) = noted_all (noted g l) ls

-- numbers of milliseconds, each capped and converted
abbrev pub floats : List ℕ → List Float
floats ns = map (λ (n : ℕ). float_of n) ns

-- the greatest of n and ns
abbrev pub greatest : ℕ → List ℕ → ℕ
greatest n [] = n
greatest n (m ∷ ns) = greatest (max n m) ns
