-- Sums of a weight over all that lie in the lists of the first n places. The weight may depend on the place: heights and counts are cases.
use Rattle.std.specs.Prelude.{List, [], ◌∷◌, ℕ, zero, suc, ◌+◌}
use Rattle.wheel.specs.Wheel.{Lists}

abbrev pub sum_of : (ℕ → ℕ) → List ℕ → ℕ
sum_of u [] = 0
sum_of u (x ∷ l) = u x + sum_of u l

unfoldable pub total : (ℕ → ℕ → ℕ) → ℕ → Lists → ℕ
total u zero L = 0
total u (suc n) L = total u n L + sum_of (u n) (L n)
