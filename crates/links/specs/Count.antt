-- How many numbers below n pass a test.
use Rattle.std.specs.Prelude.{Bool, true, false, ℕ, zero, suc, ◌+◌}

abbrev pub bit : Bool → ℕ
bit true = 1
bit false = 0

-- how many of the numbers below n pass f
abbrev pub cnt : (ℕ → Bool) → ℕ → ℕ
cnt f zero = 0
cnt f (suc k) = cnt f k + bit (f k)
