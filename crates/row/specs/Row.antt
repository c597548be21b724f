-- The occupied row of a level, a number as 64 flags. Document 01: "occupied bits name exactly the non-empty slots".
use Rattle.std.specs.Prelude.{◌≡◌, Bool, true, false, cond, ℕ, zero, suc, ◌+◌, ◌*◌, ◌/◌, ◌%◌, ◌^◌, ◌<◌, eqb}

-- the flag of slot s in the row x: slot 0 has the least significant bit, as in the Rust
unfoldable pub flag_at : ℕ → ℕ → Bool
flag_at x s = eqb (x / 2 ^ s % 2) 1

abbrev pub bit : Bool → ℕ
bit true = 1
bit false = 0

-- the row of n slots whose flags are f 0, f 1 and so on
unfoldable pub row_below : (ℕ → Bool) → ℕ → ℕ
row_below f zero = 0
row_below f (suc n) = row_below f n + bit (f n) * 2 ^ n

-- the row of a level. A law of rows of n slots speaks of it at n = 64.
abbrev pub row_of : (ℕ → Bool) → ℕ
row_of f = row_below f 64

-- the flags f with v at slot s
unfoldable pub flagged : (ℕ → Bool) → ℕ → Bool → ℕ → Bool
flagged f s v t = cond (eqb t s) v (f t)

-- 02: "the first occupied slot at a level is the lowest set bit of its row".
-- r is the lowest of the first n slots that f marks
pub record Lowest (f : ℕ → Bool) (n r : ℕ) : Type 0 where
  pub within : r < n
  pub marked : f r ≡ true
  pub lower : (j : ℕ) → j < r → f j ≡ false
