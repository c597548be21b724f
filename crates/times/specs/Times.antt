-- The wheel's times, as document 01 has them. What stands between quotation marks is its text.
use Rattle.std.specs.Prelude.{◌≡◌, ◌≢◌, cond, List, [], ◌∷◌, ℕ, zero, suc, ◌+◌, ◌*◌, ◌/◌, ◌%◌, ◌^◌, ◌≤◌, ◌<◌, eqb}

-- "Widths are the constant row 1, 64, 4096, 262144, 16777216, 1073741824."
abbrev pub widths : List ℕ
widths = 1 ∷ 64 ∷ 4096 ∷ 262144 ∷ 16777216 ∷ 1073741824 ∷ []

-- the width of level k, for any k. At the six levels it is the row's (`widths_are`).
unfoldable pub width : ℕ → ℕ
width k = 64 ^ k

-- "Slot at level k is floor(w / width k) mod 64."
unfoldable pub slot_of : ℕ → ℕ → ℕ
slot_of w k = w / width k % 64

-- "A slot's start is elapsed rounded down to a multiple of 64 x width k, plus slot x width k."
unfoldable pub start_at : ℕ → ℕ → ℕ → ℕ
start_at e k s = e / (64 * width k) * (64 * width k) + s * width k

-- the greatest k below n with e / width k different from w / width k, and 0 if none
unfoldable pub level_below : ℕ → ℕ → ℕ → ℕ
level_below zero e w = 0
level_below (suc n) e w = cond (eqb (e / width n) (w / width n)) (level_below n e w) n

-- "Level of deadline w at elapsed e is the greatest k with floor(e / width k) different from floor(w / width k), and 0 if none."
unfoldable pub level_of : ℕ → ℕ → ℕ
level_of e w = level_below 6 e w

-- the same as a relation: the two are one (`level_is`, `is_level`)
pub record IsLevelBelow (n e w k : ℕ) : Type 0 where
  pub within : k < n
  pub differ : 0 < k → e / width k ≢ w / width k
  pub above : (j : ℕ) → k < j → j < n → e / width j ≡ w / width j

abbrev pub IsLevel : ℕ → ℕ → ℕ → Type 0
IsLevel e w k = IsLevelBelow 6 e w k

-- w rounded down to the width of level k: the start of its slot there (`lies_start`)
unfoldable pub floor : ℕ → ℕ → ℕ
floor k w = w / width k * width k

-- w may lie at level k while elapsed is e, between calls and inside a poll, where it may lie higher than its level:
-- the same quotient above k, and its slot does not start before e
pub record Lies (k e w : ℕ) : Type 0 where
  pub above : w / width (suc k) ≡ e / width (suc k)
  pub start : e ≤ floor k w

-- refusal 4: "deadline less elapsed is over 68,719,476,735"
abbrev pub max_duration : ℕ
max_duration = 68719476735

-- the block of w: "floor(w/2^36)"
abbrev pub block : ℕ → ℕ
block w = w / 2 ^ 36

-- 02 [12]: "deadlines in the next block"
abbrev pub NextBlock : ℕ → ℕ → Type 0
NextBlock e w = block w ≡ block e + 1

-- "the next block's start"
unfoldable pub block_end : ℕ → ℕ
block_end e = (block e + 1) * 2 ^ 36
