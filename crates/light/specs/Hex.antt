-- Hex digits read back: what they are worth.
use Rattle.std.specs.Prelude.{cond, List, [], ◌∷◌, ℕ, ◌+◌, ◌-◌, ◌*◌, ◌^◌, leb, length}
use Prim.Native.Char.{code}

abbrev pub digit_worth : ℕ → ℕ
digit_worth b = cond (leb b (code "9")) (b - code "0") (b - 87)

unfoldable pub hex_worth : List ℕ → ℕ
hex_worth [] = 0
hex_worth (b ∷ l) = digit_worth b * 16 ^ length l + hex_worth l
