-- The bits of a float that are shown.
use Rattle.std.specs.Prelude.{cond, ℕ, Float}
use Rattle.std.specs.Float.{binary64}
use Rattle.std.specs.Float.Ieee.{eq, to_bits}

-- 0 for what is not a number, whose bits are not fixed: it alone does not equal itself
unfoldable pub bits_of : Float → ℕ
bits_of x = cond (eq x x) (to_bits binary64 x) 0
