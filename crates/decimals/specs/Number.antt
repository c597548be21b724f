-- What the reading of one decimal answers: the claim of `number`.
use Rattle.std.specs.Prelude.{List, ℕ, Option, Some, None}
use Rattle.decimals.specs.Text.{Decimal}

-- what l says as a decimal
abbrev pub NumberOf : List ℕ → Option ℕ → Type 0
NumberOf l (Some n) = Decimal l n
NumberOf l None = (n : ℕ) → Decimal l n → ⊥
