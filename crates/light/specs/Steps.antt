-- What the lines have said so far: the claims of `amount` and `step`.
use Rattle.std.specs.Prelude.{◌≡◌, List, ℕ, ◌≤◌, Option, Some, None}
use Rattle.decimals.specs.Text.{Decimal}
use Rattle.gauge.specs.Gauge.{zeros, most, float_of, noted}
use Rattle.light.specs.declared.State.{State}
use Rattle.light.specs.declared.State.TheVariants as S

-- "decimals as on the bench, at most 4,294,967,295": what a line says
abbrev pub AmountOf : List ℕ → Option ℕ → Type 0
AmountOf l (Some n) = Decimal l n × (n ≤ most)
AmountOf l None = (n : ℕ) → Decimal l n → n ≤ most → ⊥

-- one number more
abbrev pub next : Option ℕ → State → State
next (Some n) S.Nothing = S.Slow n
next (Some n) (S.Slow s) = S.Both s n zeros
next (Some n) (S.Both s l g) = S.Both s l (noted g (float_of n))
next (Some n) S.Bad = S.Bad
next None t = S.Bad

-- one line more
pub record Stepped (l : List ℕ) (t t' : State) : Type 0 where
  pub says : Option ℕ
  pub is : AmountOf l says
  pub then : t' ≡ next says t
