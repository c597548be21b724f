-- "Fields are split by one space": what `field_end` and `first_of` find.
use Rattle.std.specs.Prelude.{◌≡◌, List, ◌∷◌, ◌++◌, ℕ, ◌≤◌, ◌<◌, length, drop, get_or, Option, Some, None}
use Prim.Native.Char.{code}
use Rattle.decimals.specs.Text.{Decimal}
use Rattle.splitting.specs.declared.First.{First}
use Rattle.splitting.specs.declared.First.TheVariants as S

-- the first field of l ends at e
pub record EndsAt (l : List ℕ) (e : ℕ) : Type 0 where
  pub within : e ≤ length l
  pub inside : (k : ℕ) → k < e → get_or l k 0 ≡ code " " → ⊥
  pub space : e < length l → get_or l e 0 ≡ code " "

-- l is the number n, a space, and then m
abbrev pub Starts : List ℕ → ℕ → List ℕ → Type 0
Starts l n m = (d : List ℕ) × (l ≡ d ++ code " " ∷ m) × Decimal d n

-- what l begins with
abbrev pub Begins : List ℕ → Option First → Type 0
Begins l (Some (S.Only n)) = Decimal l n
Begins l (Some (S.Then n f)) = (f ≤ length l) × Starts l n (drop f l)
Begins l None = ((n : ℕ) → Decimal l n → ⊥) × ((n : ℕ) (m : List ℕ) → Starts l n m → ⊥)
