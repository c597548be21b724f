-- What is written, in document 02's words, and the claims of `text` and `said`.
use Rattle.std.specs.Prelude.{◌≡◌, Bool, true, false, List, [], ◌∷◌, ◌++◌, ℕ}
use Prim.Native.Char.{code}
use Rattle.decimals.specs.Text.{bytes, Decimal}
use Rattle.writing.specs.Writing.{Fronts}
use Rattle.inspector.specs.declared.State.{State}
use Rattle.inspector.specs.declared.State.TheVariants as S

-- "It writes `ok`, or `bad n`": the line for what the lines have come to
abbrev pub LineOf : State → List ℕ → Type 0
LineOf (S.Good n clock m) l = l ≡ bytes "ok" ++ code "\n" ∷ []
LineOf (S.Bad n) l = (d : List ℕ) × Decimal d n × (l ≡ bytes "bad " ++ (d ++ code "\n" ∷ []))

-- it goes to the front of what is lent, where that has room for it
abbrev pub TextClaim : State → List ℕ → ℕ → List ℕ → Type 0
TextClaim t o r o' = (l : List ℕ) × LineOf t l × Fronts l o r o'

-- where the input has ended; where it broke off nothing is written
pub record SaidClaim (ended : Bool) (t : State) (o : List ℕ) (r : ℕ) (o' : List ℕ) : Type 0 where
  pub whole : ended ≡ true → TextClaim t o r o'
  pub broken : ended ≡ false → (r ≡ 0) × (o' ≡ o)
