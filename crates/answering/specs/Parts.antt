-- What the parts of the writer leave. No public claim cites this file.
use Rattle.std.specs.Prelude.{◌≡◌, List, ◌++◌, ℕ, ◌+◌, length, drop}

-- a text of which P holds stands in o' from r up to end, and behind it what o has there

pub record Before (P : List ℕ → Type 0) (o : List ℕ) (end r : ℕ) (o' : List ℕ) : Type 0 where
  pub text : List ℕ
  pub is : P text
  pub start : r + length text ≡ end
  pub from : drop r o' ≡ text ++ drop end o
