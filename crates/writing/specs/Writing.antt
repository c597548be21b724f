-- What writers leave: bytes behind others, at the front, and the digits of a number.
use Rattle.std.specs.Prelude.{◌≡◌, List, [], ◌∷◌, ◌++◌, ℕ, zero, suc, ◌+◌, ◌/◌, ◌%◌, ◌^◌, ◌≤◌, ◌<◌, length, take, drop}

-- behind the first `at` bytes of o stands s in o', up to r, and behind r what o has there
pub record Wrote (o : List ℕ) (at : ℕ) (s : List ℕ) (r : ℕ) (o' : List ℕ) : Type 0 where
  pub text : take r o' ≡ take at o ++ s
  pub end : r ≡ at + length s
  pub rest : drop r o' ≡ drop r o
  pub size : length o' ≡ length o

-- the text l goes to the front of o: r is the place behind it and o' is what o becomes, or, where o has no room for it, r is 0 and o' is o
pub record Fronts (l o : List ℕ) (r : ℕ) (o' : List ℕ) : Type 0 where
  pub room : length l ≤ length o → (r ≡ length l) × (o' ≡ l ++ drop (length l) o)
  pub full : length o < length l → (r ≡ 0) × (o' ≡ o)

-- the last k digits of n to the base b, the most significant first, each shown by the byte that g gives it
unfoldable pub digits_of : (ℕ → ℕ) → ℕ → ℕ → ℕ → List ℕ
digits_of g b zero n = []
digits_of g b (suc k) n = g (n / b ^ k % b) ∷ digits_of g b k n

-- what the first of n digits to the base b is worth, where it is 1
abbrev pub power : ℕ → ℕ → ℕ
power b zero = 0
power b (suc k) = b ^ k
