-- The bench's text in document 01's words: decimals, and numbers split by one space.
use Rattle.std.specs.Prelude.{◌≡◌, List, [], ◌∷◌, ◌++◌, ℕ, ◌+◌, ◌-◌, ◌*◌, ◌^◌, ◌≤◌, ◌<◌, length, get_or}
use Prim.Native.Char.{code}
use Prim.Native.String.{String, [] as end, ◌∷◌ as ◌∷ₛ◌}

-- the bytes of a text: here each character is ASCII, whose code is its byte
abbrev pub bytes : String → List ℕ
bytes end = []
bytes (c ∷ₛ s) = code c ∷ bytes s

-- ---- "decimals have no sign or spare zero and fit a u64"

-- every byte is a digit
abbrev pub Digits : List ℕ → Type 0
Digits l = (i : ℕ) → i < length l → (code "0" ≤ get_or l i 0) × (get_or l i 0 ≤ code "9")

-- what digits are worth: each ten times what it would be one place further on
unfoldable pub worth : List ℕ → ℕ
worth [] = 0
worth (b ∷ l) = (b - code "0") * 10 ^ length l + worth l

-- l is the decimal of n
pub record Decimal (l : List ℕ) (n : ℕ) : Type 0 where
  pub some : 0 < length l
  pub digits : Digits l
  pub spare : 1 < length l → get_or l 0 0 ≡ code "0" → ⊥
  pub number : worth l ≡ n
  pub fits : n < 2 ^ 64

-- ---- "Fields are split by one space"

-- l is the numbers ns: each a decimal, with one space in front of it
unfoldable pub Spaced : List ℕ → List ℕ → Type 0
Spaced l [] = l ≡ []
Spaced l (n ∷ ns) = (d : List ℕ) × (rest : List ℕ) × (l ≡ code " " ∷ d ++ rest) × Decimal d n × Spaced rest ns

-- "fit a u64": each number does
abbrev pub Fit : List ℕ → Type 0
Fit [] = Unit
Fit (n ∷ ns) = (n < 2 ^ 64) × Fit ns
