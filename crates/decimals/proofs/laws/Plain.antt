-- Decimals and fields that are written out, so that the tests of their bytes compute.
use mathlib.Core.Path.{◌≡◌, refl}
use mathlib.Core.Bool.{Bool, true, ◌&&◌}
use mathlib.Core.List.{List, [], ◌∷◌, ◌++◌}
use Prim.Native.Nat.{ℕ, zero, suc, ◌<◌, ◌^◌}
use Prim.Native.Char.{code}
use native.Mathlib.Omega.{arith}
use lib.Dec.{T, leb, leb→le}
use lib.ListN.{length, get_or}
use mir.Facts.{and_yes}
use Rattle.decimals.specs.Text.{Digits, worth, Spaced}

-- a test of each byte, which computes
unfoldable pub every : (ℕ → Bool) → List ℕ → Bool
every f [] = true
every f (b ∷ l) = f b && every f l

pub at : (f : ℕ → Bool) (l : List ℕ) → T (every f l) → (i : ℕ) → i < length l → T (f (get_or l i 0))
unfolding every
at f [] t i h = absurd (omega arith)
at f (b ∷ l) t zero h = (and_yes (f b) (every f l) t).0
at f (b ∷ l) t (suc i) h = at f l (and_yes (f b) (every f l) t).1 i (omega arith)

abbrev pub is_digit : ℕ → Bool
is_digit b = leb (code "0") b && leb b (code "9")

pub digits : (l : List ℕ) → T (every is_digit l) → Digits l
digits l t i h =
    let p = and_yes (leb 48 (get_or l i 0)) (leb (get_or l i 0) 57) (at is_digit l t i h) in
    (leb→le 48 (get_or l i 0) p.0, leb→le (get_or l i 0) 57 p.1)

-- ---- lines that are right

abbrev pub Plain : List (List ℕ) → Type 0
Plain [] = Unit
Plain (d ∷ ds) = (0 < length d) × T (every is_digit d) × (1 < length d → get_or d 0 0 ≡ code "0" → ⊥) × (worth d < 2 ^ 64) × Plain ds

abbrev pub text : List (List ℕ) → List ℕ
text [] = []
text (d ∷ ds) = code " " ∷ d ++ text ds

abbrev pub values : List (List ℕ) → List ℕ
values [] = []
values (d ∷ ds) = worth d ∷ values ds

pub spaced : (ds : List (List ℕ)) → Plain ds → Spaced (text ds) (values ds)
unfolding Spaced
spaced [] p = refl
spaced (d ∷ ds) p = (
  d,
  text ds,
  refl,
  record { some = p.0; digits = digits d p.1; spare = p.2; number = refl; fits = p.3 },
  spaced ds p.4,
)
