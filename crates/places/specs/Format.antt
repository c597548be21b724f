-- Format: every list is empty but the free one, which holds 0, 1, .., n - 1 ("Fresh records are taken as 0, 1, 2 and so on").
use Rattle.std.specs.Prelude.{List, [], ◌∷◌, ℕ, zero, suc, ◌+◌, ◌-◌, set, replicate}
use Rattle.links.specs.Lists.{nobody}
use Rattle.places.specs.Places.{free}
use Rattle.places.specs.Words.{PlaceWords, words}

-- l with f 0, .., f (k - 1) for its first k words
unfoldable pub over : ℕ → (ℕ → ℕ) → List ℕ → List ℕ
over zero f l = l
over (suc k) f l = set (over k f l) k (f k)

-- the one before i, of n: the head's back link keeps the tail
abbrev pub prev_in : ℕ → ℕ → ℕ
prev_in n zero = n - 1
prev_in n (suc i) = i

-- no head is anybody
abbrev pub no_level : List ℕ
no_level = replicate 64 65535

abbrev pub no_heads : List (List ℕ)
no_heads = replicate 6 no_level

unfoldable pub formatted : ℕ → List ℕ → List ℕ → List ℕ → PlaceWords
formatted n ns ps ms =
    words (n ∷ 65535 ∷ 0 ∷ 65535 ∷ []) no_heads (set (over n (λ i. i + 1) ns) (n - 1) nobody) (over n (prev_in n) ps) (over n (λ i. free) ms)

-- k, k + 1, .., k + m - 1
unfoldable pub range : ℕ → ℕ → List ℕ
range zero k = []
range (suc m) k = k ∷ range m (suc k)
