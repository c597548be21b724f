-- Lists of record numbers: who is in one, its first and last, and a family of lists with one of them changed.
use Rattle.std.specs.Prelude.{◌≡◌, ◌⊎◌, cond, List, [], ◌∷◌, ℕ, eqb}

-- the record number that means nobody
abbrev pub nobody : ℕ
nobody = 65535

-- i is in the list
abbrev pub Mem : ℕ → List ℕ → Type 0
Mem i [] = ⊥
Mem i (x ∷ l) = (i ≡ x) ⊎ Mem i l

-- the first and the last of a list, or a default
abbrev pub first_d : ℕ → List ℕ → ℕ
first_d e [] = e
first_d e (x ∷ l) = x

abbrev pub last_d : ℕ → List ℕ → ℕ
last_d p [] = p
last_d p (x ∷ l) = last_d x l

-- the list without the first i in it
abbrev pub without : ℕ → List ℕ → List ℕ
without i [] = []
without i (x ∷ l) = cond (eqb x i) l (x ∷ without i l)

-- the lists L, with l at p
unfoldable pub change : (ℕ → List ℕ) → ℕ → List ℕ → ℕ → List ℕ
change L p l q = cond (eqb q p) l (L q)
