-- A list as two link functions lay it out: each member names the one after it and the one before it.
use Rattle.std.specs.Prelude.{◌≡◌, List, [], ◌∷◌, ℕ}
use Rattle.links.specs.Lists.{first_d}

-- l lies in the links nx, pv, after p and before e
abbrev pub Seg : (ℕ → ℕ) → (ℕ → ℕ) → ℕ → List ℕ → ℕ → Type 0
Seg nx pv p [] e = Unit {0}
Seg nx pv p (x ∷ l) e = (pv x ≡ p) × (nx x ≡ first_d e l) × Seg nx pv x l e
