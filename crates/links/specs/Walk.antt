-- The lists that a walk along the links reads.
use Rattle.std.specs.Prelude.{List, [], ◌∷◌, cond, ℕ, zero, suc, eqb}
use Rattle.links.specs.Lists.{nobody}
use Rattle.links.specs.Family.{Net}

-- at most so many records, from h on
unfoldable pub walk : (ℕ → ℕ) → ℕ → ℕ → List ℕ
walk nx zero h = []
walk nx (suc k) h = cond (eqb h nobody) [] (h ∷ walk nx k (nx h))

-- the list of each place, of n records
unfoldable pub lists : Net → ℕ → ℕ → List ℕ
lists s n p = walk s.nx n (s.hd p)
