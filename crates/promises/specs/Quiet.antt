-- A store where nothing is pending.
use Rattle.std.specs.Prelude.{◌≡◌, List, [], ◌∷◌, ℕ, ◌<◌}
use Rattle.places.specs.Places.{free}
use Rattle.records.specs.Words.{QueueWords, elapsed, view, Sound}

-- a sound store where nothing is pending, with a record to take: as format leaves one
pub record Quiet (s : QueueWords) (e : ℕ) : Type 0 where
  pub sound : Sound s
  pub clock : elapsed s ≡ e
  pub empty : (p : ℕ) → p < free → (view s).lists p ≡ []
  pub item : ℕ
  pub rest : List ℕ
  pub first : (view s).lists free ≡ item ∷ rest
