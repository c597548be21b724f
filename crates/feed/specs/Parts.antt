-- One line over a store of which it is known whether it is sound. No public claim cites this file.
use Rattle.std.specs.Prelude.{Bool, List, ℕ}
use Rattle.contracts.specs.Tells.{Tells}
use Rattle.records.specs.Words.{Sound}
use Rattle.feed.specs.Feed.{Stand, NextLine}

-- what a line claims, and whether the store that it leaves is sound
pub record NextLineKnown (limits : Bool) (got : List ℕ) (a b : Stand) (sound : Bool) : Type 0 where
  pub does : NextLine limits got a b
  pub tells : Tells (Sound b.store) sound
