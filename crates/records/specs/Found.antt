-- What `ahead_no`, `deadline_no`, `next_time` and `find` say.
use Rattle.std.specs.Prelude.{◌≡◌, List, ℕ, ◌<◌, Option, Some, None}
use Rattle.links.specs.Links.{at}
use Rattle.places.specs.Places.{free}
use Rattle.records.specs.Records.{turn_in, number_in, TooFar, Near, TooOld, Takes, NoMore}

-- ---- refusals 4 and 11

-- 4 where the deadline is too far, and 0 just where it is not
pub record AheadNo (e w r : ℕ) : Type 0 where
  pub far : TooFar e w → r ≡ 4
  pub near : Near e w → r ≡ 0
  pub taken : r ≡ 0 → Near e w

-- 11 where it is too old, 4 as above, and 0 just where it is taken
pub record DeadlineNo (e w r : ℕ) : Type 0 where
  pub old : TooOld e w → r ≡ 11
  pub far : TooFar e w → r ≡ 4
  pub near : Takes e w → r ≡ 0
  pub taken : r ≡ 0 → Takes e w

-- ---- the next time

-- a timer is set again to w, unless it is set no more
abbrev pub AgainIs : ℕ → ℕ → Option ℕ → Type 0
AgainIs e w None = NoMore e w
AgainIs e w (Some when) = (when ≡ w) × (NoMore e w → ⊥)

-- ---- a key

-- the key's record, by the words
pub record KeyIs (n : ℕ) (ts ms : List ℕ) (key i : ℕ) : Type 0 where
  pub number : i ≡ number_in key
  pub below : i < n
  pub pending : at ms i < free
  pub turn : at ts i ≡ turn_in key

abbrev pub FindIs : ℕ → List ℕ → List ℕ → ℕ → Option ℕ → Type 0
FindIs n ts ms key None = (i : ℕ) → KeyIs n ts ms key i → ⊥
FindIs n ts ms key (Some i) = KeyIs n ts ms key i
