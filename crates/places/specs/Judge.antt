-- What the walks of the judge say, level by level.
use Rattle.std.specs.Prelude.{◌≡◌, Bool, not, List, ℕ, ◌+◌, ◌-◌, eqb, Option, Some, None}
use Rattle.row.specs.Row.{row_of}
use Rattle.links.specs.Lists.{nobody}
use Rattle.links.specs.Links.{net}
use Rattle.links.specs.Judge.{scan_all, loose_of, leaves}
use Rattle.places.specs.declared.Level.{Level}
use Rattle.places.specs.Places.{slot_place, slots, places}
use Rattle.places.specs.Heads.{slot_head}
use Rattle.places.specs.Words.{PlaceWords, head_at, count}

-- what the walk of the places from p on finds, with so much room left
unfoldable pub from : PlaceWords → ℕ → ℕ → Option ℕ
from t p left = scan_all (net (head_at t) t.links) (count t) (places - p) p left

-- the flags that the heads of level k have
abbrev pub held : List (List ℕ) → ℕ → ℕ → Bool
held hh k s = not (eqb (slot_head hh k s) nobody)

-- a walk of the slots of level k: with what is left the walk of all places goes on behind them, and the row has the flags of the heads
pub record WalksLevel (t : PlaceWords) (k left : ℕ) (r : Option Level) : Type 0 where
  pub wrong : r ≡ None → from t (slot_place k 0) left ≡ None
  pub goes : (l : Level) → r ≡ Some l → from t (slot_place k 0) left ≡ from t (slot_place (k + 1) 0) l.left
  pub filled : (l : Level) → r ≡ Some l → l.filled ≡ row_of (held t.heads k)

-- what the judge says once the slots are passed
unfoldable pub rest : PlaceWords → ℕ → Bool
rest t left = leaves (from t slots left) (loose_of places t.links (count t))
