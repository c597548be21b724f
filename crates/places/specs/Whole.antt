-- Words that hold the lists of the places (`Whole`), the lists that they hold (`lists`), and what is kept of words.
use Rattle.std.specs.Prelude.{◌≡◌, List, ℕ}
use Rattle.links.specs.Lists.{change}
use Rattle.links.specs.Whole as links
use Rattle.places.specs.Places.{places, retired}
use Rattle.places.specs.Heads.{Shape}
use Rattle.places.specs.Words.{PlaceWords, count, head_at, mark_of}

-- six times 64 heads, and every record is in exactly one list, or loose
pub record Whole (t : PlaceWords) : Type 0 where
  pub shape : Shape t.heads
  pub held : links.Whole places (count t) (head_at t) t.links

-- the list of each place, read off the words by a walk; a number that is no place has an empty one
unfoldable pub lists : PlaceWords → ℕ → List ℕ
lists t = links.lists_of (count t) (head_at t) t.links

-- as many records as before; the words past them, and the lengths, as they were; who was retired is
pub record PlacesKept (s t : PlaceWords) : Type 0 where
  pub size : count t ≡ count s
  pub links : links.LinksKept (count s) s.links t.links
  pub retired : (i : ℕ) → mark_of s i ≡ retired → mark_of t i ≡ retired

-- t is whole, its lists are those of s but for p's, which is l, and words past the records are as they were
pub record Changes (s : PlaceWords) (p : ℕ) (l : List ℕ) (t : PlaceWords) : Type 0 where
  pub whole : Whole t
  pub lists : lists t ≡ change (lists s) p l
  pub kept : PlacesKept s t
