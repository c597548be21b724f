-- The words of this layer, when they are whole, and what a function leaves of them.
use Rattle.std.specs.Prelude.{◌≡◌, List, [], ◌∷◌, ℕ, ◌≤◌, ◌<◌}
use Rattle.links.specs.Lists.{nobody, without, change}
use Rattle.places.specs.Places.{slots, places, put}
use Rattle.places.specs.Words.{PlaceWords, words as place_words_of, count as countIn, mark_of as markIn}
use Rattle.places.specs.Whole as places
use Rattle.wheel.specs.Wheel.{Lists, arrive}
use Rattle.wheel.specs.Occupied.{Occupied}

pub record WheelWords : Type 0 where
  pub elapsed : ℕ
  pub occupied : List ℕ
  pub places : PlaceWords

abbrev pub wheel_words : ℕ → List ℕ → PlaceWords → WheelWords
wheel_words e occ t = record { elapsed = e; occupied = occ; places = t }

abbrev pub words : ℕ → List ℕ → List ℕ → List (List ℕ) → List ℕ → List ℕ → List ℕ → WheelWords
words e occ tops hh ns ps ms = wheel_words e occ (place_words_of tops hh ns ps ms)

abbrev pub count : WheelWords → ℕ
count t = countIn t.places

abbrev pub mark_of : WheelWords → ℕ → ℕ
mark_of t i = markIn t.places i

-- the list of each place
abbrev pub lists : WheelWords → Lists
lists t = places.lists t.places

-- every list is whole, and the rows are those of the lists
pub record WheelWhole (t : WheelWords) : Type 0 where
  pub places : places.Whole t.places
  pub occupied : Occupied t.occupied (lists t)

-- t' is whole and has the lists L; elapsed, the number of records and the words past them are as they were
pub record Becomes (t : WheelWords) (L : Lists) (t' : WheelWords) : Type 0 where
  pub whole : WheelWhole t'
  pub lists : lists t' ≡ L
  pub elapsed : t'.elapsed ≡ t.elapsed
  pub kept : places.PlacesKept t.places t'.places

-- the record i is there and loose
pub record LooseIn (t : WheelWords) (i : ℕ) : Type 0 where
  pub below : i < count t
  pub loose : mark_of t i ≡ nobody

-- i, with the deadline w, joins its slot of level k
abbrev pub Arrives : WheelWords → ℕ → ℕ → ℕ → WheelWords → Type 0
Arrives t k w i t' = Becomes t (arrive k w i (lists t)) t'

-- i comes into the list of p
abbrev pub Comes : WheelWords → ℕ → ℕ → WheelWords → Type 0
Comes t p i t' = Becomes t (change (lists t) p (put p i (lists t p))) t'

-- ---- an entry comes into a slot

pub record CanAdd (t : WheelWords) (k i : ℕ) : Type 0 where
  pub whole : WheelWhole t
  pub level : k < 6
  pub item : LooseIn t i

-- ---- the head of a list leaves it

-- item is the head of p, which leaves it and is loose; from an empty list nobody does
pub record Pops (t : WheelWords) (p item : ℕ) (t' : WheelWords) : Type 0 where
  pub none : lists t p ≡ [] → (item ≡ nobody) × Becomes t (lists t) t'
  pub some : (x : ℕ) (l : List ℕ) → lists t p ≡ x ∷ l → (item ≡ x) × LooseIn t' x × Becomes t (change (lists t) p l) t'

-- of a slot
pub record CanPop (t : WheelWords) (k s : ℕ) : Type 0 where
  pub whole : WheelWhole t
  pub level : k < 6
  pub slot : s < 64

-- ---- a record comes to a list that is no slot

pub record CanPush (t : WheelWords) (p i : ℕ) : Type 0 where
  pub whole : WheelWhole t
  pub aside : slots ≤ p
  pub place : p < places
  pub item : LooseIn t i

-- ---- a record leaves whatever list it is in

pub record CanLeave (t : WheelWords) (i : ℕ) : Type 0 where
  pub whole : WheelWhole t
  pub below : i < count t
  pub listed : mark_of t i < places

-- i leaves the list of its mark, and is loose
pub record Leaves (t : WheelWords) (i : ℕ) (t' : WheelWords) : Type 0 where
  pub item : LooseIn t' i
  pub becomes : Becomes t (change (lists t) (mark_of t i) (without i (lists t (mark_of t i)))) t'
