-- The words of this layer, and what the functions make of them.
use Rattle.std.specs.Prelude.{◌≡◌, ◌≢◌, List, cond, ℕ, ◌<◌, eqb}
use Rattle.links.specs.Lists.{nobody}
use Rattle.links.specs.Links.{Links, links, at, joined, added, head_with, cut_out, head_after, marked, CanJoin, CanCut}
use Rattle.places.specs.declared.Tops.{Tops}
use Rattle.places.specs.Places.{slot_place, free, places, retired}
use Rattle.places.specs.Heads.{head_of, heads_with, tops_by, tops_with, slot_head}

pub record PlaceWords : Type 0 where
  pub tops : Tops
  pub heads : List (List ℕ)
  pub links : Links

abbrev pub place_words : Tops → List (List ℕ) → Links → PlaceWords
place_words st hh ls = record { tops = st; heads = hh; links = ls }

-- the four words of `tops`: how many records there are, and the heads of the lists that are no slot
abbrev pub tops_of : List ℕ → Tops
tops_of tops = tops_by (at tops 0) (at tops 1) (at tops 2) (at tops 3)

abbrev pub words : List ℕ → List (List ℕ) → List ℕ → List ℕ → List ℕ → PlaceWords
words tops hh ns ps ms = place_words (tops_of tops) hh (links ns ps ms)

-- of a function that `tops` is not lent to: R holds before and after, whatever stands there
module _ (heads : List (List ℕ)) (ls : Links) (heads' : List (List ℕ)) (ls' : Links) where
  abbrev pub Slotwise : (PlaceWords → PlaceWords → Type 0) → Type 0
  Slotwise R = (st : Tops) → R (place_words st heads ls) (place_words st heads' ls')

-- how many records there are
abbrev pub count : PlaceWords → ℕ
count t = t.tops.n

-- the head of a place, the mark of a record
abbrev pub head_at : PlaceWords → ℕ → ℕ
head_at t p = head_of t.tops t.heads p

abbrev pub mark_of : PlaceWords → ℕ → ℕ
mark_of t i = at t.links.marks i

-- v becomes the head of the place p, over the links ls
abbrev pub with_head : PlaceWords → ℕ → ℕ → Links → PlaceWords
with_head t p v ls = place_words (tops_with t.tops p v) (heads_with t.heads p v) ls

-- i comes to the head of the list of p, or to its tail
abbrev pub to_head : PlaceWords → ℕ → ℕ → PlaceWords
to_head t p i = with_head t p i (joined t.links p i (head_at t p))

abbrev pub to_tail : PlaceWords → ℕ → ℕ → PlaceWords
to_tail t p i = with_head t p (head_with i (head_at t p)) (added t.links p i (head_at t p))

-- i comes into the list of p: at the head of the free list, at the tail of every other
unfoldable pub push : PlaceWords → ℕ → ℕ → PlaceWords
push t p i = cond (eqb p free) (to_head t p i) (to_tail t p i)

-- i leaves the list of its mark
unfoldable pub remove : PlaceWords → ℕ → PlaceWords
remove t i = with_head t (mark_of t i) (head_after t.links i (head_at t (mark_of t i))) (cut_out t.links i (head_at t (mark_of t i)))

-- the head of the list of p leaves it, if there is one
unfoldable pub pop : PlaceWords → ℕ → PlaceWords
pop t p = cond (eqb (head_at t p) nobody) t (remove t (head_at t p))

-- i, which is in no list, is retired
abbrev pub retire : PlaceWords → ℕ → PlaceWords
retire t i = place_words t.tops t.heads (marked t.links i retired)

-- p is a place, and i can come into its list
abbrev pub CanPush : PlaceWords → ℕ → ℕ → Type 0
CanPush t p i = (p < places) × CanJoin t.links i (head_at t p)

-- i has the mark of a place, and can leave its neighbours
abbrev pub CanRemove : PlaceWords → ℕ → Type 0
CanRemove t i = (mark_of t i < places) × CanCut t.links i (head_at t (mark_of t i))

-- p is a place, and its head can leave it
pub record CanPop (t : PlaceWords) (p : ℕ) : Type 0 where
  pub place : p < places
  pub marked : head_at t p ≢ nobody → mark_of t (head_at t p) < places
  pub linked : head_at t p ≢ nobody → CanCut t.links (head_at t p) (head_at t (mark_of t (head_at t p)))

-- s is a slot of level k, and i can come into its list
pub record CanPushSlot (hh : List (List ℕ)) (ls : Links) (k s i : ℕ) : Type 0 where
  pub level : k < 6
  pub slot : s < 64
  pub linked : CanJoin ls i (slot_head hh k s)

-- s is a slot of level k, and its head can leave it
pub record CanPopSlot (hh : List (List ℕ)) (ls : Links) (k s : ℕ) : Type 0 where
  pub level : k < 6
  pub slot : s < 64
  pub marked : slot_head hh k s ≢ nobody → at ls.marks (slot_head hh k s) ≡ slot_place k s
  pub linked : slot_head hh k s ≢ nobody → CanCut ls (slot_head hh k s) (slot_head hh k s)
