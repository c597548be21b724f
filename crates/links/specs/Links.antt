-- The words of the links, as lists, and what the functions make of them. The heads are the caller's: a function from a place to its head.
use Rattle.std.specs.Prelude.{◌≢◌, List, cond, ℕ, ◌≤◌, ◌<◌, length, get_or, set, eqb}
use Rattle.links.specs.Lists.{nobody}
use Rattle.links.specs.Family.{Net, tail_or, head_left, link_past, back_past}

pub record Links : Type 0 where
  pub nexts : List ℕ
  pub prevs : List ℕ
  pub marks : List ℕ

abbrev pub links : List ℕ → List ℕ → List ℕ → Links
links ns ps ms = record { nexts = ns; prevs = ps; marks = ms }

-- what stands at an index
abbrev pub at : List ℕ → ℕ → ℕ
at l i = get_or l i 0

abbrev pub net : (ℕ → ℕ) → Links → Net
net hd s = record { hd = hd; nx = at s.nexts; pv = at s.prevs; mk = at s.marks }

-- v at k, unless k is nobody
abbrev pub set_n : List ℕ → ℕ → ℕ → List ℕ
set_n l k v = cond (eqb k nobody) l (set l k v)

-- the back links, when i comes between the tail and h, the head: alone it is its own tail
unfoldable pub between : List ℕ → ℕ → ℕ → List ℕ
between ps i h = set_n (set ps i (tail_or i (at ps) h)) h i

-- i comes in front of h, with the mark p
unfoldable pub joined : Links → ℕ → ℕ → ℕ → Links
joined s p i h = links (set s.nexts i h) (between s.prevs i h) (set s.marks i p)

-- i, which has no link, comes after the tail of the list whose head is h, with the mark p
unfoldable pub added : Links → ℕ → ℕ → ℕ → Links
added s p i h = links (set_n s.nexts (tail_or nobody (at s.prevs) h) i) (between s.prevs i h) (set s.marks i p)

-- the head, h before, of the list that i came to the tail of
unfoldable pub head_with : ℕ → ℕ → ℕ
head_with i h = cond (eqb h nobody) i h

-- i leaves its neighbours in the list of the head h, who are joined, and is loose
unfoldable pub cut_out : Links → ℕ → ℕ → Links
cut_out s i h =
    links (set (set_n s.nexts (link_past (at s.prevs) i h) (at s.nexts i)) i nobody)
    (set (set_n s.prevs (back_past (at s.nexts) i h) (at s.prevs i)) i nobody)
    (set s.marks i nobody)

-- the head, h before, of the list that i leaves
unfoldable pub head_after : Links → ℕ → ℕ → ℕ
head_after s i h = head_left (at s.nexts) i h

-- i, which is in no list, gets the mark m
abbrev pub marked : Links → ℕ → ℕ → Links
marked s i m = links s.nexts s.prevs (set s.marks i m)

-- n records are there
pub record Room (n : ℕ) (s : Links) : Type 0 where
  pub nexts : n ≤ length s.nexts
  pub prevs : n ≤ length s.prevs
  pub marks : n ≤ length s.marks

-- k is nobody, or an index of l
abbrev pub Inside : ℕ → List ℕ → Type 0
Inside k l = k ≢ nobody → k < length l

-- for both ends
pub record CanJoin (s : Links) (i h : ℕ) : Type 0 where
  pub next : i < length s.nexts
  pub prev : i < length s.prevs
  pub mark : i < length s.marks
  pub first : Inside h s.prevs
  pub last : Inside (tail_or nobody (at s.prevs) h) s.nexts

pub record CanCut (s : Links) (i h : ℕ) : Type 0 where
  pub next : i < length s.nexts
  pub prev : i < length s.prevs
  pub mark : i < length s.marks
  pub link : Inside (link_past (at s.prevs) i h) s.nexts
  pub back : Inside (back_past (at s.nexts) i h) s.prevs
