-- Words that hold a family of lists, and what is kept of words.
use Rattle.std.specs.Prelude.{◌≡◌, List, ℕ, ◌≤◌, length}
use Rattle.links.specs.Family.{Fam}
use Rattle.links.specs.Walk.{lists}
use Rattle.links.specs.Links.{Links, at, net, Room}

-- the lists that a walk reads, of n records
abbrev pub lists_of : ℕ → (ℕ → ℕ) → Links → ℕ → List ℕ
lists_of n hd s = lists (net hd s) n

-- n records are there, and heads, links and marks hold the lists of P places
pub record Whole (P n : ℕ) (hd : ℕ → ℕ) (s : Links) : Type 0 where
  pub room : Room n s
  pub fam : Fam P n (net hd s) (lists_of n hd s)

-- the words of n records may differ; all others, and the length, are as they were
pub record Kept (n : ℕ) (l m : List ℕ) : Type 0 where
  pub size : length m ≡ length l
  pub past : (j : ℕ) → n ≤ j → at m j ≡ at l j

pub record LinksKept (n : ℕ) (s t : Links) : Type 0 where
  pub nexts : Kept n s.nexts t.nexts
  pub prevs : Kept n s.prevs t.prevs
  pub marks : Kept n s.marks t.marks
