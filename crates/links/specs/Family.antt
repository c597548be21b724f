-- A family of lists, one for each place, as heads, links and marks lay it out.
use Rattle.std.specs.Prelude.{◌≡◌, ◌⊎◌, List, cond, ℕ, ◌≤◌, ◌<◌, eqb}
use Rattle.links.specs.Lists.{nobody, Mem, first_d, last_d}
use Rattle.links.specs.Segments.{Seg}

-- the head of each place; the two links and the mark of each record
pub record Net : Type 0 where
  pub hd : ℕ → ℕ
  pub nx : ℕ → ℕ
  pub pv : ℕ → ℕ
  pub mk : ℕ → ℕ

-- i is in no list, for good or on its way from one to another: its mark is none of the P places, and it has no link
pub record Loose (P : ℕ) (s : Net) (i : ℕ) : Type 0 where
  pub mark : P ≤ s.mk i
  pub next : s.nx i ≡ nobody
  pub prev : s.pv i ≡ nobody

-- what a member i of the list of p is: p is one of P places, i one of n records, and its mark tells the true place
pub record Member (P n : ℕ) (s : Net) (p i : ℕ) : Type 0 where
  pub place : p < P
  pub below : i < n
  pub mark : s.mk i ≡ p

-- L p is the list of the place p. Links agree both ways. "Each list keeps a tail": it lies after its own last, which is the head's back link.
-- Every record is in exactly one list, or loose. A number that is no place has no members
pub record Fam (P n : ℕ) (s : Net) (L : ℕ → List ℕ) : Type 0 where
  pub few : P ≤ nobody
  pub small : n ≤ nobody
  pub heads : (p : ℕ) → s.hd p ≡ first_d nobody (L p)
  pub segs : (p : ℕ) → Seg s.nx s.pv (last_d nobody (L p)) (L p) nobody
  pub mems : (p i : ℕ) → Mem i (L p) → Member P n s p i
  pub cover : (i : ℕ) → i < n → Mem i (L (s.mk i)) ⊎ Loose P s i

-- ---- what a list's head h tells

-- the tail: the head's back link, or d where nobody is the head
abbrev pub tail_or : ℕ → (ℕ → ℕ) → ℕ → ℕ
tail_or d pv h = cond (eqb h nobody) d (pv h)

-- the head when i leaves
abbrev pub head_left : (ℕ → ℕ) → ℕ → ℕ → ℕ
head_left nx i h = cond (eqb i h) (nx i) h

-- whose link goes past i when it leaves: nobody's, where i is the head
abbrev pub link_past : (ℕ → ℕ) → ℕ → ℕ → ℕ
link_past pv i h = cond (eqb i h) nobody (pv i)

-- whose back link does: where i is the tail it is the head's, which keeps the new tail
abbrev pub back_past : (ℕ → ℕ) → ℕ → ℕ → ℕ
back_past nx i h = cond (eqb (nx i) nobody) (head_left nx i h) (nx i)
