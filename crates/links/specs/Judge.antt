-- The judge of a family: each list is walked with the room that the lists before it left, from its tail round to its tail, and what is left in the
-- end must be the number of the loose records.
use Rattle.std.specs.Prelude.{Bool, false, cond, ◌&&◌, ℕ, zero, suc, eqb, ltb, leb, Option, Some, None, option_and_then}
use Rattle.links.specs.Lists.{nobody}
use Rattle.links.specs.Family.{Net, tail_or}
use Rattle.links.specs.Count.{cnt}
use Rattle.links.specs.Links.{Links, at}

-- ---- one list

-- h may follow prev in the list of p
abbrev pub good : (ℕ → ℕ) → (ℕ → ℕ) → (ℕ → ℕ) → ℕ → ℕ → ℕ → ℕ → Bool
good nx pv mk n p prev h = ltb h n && (eqb (mk h) p && eqb (pv h) prev)

-- the walk is at its end, after prev: that is the tail, or all is wrong
abbrev pub ends : ℕ → ℕ → ℕ → Option ℕ
ends tail prev left = cond (eqb prev tail) (Some left) None

-- the list of p from h on, after prev: wrong, also where it has more members than there is room or does not end with the tail, or what they leave
-- of the room
unfoldable pub scan : (ℕ → ℕ) → (ℕ → ℕ) → (ℕ → ℕ) → ℕ → ℕ → ℕ → ℕ → ℕ → ℕ → Option ℕ
scan nx pv mk n tail p zero prev h = cond (eqb h nobody) (ends tail prev 0) None
scan nx pv mk n tail p (suc k) prev h =
    cond (eqb h nobody) (ends tail prev (suc k)) (cond (good nx pv mk n p prev h) (scan nx pv mk n tail p k h (nx h)) None)

-- the whole list of p, of the head h: it begins after its tail
abbrev pub scan_list : (ℕ → ℕ) → (ℕ → ℕ) → (ℕ → ℕ) → ℕ → ℕ → ℕ → ℕ → Option ℕ
scan_list nx pv mk n p left h = scan nx pv mk n (tail_or nobody pv h) p left (tail_or nobody pv h) h

-- ---- every list

-- the k places from p on
unfoldable pub scan_all : Net → ℕ → ℕ → ℕ → ℕ → Option ℕ
scan_all s n zero p left = Some left
scan_all s n (suc k) p left = option_and_then (λ m. scan_all s n k (suc p) m) (scan_list s.nx s.pv s.mk n p left (s.hd p))

-- the mark is none of P places, and there is no link
abbrev pub bare : ℕ → ℕ → ℕ → ℕ → Bool
bare P next prev mark = leb P mark && (eqb next nobody && eqb prev nobody)

abbrev pub is_loose : ℕ → (ℕ → ℕ) → (ℕ → ℕ) → (ℕ → ℕ) → ℕ → Bool
is_loose P nx pv mk i = bare P (nx i) (pv i) (mk i)

unfoldable pub loose_in : ℕ → (ℕ → ℕ) → (ℕ → ℕ) → (ℕ → ℕ) → ℕ → ℕ
loose_in P nx pv mk n = cnt (is_loose P nx pv mk) n

-- the same two of the links: the list of p from its head h on, and how many of n records are loose
abbrev pub walk_of : Links → ℕ → ℕ → ℕ → ℕ → Option ℕ
walk_of s n p room h = scan_list (at s.nexts) (at s.prevs) (at s.marks) n p room h

abbrev pub loose_of : ℕ → Links → ℕ → ℕ
loose_of P s n = loose_in P (at s.nexts) (at s.prevs) (at s.marks) n

-- just so much is left
abbrev pub leaves : Option ℕ → ℕ → Bool
leaves None c = false
leaves (Some m) c = eqb m c
