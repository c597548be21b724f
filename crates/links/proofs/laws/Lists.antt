-- Laws of lists of record numbers.
use mathlib.Core.Path.{◌≡◌, refl, sym, ap, subst}
use mathlib.Core.Logic.{◌≢◌, ◌⊎◌, inl, inr, ⊎_elim}
use mathlib.Core.List.{List, [], ◌∷◌, ◌++◌}
use Prim.Native.Nat.{ℕ}
use borrow.Author.Tests.{eq-eqb, ne_eqb}
use Rattle.links.specs.Lists.{Mem, first_d, last_d, without, change}

-- nobody is in the list twice
abbrev pub Nodup : List ℕ → Type 0
Nodup [] = Unit {0}
Nodup (x ∷ l) = (Mem x l → ⊥) × Nodup l

-- ---- membership

pub mem_left : (i : ℕ) (a b : List ℕ) → Mem i a → Mem i (a ++ b)
mem_left i [] b m = absurd m
mem_left i (x ∷ a) b (inl e) = inl e
mem_left i (x ∷ a) b (inr m) = inr (mem_left i a b m)

pub mem_right : (i : ℕ) (a b : List ℕ) → Mem i b → Mem i (a ++ b)
mem_right i [] b m = m
mem_right i (x ∷ a) b m = inr (mem_right i a b m)

pub mem_app : (i : ℕ) (a b : List ℕ) → Mem i (a ++ b) → Mem i a ⊎ Mem i b
mem_app i [] b m = inr m
mem_app i (x ∷ a) b (inl e) = inl (inl e)
mem_app i (x ∷ a) b (inr m) = ⊎_elim (λ h. inl (inr h)) (λ h. inr h) (mem_app i a b m)

pub mem_split : (i : ℕ) (l : List ℕ) → Mem i l → (a : List ℕ) × (b : List ℕ) × (l ≡ a ++ i ∷ b)
mem_split i [] m = absurd m
mem_split i (x ∷ l) (inl e) = ([], l, ap (λ (y : ℕ). y ∷ l) (sym e))
mem_split i (x ∷ l) (inr m) =
    let r = mem_split i l m in
    (x ∷ r.0, r.1, ap (λ (y : List ℕ). x ∷ y) r.2)

pub mem_cast : (i j : ℕ) (l : List ℕ) → i ≡ j → Mem i l → Mem j l
mem_cast i j l e m = subst (λ (k : ℕ). Mem k l) e m

-- the first and the last of a list that is not empty are in it
pub mem_first : (e : ℕ) (l : List ℕ) → first_d e l ≢ e → Mem (first_d e l) l
mem_first e [] h = absurd (h refl)
mem_first e (x ∷ l) h = inl refl

pub mem_last : (x : ℕ) (l : List ℕ) → Mem (last_d x l) (x ∷ l)
mem_last x [] = inl refl
mem_last x (y ∷ l) = inr (mem_last y l)

-- who is not in a list is neither its first nor its last
pub first_not : (y e : ℕ) (l : List ℕ) → y ≢ e → (Mem y l → ⊥) → y ≢ first_d e l
first_not y e [] h m = h
first_not y e (x ∷ l) h m = λ k. m (inl k)

pub last_not : (y e : ℕ) (l : List ℕ) → y ≢ e → (Mem y l → ⊥) → y ≢ last_d e l
last_not y e [] h m = h
last_not y e (x ∷ l) h m = λ k. m (mem_cast (last_d x l) y (x ∷ l) (sym k) (mem_last x l))

-- ---- no repeats: the parts of a whole repeat nothing, and share nothing

pub nodup_left : (a b : List ℕ) → Nodup (a ++ b) → Nodup a
nodup_left [] b d = tt
nodup_left (x ∷ a) b d = (λ m. d.0 (mem_left x a b m), nodup_left a b d.1)

pub nodup_right : (a b : List ℕ) → Nodup (a ++ b) → Nodup b
nodup_right [] b d = d
nodup_right (x ∷ a) b d = nodup_right a b d.1

pub nodup_apart : (a b : List ℕ) → Nodup (a ++ b) → (x : ℕ) → Mem x a → Mem x b → ⊥
nodup_apart [] b d x m k = m
nodup_apart (y ∷ a) b d x (inl e) k = d.0 (mem_right y a b (mem_cast x y b e k))
nodup_apart (y ∷ a) b d x (inr m) k = nodup_apart a b d.1 x m k

pub nodup_join : (a b : List ℕ) → Nodup a → Nodup b → ((i : ℕ) → Mem i a → Mem i b → ⊥) → Nodup (a ++ b)
nodup_join [] b da db h = db
nodup_join (x ∷ a) b da db h = (
  λ m. ⊎_elim da.0 (h x (inl refl)) (mem_app x a b m),
  nodup_join a b da.1 db (λ i m. h i (inr m)),
)

-- ---- one leaves

pub without_split : (i : ℕ) (a b : List ℕ) → (Mem i a → ⊥) → without i (a ++ i ∷ b) ≡ a ++ b
without_split i [] b h = rw (eq-eqb i i refl)
without_split i (x ∷ a) b h =
    rw (ne_eqb x i (λ e. h (inl (sym e)))) (ap (λ (l : List ℕ). x ∷ l) (without_split i a b (λ m. h (inr m))))

-- the first one leaves
pub without_first : (x : ℕ) (l : List ℕ) → without x (x ∷ l) ≡ l
without_first x l = without_split x [] l (λ m. m)

-- ---- a family with one list changed

pub change_same : (L : ℕ → List ℕ) (p : ℕ) (l : List ℕ) → change L p l p ≡ l
unfolding change
change_same L p l = rw (eq-eqb p p refl)

pub change_other : (L : ℕ → List ℕ) (p : ℕ) (l : List ℕ) (q : ℕ) → q ≢ p → change L p l q ≡ L q
unfolding change
change_other L p l q d = rw (ne_eqb q p d)
