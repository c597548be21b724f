-- Laws of a family of lists: nobody is in two lists, nor twice in one; each list keeps its tail (`fam_tail`).
use mathlib.Core.Path.{◌≡◌, refl, sym, ap, ◌∙◌}
use mathlib.Core.Logic.{◌≢◌, ◌⊎◌, inl, inr, ⊎_elim}
use mathlib.Core.List.{List, [], ◌∷◌}
use Prim.Native.Nat.{ℕ, ◌≤◌, ◌<◌}
use native.Mathlib.Omega.{arith}
use borrow.Author.Tests.{eq-eqb, ne_eqb}
use Rattle.links.specs.Lists.{nobody, Mem, first_d, last_d}
use Rattle.links.proofs.laws.Lists.{Nodup, mem_last}
use Rattle.links.proofs.laws.Segments.{seg_nodup, seg_prev}
use Rattle.links.specs.Segments.{Seg}
use Rattle.links.specs.Family.{Net, Loose, Fam, tail_or}

-- g is f with v at k
pub record Upd {A : Type 0} (f : ℕ → A) (k : ℕ) (v : A) (g : ℕ → A) : Type 0 where
  pub same : g k ≡ v
  pub other : (j : ℕ) → j ≢ k → g j ≡ f j

-- g is f with v at k, unless k is nobody
pub record Put (f : ℕ → ℕ) (k v : ℕ) (g : ℕ → ℕ) : Type 0 where
  pub same : k ≢ nobody → g k ≡ v
  pub other : (j : ℕ) → j ≢ k → g j ≡ f j

module _ {P n : ℕ} {s : Net} {L : ℕ → List ℕ} (F : Fam P n s L) where
  pub fam_some : (p i : ℕ) → Mem i (L p) → i ≢ nobody
  fam_some p i m = omega (arith, (F.mems p i m).below, F.small)

  pub fam_none : (p : ℕ) → Mem nobody (L p) → ⊥
  fam_none p m = fam_some p nobody m refl

  pub fam_nodup : (p : ℕ) → Nodup (L p)
  fam_nodup p = seg_nodup s.nx s.pv (last_d nobody (L p)) (L p) (fam_none p) (F.segs p)

  -- nobody is in two lists, and no loose one in any
  pub fam_apart : (p q : ℕ) → q ≢ p → (i : ℕ) → Mem i (L q) → Mem i (L p) → ⊥
  fam_apart p q d i m k = d (sym (F.mems q i m).mark ∙ (F.mems p i k).mark)

  pub fam_loose : (i : ℕ) → P ≤ s.mk i → (p : ℕ) → Mem i (L p) → ⊥
  fam_loose i e p m = let M = F.mems p i m in omega (arith, M.place, M.mark, e)

  -- whose mark is no place has no link
  pub fam_bare : (i : ℕ) → i < n → P ≤ s.mk i → Loose P s i
  fam_bare i hi e = ⊎_elim (λ m. absurd (fam_loose i e (s.mk i) m)) (λ o. o) (F.cover i hi)

  -- a marked record is in the list of its mark
  pub fam_marked : (i : ℕ) → i < n → s.mk i < P → Mem i (L (s.mk i))
  fam_marked i hi h = by (F.cover i hi)
    where
      by : Mem i (L (s.mk i)) ⊎ Loose P s i → Mem i (L (s.mk i))
      by (inl m) = m
      by (inr l) = absurd (omega (arith, l.mark, h))

  -- a list by its head
  pub fam_empty : (p : ℕ) → s.hd p ≡ nobody → L p ≡ []
  fam_empty p h = by (L p) refl
    where
      by : (l : List ℕ) → L p ≡ l → L p ≡ []
      by [] e = e
      by (x ∷ l) e = absurd (fam_some p x (rw e (inl refl)) (sym (F.heads p ∙ ap (first_d nobody) e) ∙ h))

  pub fam_cons : (p : ℕ) → s.hd p ≢ nobody → (l : List ℕ) × (L p ≡ s.hd p ∷ l)
  fam_cons p h = by (L p) refl
    where
      by : (l : List ℕ) → L p ≡ l → (k : List ℕ) × (L p ≡ s.hd p ∷ k)
      by [] e = absurd (h (F.heads p ∙ ap (first_d nobody) e))
      by (x ∷ l) e = (l, e ∙ ap (λ (y : ℕ). y ∷ l) (sym (F.heads p ∙ ap (first_d nobody) e)))

  -- each list keeps its tail
  pub fam_tail : (p d : ℕ) → tail_or d s.pv (s.hd p) ≡ last_d d (L p)
  fam_tail p d = by (L p) refl
    where
      by : (l : List ℕ) → L p ≡ l → tail_or d s.pv (s.hd p) ≡ last_d d (L p)
      by [] e =
          let h : s.hd p ≡ nobody = F.heads p ∙ ap (first_d nobody) e in
          rw (eq-eqb (s.hd p) nobody h, e)
      by (x ∷ l) e =
          let h : s.hd p ≡ x = F.heads p ∙ ap (first_d nobody) e in
          let k : x ≢ nobody = fam_some p x (rw e (inl refl)) in
          let g : Seg s.nx s.pv (last_d x l) (x ∷ l) nobody = rw e at (F.segs p) in
          rw (h, ne_eqb x nobody k, e) g.0

  -- so the back link of a member is one of its list
  pub fam_before : (p i : ℕ) → Mem i (L p) → Mem (s.pv i) (L p)
  fam_before p i m =
      ⊎_elim (λ (e : s.pv i ≡ last_d nobody (L p)). rw e (last (L p) m)) (λ k. k)
      (seg_prev s.nx s.pv (last_d nobody (L p)) nobody (L p) (F.segs p) i m)
    where
      last : (l : List ℕ) → Mem i l → Mem (last_d nobody l) l
      last [] k = absurd k
      last (x ∷ l) k = mem_last x l
