-- One list of a family changes, by one record that comes or goes: what has to be shown for the family to stay whole (`fam_change`).
use mathlib.Core.Path.{◌≡◌, sym, ap, ◌∙◌}
use mathlib.Core.Logic.{◌≢◌, ◌⊎◌, inl, inr, ⊎_elim}
use mathlib.Core.List.{List}
use Prim.Native.Nat.{ℕ, ◌<◌}
use native.Mathlib.Omega.{arith}
use native.Mathlib.Decide.{ℕ_discrete}
use Rattle.links.specs.Lists.{nobody, Mem, first_d, last_d, change}
use Rattle.links.proofs.laws.Lists.{change_same, change_other}
use Rattle.links.specs.Segments.{Seg}
use Rattle.links.proofs.laws.Segments.{seg_frame}
use Rattle.links.specs.Family.{Net, Loose, Member, Fam}
use Rattle.links.proofs.laws.Family.{Upd, fam_some, fam_apart, fam_loose}

-- t holds l at p; nobody but i comes or goes, and whoever is neither i nor in the list of p keeps both links
pub record Changed (P n : ℕ) (s : Net) (L : ℕ → List ℕ) (p i : ℕ) (l : List ℕ) (t : Net) : Type 0 where
  pub head : Upd s.hd p (first_d nobody l) t.hd
  pub seg : Seg t.nx t.pv (last_d nobody l) l nobody
  pub kept : (y : ℕ) → y ≢ nobody → y ≢ i → (Mem y (L p) → ⊥) → (t.nx y ≡ s.nx y) × (t.pv y ≡ s.pv y)
  pub mark : (j : ℕ) → j ≢ i → t.mk j ≡ s.mk j
  pub only : (q : ℕ) → q ≢ p → Mem i (L q) → ⊥
  pub mems : (j : ℕ) → Mem j l → Member P n t p j
  pub stay : (j : ℕ) → j ≢ i → Mem j (L p) → Mem j l
  pub self : Mem i (change L p l (t.mk i)) ⊎ Loose P t i

module _ {P n : ℕ} {s : Net} {L : ℕ → List ℕ} (F : Fam P n s L) {p i : ℕ} {l : List ℕ} {t : Net} (C : Changed P n s L p i l t) where
  heads' : (q : ℕ) → Dec (q ≡ p) → t.hd q ≡ first_d nobody (change L p l q)
  heads' q (yes e) = rw (e, change_same) C.head.same
  heads' q (no d) = C.head.other q d ∙ F.heads q ∙ ap (first_d nobody) (sym (change_other L p l q d))

  not_self : (q : ℕ) → q ≢ p → (y : ℕ) → Mem y (L q) → y ≢ i
  not_self q d y m = λ (e : y ≡ i). C.only q d (rw e at m)

  segs' : (q : ℕ) → Dec (q ≡ p) → Seg t.nx t.pv (last_d nobody (change L p l q)) (change L p l q) nobody
  segs' q (yes e) = rw (e, change_same) C.seg
  segs' q (no d) =
      let kept : (y : ℕ) → Mem y (L q) → (t.nx y ≡ s.nx y) × (t.pv y ≡ s.pv y)
      = λ y m. C.kept y (fam_some F q y m) (not_self q d y m) (fam_apart F p q d y m) in
      rw (change_other L p l q d)
      (seg_frame s.nx s.pv t.nx t.pv (last_d nobody (L q)) (L q) nobody (λ y m. (kept y m).0) (λ y m. (kept y m).1) (F.segs q))

  mems' : (q : ℕ) → Dec (q ≡ p) → (j : ℕ) → Mem j (change L p l q) → Member P n t q j
  mems' q (yes e) j m = rw e (C.mems j (rw (e, change_same) at m))
  mems' q (no d) j m =
      let k : Mem j (L q) = rw (change_other L p l q d) at m in
      let M = F.mems q j k in
      record { place = M.place; below = M.below; mark = C.mark j (not_self q d j k) ∙ M.mark }

  still_in : (q j : ℕ) → j ≢ i → Dec (q ≡ p) → Mem j (L q) → Mem j (change L p l q)
  still_in q j d (yes e) m = rw (e, change_same) (C.stay j d (rw e at m))
  still_in q j d (no k) m = rw (change_other L p l q k) m

  still_loose : (j : ℕ) → j < n → j ≢ i → Loose P s j → Loose P t j
  still_loose j hj d o =
      let k = C.kept j (omega (arith, F.small)) d (fam_loose F j o.mark p) in
      record { mark = rw (C.mark j d) o.mark; next = k.0 ∙ o.next; prev = k.1 ∙ o.prev }

  cover' : (j : ℕ) → j < n → Dec (j ≡ i) → Mem j (change L p l (t.mk j)) ⊎ Loose P t j
  cover' j hj (yes e) = rw e C.self
  cover' j hj (no d) =
      ⊎_elim
      (λ m. inl (rw (C.mark j d) (still_in (s.mk j) j d (ℕ_discrete (s.mk j) p) m)))
      (λ o. inr (still_loose j hj d o))
      (F.cover j hj)

  pub fam_change : Fam P n t (change L p l)
  fam_change =
      record {
        few = F.few;
        small = F.small;
        heads = λ q. heads' q (ℕ_discrete q p);
        segs = λ q. segs' q (ℕ_discrete q p);
        mems = λ q. mems' q (ℕ_discrete q p);
        cover = λ j hj. cover' j hj (ℕ_discrete j i);
      }
