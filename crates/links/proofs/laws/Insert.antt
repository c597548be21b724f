-- A loose record comes into a list: at its head (`fam_push`), and at its end (`fam_add`). Every other list stays, and the family is whole.
use mathlib.Core.Path.{◌≡◌, refl, sym, ap, ◌∙◌, subst}
use mathlib.Core.Logic.{◌≢◌, ◌⊎◌, inl, inr}
use mathlib.Core.List.{List, [], ◌∷◌, ◌++◌}
use mathlib.Core.Bool.{cond}
use Prim.Native.Nat.{ℕ, ◌<◌}
use native.Mathlib.Omega.{arith}
use lib.Dec.{eqb}
use borrow.Author.Tests.{ne_eqb}
use Rattle.links.specs.Lists.{nobody, Mem, first_d, last_d, change}
use Rattle.links.proofs.laws.Lists.{Nodup, change_same, mem_left, mem_right, mem_app, mem_last, first_not, last_not}
use Rattle.links.specs.Segments.{Seg}
use Rattle.links.proofs.laws.Segments.{seg_join, seg_start, seg_end}
use Rattle.links.specs.Family.{Net, Member, Fam, tail_or}
use Rattle.links.proofs.laws.Family.{Upd, Put, fam_some, fam_none, fam_nodup, fam_loose, fam_bare, fam_tail}
use Rattle.links.proofs.laws.Change.{fam_change}

-- what the stores of both have in common: i stands between the last and the first
pub record Between (s : Net) (p i : ℕ) (t : Net) : Type 0 where
  pub pv₁ : ℕ → ℕ
  pub prev : Upd s.pv i (tail_or i s.pv (s.hd p)) pv₁
  pub prev_first : Put pv₁ (s.hd p) i t.pv
  pub mark : Upd s.mk i p t.mk

last_snoc : (d i : ℕ) (l : List ℕ) → last_d d (l ++ i ∷ []) ≡ i
last_snoc d i [] = refl
last_snoc d i (x ∷ l) = last_snoc x i l

first_snoc : (i : ℕ) (l : List ℕ) → (Mem nobody l → ⊥) → cond (eqb (first_d nobody l) nobody) i (first_d nobody l) ≡ first_d nobody (l ++ i ∷ [])
first_snoc i [] h = refl
first_snoc i (x ∷ l) h = rw (ne_eqb x nobody (λ e. h (inl (sym e))))

module _ {P n : ℕ} {s : Net} {L : ℕ → List ℕ} (F : Fam P n s L) (p i : ℕ) {t : Net} (B : Between s p i t)
    (hp : p < P) (hi : i < n) (loose : s.mk i ≡ nobody) where
  i_some : i ≢ nobody
  i_some = omega (arith, F.small)

  not_new : (q y : ℕ) → Mem y (L q) → y ≢ i
  not_new q y m k = fam_loose F y (omega (arith, ap s.mk k, loose, F.few)) q m

  i_out : Mem i (L p) → ⊥
  i_out m = not_new p i m refl

  keeps_pv : (y : ℕ) → y ≢ i → y ≢ first_d nobody (L p) → t.pv y ≡ s.pv y
  keeps_pv y h k = B.prev_first.other y (λ z. k (z ∙ F.heads p)) ∙ B.prev.other y h

  own_prev : t.pv i ≡ last_d i (L p)
  own_prev =
      B.prev_first.other i (λ z. first_not i nobody (L p) i_some i_out (z ∙ F.heads p)) ∙ B.prev.same ∙ fam_tail F p i

  first_prev : (x : ℕ) (l : List ℕ) → L p ≡ x ∷ l → t.pv x ≡ i
  first_prev x l e =
      let h : s.hd p ≡ x = F.heads p ∙ ap (first_d nobody) e in
      ap t.pv (sym h) ∙ B.prev_first.same (λ z. fam_some F p x (rw e (inl refl)) (sym h ∙ z))

  old_mem : (j : ℕ) → Mem j (L p) → Member P n t p j
  old_mem j m =
      let M = F.mems p j m in
      record { place = M.place; below = M.below; mark = B.mark.other j (not_new p j m) ∙ M.mark }

  new_mem : (j : ℕ) → j ≡ i → Member P n t p j
  new_mem j e = rw e (record { place = hp; below = hi; mark = B.mark.same })

-- ---- i comes to the head of the list of p

pub record Pushed (s : Net) (p i : ℕ) (t : Net) : Type 0 where
  pub head : Upd s.hd p i t.hd
  pub next : Upd s.nx i (s.hd p) t.nx
  pub between : Between s p i t

pub fam_push : {P n : ℕ} {s : Net} {L : ℕ → List ℕ} → Fam P n s L → (p i : ℕ) {t : Net} → Pushed s p i t
    → p < P → i < n → s.mk i ≡ nobody → Fam P n t (change L p (i ∷ L p))
fam_push {P} {n} {s} {L} F p i {t} W hp hi lo =
    fam_change F
    (record {
      head = W.head;
      seg = (own_prev F p i B hp hi lo, W.next.same ∙ F.heads p, right (L p) refl);
      kept = λ y h d m. (W.next.other y d, keeps_pv F p i B hp hi lo y d (first_not y nobody (L p) h m));
      mark = B.mark.other;
      only = λ q d m. not_new F p i B hp hi lo q i m refl;
      mems = λ j m. mem j m;
      stay = λ j d m. inr m;
      self = inl (rw (B.mark.same, change_same) (inl refl));
    })
  where
    B : Between s p i t
    B = W.between

    mem : (j : ℕ) → Mem j (i ∷ L p) → Member P n t p j
    mem j (inl e) = new_mem F p i B hp hi lo j e
    mem j (inr m) = old_mem F p i B hp hi lo j m

    right : (l : List ℕ) → L p ≡ l → Seg t.nx t.pv i l nobody
    right [] e = tt
    right (x ∷ l) e =
        let mm : (y : ℕ) → Mem y (x ∷ l) → Mem y (L p) = λ y m. rw e m in
        seg_start s.nx s.pv t.nx t.pv (last_d x l) i x l nobody
        (subst Nodup e (fam_nodup F p))
        (λ y m. W.next.other y (not_new F p i B hp hi lo p y (mm y m)))
        (λ y m k. keeps_pv F p i B hp hi lo y (not_new F p i B hp hi lo p y (mm y m)) (λ j. k (j ∙ ap (first_d nobody) e)))
        (first_prev F p i B hp hi lo x l e)
        (rw e at (F.segs p))

-- ---- i comes to the end of the list of p

pub record Added (s : Net) (p i : ℕ) (t : Net) : Type 0 where
  pub head : Upd s.hd p (cond (eqb (s.hd p) nobody) i (s.hd p)) t.hd
  pub next_last : Put s.nx (tail_or nobody s.pv (s.hd p)) i t.nx
  pub between : Between s p i t

pub fam_add : {P n : ℕ} {s : Net} {L : ℕ → List ℕ} → Fam P n s L → (p i : ℕ) {t : Net} → Added s p i t
    → p < P → i < n → s.mk i ≡ nobody → Fam P n t (change L p (L p ++ i ∷ []))
fam_add {P} {n} {s} {L} F p i {t} W hp hi lo =
    fam_change F
    (record {
      head = record { same = W.head.same ∙ rw (F.heads p) (first_snoc i (L p) (fam_none F p)); other = W.head.other };
      seg =
          subst (λ (z : ℕ). Seg t.nx t.pv z (L p ++ i ∷ []) nobody) (sym (last_snoc nobody i (L p)))
          (seg_join t.nx t.pv i nobody (L p) (i ∷ []) (left (L p) refl) (own_prev F p i B hp hi lo, own_next, tt));
      kept = λ y h d m. (
        keeps_nx y (last_not y nobody (L p) h m),
        keeps_pv F p i B hp hi lo y d (first_not y nobody (L p) h m),
      );
      mark = B.mark.other;
      only = λ q d m. not_new F p i B hp hi lo q i m refl;
      mems = λ j m. mem j (mem_app j (L p) (i ∷ []) m);
      stay = λ j d m. mem_left j (L p) (i ∷ []) m;
      self = inl (rw (B.mark.same, change_same) (mem_right i (L p) (i ∷ []) (inl refl)));
    })
  where
    B : Between s p i t
    B = W.between

    tail : tail_or nobody s.pv (s.hd p) ≡ last_d nobody (L p)
    tail = fam_tail F p nobody

    keeps_nx : (y : ℕ) → y ≢ last_d nobody (L p) → t.nx y ≡ s.nx y
    keeps_nx y k = W.next_last.other y (λ z. k (z ∙ tail))

    own_next : t.nx i ≡ nobody
    own_next = keeps_nx i (last_not i nobody (L p) (i_some F p i B hp hi lo) (i_out F p i B hp hi lo)) ∙ (fam_bare F i hi (omega (arith, lo, F.few))).next

    mem : (j : ℕ) → Mem j (L p) ⊎ Mem j (i ∷ []) → Member P n t p j
    mem j (inl m) = old_mem F p i B hp hi lo j m
    mem j (inr (inl e)) = new_mem F p i B hp hi lo j e
    mem j (inr (inr m)) = absurd m

    left : (l : List ℕ) → L p ≡ l → Seg t.nx t.pv i l i
    left [] e = tt
    left (x ∷ l) e =
        let mm : (y : ℕ) → Mem y (x ∷ l) → Mem y (L p) = λ y m. rw e m in
        let d : Nodup (x ∷ l) = subst Nodup e (fam_nodup F p) in
        let la : last_d x l ≡ last_d nobody (L p) = ap (last_d nobody) (sym e) in
        let some : last_d x l ≢ nobody = fam_some F p (last_d x l) (mm (last_d x l) (mem_last x l)) in
        seg_start t.nx s.pv t.nx t.pv (last_d x l) i x l i d
        (λ y m. refl)
        (λ y m k. keeps_pv F p i B hp hi lo y (not_new F p i B hp hi lo p y (mm y m)) (λ j. k (j ∙ ap (first_d nobody) e)))
        (first_prev F p i B hp hi lo x l e)
        (seg_end s.nx s.pv t.nx s.pv (last_d x l) x l nobody i d
        (λ y m k. keeps_nx y (λ j. k (j ∙ sym la)))
        (λ y m. refl)
        (ap t.nx (la ∙ sym tail) ∙ W.next_last.same (λ z. some (la ∙ sym tail ∙ z)))
        (rw e at (F.segs p)))
