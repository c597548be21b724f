-- A record leaves the list of its mark and is loose (`fam_unlink`). Every other list stays, and the family is whole.
use mathlib.Core.Path.{◌≡◌, refl, sym, ap, ◌∙◌, subst}
use mathlib.Core.Logic.{◌≢◌, ◌⊎◌, inl, inr}
use mathlib.Core.List.{List, [], ◌∷◌, ◌++◌, append-nil}
use Prim.Native.Nat.{ℕ, ◌<◌}
use borrow.Author.Tests.{eq-eqb, ne_eqb}
use Rattle.links.specs.Lists.{nobody, Mem, first_d, last_d, without, change}
use Rattle.links.proofs.laws.Lists.{Nodup, without_split, mem_left, mem_right, mem_app, mem_split, mem_cast, mem_last, first_not, last_not, nodup_left, nodup_right, nodup_apart}
use Rattle.links.specs.Segments.{Seg}
use Rattle.links.proofs.laws.Segments.{seg_left, seg_right, seg_join, seg_start, seg_end}
use Rattle.links.specs.Family.{Net, Member, Fam, head_left, link_past, back_past}
use Rattle.links.proofs.laws.Family.{Upd, Put, fam_some, fam_nodup, fam_apart, fam_marked}
use Rattle.links.proofs.laws.Change.{fam_change}

-- what the stores of an unlinking of i leave: its neighbours are joined, and its own links and mark are cleared
pub record Unlinked (s : Net) (i : ℕ) (t : Net) : Type 0 where
  pub head : Upd s.hd (s.mk i) (head_left s.nx i (s.hd (s.mk i))) t.hd
  pub nx₁ : ℕ → ℕ
  pub next : Put s.nx (link_past s.pv i (s.hd (s.mk i))) (s.nx i) nx₁
  pub next_own : Upd nx₁ i nobody t.nx
  pub pv₁ : ℕ → ℕ
  pub prev : Put s.pv (back_past s.nx i (s.hd (s.mk i))) (s.pv i) pv₁
  pub prev_own : Upd pv₁ i nobody t.pv
  pub mark : Upd s.mk i nobody t.mk

-- a list's last does not depend on what stands before a part that is not empty
last_app : (d e i : ℕ) (a : List ℕ) (y : ℕ) (m : List ℕ) → last_d d (a ++ i ∷ y ∷ m) ≡ last_d e (a ++ y ∷ m)
last_app d e i [] y m = refl
last_app d e i (x ∷ a) y m = last_app x x i a y m

first_app : (a : List ℕ) → first_d nobody (a ++ []) ≡ first_d nobody a
first_app [] = refl
first_app (x ∷ a) = refl

module _ {P n : ℕ} {s : Net} {L : ℕ → List ℕ} (F : Fam P n s L) (i : ℕ) {t : Net} (D : Unlinked s i t)
    (a b : List ℕ) (split : L (s.mk i) ≡ a ++ i ∷ b) where
  in_left : (y : ℕ) → Mem y a → Mem y (L (s.mk i))
  in_left y m = subst (λ (l : List ℕ). Mem y l) (sym split) (mem_left y a (i ∷ b) m)

  in_right : (y : ℕ) → Mem y (i ∷ b) → Mem y (L (s.mk i))
  in_right y m = subst (λ (l : List ℕ). Mem y l) (sym split) (mem_right y a (i ∷ b) m)

  nodup : Nodup (a ++ i ∷ b)
  nodup = subst Nodup split (fam_nodup F (s.mk i))

  -- the last before, and the last after
  abbrev old : ℕ
  old = last_d nobody (a ++ i ∷ b)

  abbrev new : ℕ
  new = last_d nobody (a ++ b)

  seg : Seg s.nx s.pv old (a ++ i ∷ b) nobody
  seg = subst (λ (l : List ℕ). Seg s.nx s.pv (last_d nobody l) l nobody) split (F.segs (s.mk i))

  -- the right part begins with i
  seg_i : Seg s.nx s.pv (last_d old a) (i ∷ b) nobody
  seg_i = seg_right s.nx s.pv old nobody a (i ∷ b) seg

  not_left : (y : ℕ) → Mem y a → y ≢ i
  not_left y m k = nodup_apart a (i ∷ b) nodup y m (inl k)

  not_right : (y : ℕ) → Mem y b → y ≢ i
  not_right y m k = (nodup_right a (i ∷ b) nodup).0 (mem_cast y i b k m)

  apart : (y : ℕ) → Mem y a → Mem y b → ⊥
  apart y m k = nodup_apart a (i ∷ b) nodup y m (inr k)

  some_left : (y : ℕ) → Mem y a → y ≢ nobody
  some_left y m = fam_some F (s.mk i) y (in_left y m)

  some_right : (y : ℕ) → Mem y b → y ≢ nobody
  some_right y m = fam_some F (s.mk i) y (in_right y (inr m))

  -- i was the head just where nobody stood before it
  head_was : (a₁ : List ℕ) → a₁ ≡ a → s.hd (s.mk i) ≡ first_d i a₁
  head_was [] e = F.heads (s.mk i) ∙ ap (first_d nobody) (split ∙ ap (λ (z : List ℕ). z ++ i ∷ b) (sym e))
  head_was (x ∷ l) e = F.heads (s.mk i) ∙ ap (first_d nobody) (split ∙ ap (λ (z : List ℕ). z ++ i ∷ b) (sym e))

  new_head : (a₁ : List ℕ) → a₁ ≡ a → head_left s.nx i (s.hd (s.mk i)) ≡ first_d nobody (a₁ ++ b)
  new_head [] e = rw (eq-eqb i (s.hd (s.mk i)) (sym (head_was [] e))) seg_i.1
  new_head (x ∷ l) e =
      let h = head_was (x ∷ l) e in
      let m : Mem x a = subst (λ (z : List ℕ). Mem x z) e (inl refl) in
      rw (ne_eqb i (s.hd (s.mk i)) (λ k. not_left x m (sym (k ∙ h)))) h

  -- who gets a new link: the last of a, and the one that follows i in the ring
  link_is : (a₁ : List ℕ) → a₁ ≡ a → link_past s.pv i (s.hd (s.mk i)) ≡ last_d nobody a₁
  link_is [] e = rw (eq-eqb i (s.hd (s.mk i)) (sym (head_was [] e)))
  link_is (x ∷ l) e =
      let h = head_was (x ∷ l) e in
      let m : Mem x a = subst (λ (z : List ℕ). Mem x z) e (inl refl) in
      rw (ne_eqb i (s.hd (s.mk i)) (λ k. not_left x m (sym (k ∙ h)))) (seg_i.0 ∙ ap (last_d old) (sym e))

  back_is : (b₁ : List ℕ) → b₁ ≡ b → back_past s.nx i (s.hd (s.mk i)) ≡ first_d (first_d nobody a) b₁
  back_is [] e =
      rw (eq-eqb (s.nx i) nobody (seg_i.1 ∙ ap (first_d nobody) (sym e)))
      (new_head a refl ∙ ap (λ (z : List ℕ). first_d nobody (a ++ z)) (sym e) ∙ first_app a)
  back_is (y ∷ m) e =
      let f : s.nx i ≡ y = seg_i.1 ∙ ap (first_d nobody) (sym e) in
      rw (ne_eqb (s.nx i) nobody (λ k. some_right y (subst (Mem y) e (inl refl)) (sym f ∙ k))) f

  keeps_nx : (y : ℕ) → y ≢ i → y ≢ last_d nobody a → t.nx y ≡ s.nx y
  keeps_nx y d h = D.next_own.other y d ∙ D.next.other y (λ k. h (k ∙ link_is a refl))

  keeps_pv : (y : ℕ) → y ≢ i → y ≢ first_d (first_d nobody a) b → t.pv y ≡ s.pv y
  keeps_pv y d h = D.prev_own.other y d ∙ D.prev.other y (λ k. h (k ∙ back_is b refl))

  after_pv : (y : ℕ) → y ≢ i → y ≢ nobody → y ≡ first_d (first_d nobody a) b → t.pv y ≡ last_d old a
  after_pv y d h e =
      let f = back_is b refl in
      D.prev_own.other y d ∙ ap D.pv₁ (e ∙ sym f) ∙ D.prev.same (λ k. h (e ∙ sym f ∙ k)) ∙ seg_i.0

  -- whoever is not in the list that i leaves keeps both links
  keeps : (y : ℕ) → y ≢ nobody → y ≢ i → (Mem y (L (s.mk i)) → ⊥) → (t.nx y ≡ s.nx y) × (t.pv y ≡ s.pv y)
  keeps y h d m = (
    keeps_nx y d (last_not y nobody a h (λ k. m (in_left y k))),
    keeps_pv y d (first_not y (first_d nobody a) b (first_not y nobody a h (λ k. m (in_left y k))) (λ k. m (in_right y (inr k)))),
  )

  -- the back link of the head of a: the new last
  start : (x : ℕ) (l : List ℕ) → x ∷ l ≡ a → (b₁ : List ℕ) → b₁ ≡ b → t.pv x ≡ new
  start x l e [] f =
      let m : Mem x a = subst (Mem x) e (inl refl) in
      let z : x ≡ first_d (first_d nobody a) b = ap (first_d nobody) e ∙ ap (first_d (first_d nobody a)) f in
      after_pv x (not_left x m) (some_left x m) z
      ∙ ap (last_d old) (sym e) ∙ ap (last_d nobody) (e ∙ sym (append-nil a) ∙ ap (λ (c : List ℕ). a ++ c) f)
  start x l e (y ∷ k) f =
      let m : Mem x a = subst (Mem x) e (inl refl) in
      let my : Mem y b = subst (Mem y) f (inl refl) in
      keeps_pv x (not_left x m) (λ z. apart x m (subst (λ (c : ℕ). Mem c b) (sym (z ∙ ap (first_d (first_d nobody a)) (sym f))) my))
      ∙ (subst (λ (c : List ℕ). Seg s.nx s.pv old c i) (sym e) (seg_left s.nx s.pv old nobody a (i ∷ b) seg)).0
      ∙ ap (λ (c : List ℕ). last_d nobody (a ++ i ∷ c)) (sym f) ∙ last_app nobody nobody i a y k ∙ ap (λ (c : List ℕ). last_d nobody (a ++ c)) f

  new_left : (a₁ : List ℕ) → a₁ ≡ a → Seg t.nx t.pv new a₁ (first_d nobody b)
  new_left [] e = tt
  new_left (x ∷ l) e =
      let mm : (y : ℕ) → Mem y (x ∷ l) → Mem y a = λ y m. subst (λ (z : List ℕ). Mem y z) e m in
      let la : last_d x l ≡ last_d nobody a = ap (λ (z : List ℕ). last_d nobody z) e in
      let ml : Mem (last_d x l) a = mm (last_d x l) (mem_last x l) in
      let d : Nodup (x ∷ l) = subst Nodup (sym e) (nodup_left a (i ∷ b) nodup) in
      seg_start t.nx s.pv t.nx t.pv old new x l (first_d nobody b) d
      (λ y m. refl)
      (λ y m k. keeps_pv y (not_left y (mm y m)) (first_not y (first_d nobody a) b (λ j. k (j ∙ ap (first_d nobody) (sym e))) (apart y (mm y m))))
      (start x l e b refl)
      (seg_end s.nx s.pv t.nx s.pv old x l i (first_d nobody b) d
      (λ y m k. keeps_nx y (not_left y (mm y m)) (λ j. k (j ∙ sym la)))
      (λ y m. refl)
      (D.next_own.other (last_d x l) (not_left (last_d x l) ml)
      ∙ ap D.nx₁ (la ∙ sym (link_is a refl))
      ∙ D.next.same (λ j. some_left (last_d x l) ml (la ∙ sym (link_is a refl) ∙ j))
      ∙ seg_i.1)
      (subst (λ (z : List ℕ). Seg s.nx s.pv old z i) (sym e) (seg_left s.nx s.pv old nobody a (i ∷ b) seg)))

  -- the one before b is the last of a, or the new last where a is empty
  same_last : (a₁ b₁ : List ℕ) (y : ℕ) (m : List ℕ) → y ∷ m ≡ b₁
      → last_d (last_d nobody (a₁ ++ i ∷ b₁)) a₁ ≡ last_d (last_d nobody (a₁ ++ b₁)) a₁
  same_last [] b₁ y m g = ap (λ (c : List ℕ). last_d i c) (sym g) ∙ ap (λ (c : List ℕ). last_d nobody c) g
  same_last (x ∷ l) b₁ y m g = refl

  new_right : (b₁ : List ℕ) → b₁ ≡ b → Seg t.nx t.pv (last_d new a) b₁ nobody
  new_right [] e = tt
  new_right (x ∷ l) e =
      let mm : (y : ℕ) → Mem y (x ∷ l) → Mem y b = λ y m. subst (λ (z : List ℕ). Mem y z) e m in
      let fi : x ≡ first_d (first_d nobody a) b = ap (first_d (first_d nobody a)) e in
      let mf : Mem x b = mm x (inl refl) in
      seg_start s.nx s.pv t.nx t.pv i (last_d new a) x l nobody
      (subst Nodup (sym e) (nodup_right a (i ∷ b) nodup).1)
      (λ y m. keeps_nx y (not_right y (mm y m)) (last_not y nobody a (some_right y (mm y m)) (λ k. apart y k (mm y m))))
      (λ y m k. keeps_pv y (not_right y (mm y m)) (λ j. k (j ∙ sym fi)))
      (after_pv x (not_right x mf) (some_right x mf) fi ∙ same_last a b x l e)
      (subst (λ (z : List ℕ). Seg s.nx s.pv i z nobody) (sym e) seg_i.2)

  new_seg : Seg t.nx t.pv new (a ++ b) nobody
  new_seg = seg_join t.nx t.pv new nobody a b (new_left a refl) (new_right b refl)

  old_mem : (j : ℕ) → j ≢ i → Mem j (L (s.mk i)) → Member P n t (s.mk i) j
  old_mem j d m =
      let M = F.mems (s.mk i) j m in
      record { place = M.place; below = M.below; mark = D.mark.other j d ∙ M.mark }

  new_mem : (j : ℕ) → Mem j a ⊎ Mem j b → Member P n t (s.mk i) j
  new_mem j (inl m) = old_mem j (not_left j m) (in_left j m)
  new_mem j (inr m) = old_mem j (not_right j m) (in_right j (inr m))

  shrunk : (j : ℕ) → j ≢ i → Mem j a ⊎ Mem j (i ∷ b) → Mem j (a ++ b)
  shrunk j d (inl m) = mem_left j a b m
  shrunk j d (inr (inl e)) = absurd (d e)
  shrunk j d (inr (inr m)) = mem_right j a b m

  fam_cut : Fam P n t (change L (s.mk i) (a ++ b))
  fam_cut =
      fam_change F
      (record {
        head = record { same = D.head.same ∙ new_head a refl; other = D.head.other };
        seg = new_seg;
        kept = keeps;
        mark = D.mark.other;
        only = λ q d m. fam_apart F (s.mk i) q d i m (in_right i (inl refl));
        mems = λ j m. new_mem j (mem_app j a b m);
        stay = λ j d m. shrunk j d (mem_app j a (i ∷ b) (rw split at m));
        self = inr (record { mark = rw D.mark.same F.few; next = D.next_own.same; prev = D.prev_own.same });
      })

-- i goes from the list of its mark, and every other list stays
pub fam_unlink : {P n : ℕ} {s : Net} {L : ℕ → List ℕ} → Fam P n s L → (i : ℕ) {t : Net} → Unlinked s i t
    → i < n → s.mk i < P → Fam P n t (change L (s.mk i) (without i (L (s.mk i))))
fam_unlink {P} {n} {s} {L} F i {t} D hi hp =
    let r = mem_split i (L (s.mk i)) (fam_marked F i hi hp) in
    let d : Nodup (r.0 ++ i ∷ r.1) = subst Nodup r.2 (fam_nodup F (s.mk i)) in
    let e : without i (L (s.mk i)) ≡ r.0 ++ r.1
    = ap (without i) r.2 ∙ without_split i r.0 r.1 (λ m. nodup_apart r.0 (i ∷ r.1) d i m (inl refl)) in
    rw e (fam_cut F i D r.0 r.1 r.2)
