-- Laws of a list as two link functions lay it out.
use mathlib.Core.Path.{◌≡◌, refl, sym, ap, ◌∙◌, subst}
use mathlib.Core.Logic.{◌≢◌, ◌⊎◌, inl, inr, ⊎_elim}
use mathlib.Core.List.{List, [], ◌∷◌, ◌++◌}
use Prim.Native.Nat.{ℕ}
use native.Mathlib.Omega.{arith}
use lib.ListN.{length, length-append}
use Rattle.links.specs.Lists.{nobody, Mem, first_d, last_d}
use Rattle.links.proofs.laws.Lists.{Nodup, mem_split, mem_right, mem_cast, mem_last}
use Rattle.links.specs.Segments.{Seg}

-- ---- parts and wholes

module _ (nx pv : ℕ → ℕ) where
  pub seg_left : (p e : ℕ) (a b : List ℕ) → Seg nx pv p (a ++ b) e → Seg nx pv p a (first_d e b)
  seg_left p e [] b s = tt
  seg_left p e (x ∷ []) b s = (s.0, s.1, tt)
  seg_left p e (x ∷ y ∷ a) b s = (s.0, s.1, seg_left x e (y ∷ a) b s.2)

  pub seg_right : (p e : ℕ) (a b : List ℕ) → Seg nx pv p (a ++ b) e → Seg nx pv (last_d p a) b e
  seg_right p e [] b s = s
  seg_right p e (x ∷ a) b s = seg_right x e a b s.2

  pub seg_join : (p e : ℕ) (a b : List ℕ) → Seg nx pv p a (first_d e b) → Seg nx pv (last_d p a) b e → Seg nx pv p (a ++ b) e
  seg_join p e [] b s t = t
  seg_join p e (x ∷ []) b s t = (s.0, s.1, t)
  seg_join p e (x ∷ y ∷ a) b s t = (s.0, s.1, seg_join x e (y ∷ a) b s.2 t)

  -- two segments that begin alike and end at nobody are the same list
  pub seg_unique : (p q : ℕ) (a b : List ℕ) → (Mem nobody a → ⊥) → (Mem nobody b → ⊥) → first_d nobody a ≡ first_d nobody b
      → Seg nx pv p a nobody → Seg nx pv q b nobody → a ≡ b
  seg_unique p q [] [] ha hb f s t = refl
  seg_unique p q [] (y ∷ b) ha hb f s t = absurd (hb (inl f))
  seg_unique p q (x ∷ a) [] ha hb f s t = absurd (ha (inl (sym f)))
  seg_unique p q (x ∷ a) (y ∷ b) ha hb f s t =
      let r : a ≡ b = seg_unique x y a b (λ m. ha (inr m)) (λ m. hb (inr m)) (sym s.1 ∙ ap nx f ∙ t.1) s.2 t.2 in
      cc

  -- so one that ends at nobody repeats nothing: a repeated member would begin a list that is its own tail
  seg_nodup_head : (p x : ℕ) (l : List ℕ) → (Mem nobody (x ∷ l) → ⊥) → Seg nx pv p (x ∷ l) nobody → Mem x l → ⊥
  seg_nodup_head p x l h s m =
      let r = mem_split x l m in
      let a : List ℕ = r.0 in
      let b : List ℕ = r.1 in
      let t : Seg nx pv x (a ++ x ∷ b) nobody = subst (λ (z : List ℕ). Seg nx pv x z nobody) r.2 s.2 in
      let k : Mem nobody (x ∷ b) → ⊥ = λ w. h (inr (subst (λ (z : List ℕ). Mem nobody z) (sym r.2) (mem_right nobody a (x ∷ b) w))) in
      let u : x ∷ l ≡ x ∷ b = seg_unique p (last_d x a) (x ∷ l) (x ∷ b) h k refl s (seg_right x nobody a (x ∷ b) t) in
      omega (arith, ap length u, ap length r.2, length-append a (x ∷ b))

  pub seg_nodup : (p : ℕ) (l : List ℕ) → (Mem nobody l → ⊥) → Seg nx pv p l nobody → Nodup l
  seg_nodup p [] h s = tt
  seg_nodup p (x ∷ l) h s = (seg_nodup_head p x l h s, seg_nodup x l (λ m. h (inr m)) s.2)

  -- the neighbours of a member
  pub seg_next : (p e : ℕ) (l : List ℕ) → Seg nx pv p l e → (i : ℕ) → Mem i l → (nx i ≡ e) ⊎ Mem (nx i) l
  seg_next p e [] s i m = absurd m
  seg_next p e (x ∷ []) s i (inl q) = inl (ap nx q ∙ s.1)
  seg_next p e (x ∷ y ∷ l) s i (inl q) = inr (inr (inl (ap nx q ∙ s.1)))
  seg_next p e (x ∷ l) s i (inr m) = ⊎_elim (λ k. inl k) (λ k. inr (inr k)) (seg_next x e l s.2 i m)

  pub seg_prev : (p e : ℕ) (l : List ℕ) → Seg nx pv p l e → (i : ℕ) → Mem i l → (pv i ≡ p) ⊎ Mem (pv i) l
  seg_prev p e [] s i m = absurd m
  seg_prev p e (x ∷ l) s i (inl q) = inl (ap pv q ∙ s.0)
  seg_prev p e (x ∷ l) s i (inr m) = ⊎_elim (λ k. inr (inl k)) (λ k. inr (inr k)) (seg_prev x e l s.2 i m)

-- ---- other links

module _ (nx pv nx' pv' : ℕ → ℕ) where
  pub seg_frame : (p : ℕ) (l : List ℕ) (e : ℕ) → ((x : ℕ) → Mem x l → nx' x ≡ nx x) → ((x : ℕ) → Mem x l → pv' x ≡ pv x)
      → Seg nx pv p l e → Seg nx' pv' p l e
  seg_frame p [] e hn hp s = tt
  seg_frame p (x ∷ l) e hn hp s =
      (hp x (inl refl) ∙ s.0, hn x (inl refl) ∙ s.1, seg_frame x l e (λ y m. hn y (inr m)) (λ y m. hp y (inr m)) s.2)

  -- another start: only the first one's back link is new
  pub seg_start : (p q x : ℕ) (l : List ℕ) (e : ℕ) → Nodup (x ∷ l)
      → ((y : ℕ) → Mem y (x ∷ l) → nx' y ≡ nx y) → ((y : ℕ) → Mem y (x ∷ l) → y ≢ x → pv' y ≡ pv y) → pv' x ≡ q
      → Seg nx pv p (x ∷ l) e → Seg nx' pv' q (x ∷ l) e
  seg_start p q x l e d hn hp new s = (
    new,
    hn x (inl refl) ∙ s.1,
    seg_frame x l e (λ y m. hn y (inr m)) (λ y m. hp y (inr m) (λ k. d.0 (mem_cast y x l k m))) s.2,
  )

  -- another end: only the last one's link is new
  pub seg_end : (p x : ℕ) (l : List ℕ) (e f : ℕ) → Nodup (x ∷ l)
      → ((y : ℕ) → Mem y (x ∷ l) → y ≢ last_d x l → nx' y ≡ nx y) → ((y : ℕ) → Mem y (x ∷ l) → pv' y ≡ pv y) → nx' (last_d x l) ≡ f
      → Seg nx pv p (x ∷ l) e → Seg nx' pv' p (x ∷ l) f
  seg_end p x [] e f d hn hp new s = (hp x (inl refl) ∙ s.0, new, tt)
  seg_end p x (y ∷ l) e f d hn hp new s = (
    hp x (inl refl) ∙ s.0,
    hn x (inl refl) (λ k. d.0 (mem_cast (last_d y l) x (y ∷ l) (sym k) (mem_last y l))) ∙ s.1,
    seg_end x y l e f d.1 (λ z m. hn z (inr m)) (λ z m. hp z (inr m)) new s.2,
  )

  -- a list fixes its members' links
  pub seg_same : (p : ℕ) (l : List ℕ) (e : ℕ) → Seg nx pv p l e → Seg nx' pv' p l e → (i : ℕ) → Mem i l → (nx' i ≡ nx i) × (pv' i ≡ pv i)
  seg_same p [] e s t i m = absurd m
  seg_same p (x ∷ l) e s t i (inl q) = (ap nx' q ∙ t.1 ∙ sym s.1 ∙ ap nx (sym q), ap pv' q ∙ t.0 ∙ sym s.0 ∙ ap pv (sym q))
  seg_same p (x ∷ l) e s t i (inr m) = seg_same x l e s.2 t.2 i m
