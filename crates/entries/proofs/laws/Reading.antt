-- What the parts of the reader find, for the code: a word byte by byte, and each test of an entry.
use mathlib.Core.Path.{◌≡◌, refl, sym, ap, ◌∙◌}
use mathlib.Core.Logic.{by_cases}
use mathlib.Core.Bool.{Bool, true, false, cond}
use mathlib.Core.List.{List, [], ◌∷◌}
use Prim.Native.Nat.{ℕ, ◌+◌, ◌/◌, ◌%◌, ◌≤◌, ◌<◌}
use native.Mathlib.Decide.{ℕ_discrete}
use native.Mathlib.Omega.{arith}
use borrow.Author.Tests.{lt-ltb, le-ltb, eq-eqb, ne_eqb}
use lib.Dec.{eqb}
use lib.ListN.{length, take, drop, length-drop}
use lib.Seq.{drop-drop}
use Rattle.std.proofs.Common.{Result, Ok, Err}
use Rattle.std.specs.Int.{w16, w64, from_be_bytes}
use Rattle.delay_queue.specs.declared.Call.TheVariants as C
use Rattle.entries.specs.declared.Ending.{Ending}
use Rattle.entries.specs.declared.Step.{Step}
use Rattle.entries.specs.declared.Step.TheVariants as S
use Rattle.entries.specs.declared.Ending.TheVariants as E
use Rattle.entries.specs.declared.Entry.{Entry}
use Rattle.entries.specs.Reading.{worth, word_at, known, entry_in, bare, field_zeros, zeros, checked, pair_of, repeating, step_of, next}

-- ---- a word

be_two : (l : List ℕ) {n : ℕ} → 2 ≤ length l → n ≡ from_be_bytes w16 (take 2 l) → n ≡ worth 0 (take 2 l)
unfolding worth
be_two [] h e = absurd (omega arith)
be_two (a ∷ []) h e = absurd (omega arith)
be_two (a ∷ b ∷ l) h e = omega (arith, e)

be_eight : (l : List ℕ) {n : ℕ} → 8 ≤ length l → n ≡ from_be_bytes w64 (take 8 l) → n ≡ worth 0 (take 8 l)
unfolding worth
be_eight [] h e = absurd (omega arith)
be_eight (a ∷ []) h e = absurd (omega arith)
be_eight (a ∷ b ∷ []) h e = absurd (omega arith)
be_eight (a ∷ b ∷ c ∷ []) h e = absurd (omega arith)
be_eight (a ∷ b ∷ c ∷ d ∷ []) h e = absurd (omega arith)
be_eight (a ∷ b ∷ c ∷ d ∷ f ∷ []) h e = absurd (omega arith)
be_eight (a ∷ b ∷ c ∷ d ∷ f ∷ g ∷ []) h e = absurd (omega arith)
be_eight (a ∷ b ∷ c ∷ d ∷ f ∷ g ∷ i ∷ []) h e = absurd (omega arith)
be_eight (a ∷ b ∷ c ∷ d ∷ f ∷ g ∷ i ∷ j ∷ l) h e = omega (arith, e)

-- ---- an entry

-- an entry, what l begins with, and what stands behind it
abbrev pub Front : List ℕ → Entry → List ℕ → Type 0
Front l e m = (18 ≤ length l) × (e ≡ entry_in l) × (m ≡ drop 18 l)

-- what `split_first_chunk` gives
abbrev pub Chunk : ℕ → List ℕ → List ℕ → List ℕ → Type 0
Chunk n l x m = (x ≡ take n l) × (m ≡ drop n l) × (length m + n ≡ length l)

pub chunks_read : (l h m x n y k : List ℕ) {head a b : ℕ} → Chunk 2 l h m → Chunk 8 m x n → Chunk 8 n y k → head ≡ from_be_bytes w16 h
    → a ≡ from_be_bytes w64 x → b ≡ from_be_bytes w64 y → Front l (record { kind = head / 4096; spare = head % 4096; a = a; b = b }) k
unfolding entry_in word_at
chunks_read l h m x n y k p q r e f g =
    let d : n ≡ drop 10 l = q.1 ∙ ap (λ (z : List ℕ). drop 8 z) p.1 ∙ drop-drop 8 2 l in
    let u = be_two l (omega (arith, p.2)) (e ∙ ap (λ (z : List ℕ). from_be_bytes w16 z) p.0) in
    let v = be_eight m (omega (arith, q.2)) (f ∙ ap (λ (z : List ℕ). from_be_bytes w64 z) q.0)
    ∙ ap (λ (z : List ℕ). worth 0 (take 8 z)) p.1 in
    let w = be_eight n (omega (arith, r.2)) (g ∙ ap (λ (z : List ℕ). from_be_bytes w64 z) r.0)
    ∙ ap (λ (z : List ℕ). worth 0 (take 8 z)) d in (
      omega (arith, p.2, q.2, r.2),
      (λ i. record { kind = u i / 4096; spare = u i % 4096; a = v i; b = w i }),
      r.1 ∙ ap (λ (z : List ℕ). drop 8 z) d ∙ drop-drop 8 10 l,
    )

-- ---- zeros

pub by_kind : (a b : ℕ) {j k : ℕ} → j ≡ k → field_zeros k a b ≡ field_zeros j a b
by_kind a b e = ap (λ (x : ℕ). field_zeros x a b) (sym e)

pub second_due : (k a b : ℕ) → 4 ≤ k → k < 6 → eqb b 0 ≡ field_zeros k a b
second_due k a b h g = by_cases (ℕ_discrete k 4) (by_kind a b) (λ n. by_kind a b {j = k} {k = 5} (omega arith))

pub both_due : (k a b : ℕ) → 6 ≤ k → k < 9 → bare a b ≡ field_zeros k a b
both_due k a b h g =
    by_cases (ℕ_discrete k 6) (by_kind a b) (λ m. by_cases (ℕ_discrete k 7) (by_kind a b) (λ n. by_kind a b {j = k} {k = 8} (omega arith)))

pub none_due : (k a b : ℕ) → (k ≡ 4 → ⊥) × (k ≡ 5 → ⊥) × (k ≡ 10 → ⊥) × (k ≡ 6 → ⊥) × (k ≡ 7 → ⊥) × (k ≡ 8 → ⊥) → true ≡ field_zeros k a b
none_due k a b h = simp (ne_eqb k 4 h.0, ne_eqb k 5 h.1, ne_eqb k 10 h.2, ne_eqb k 6 h.3, ne_eqb k 7 h.4, ne_eqb k 8 h.5)

-- ---- damage

module _ {A : Type 0} (e : Entry) (x : Result A Ending) where
  pub kind_low : e.kind ≡ 0 → Err E.Kind ≡ checked e x
  unfolding checked
  kind_low h = simp (le-ltb 0 e.kind (omega arith))

  pub kind_high : 11 < e.kind → Err E.Kind ≡ checked e x
  unfolding checked
  kind_high h = simp (lt-ltb 0 e.kind (omega arith), le-ltb e.kind 12 (omega arith))

  module _ (h : (e.kind ≡ 0 → ⊥)) (g : e.kind ≤ 11) where
    pub zero_missed : zeros e ≡ false → Err E.Zero ≡ checked e x
    unfolding checked
    zero_missed z = simp (lt-ltb 0 e.kind (omega arith), lt-ltb e.kind 12 (omega arith), z)

    pub no_damage : zeros e ≡ true → x ≡ checked e x
    unfolding checked
    no_damage z = simp (lt-ltb 0 e.kind (omega arith), lt-ltb e.kind 12 (omega arith), z)

  -- what is found of the entry alone
  pub spoilt_so : {d : Ending} → Err d ≡ checked {A = Unit {0}} e (Ok tt) → Err d ≡ checked e x
  unfolding checked
  spoilt_so {d} = by (known e.kind) (zeros e)
    where
      by : (k z : Bool) → Err d ≡ cond k (cond z (Ok (tt {0})) (Err E.Zero)) (Err E.Kind) → Err d ≡ cond k (cond z x (Err E.Zero)) (Err E.Kind)
      by true true q = absurd cc
      by true false q = let r : d ≡ E.Zero = cc in ap (λ (z : Ending). Err z) r
      by false z q = let r : d ≡ E.Kind = cc in ap (λ (z : Ending). Err z) r

  pub fine_so : Ok tt ≡ checked {A = Unit {0}} e (Ok tt) → x ≡ checked e x
  unfolding checked
  fine_so = by (known e.kind) (zeros e)
    where
      by : (k z : Bool) → Ok (tt {0}) ≡ cond k (cond z (Ok (tt {0})) (Err E.Zero)) (Err E.Kind) → x ≡ cond k (cond z x (Err E.Zero)) (Err E.Kind)
      by true true q = refl
      by true false q = absurd cc
      by false z q = absurd cc

-- ---- a pair

module _ (e p : Entry) where
  pub pair_kind : (p.kind ≡ 10 → ⊥) → Err E.Pair ≡ pair_of e p
  unfolding pair_of
  pair_kind h = simp (ne_eqb p.kind 10 h)

  pub pair_none : p.kind ≡ 10 → p.a ≡ 0 → Err E.Pair ≡ pair_of e p
  unfolding pair_of
  pair_none h z = simp (eq-eqb p.kind 10 h, le-ltb 0 p.a (omega arith))

  pub pair_made : p.kind ≡ 10 → (p.a ≡ 0 → ⊥) → Ok (S.Asks (C.Insert e.a e.b p.a)) ≡ pair_of e p
  unfolding pair_of
  pair_made h z = simp (eq-eqb p.kind 10 h, lt-ltb 0 p.a (omega arith))

module _ (e : Entry) (l : List ℕ) (at : ℕ) where
  pub pair_cut : length l < at + 18 → Err E.Cut ≡ repeating e (drop at l)
  unfolding repeating
  pair_cut h = let g = length-drop at l in simp (lt-ltb (length (drop at l)) 18 (omega arith))

  pub pair_read : {x : Result Step Ending} {p : Entry} → at + 18 ≤ length l → p ≡ entry_in (drop at l) → x ≡ checked p (pair_of e p) → x ≡ repeating e (drop at l)
  unfolding repeating
  pair_read {x} {p} h q r =
      let g = length-drop at l in
      simp (le-ltb (length (drop at l)) 18 (omega arith)) (r ∙ ap (λ (y : Entry). checked y (pair_of e y)) q)

-- ---- a step

pub no_step : (e : Entry) (l : List ℕ) → let k = e.kind in (k ≡ 1 → ⊥) → (k ≡ 2 → ⊥) → (k ≡ 3 → ⊥) → (k ≡ 4 → ⊥) → (k ≡ 5 → ⊥) → (k ≡ 6 → ⊥)
    → (k ≡ 7 → ⊥) → (k ≡ 8 → ⊥) → (k ≡ 9 → ⊥) → (k ≡ 11 → ⊥) → Err E.Pair ≡ step_of e l
unfolding step_of
no_step e l h₁ h₂ h₃ h₄ h₅ h₆ h₇ h₈ h₉ h₁₁ =
    let k = e.kind in
    simp (
      ne_eqb k 1 h₁,
      ne_eqb k 2 h₂,
      ne_eqb k 3 h₃,
      ne_eqb k 4 h₄,
      ne_eqb k 5 h₅,
      ne_eqb k 6 h₆,
      ne_eqb k 7 h₇,
      ne_eqb k 8 h₈,
      ne_eqb k 9 h₉,
      ne_eqb k 11 h₁₁,
    )

-- by its kind
pub step_kind : (e : Entry) (l : List ℕ) (k : ℕ) → e.kind ≡ k
    → step_of (record { kind = k; spare = e.spare; a = e.a; b = e.b }) l ≡ step_of e l
step_kind e l k h = ap (λ (x : ℕ). step_of (record { kind = x; spare = e.spare; a = e.a; b = e.b }) l) (sym h)

pub step_nine : (e : Entry) (l : List ℕ) → e.kind ≡ 9 → repeating e l ≡ step_of e l
unfolding step_of repeating pair_of
step_nine e l h = step_kind e l 9 h

pub next_cut : (l : List ℕ) (at : ℕ) → length l < at + 18 → Err E.Cut ≡ next (drop at l)
unfolding next
next_cut l at h = let g = length-drop at l in simp (lt-ltb (length (drop at l)) 18 (omega arith))

pub next_read : (l : List ℕ) (at : ℕ) {x y : Result Step Ending} {e : Entry} → at + 18 ≤ length l → e ≡ entry_in (drop at l) → y ≡ step_of e (drop (at + 18) l)
    → x ≡ checked e y → x ≡ next (drop at l)
unfolding next
next_read l at {x} {y} {e} h q r z =
    let g = length-drop at l in
    simp (le-ltb (length (drop at l)) 18 (omega arith))
    (z ∙ ap (λ (u : Result Step Ending). checked e u) (r ∙ ap (λ (d : List ℕ). step_of e d) (sym (drop-drop 18 at l)))
    ∙ ap (λ (u : Entry). checked u (step_of u (drop 18 (drop at l)))) q)

-- ---- with the entry that they begin with

module _ (l : List ℕ) (e : Entry) (m : List ℕ) (F : Front l e m) where
  pub next_spoilt : {d : Ending} → Err d ≡ checked {A = Unit {0}} e (Ok tt) → Err d ≡ next l
  next_spoilt q = next_read l 0 F.0 F.1 refl (spoilt_so e (step_of e (drop 18 l)) q)

  pub next_fine : {x : Result Step Ending} → Ok tt ≡ checked {A = Unit {0}} e (Ok tt) → x ≡ step_of e m → x ≡ next l
  next_fine {x} q r = next_read l 0 F.0 F.1 (r ∙ ap (λ (z : List ℕ). step_of e z) F.2) (fine_so e x q)

  pub pair_spoilt : (o : Entry) {d : Ending} → Err d ≡ checked {A = Unit {0}} e (Ok tt) → Err d ≡ repeating o l
  pair_spoilt o q = pair_read o l 0 F.0 F.1 (spoilt_so e (pair_of o e) q)

  pub pair_fine : (o : Entry) {x : Result Step Ending} → Ok tt ≡ checked {A = Unit {0}} e (Ok tt) → x ≡ pair_of o e → x ≡ repeating o l
  pair_fine o {x} q r = pair_read o l 0 F.0 F.1 (r ∙ fine_so e (pair_of o e) q)
