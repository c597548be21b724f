-- How many numbers below n pass a test, and the pigeonhole that the judge rests on: a list without repeats, of numbers below n that pass the
-- test, and as long as there are such numbers, has them all (`cnt_all`, `cnt_elem`).
use mathlib.Core.Path.{◌≡◌, refl, sym, ap, ◌∙◌}
use mathlib.Core.Logic.{◌≢◌, inl, inr, by_cases}
use mathlib.Core.List.{List, [], ◌∷◌}
use mathlib.Core.Bool.{Bool, true, false, not, ◌||◌}
use Prim.Native.Nat.{ℕ, zero, suc, ◌+◌, ◌≤◌, ◌<◌}
use native.Mathlib.Omega.{arith}
use native.Mathlib.Decide.{ℕ_discrete}
use lib.ListN.{length}
use lib.Dec.{eqb}
use borrow.Author.Tests.{eq-eqb, ne_eqb}
use Rattle.links.specs.Lists.{Mem}
use Rattle.links.proofs.laws.Lists.{Nodup}
use Rattle.links.specs.Count.{bit, cnt}

abbrev pub elem : ℕ → List ℕ → Bool
elem i [] = false
elem i (x ∷ l) = eqb i x || elem i l

true_false : true ≡ false → ⊥
true_false e = let z : ◌≡◌ {A = ℕ} 0 1 = cc in omega arith

bit_le : (a b : Bool) → (a ≡ true → b ≡ true) → bit a ≤ bit b
bit_le true b h = rw (h refl) (omega arith)
bit_le false b h = omega arith

bit_not : (a : Bool) → bit a + bit (not a) ≡ 1
bit_not true = refl
bit_not false = refl

bit_true : (a b : Bool) → b ≡ true → bit b ≤ bit a → a ≡ true
bit_true true b e h = refl
bit_true false b e h = absurd (omega (arith, ap bit e))

module _ (f g : ℕ → Bool) where
  pub cnt_ext : (n : ℕ) → ((i : ℕ) → i < n → f i ≡ g i) → cnt f n ≡ cnt g n
  cnt_ext zero h = refl
  cnt_ext (suc n) h = rw (cnt_ext n (λ i k. h i (omega arith)), h n (omega arith))

  pub cnt_le : (n : ℕ) → ((i : ℕ) → i < n → f i ≡ true → g i ≡ true) → cnt f n ≤ cnt g n
  cnt_le zero h = omega arith
  cnt_le (suc n) h = omega (arith, cnt_le n (λ i k. h i (omega arith)), bit_le (f n) (g n) (h n (omega arith)))

  -- as many pass f as pass g, and f is the narrower: then they are the same
  pub cnt_all : (n : ℕ) → ((i : ℕ) → i < n → f i ≡ true → g i ≡ true) → cnt g n ≤ cnt f n → (i : ℕ) → i < n → g i ≡ true → f i ≡ true
  cnt_all zero h c i k e = absurd (omega arith)
  cnt_all (suc n) h c i k e =
      let below : cnt f n ≤ cnt g n = cnt_le n (λ j l. h j (omega arith)) in
      let top : bit (f n) ≤ bit (g n) = bit_le (f n) (g n) (h n (omega arith)) in
      by_cases (ℕ_discrete i n)
      (λ q. bit_true (f i) (g i) e (rw q (omega (arith, below, top))))
      (λ d. cnt_all n (λ j l. h j (omega arith)) (omega (arith, below, top)) i (omega (arith, d)) e)

pub cnt_not : (f : ℕ → Bool) (n : ℕ) → cnt f n + cnt (λ i. not (f i)) n ≡ n
cnt_not f zero = refl
cnt_not f (suc n) = omega (arith, cnt_not f n, bit_not (f n))

one_same : (f : ℕ → Bool) (x i : ℕ) → i ≢ x → (eqb i x || f i) ≡ f i
one_same f x i d = rw (ne_eqb i x d)

-- one number more passes
cnt_more : (f : ℕ → Bool) (x n : ℕ) → f x ≡ false → x < n → cnt (λ i. eqb i x || f i) n ≡ suc (cnt f n)
cnt_more f x zero e h = absurd (omega arith)
cnt_more f x (suc n) e h =
    by_cases (ℕ_discrete n x)
    (λ q.
    let a : cnt (λ i. eqb i x || f i) n ≡ cnt f n = cnt_ext (λ i. eqb i x || f i) f n (λ i k. one_same f x i (omega (arith, k, q))) in
    let b : bit (eqb n x || f n) ≡ 1 = rw (eq-eqb n x q) in
    let d : bit (f n) ≡ 0 = rw (q, e) in
    omega (arith, a, b, d))
    (λ d.
    let a = cnt_more f x n e (omega (arith, d, h)) in
    let b : bit (eqb n x || f n) ≡ bit (f n) = ap bit (one_same f x n d) in
    omega (arith, a, b))

pub mem_elem : (i : ℕ) (l : List ℕ) → Mem i l → elem i l ≡ true
mem_elem i [] m = absurd m
mem_elem i (x ∷ l) (inl e) = rw (eq-eqb i x e)
mem_elem i (x ∷ l) (inr m) = rw (mem_elem i l m) (or_right (eqb i x))
  where
    or_right : (a : Bool) → (a || true) ≡ true
    or_right true = refl
    or_right false = refl

pub elem_mem : (i : ℕ) (l : List ℕ) → elem i l ≡ true → Mem i l
elem_mem i [] e = absurd (true_false (sym e))
elem_mem i (x ∷ l) e =
    by_cases (ℕ_discrete i x) (λ q. inl q) (λ d. inr (elem_mem i l (rw (ne_eqb i x d) at e)))

not_mem_elem : (i : ℕ) (l : List ℕ) (b : Bool) → elem i l ≡ b → (Mem i l → ⊥) → b ≡ false
not_mem_elem i l true e h = absurd (h (elem_mem i l e))
not_mem_elem i l false e h = refl

pub cnt_elem : (l : List ℕ) (n : ℕ) → Nodup l → ((i : ℕ) → Mem i l → i < n) → cnt (λ i. elem i l) n ≡ length l
cnt_elem [] n d h = none n
  where
    none : (n : ℕ) → cnt (λ i. false) n ≡ 0
    none zero = refl
    none (suc n) = omega (arith, none n)
cnt_elem (x ∷ l) n d h =
    cnt_more (λ i. elem i l) x n (not_mem_elem x l (elem x l) refl d.0) (h x (inl refl))
    ∙ ap suc (cnt_elem l n d.1 (λ i m. h i (inr m)))

-- numbers below n that do not repeat are at most n
pub length_below : (l : List ℕ) (n : ℕ) → Nodup l → ((i : ℕ) → Mem i l → i < n) → length l ≤ n
length_below l n d h = omega (arith, cnt_elem l n d h, cnt_not (λ i. elem i l) n)
