-- Numbers with one space in front of each: the bytes fix the numbers, the numbers fix the bytes, and all numbers that fit have such bytes.
use mathlib.Core.Path.{◌≡◌, refl, sym, ap, ap₂, ◌∙◌, subst}
use mathlib.Core.List.{List, [], ◌∷◌, ◌++◌, nil≢cons, head-eq_of_cons-eq, tail-eq_of_cons-eq}
use Prim.Native.Nat.{ℕ, suc, ◌*◌, ◌≤◌, ◌<◌}
use native.Mathlib.Omega.{arith}
use lib.ListN.{length, get_or, length-append}
use Rattle.decimals.specs.Text.{Decimal, Spaced, Fit}
use Rattle.decimals.proofs.laws.Decimals.{one_decimal, one_number, at_most_20, some_decimal}

-- no byte is a space
abbrev pub Whole : List ℕ → Type 0
Whole l = (i : ℕ) → i < length l → get_or l i 0 ≡ 32 → ⊥

-- nothing, or a space first
abbrev pub Ends : List ℕ → Type 0
Ends [] = Unit
Ends (b ∷ l) = b ≡ 32

pub whole : {l : List ℕ} {n : ℕ} → Decimal l n → Whole l
whole d i h e = omega (arith, d.digits i h)

pub ends : (l ns : List ℕ) → Spaced l ns → Ends l
unfolding Spaced
ends l [] s = subst Ends (sym s) tt
ends l (n ∷ ns) s = subst Ends (sym s.2) refl

stuck : (b : ℕ) (l r s : List ℕ) → Whole (b ∷ l) → Ends r → r ≡ b ∷ l ++ s → ⊥
stuck b l [] s w u e = nil≢cons e
stuck b l (c ∷ r) s w u e = w 0 (omega arith) (sym (head-eq_of_cons-eq e) ∙ u)

-- a field ends at the first space, so there is one way to cut it off
pub cut : (d m r s : List ℕ) → Whole d → Whole m → Ends r → Ends s → d ++ r ≡ m ++ s → (d ≡ m) × (r ≡ s)
cut [] [] r s p q u v e = (refl, e)
cut [] (b ∷ m) r s p q u v e = absurd (stuck b m r s q u e)
cut (b ∷ d) [] r s p q u v e = absurd (stuck b d s r p v (sym e))
cut (b ∷ d) (c ∷ m) r s p q u v e =
    let k = cut d m r s (λ i h. p (suc i) (omega arith)) (λ i h. q (suc i) (omega arith)) u v (tail-eq_of_cons-eq e) in
    (ap₂ (λ (x : ℕ) (l : List ℕ). x ∷ l) (head-eq_of_cons-eq e) k.0, k.1)

-- the bytes hold no other numbers
pub one_list : (l ns ms : List ℕ) → Spaced l ns → Spaced l ms → ns ≡ ms
unfolding Spaced
one_list l [] [] p q = refl
one_list l [] (m ∷ ms) p q = absurd (nil≢cons (sym p ∙ q.2))
one_list l (n ∷ ns) [] p q = absurd (nil≢cons (sym q ∙ p.2))
one_list l (n ∷ ns) (m ∷ ms) p q =
    let e = tail-eq_of_cons-eq (sym p.2 ∙ q.2) in
    let k = cut p.0 q.0 p.1 q.1 (whole p.3) (whole q.3) (ends p.1 ns p.4) (ends q.1 ms q.4) e in
    ap₂ (λ (x : ℕ) (s : List ℕ). x ∷ s)
    (one_number p.3 (subst (λ d. Decimal d m) (sym k.0) q.3))
    (one_list p.1 ns ms p.4 (subst (λ r. Spaced r ms) (sym k.1) q.4))

-- the numbers have no other bytes
pub one_text : (l m ns : List ℕ) → Spaced l ns → Spaced m ns → l ≡ m
unfolding Spaced
one_text l m [] p q = p ∙ sym q
one_text l m (n ∷ ns) p q =
    let e = one_text p.1 q.1 ns p.4 q.4 in
    p.2 ∙ ap₂ (λ (d r : List ℕ). 32 ∷ d ++ r) (one_decimal p.3 q.3) e ∙ sym q.2

pub some_text : (ns : List ℕ) → Fit ns → (l : List ℕ) × Spaced l ns
unfolding Spaced
some_text [] f = ([], refl)
some_text (n ∷ ns) f =
    let d = some_decimal n f.0 in
    let r = some_text ns f.1 in
    (32 ∷ d.0 ++ r.0, (d.0, r.0, refl, d.1, r.1))

-- a space and at most 20 digits for each
pub at_most_21 : (l ns : List ℕ) → Spaced l ns → length l ≤ 21 * length ns
unfolding Spaced
at_most_21 l [] s = omega (arith, ap (λ x. length x) s)
at_most_21 l (n ∷ ns) s =
    let e : length l ≡ length (32 ∷ s.0 ++ s.1) = ap (λ (x : List ℕ). length x) s.2 in
    omega (arith, length-append s.0 s.1, at_most_20 s.0 s.3, at_most_21 s.1 ns s.4)
