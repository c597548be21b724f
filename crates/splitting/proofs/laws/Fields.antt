-- The first field: what each test of `first_of` shows, that bytes begin in one way at most, and what that says of numbers behind a space.
use mathlib.Core.Path.{◌≡◌, refl, sym, ap, ◌∙◌, subst}
use mathlib.Core.List.{List, [], ◌∷◌, ◌++◌, append-nil, nil≢cons, tail-eq_of_cons-eq}
use Prim.Native.Nat.{ℕ, ◌+◌, ◌-◌, ◌≤◌, ◌<◌}
use native.Mathlib.Decide.{dec_lt}
use mathlib.Core.Logic.{by_cases}
use native.Mathlib.Omega.{arith}
use lib.ListN.{length, take, drop, length-take, length-drop, take-append-drop, drop_of_length-le}
use lib.Seq.{take_all, get_or-take}
use Rattle.decimals.specs.Text.{Decimal, Spaced}
use Rattle.decimals.proofs.laws.Number.{drop_one}
use Rattle.decimals.proofs.laws.Decimals.{one_number}
use Rattle.decimals.proofs.laws.Spacing.{Whole, Ends, whole, cut}
use Rattle.std.specs.Prelude.{Option, Some, None}
use Rattle.splitting.specs.declared.First.{First}
use Rattle.splitting.specs.declared.First.TheVariants as S
use Rattle.splitting.specs.Fields.{EndsAt, Starts, Begins}

-- `&s[i..]` is the list from the place i on
pub from : (s : List ℕ) (i : ℕ) → take (length s - i) (drop i s) ≡ drop i s
from s i = take_all (length s - i) (drop i s) (simp length-drop (omega arith))

-- ---- there is one way to begin

field_once : {l d e r q : List ℕ} {n k : ℕ} → Ends r → Ends q → l ≡ d ++ r → Decimal d n → l ≡ e ++ q → Decimal e k → (n ≡ k) × (r ≡ q)
field_once {d = d} {e} {r} {q} {n} {k} u v a x b y =
    let c = cut d e r q (whole x) (whole y) u v (sym a ∙ b) in
    (one_number (subst (λ (z : List ℕ). Decimal z n) c.0 x) y, c.1)

pub starts_once : {l m p : List ℕ} {n k : ℕ} → Starts l n m → Starts l k p → (n ≡ k) × (m ≡ p)
starts_once a b = let c = field_once refl refl a.1 a.2 b.1 b.2 in (c.0, tail-eq_of_cons-eq c.1)

pub starts_alone : {l m : List ℕ} {n k : ℕ} → Starts l n m → Decimal l k → ⊥
starts_alone {l} a d = nil≢cons (field_once tt refl (sym (append-nil l)) d a.1 a.2).1

-- two answers that both keep the claim begin with the same
pub begins_once : (l : List ℕ) (r s : Option First) → Begins l r → Begins l s → r ≡ s
begins_once l (Some (S.Only n)) (Some (S.Only m)) p q = ap (λ (x : ℕ). Some (S.Only x)) (one_number p q)
begins_once l (Some (S.Only n)) (Some (S.Then m f)) p q = absurd (starts_alone q.1 p)
begins_once l (Some (S.Only n)) None p q = absurd (q.0 n p)
begins_once l (Some (S.Then n f)) (Some (S.Only m)) p q = absurd (starts_alone p.1 q)
begins_once l (Some (S.Then n f)) (Some (S.Then m g)) p q =
    let c = starts_once p.1 q.1 in
    let e : f ≡ g = omega (arith, p.0, q.0, ap (λ (x : List ℕ). length x) c.1, length-drop f l, length-drop g l) in
    cc
begins_once l (Some (S.Then n f)) None p q = absurd (q.1 n (drop f l) p.1)
begins_once l None (Some (S.Only m)) p q = absurd (p.0 m q)
begins_once l None (Some (S.Then m g)) p q = absurd (p.1 m (drop g l) q.1)
begins_once l None None p q = refl

-- ---- where the first field ends at e

module _ (s : List ℕ) (e : ℕ) (h : EndsAt s e) where
  unbroken : Whole (take e s)
  unbroken i l z =
      let k : i < e = omega (arith, simp length-take at l) in
      h.inside i k (sym (get_or-take e s i 0 k) ∙ z)

  stops : Ends (drop e s)
  stops =
      by_cases (dec_lt e (length s))
      (λ l. rw (drop_one s e l) (h.space l))
      (λ l. rw (drop_of_length-le s {i = e} (omega arith)) tt)

  -- a number that is followed by nothing or by a space is what stands before e
  before_e : {d : List ℕ} (r : List ℕ) {n : ℕ} → Ends r → s ≡ d ++ r → Decimal d n → Decimal (take e s) n
  before_e {d} r {n} u p x =
      let c = cut d (take e s) r (drop e s) (whole x) unbroken u stops (sym p ∙ sym (take-append-drop e s)) in
      subst (λ (z : List ℕ). Decimal z n) c.0 x

  pub first_bad : ((n : ℕ) → Decimal (take e s) n → ⊥) → Begins s None
  first_bad b = (λ n d. b n (before_e [] tt (sym (append-nil s)) d), λ n m a. b n (before_e (32 ∷ m) refl a.1 a.2))

  pub only_one : length s ≤ e → {n : ℕ} → Decimal (take e s) n → Begins s (Some (S.Only n))
  only_one l {n} d = subst (λ (z : List ℕ). Decimal z n) (take_all e s l) d

  pub others : e < length s → {n : ℕ} → Decimal (take e s) n → Begins s (Some (S.Then n (e + 1)))
  others l d =
      let spaced = drop_one s e l ∙ ap (λ (x : ℕ). x ∷ drop (e + 1) s) (h.space l) in
      (omega arith, (take e s, sym (take-append-drop e s) ∙ ap (λ (r : List ℕ). take e s ++ r) spaced, d))

-- ---- numbers behind a space

pub the_one : {s : List ℕ} {n : ℕ} → Decimal s n → Spaced (32 ∷ s) (n ∷ [])
unfolding Spaced
the_one {s} d = (s, [], ap (λ t. 32 ∷ t) (sym (append-nil s)), d, refl)

pub one_alone : {s : List ℕ} (n : ℕ) → Spaced (32 ∷ s) (n ∷ []) → Decimal s n
unfolding Spaced
one_alone n p =
    let e = tail-eq_of_cons-eq p.2 ∙ ap (λ r. p.0 ++ r) p.4 ∙ append-nil p.0 in
    subst (λ (d : List ℕ). Decimal d n) (sym e) p.3

-- the first of two or more, and the others behind their space
pub more_start : {s : List ℕ} (n k : ℕ) (ns : List ℕ) → Spaced (32 ∷ s) (n ∷ k ∷ ns) → (m : List ℕ) × Starts s n m × Spaced (32 ∷ m) (k ∷ ns)
unfolding Spaced
more_start n k ns p =
    let q = p.4 in
    (q.0 ++ q.1, (p.0, tail-eq_of_cons-eq p.2 ∙ ap (λ r. p.0 ++ r) q.2, p.3), (q.0, q.1, refl, q.3, q.4))

pub begins_none : {s : List ℕ} → Begins s None → (ns : List ℕ) → Spaced (32 ∷ s) ns → ⊥
unfolding Spaced
begins_none b [] p = nil≢cons (sym p)
begins_none b (n ∷ []) p = b.0 n (one_alone n p)
begins_none b (n ∷ k ∷ ns) p = let x = more_start n k ns p in b.1 n x.0 x.1

module _ {s : List ℕ} {n : ℕ} {m : List ℕ} (h : Starts s n m) where
  pub puts : (ns : List ℕ) → Spaced (32 ∷ m) ns → Spaced (32 ∷ s) (n ∷ ns)
  unfolding Spaced
  puts ns p = (h.0, 32 ∷ m, ap (λ t. 32 ∷ t) h.1, h.2, p)

  pub leaves : (k : ℕ) (ns : List ℕ) → Spaced (32 ∷ s) (k ∷ ns) → Spaced (32 ∷ m) ns
  leaves k [] p = absurd (starts_alone h (one_alone k p))
  leaves k (j ∷ ns) p = let x = more_start k j ns p in subst (λ (q : List ℕ). Spaced (32 ∷ q) (j ∷ ns)) (starts_once x.1 h).1 x.2
