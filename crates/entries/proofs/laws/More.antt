-- What stands behind: it turns a cut alone into something else. So a step is read from its own bytes, and damage stays damage.
use mathlib.Core.Path.{◌≡◌, refl, sym, ap, ◌∙◌}
use mathlib.Core.Logic.{⊎_elim, by_cases}
use mathlib.Core.Bool.{Bool, true, false}
use mathlib.Core.List.{List, ◌++◌}
use Prim.Native.Nat.{ℕ, ◌+◌, ◌/◌, ◌%◌, ◌≤◌, ◌<◌}
use native.Mathlib.Decide.{ℕ_discrete, dec_lt}
use native.Mathlib.Omega.{arith}
use borrow.Author.Tests.{ne_eqb}
use lib.ListN.{length, take, drop, length-append, length-drop, take-append-drop}
use lib.Seq.{take-append-le, drop-append-le, length-take-le}
use Rattle.std.proofs.Common.{Result, Ok, Err}
use Rattle.entries.specs.declared.Step.{Step}
use Rattle.entries.specs.declared.Ending.{Ending}
use Rattle.entries.specs.declared.Ending.TheVariants as E
use Rattle.entries.specs.declared.Entry.{Entry}
use Rattle.entries.specs.Entries.{step_bytes}
use Rattle.entries.specs.Reading.{worth, word_at, entry_in, zeros, checked, pair_of, repeating, step_of, next, Unfinished, part, half}
use Rattle.entries.proofs.laws.Reading.{next_cut, next_read, pair_read, pair_cut, no_damage, step_nine}
use Rattle.entries.proofs.laws.Inverse.{cut_is, next_size, next_sizes}

-- what is left of a step is a cut
pub cut_when : (l : List ℕ) → Unfinished l → next l ≡ Err E.Cut
cut_when l (part h) = sym (next_cut l 0 h)
cut_when l (half k z h) =
    by_cases (dec_lt (length l) 18) (λ (s : length l < 18). sym (next_cut l 0 s))
    (λ s.
    let m = drop 18 l in
    let y : Err E.Cut ≡ step_of (entry_in l) m = pair_cut (entry_in l) m 0 (omega (arith, length-drop 18 l)) ∙ step_nine (entry_in l) m k in
    sym (next_read l 0 (omega arith) refl y (no_damage (entry_in l) (Err E.Cut) (λ g. omega arith) (omega arith) z)))

-- ---- an entry

word_front : (n at : ℕ) (l r : List ℕ) → at + n ≤ length l → word_at n at (l ++ r) ≡ word_at n at l
unfolding word_at
word_front n at l r h =
    ap (λ (m : List ℕ). worth 0 (take n m)) (drop-append-le at l r (omega arith))
    ∙ ap (λ (m : List ℕ). worth 0 m) (take-append-le n (drop at l) r (omega (arith, length-drop at l)))

entry_front : (l r : List ℕ) → 18 ≤ length l → entry_in (l ++ r) ≡ entry_in l
unfolding entry_in
entry_front l r h =
    let p = word_front 2 0 l r (omega arith) in
    let q = word_front 8 2 l r (omega arith) in
    let s = word_front 8 10 l r (omega arith) in
    λ i. record { kind = p i / 4096; spare = p i % 4096; a = q i; b = s i }

-- ---- a step

-- a kind 9 alone looks behind itself
step_alone : (e : Entry) (l m : List ℕ) → (e.kind ≡ 9 → ⊥) → step_of e l ≡ step_of e m
unfolding step_of
step_alone e l m h = simp (ne_eqb e.kind 9 h)

-- and sees an entry
pair_front : (e : Entry) (l r : List ℕ) → 18 ≤ length l → repeating e (l ++ r) ≡ repeating e l
pair_front e l r h =
    sym (pair_read e (l ++ r) 0 (omega (arith, length-append l r)) refl refl)
    ∙ ap (λ (p : Entry). checked p (pair_of e p)) (entry_front l r h)
    ∙ pair_read e l 0 h refl refl

zero_first : (e : Entry) (x y : Result Step Ending) → zeros e ≡ false → checked e x ≡ checked e y
unfolding checked
zero_first e x y z = simp z

module _ (l r : List ℕ) (n : (next l ≡ Err E.Cut → ⊥)) where
  abbrev e : Entry
  e = entry_in l

  abbrev m : List ℕ
  m = drop 18 l

  long : 18 ≤ length l
  long = by_cases (dec_lt (length l) 18) (λ (h : length l < 18). absurd (n (cut_when l (part h)))) (λ h. omega arith)

  -- a kind 9 with less than an entry behind it is no cut where its zeros are damaged
  lone : (b : Bool) → zeros e ≡ b → e.kind ≡ 9 → length m < 18 → checked e (step_of e (m ++ r)) ≡ checked e (step_of e m)
  lone true z k h = absurd (n (cut_when l (half k z (omega (arith, h, length-drop 18 l)))))
  lone false z k h = zero_first e (step_of e (m ++ r)) (step_of e m) z

  behind : checked e (step_of e (m ++ r)) ≡ checked e (step_of e m)
  behind =
      by_cases (ℕ_discrete e.kind 9)
      (λ (k : e.kind ≡ 9).
      by_cases (dec_lt (length m) 18) (λ (h : length m < 18). lone (zeros e) refl k h)
      (λ h. ap (λ (x : Result Step Ending). checked e x) (sym (step_nine e (m ++ r) k) ∙ pair_front e m r (omega arith) ∙ step_nine e m k)))
      (λ k. ap (λ (x : Result Step Ending). checked e x) (step_alone e (m ++ r) m k))

  next_front : next (l ++ r) ≡ next l
  next_front =
      sym (next_read (l ++ r) 0 (omega (arith, long, length-append l r)) refl refl refl)
      ∙ ap (λ (u : Entry). checked u (step_of u (drop 18 (l ++ r)))) (entry_front l r long)
      ∙ ap (λ (d : List ℕ). checked e (step_of e d)) (drop-append-le 18 l r long)
      ∙ behind
      ∙ next_read l 0 long refl refl refl

-- ---- what is read

-- a step that was read is read whatever stands behind
pub next_same : (l r : List ℕ) {x : Step} → next l ≡ Ok x → next (l ++ r) ≡ Ok x
next_same l r q = next_front l r (λ c. let z : ◌≡◌ {A = ℕ} 0 1 = cc in omega arith) ∙ q

-- damage is damage whatever stands behind
pub next_damage : (l r : List ℕ) {e : Ending} → next l ≡ Err e → (e ≡ E.Cut → ⊥) → next (l ++ r) ≡ Err e
next_damage l r q d = next_front l r (λ c. d (cc)) ∙ q

-- a step that was read is read from its own bytes, whatever stands behind them
pub next_more : (l r : List ℕ) {x : Step} → next l ≡ Ok x → next (take (length (step_bytes x)) l ++ r) ≡ Ok x
next_more l r {x} q = next_front a r whole ∙ sym (next_front a (drop k l) whole) ∙ ap next (take-append-drop k l) ∙ q
  where
    k : ℕ
    k = length (step_bytes x)

    a : List ℕ
    a = take k l

    size : length a ≡ k
    size = length-take-le k l (next_size l q).1

    same : 18 ≤ k → (entry_in l).kind ≡ (entry_in a).kind
    same h = ap (λ (d : List ℕ). (entry_in d).kind) (sym (take-append-drop k l)) ∙ ap (λ (u : Entry). u.kind) (entry_front a (drop k l) (omega (arith, size)))

    none : Unfinished a → ⊥
    none (part h) = ⊎_elim (λ s. omega (arith, size, h, s.2)) (λ s. omega (arith, size, h, s.1)) (next_sizes l q)
    none (half t z h) = ⊎_elim (λ s. s.0 (same (omega (arith, s.2)) ∙ t)) (λ s. omega (arith, size, h, s.1)) (next_sizes l q)

    whole : next a ≡ Err E.Cut → ⊥
    whole c = none (cut_is a c)
