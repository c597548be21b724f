-- Words past N, and that a view and the words past N fix the words of a sound store (`view_fixed`).
use mathlib.Core.Path.{◌≡◌, refl, sym, ap, ◌∙◌, subst, fun_ext}
use mathlib.Core.Logic.{◌≢◌, by_cases}
use mathlib.Core.List.{List}
use Prim.Native.Nat.{ℕ, ◌+◌, ◌*◌, ◌/◌, ◌%◌, ◌≤◌, ◌<◌}
use native.Mathlib.Decide.{ℕ_discrete}
use native.Mathlib.Omega.{arith}
use lib.ListN.{length, set, length-set}
use lib.Seq.{ext_get_or, get_or-set_same, get_or-set_other}
use borrow.Author.Tests.{eq-eqb, ne_eqb}
use Rattle.links.specs.Lists.{nobody}
use Rattle.links.specs.Links.{at}
use Rattle.links.proofs.laws.Whole.{kept_refl, kept_trans, links_refl, links_trans}
use Rattle.places.proofs.laws.Whole as place_laws
use Rattle.wheel.proofs.laws.Occupied.{occupied_fixed}
use Rattle.wheel.specs.Words.{wheel_words, lists as listsIn}
use Rattle.records.specs.View.{upd}
use Rattle.records.specs.Slices.{value_at, period_at, given}
use Rattle.records.specs.Words.{QueueWords, queue_words, count, elapsed, view, Sound, PastKept}

pub past_refl : (n : ℕ) (s : QueueWords) → PastKept n s s
past_refl n s =
    record {
      links = links_refl n s.wheel.places.links;
      values = kept_refl _ s.values;
      deadlines = kept_refl n s.deadlines;
      turns = kept_refl n s.turns;
    }

pub past_trans : {n : ℕ} {s t u : QueueWords} → PastKept n s t → PastKept n t u → PastKept n s u
past_trans A B =
    record {
      links = links_trans A.links B.links;
      values = kept_trans A.values B.values;
      deadlines = kept_trans A.deadlines B.deadlines;
      turns = kept_trans A.turns B.turns;
    }

-- one store after the other, of as many records
pub past_then : {s t u : QueueWords} → count t ≡ count s → PastKept (count s) s t → PastKept (count t) t u → PastKept (count s) s u
past_then {s} {t} {u} e A B = past_trans A (subst (λ n. PastKept n t u) e B)

-- ---- a store in a slice, as a change of what stands at an index

pub upd_same : (f : ℕ → ℕ) (i x : ℕ) → upd f i x i ≡ x
unfolding upd
upd_same f i x = rw (eq-eqb i i refl)

pub upd_other : (f : ℕ → ℕ) (i x j : ℕ) → j ≢ i → upd f i x j ≡ f j
unfolding upd
upd_other f i x j d = rw (ne_eqb j i d)

-- by the indices that g gives, each its own
set_at : (g : ℕ → ℕ) (l : List ℕ) (i x : ℕ) → ((j : ℕ) → g j ≡ g i → j ≡ i) → g i < length l
    → (λ j. at (set l (g i) x) (g j)) ≡ upd (λ j. at l (g j)) i x
set_at g l i x own h =
    fun_ext (λ j.
    by_cases (ℕ_discrete j i)
    (λ (e : j ≡ i). rw e (get_or-set_same l (g i) x 0 h ∙ sym (upd_same (λ k. at l (g k)) i x)))
    (λ d. get_or-set_other l (g i) (g j) x 0 (λ z. d (own j z)) ∙ sym (upd_other (λ k. at l (g k)) i x j d)))

pub at_set : (l : List ℕ) (i x : ℕ) → i < length l → at (set l i x) ≡ upd (at l) i x
at_set l i x h = set_at (λ j. j) l i x (λ j e. e) h

module _ (l : List ℕ) (i x y : ℕ) (h : 2 * i + 1 < length l) where
  pub given_value : value_at (given l i x y) ≡ upd (value_at l) i x
  given_value =
      fun_ext (λ j. get_or-set_other (set l (2 * i) x) (2 * i + 1) (2 * j) y 0 (omega arith))
      ∙ set_at (λ j. 2 * j) l i x (λ j e. omega (arith, e)) (omega arith)

  pub given_period : period_at (given l i x y) ≡ upd (period_at l) i y
  given_period =
      set_at (λ j. 2 * j + 1) (set l (2 * i) x) i y (λ j e. omega (arith, e)) (omega (arith, length-set l (2 * i) x))
      ∙ ap (λ f. upd f i y) (fun_ext (λ j. get_or-set_other l (2 * i) (2 * j + 1) x 0 (omega arith)))

-- ---- a view, and the words past N, fix the words of a sound store

words_same : (l m : List ℕ) → length m ≡ length l → at m ≡ at l → m ≡ l
words_same l m n e = ext_get_or 0 m l n (λ i h. ap (λ f. f i) e)

-- values and periods are all of a slice's words
pairs_same : (l m : List ℕ) → length m ≡ length l → value_at m ≡ value_at l → period_at m ≡ period_at l → m ≡ l
pairs_same l m n e f =
    words_same l m n (fun_ext (λ i.
    by_cases (ℕ_discrete (i % 2) 0)
    (λ z. let q : i ≡ 2 * (i / 2) = omega (arith, z) in ap (at m) q ∙ ap (λ g. g (i / 2)) e ∙ sym (ap (at l) q))
    (λ z. let q : i ≡ 2 * (i / 2) + 1 = omega (arith, z) in ap (at m) q ∙ ap (λ g. g (i / 2)) f ∙ sym (ap (at l) q))))

pub view_fixed : {s s' : QueueWords} → Sound s → Sound s' → view s' ≡ view s → PastKept (count s) s s' → s' ≡ s
view_fixed {s} {s'} S S' e K =
    let l : listsIn s'.wheel ≡ listsIn s.wheel = ap (λ v. v.lists) e in
    let n : count s' ≡ count s = ap (λ v. v.n) e in
    let few : count s ≤ nobody = place_laws.small S.standing.whole.places in
    let t : s'.wheel.places ≡ s.wheel.places = place_laws.lists_fixed S.standing.whole.places S'.standing.whole.places l n K.links
    (λ i h a b.
    (S'.standing.retired i (rw n h) (omega (arith, h, few)) b).0 ∙ sym (S.standing.retired i h (omega (arith, h, few)) a).0) in
    let o : s'.wheel.occupied ≡ s.wheel.occupied = occupied_fixed S.standing.whole.occupied (rw l at S'.standing.whole.occupied) in
    let c : elapsed s' ≡ elapsed s = ap (λ v. v.elapsed) e in
    let a = pairs_same s.values s'.values K.values.size (ap (λ v. v.value) e) (ap (λ v. v.period) e) in
    let b = words_same s.deadlines s'.deadlines K.deadlines.size (ap (λ v. v.deadline) e) in
    let f = words_same s.turns s'.turns K.turns.size (ap (λ v. v.turn) e) in
    let g : s'.hand ≡ s.hand = ap (λ v. v.hand) e in
    let h : s'.until ≡ s.until = ap (λ v. v.until) e in
    λ i. queue_words (wheel_words (c i) (o i) (t i)) (a i) (b i) (f i) (g i) (h i)
