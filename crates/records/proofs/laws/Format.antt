-- The number of a format is that of the table, and so many words become x.
use mathlib.Core.Path.{◌≡◌, refl, sym, ap, ◌∙◌}
use mathlib.Core.List.{List}
use Prim.Native.Nat.{ℕ, ◌+◌, ◌≤◌, ◌<◌}
use native.Mathlib.Omega.{arith}
use lib.ListN.{length, set, length-set}
use Rattle.places.specs.Format.{over}
use Rattle.places.proofs.laws.Format.{over_step}
use Rattle.records.specs.Format.{FormatNo}

-- ---- the number

module _ {fits range : Type 0} where
  pub no_one : (fits → ⊥) → FormatNo fits range 1
  no_one f = record { short = λ g. refl; outside = λ x g. absurd (f x); near = λ x. absurd (f x); taken = λ z. absurd (omega arith) }

  pub no_eight : fits → (range → ⊥) → FormatNo fits range 8
  no_eight x f = record { short = λ g. absurd (g x); outside = λ y g. refl; near = λ y z. absurd (f z); taken = λ z. absurd (omega arith) }

  pub no_none : fits → range → FormatNo fits range 0
  no_none x y = record { short = λ g. absurd (g x); outside = λ z g. absurd (g y); near = λ z w. refl; taken = λ z. (x, y) }

-- ---- n words become x

-- the loop: the first i do
pub record FilledSo (n x : ℕ) (l : List ℕ) (i : ℕ) (m : List ℕ) : Type 0 where
  pub within : i ≤ n
  pub words : m ≡ over i (λ j. x) l
  pub size : length m ≡ length l

module _ (n x : ℕ) (l : List ℕ) where
  pub fill_begun : FilledSo n x l 0 l
  unfolding over
  fill_begun = record { within = omega arith; words = refl; size = refl }

  pub fill_next : {i : ℕ} {m : List ℕ} → FilledSo n x l i m → i < n → FilledSo n x l (i + 1) (set m i x)
  fill_next {i} {m} F h =
      record {
        within = omega arith;
        words = ap (λ k. set k i x) F.words ∙ sym (over_step i (λ j. x) l);
        size = length-set m i x ∙ F.size;
      }

  pub fill_end : {i : ℕ} {m : List ℕ} → FilledSo n x l i m → n ≤ i → m ≡ over n (λ j. x) l
  fill_end {i} F h = let e : i ≡ n = omega arith in F.words ∙ ap (λ k. over k (λ j. x) l) e
