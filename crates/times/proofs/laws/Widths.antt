-- The laws of widths: the const row's rule, each width 64 times the last, is tested once, and so the row holds the powers of 64.
use mathlib.Core.Path.{◌≡◌, refl, sym, ap, ◌∙◌}
use mathlib.Core.Bool.{Bool, true, ◌&&◌, and-eq-true_iff}
use mathlib.Core.List.{List, [], ◌∷◌}
use Prim.Native.Nat.{ℕ, zero, suc, ◌*◌, ◌^◌, ◌<◌}
use native.Mathlib.Nat.{zero-lt-suc, one-le-pow, pow-suc, mul_comm}
use native.Mathlib.Omega.{arith}
use lib.Dec.{eqb}
use lib.ListN.{length, get_or}
use lib.Pow.{pow-add}
use borrow.Author.Tests.{eqb-true}
use Rattle.times.specs.Times.{widths, width}

-- ---- the width of any level

pub width_pos : (k : ℕ) → 0 < width k
unfolding width
width_pos k = one-le-pow k 64 (zero-lt-suc 63)

pub width_step : (k : ℕ) → width (suc k) ≡ 64 * width k
unfolding width
width_step k = pow-suc 64 k ∙ mul_comm (64 ^ k) 64

pub width_pow : (k : ℕ) → width k ≡ 2 ^ (k * 6)
unfolding width
width_pow zero = refl
width_pow (suc k) = pow-suc 64 k ∙ ap (λ (n : ℕ). n * 64) (width_pow k) ∙ sym (pow-add 2 (k * 6) 6) ∙ ap (λ (n : ℕ). 2 ^ n) (omega arith)

-- ---- the const row

-- the rule as a test of the whole row: each entry is 64 times the last
abbrev ruled : List ℕ → Bool
ruled [] = true
ruled (x ∷ []) = true
ruled (x ∷ y ∷ ys) = eqb y (64 * x) && ruled (y ∷ ys)

rule_at : (ws : List ℕ) → ruled ws ≡ true → (k : ℕ) → suc k < length ws → get_or ws (suc k) 0 ≡ 64 * get_or ws k 0
rule_at [] t k h = absurd (omega arith)
rule_at (x ∷ []) t k h = absurd (omega arith)
rule_at (x ∷ y ∷ ys) t zero h = eqb-true y (64 * x) ((and-eq-true_iff (eqb y (64 * x)) (ruled (y ∷ ys))).0 t).0
rule_at (x ∷ y ∷ ys) t (suc k) h = rule_at (y ∷ ys) ((and-eq-true_iff (eqb y (64 * x)) (ruled (y ∷ ys))).0 t).1 k (omega arith)

pub widths_rule : (k : ℕ) → suc k < 6 → get_or widths (suc k) 0 ≡ 64 * get_or widths k 0
widths_rule = rule_at widths refl

pub widths_are : (k : ℕ) → k < 6 → get_or widths k 0 ≡ width k
unfolding width
widths_are zero h = refl
widths_are (suc k) h = widths_rule k h ∙ ap (λ (n : ℕ). 64 * n) (widths_are k (omega arith)) ∙ sym (width_step k)
