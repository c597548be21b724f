-- The laws of the level: the definition is the greatest k, a deadline lies at its level, and the Rust's leading zeros find it.
use mathlib.Core.Path.{◌≡◌, refl, sym, ap, ◌∙◌, subst}
use mathlib.Core.Logic.{◌↔◌, ⊎_elim, by_cases}
use mathlib.Core.Bool.{Bool, true, false, cond}
use Prim.Native.Nat.{ℕ, zero, suc, ◌+◌, ◌-◌, ◌*◌, ◌/◌, ◌^◌, ◌≤◌, ◌<◌}
use native.Mathlib.Nat.{le_antisymm, lt_of_lt_of_le, div-eq_of_lt, div-lt_iff_lt-mul, one-mul, eq-zero-or-pos}
use native.Mathlib.Decide.{ℕ_discrete}
use native.Mathlib.Omega.{arith}
use lib.Dec.{eqb}
use lib.Pow.{pow_pos, pow_mono}
use lib.Bits.{bit_or, bit_xor, or_add_and, xor_add_and, and_le_l, and_le_r, xor_self, or_lt, xor_shr}
use lib.Count.{count_leading_zeros, leading_top}
use borrow.Author.Tests.{eqb-true, eqb-false}
use Rattle.times.specs.Times.{width, level_below, level_of, IsLevelBelow, IsLevel, floor, Lies, block}
use Rattle.times.proofs.laws.Quotients.{quotient_shr, quotient_le, floor_zero, lt_floor, lies_agree}

-- ---- the level is the greatest k, and only it is

one_more : (n e w : ℕ) (b : Bool) → eqb (e / width n) (w / width n) ≡ b → (0 < n → IsLevelBelow n e w (level_below n e w))
    → IsLevelBelow (suc n) e w (cond b (level_below n e w) n)
unfolding level_below
one_more n e w false t ih = record { within = omega arith; differ = λ p. eqb-false _ _ t; above = λ j p q. absurd (omega arith) }
one_more zero e w true t ih = omega arith
one_more (suc n) e w true t ih =
    let l = ih (omega arith) in
    record {
      within = omega arith;
      differ = l.differ;
      above = λ j p q.
          by_cases (ℕ_discrete j (suc n)) (λ i. rw i (eqb-true _ _ t)) (λ d. l.above j p (omega arith));
    }

level_below_lem : (n e w : ℕ) → 0 < n → IsLevelBelow n e w (level_below n e w)
unfolding level_below
level_below_lem zero e w h = absurd (omega arith)
level_below_lem (suc n) e w h = one_more n e w (eqb (e / width n) (w / width n)) refl (level_below_lem n e w)

pub level_is : (e w : ℕ) → IsLevel e w (level_of e w)
unfolding level_of
level_is e w = level_below_lem 6 e w (omega arith)

level_le : {n e w k l : ℕ} → IsLevelBelow n e w k → IsLevelBelow n e w l → k ≤ l
level_le {k = k} {l = l} p q =
    let later : l < k → ⊥ = λ h. p.differ (omega arith) (q.above k h p.within) in
    omega arith

pub is_level : (e w k : ℕ) → IsLevel e w k → k ≡ level_of e w
is_level e w k p = le_antisymm (level_le p (level_is e w)) (level_le (level_is e w) p)

-- ---- "Between calls, a timer on the wheel at deadline w lies at level(e, w)": above level 0 its slot starts after elapsed

pub block_six : (w : ℕ) → w / width 6 ≡ block w
unfolding width
block_six w = refl

pub level_lies : (e w k : ℕ) → e ≤ w → block e ≡ block w → IsLevel e w k → Lies k e w × (0 < k → e < floor k w)
level_lies e w k h b l =
    let six : e / width 6 ≡ w / width 6 = block_six e ∙ b ∙ sym (block_six w) in
    let next : e / width (suc k) ≡ w / width (suc k)
    = by_cases (ℕ_discrete (suc k) 6) (λ s. rw s six) (λ d. l.above (suc k) (omega arith) (omega arith)) in
    let ahead : 0 < k → e < floor k w = λ p. (lt_floor k e w).0 (omega (arith, quotient_le k h, l.differ p)) in
    let start : e ≤ floor k w = ⊎_elim (λ (z : k ≡ 0). rw (z, floor_zero w) h) (λ p. omega (arith, ahead p)) (eq-zero-or-pos k) in
    (record { above = sym next; start = start }, ahead)

pub lies_level : (e w k : ℕ) → k < 6 → Lies k e w → (0 < k → e < floor k w) → IsLevel e w k
lies_level e w k h l ahead =
    record {
      within = h;
      differ = λ p s. omega (arith, (lt_floor k e w).1 (ahead p));
      above = λ j p q. sym (lies_agree k e w l j p);
    }

-- ---- "The Rust finds it by leading zeros of e xor w with the low six bits set."

abbrev pub masked : ℕ → ℕ → ℕ
masked e w = bit_or (bit_xor e w) 63

xor_same : (a b : ℕ) → bit_xor a b ≡ 0 → a ≡ b
xor_same a b e = omega (arith, xor_add_and a b, and_le_l a b, and_le_r a b)

-- the exclusive or has at most n bits just where the quotients agree
xor_agree : (e w n : ℕ) → (bit_xor e w < 2 ^ n) ↔ (e / 2 ^ n ≡ w / 2 ^ n)
xor_agree e w n = (
  λ h. xor_same (e / 2 ^ n) (w / 2 ^ n) (sym (xor_shr e w n) ∙ div-eq_of_lt h),
  λ s.
      let none : bit_xor e w / 2 ^ n ≡ 0 = xor_shr e w n ∙ ap (bit_xor (e / 2 ^ n)) (sym s) ∙ xor_self (e / 2 ^ n) in
      subst (λ (p : ℕ). bit_xor e w < p) (one-mul (2 ^ n)) ((div-lt_iff_lt-mul {y = 1} (pow_pos n)).0 (omega arith)),
)

-- and so has the masked one, from the mask's six bits on
masked_lt : (e w n : ℕ) → 6 ≤ n → e / 2 ^ n ≡ w / 2 ^ n → masked e w < 2 ^ n
masked_lt e w n h s = or_lt n (bit_xor e w) 63 ((xor_agree e w n).1 s) (lt_of_lt_of_le {m = 64} (omega arith) (pow_mono {i = 6} {j = n} h))

masked_agree : (e w n : ℕ) → masked e w < 2 ^ n → e / 2 ^ n ≡ w / 2 ^ n
masked_agree e w n h = (xor_agree e w n).0 (omega (arith, or_add_and (bit_xor e w) 63, and_le_r (bit_xor e w) 63))

masked_ge : (e w : ℕ) → 63 ≤ masked e w
masked_ge e w = omega (arith, or_add_and (bit_xor e w) 63, and_le_l (bit_xor e w) 63)

module _ (e w : ℕ) (b : block e ≡ block w) where
  highest : (j : ℕ) × (count_leading_zeros 64 (masked e w) + suc j ≡ 64) × (2 ^ j ≤ masked e w) × (masked e w < 2 ^ suc j)
  highest =
      leading_top 64 (masked e w) (omega (arith, masked_ge e w)) (omega (arith, masked_lt e w 36 (omega arith) b))

  -- the place of its highest bit
  abbrev place : ℕ
  place = highest.0

  too_short : (n : ℕ) → n ≤ place → masked e w < 2 ^ n → ⊥
  too_short n h l = omega (arith, pow_mono h, highest.2)

  place_level : IsLevel e w (place / 6)
  place_level =
      let k : ℕ = place / 6 in
      record {
        within = let few : 36 ≤ place → ⊥ = λ h. too_short 36 h (masked_lt e w 36 (omega arith) b) in omega arith;
        differ = λ p s. too_short (k * 6) (omega arith)
            (masked_lt e w (k * 6) (omega arith) (sym (quotient_shr e k) ∙ s ∙ quotient_shr w k));
        above = λ j p q.
            let fits : masked e w < 2 ^ (j * 6) = lt_of_lt_of_le highest.3 (pow_mono {i = suc place} {j = j * 6} (omega arith)) in
            quotient_shr e j ∙ masked_agree e w (j * 6) fits ∙ sym (quotient_shr w j);
      }

  -- the mask caps the leading zeros, as in the Rust
  pub zeros_le : count_leading_zeros 64 (masked e w) ≤ 58
  zeros_le =
      let high : place < 5 → ⊥ = λ h. omega (arith, masked_ge e w, highest.3, pow_mono {i = suc place} {j = 5} h) in
      omega (arith, highest.1)

  pub zeros_level : (63 - count_leading_zeros 64 (masked e w)) / 6 ≡ level_of e w
  zeros_level =
      let significant : 63 - count_leading_zeros 64 (masked e w) ≡ place = omega (arith, highest.1) in
      ap (λ n. n / 6) significant ∙ is_level e w (place / 6) place_level

-- ---- "Levels at e=0: 63 is 0; 64 is 1; 4095 is 1; 4096 is 2; 1073741824 is 5; 68719476735 is 5. At e=63, 64 is 1. At e=4095, 4096 is 2."
pub levels_of_01 : (level_of 0 63 ≡ 0) × (level_of 0 64 ≡ 1) × (level_of 0 4095 ≡ 1) × (level_of 0 4096 ≡ 2)
    × (level_of 0 1073741824 ≡ 5) × (level_of 0 68719476735 ≡ 5) × (level_of 63 64 ≡ 1) × (level_of 4095 4096 ≡ 2)
unfolding level_of level_below width
levels_of_01 = (refl, refl, refl, refl, refl, refl, refl, refl)
