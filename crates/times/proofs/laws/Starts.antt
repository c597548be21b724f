-- A slot's start as the code has it: the laps of the level that elapsed has made, 64 slots each, and the slot, by the width.
use mathlib.Core.Path.{◌≡◌, sym, ap, ◌∙◌, subst}
use Prim.Native.Nat.{ℕ, suc, ◌+◌, ◌-◌, ◌*◌, ◌/◌, ◌^◌, ◌<◌}
use native.Mathlib.Nat.{le-mul_of_pos_right, lt_of_le_of_lt, mul_assoc, mul-lt-mul_of_pos_right}
use native.Mathlib.Omega.{arith}
use lib.Arith.{digits_lt}
use lib.Pow.{pow-add, shr_lt}
use Rattle.times.specs.Times.{width, start_at}
use Rattle.times.proofs.laws.Widths.{width_pos, width_step, width_pow}
use Rattle.times.proofs.laws.Quotients.{quotient_shr}

module _ (e k s : ℕ) where
  pub start_laps : (e / 2 ^ (k * 6 + 6) * 64 + s) * width k ≡ start_at e k s
  unfolding start_at
  start_laps =
      let q : ℕ = e / (64 * width k) in
      let shr : e / 2 ^ (k * 6 + 6) ≡ q
      = ap (λ (n : ℕ). e / 2 ^ n) (omega arith) ∙ sym (quotient_shr e (suc k)) ∙ ap (λ (n : ℕ). e / n) (width_step k) in
      rw shr (omega (arith, mul_assoc q 64 (width k)))

  -- the lap that elapsed is in ends within a u64
  pub start_lt : k < 6 → s < 64 → e < 2 ^ 64 → (e / 2 ^ (k * 6 + 6) * 64 + s) * width k < 2 ^ 64
  start_lt hk hs he =
      let j : ℕ = 58 - k * 6 in
      let bits : 64 ≡ j + (k * 6 + 6) = omega arith in
      let sorted : j + 6 + k * 6 ≡ 64 = omega arith in
      let whole : 2 ^ j * 64 * width k ≡ 2 ^ 64
      = ap (λ (n : ℕ). 2 ^ j * 64 * n) (width_pow k) ∙ ap (λ (n : ℕ). n * 2 ^ (k * 6)) (sym (pow-add 2 j 6))
      ∙ sym (pow-add 2 (j + 6) (k * 6)) ∙ ap (λ (n : ℕ). 2 ^ n) sorted in
      let laps : e / 2 ^ (k * 6 + 6) < 2 ^ j = shr_lt j (k * 6 + 6) (subst (λ (n : ℕ). e < 2 ^ n) bits he) in
      subst (λ (n : ℕ). (e / 2 ^ (k * 6 + 6) * 64 + s) * width k < n) whole (mul-lt-mul_of_pos_right (digits_lt laps hs) (width_pos k))

  pub slots_lt : k < 6 → s < 64 → e < 2 ^ 64 → e / 2 ^ (k * 6 + 6) * 64 + s < 2 ^ 64
  slots_lt hk hs he = lt_of_le_of_lt (le-mul_of_pos_right (e / 2 ^ (k * 6 + 6) * 64 + s) (width_pos k)) (start_lt hk hs he)
