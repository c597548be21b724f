-- The laws of quotients by a width, of floors, and of where a deadline may lie, over any level k.
-- A quotient at k + 1 is a 64th of the quotient at k: with quotients as unknowns the rest is linear.
use mathlib.Core.Path.{◌≡◌, sym, ap, ◌∙◌, subst}
use mathlib.Core.Logic.{◌↔◌}
use Prim.Native.Nat.{ℕ, zero, suc, ◌+◌, ◌-◌, ◌*◌, ◌/◌, ◌%◌, ◌^◌, ◌≤◌, ◌<◌}
use native.Mathlib.Nat.{zero-add, suc-add, div-div-eq-div-mul, mul_comm, div-lt_iff_lt-mul, le-div_iff_mul-le, div-mul-le_self, div-one, mul-div_cancel, le_trans, mul-le-mul_right}
use native.Mathlib.Omega.{arith}
use Rattle.times.specs.Times.{width, slot_of, start_at, floor, Lies}
use Rattle.times.proofs.laws.Widths.{width_pos, width_step, width_pow}

-- ---- quotients

-- a quotient is a shift
pub quotient_shr : (w k : ℕ) → w / width k ≡ w / 2 ^ (k * 6)
quotient_shr w k = rw (width_pow k)

pub quotient_step : (w k : ℕ) → w / width (suc k) ≡ w / width k / 64
quotient_step w k = rw (width_step k, mul_comm 64 (width k)) (sym (div-div-eq-div-mul w (width k) 64))

pub quotient_zero : (w : ℕ) → w / width 0 ≡ w
unfolding width
quotient_zero w = div-one w

pub quotient_le : (k : ℕ) {a b : ℕ} → a ≤ b → a / width k ≤ b / width k
quotient_le k {a} h = (le-div_iff_mul-le (width_pos k)).1 (le_trans (div-mul-le_self a (width k)) h)

pub slot_lt : (w k : ℕ) → slot_of w k < 64
unfolding slot_of
slot_lt w k = omega arith

-- where the quotients agree, so do those of every wider level
agree_more : (d a b k : ℕ) → a / width k ≡ b / width k → a / width (d + k) ≡ b / width (d + k)
agree_more zero a b k h = rw zero-add h
agree_more (suc d) a b k h = rw (suc-add, quotient_step a (d + k), quotient_step b (d + k), agree_more d a b k h)

pub agree_above : (a b k : ℕ) → a / width k ≡ b / width k → (j : ℕ) → k ≤ j → a / width j ≡ b / width j
agree_above a b k h j l = subst (λ n. a / width n ≡ b / width n) (omega arith) (agree_more (j - k) a b k h)

-- ---- floors

pub floor_le : (k w : ℕ) → floor k w ≤ w
unfolding floor
floor_le k w = div-mul-le_self w (width k)

pub floor_zero : (w : ℕ) → floor 0 w ≡ w
unfolding floor width
floor_zero w = omega arith

-- before the floor of w is before it in the quotient
pub lt_floor : (k e w : ℕ) → (e / width k < w / width k) ↔ (e < floor k w)
unfolding floor
lt_floor k e w = div-lt_iff_lt-mul (width_pos k)

pub floor_quotient : (k w : ℕ) → floor k w / width k ≡ w / width k
unfolding floor
floor_quotient k w = mul-div_cancel (w / width k) (width_pos k)

-- a wider floor is no later
pub floor_down : (k w : ℕ) → floor (suc k) w ≤ floor k w
unfolding floor
floor_down k w =
    let q : ℕ = w / width k in
    let l : q / 64 * 64 * width k ≤ q * width k = mul-le-mul_right (width k) (omega arith) in
    rw (quotient_step w k, width_step k) (omega arith)

-- a floor at a level above 0 is a multiple of 64
pub floor_64 : (k w : ℕ) → floor (suc k) w / 64 * 64 ≡ floor (suc k) w
unfolding floor
floor_64 k w =
    let e : w / width (suc k) * width (suc k) ≡ w / width (suc k) * width k * 64 = rw (width_step k) (omega arith) in
    omega arith

-- ---- where a deadline may lie

module _ (k e w : ℕ) (l : Lies k e w) where
  pub lies_late : e ≤ w
  lies_late = le_trans l.start (floor_le k w)

  -- at every level above
  pub lies_agree : (j : ℕ) → k < j → w / width j ≡ e / width j
  lies_agree j h = agree_above w e (suc k) l.above j h

  pub lies_block : w / width k / 64 ≡ e / width k / 64
  lies_block = sym (quotient_step w k) ∙ l.above ∙ quotient_step e k

  -- the start of its slot is the deadline rounded down to the width
  pub lies_start : start_at e k (slot_of w k) ≡ floor k w
  unfolding start_at slot_of floor
  lies_start =
      let a : ℕ = w / width k in
      let q : e / (64 * width k) ≡ a / 64 = rw (← (width_step k)) (sym l.above ∙ quotient_step w k) in
      let r : a * width k ≡ (a / 64 * 64 + a % 64) * width k = ap (λ n. n * width k) (omega arith) in
      rw q (omega arith)

  -- elapsed may rise to anything up to that start
  pub lies_raise : (f : ℕ) → e ≤ f → f ≤ floor k w → Lies k f w
  lies_raise f a b =
      record {
        above = omega (arith, quotient_le (suc k) a, quotient_le (suc k) (le_trans b (floor_le k w)));
        start = b;
      }

  -- and what lies at a higher level, in a slot that elapsed has not, is later
  pub lies_before : (j v : ℕ) → k < j → e < floor j v → w < floor j v
  lies_before j v h s = (lt_floor j w v).0 (omega (arith, lies_agree j h, (lt_floor j e v).1 s))

-- one level down, once elapsed is the start of its slot
pub lies_down : (k e w : ℕ) → floor (suc k) w ≡ e → Lies k e w
lies_down k e w s =
    record {
      above = sym (floor_quotient (suc k) w) ∙ rw s;
      start = omega (arith, floor_down k w);
    }
