-- What the code computes, as rows: one bit set and cleared, and the trailing zeros.
use mathlib.Core.Path.{◌≡◌, refl, sym, ap, ◌∙◌}
use mathlib.Core.Bool.{true, false}
use Prim.Native.Nat.{ℕ, zero, suc, ◌+◌, ◌-◌, ◌*◌, ◌/◌, ◌%◌, ◌^◌, ◌<◌}
use native.Mathlib.Nat.{mod-eq_of_lt, one-mul, div-one}
use native.Mathlib.Omega.{arith}
use lib.Dec.{eqb}
use lib.Pow.{pow-lt, pow-add, shr-shr}
use lib.Bits.{bit_and, bit_or, bit_xor, or_add_and, xor_add_and, and_high}
use lib.Count.{count_trailing_zeros, under}
use borrow.Author.Tests.{eq-eqb, ne_eqb}
use Rattle.row.specs.Row.{flag_at, bit, row_of, flagged, Lowest}
use Rattle.row.proofs.laws.Rows.{flag_digit, row_flags, row_change}

-- ---- the bit of one slot

pub one_shl : (s : ℕ) → s < 64 → 1 * 2 ^ s % 2 ^ 64 ≡ 2 ^ s
one_shl s h = rw (one-mul (2 ^ s)) (mod-eq_of_lt (pow-lt {j = 64} h))

-- an and with it is worth the slot's flag: from this come the or and the exclusive or, by their sums with the and
and_bit : (x s : ℕ) → bit_and x (2 ^ s) ≡ bit (flag_at x s) * 2 ^ s
and_bit x s =
    let e : 2 ^ s ≡ 2 ^ (1 + s) - 2 ^ s = omega (arith, pow-add 2 1 s) in
    rw (flag_digit x s) (ap (bit_and x) e ∙ and_high x 1 s)

module _ (x s : ℕ) (hx : x < 2 ^ 64) (hs : s < 64) where
  pub or_sets : bit_or x (2 ^ s) ≡ row_of (flagged (flag_at x) s true)
  or_sets = omega (arith, or_add_and x (2 ^ s), and_bit x s, row_change (flag_at x) s true 64 hs, row_flags 64 hx)

  pub xor_clears : flag_at x s ≡ true → bit_xor x (2 ^ s) ≡ row_of (flagged (flag_at x) s false)
  xor_clears e =
      let one : bit (flag_at x s) * 2 ^ s ≡ 2 ^ s = rw e (one-mul (2 ^ s)) in
      omega (arith, xor_add_and x (2 ^ s), and_bit x s, row_change (flag_at x) s false 64 hs, row_flags 64 hx)

-- ---- the trailing zeros

flag_zero : (x : ℕ) → flag_at x 0 ≡ eqb (x % 2) 1
unfolding flag_at
flag_zero x = rw (div-one x)

flag_shr : (x n s : ℕ) → flag_at (x / 2 ^ n) s ≡ flag_at x (n + s)
unfolding flag_at
flag_shr x n s = rw (shr-shr x n s)

flag_suc : (x s : ℕ) → flag_at x (suc s) ≡ flag_at (x / 2) s
flag_suc x s = ap (flag_at x) (omega arith) ∙ sym (flag_shr x 1 s)

before_suc : (x t : ℕ) → x % 2 ≡ 0 → ((j : ℕ) → j < t → flag_at (x / 2) j ≡ false) → (j : ℕ) → j < suc t → flag_at x j ≡ false
before_suc x t e h zero l = flag_zero x ∙ ne_eqb (x % 2) 1 (omega arith)
before_suc x t e h (suc j) l = flag_suc x j ∙ h j (omega arith)

-- the trailing zeros of a row are its lowest slot
pub trailing_lowest : (k x : ℕ) → 0 < x → x < 2 ^ k → Lowest (flag_at x) k (count_trailing_zeros k x)
unfolding count_trailing_zeros
trailing_lowest zero x p h = absurd (omega arith)
trailing_lowest (suc k) x p h = go (λ q. trailing_lowest k (x / 2) q (omega arith)) (x % 2) refl
  where
    go : (0 < x / 2 → Lowest (flag_at (x / 2)) k (count_trailing_zeros k (x / 2))) → (d : ℕ) → x % 2 ≡ d
        → Lowest (flag_at x) (suc k) (under d (count_trailing_zeros k (x / 2)))
    go ih zero e =
        let l = ih (omega arith) in
        record {
          within = omega arith;
          marked = flag_suc x (count_trailing_zeros k (x / 2)) ∙ l.marked;
          lower = before_suc x (count_trailing_zeros k (x / 2)) e l.lower;
        }
    go ih (suc d) e =
        record {
          within = omega arith;
          marked = flag_zero x ∙ eq-eqb (x % 2) 1 (omega arith);
          lower = λ j h. absurd (omega arith);
        }
