-- The paper's case and the edges of the rules, to the bit.
use mathlib.Core.Path.{◌≡◌, refl, ap, ap₂, ◌∙◌}
use mathlib.Core.Bool.{Bool, true, false, ◌||◌, or-true}
use mathlib.Core.List.{[], ◌∷◌}
use Prim.Native.Nat.{ℕ}
use native.Mathlib.Omega.{arith}
use lib.IntN.{pos}
use lib.Ieee.{Float, nan, inf, fin, add, sub, div, neg, round, of_int, to_bits, lt, le, eq, is_nan}
use Rattle.gauge.specs.declared.Gauge.{Gauge}
use Rattle.gauge.specs.declared.Light.TheVariants as L
use Rattle.gauge.specs.Gauge.{nought, zeros, float_of, smoother, noted}
use Rattle.std.specs.Prelude.{Ok}
use Rattle.gauge.specs.Light.{bad_limit, reading_of}
use Rattle.gauge.specs.Bits.{bits_of}
use Rattle.gauge.specs.Many.{noted_all, floats}
use Rattle.gauge.proofs.laws.Floats.{is_nan_lem, float_number}
use Rattle.gauge.proofs.laws.Noting.{first_smoothed, next_smoothed, some}
use Rattle.gauge.proofs.laws.Reading.{late_first, slow_then, limits_read}
use Rattle.gauge.proofs.laws.Latenesses.{worst_greatest, float_limit}

eight : float_of 8 ≡ fin false 1 (pos 3)
unfolding float_of of_int round
eight = refl

sixteen : float_of 16 ≡ fin false 1 (pos 4)
unfolding float_of of_int round
sixteen = refl

pub zero : float_of 0 ≡ nought
unfolding float_of of_int round
zero = refl

-- 8 + (16 - 8) / 8 is 9, and 0 + (8 - 0) / 8 is 1: not so with another divisor, or with the difference the other way
nine : smoother (fin false 1 (pos 3)) (fin false 1 (pos 4)) ≡ fin false 9 (pos 0)
unfolding smoother add sub neg div round
nine = refl

one : smoother nought (fin false 1 (pos 3)) ≡ fin false 1 (pos 0)
unfolding smoother add sub neg div round
one = refl

bits_nine : bits_of (fin false 9 (pos 0)) ≡ 4621256167635550208
unfolding bits_of eq to_bits
bits_nine = refl

bits_sixteen : bits_of (fin false 1 (pos 4)) ≡ 4625196817309499392
unfolding bits_of eq to_bits
bits_sixteen = refl

bits_one : bits_of (fin false 1 (pos 0)) ≡ 4607182418800017408
unfolding bits_of eq to_bits
bits_one = refl

smoothed_two : (n m : ℕ) → (noted_all zeros (floats (n ∷ m ∷ []))).smoothed ≡ smoother (float_of n) (float_of m)
smoothed_two n m =
    next_smoothed (noted zeros (float_of n)) (float_of m) (some zeros (float_of n))
    ∙ ap (λ (x : Float). smoother x (float_of m)) (first_smoothed zeros (float_of n) refl)

-- the latenesses 8 and 16: smoothed is 9 and worst 16, whose bits are 4022000000000000 and 4030000000000000
pub eight_sixteen : (bits_of (noted_all zeros (floats (8 ∷ 16 ∷ []))).smoothed ≡ 4621256167635550208)
    × (bits_of (noted_all zeros (floats (8 ∷ 16 ∷ []))).worst ≡ 4625196817309499392)
eight_sixteen = (
  ap (λ (x : Float). bits_of x) (smoothed_two 8 16 ∙ ap₂ (λ (x y : Float). smoother x y) eight sixteen ∙ nine) ∙ bits_nine,
  ap (λ (x : Float). bits_of x) (worst_greatest zeros 8 (16 ∷ []) refl ∙ sixteen) ∙ bits_sixteen,
)

-- the latenesses 0 and 8: smoothed is 1, where a gauge that takes 0 to mean no timer yet would have 8
pub nought_eight : bits_of (noted_all zeros (floats (0 ∷ 8 ∷ []))).smoothed ≡ 4607182418800017408
nought_eight = ap (λ (x : Float). bits_of x) (smoothed_two 0 8 ∙ ap₂ (λ (x y : Float). smoother x y) zero eight ∙ one) ∙ bits_one

-- ---- limits: -0.0 and +∞ are limits like others

pub limits_taken : (bad_limit (fin true 0 (pos 0)) ≡ false) × (bad_limit (inf false) ≡ false)
unfolding lt is_nan
limits_taken = (refl, refl)

pub limits_refused : (bad_limit nan ≡ true) × (bad_limit (inf true) ≡ true) × (bad_limit (fin true 1 (pos 0)) ≡ true)
unfolding lt is_nan
limits_refused = (refl, refl, refl)

-- ---- "at or over": at the limit it is late, and late goes before slow

at_itself : (n : ℕ) → le (float_of n) (float_of n) ≡ true
unfolding le
at_itself n = ap (λ (b : Bool). lt (float_of n) (float_of n) || b) (same (eq (float_of n) (float_of n)) refl) ∙ or-true (lt (float_of n) (float_of n))
  where
    same : (b : Bool) → eq (float_of n) (float_of n) ≡ b → eq (float_of n) (float_of n) ≡ true
    same true e = e
    same false e = let h = float_number n in let k = is_nan_lem (float_of n) e in let z : ◌≡◌ {A = ℕ} 0 1 = cc in absurd (omega arith)

pub at_the_limit : (g : Gauge) (n m : ℕ) → g.any ≡ true → g.worst ≡ float_of n → Ok (L.Late g.worst) ≡ reading_of g (float_of m) (float_of n)
at_the_limit g n m a e =
    limits_read g (float_of m) (float_of n) (float_limit m) (float_limit n)
    (late_first g (float_of m) (float_of n) a (ap (λ (x : Float). le (float_of n) x) e ∙ at_itself n))

pub slow_at_the_limit : (g : Gauge) (n m : ℕ) → g.any ≡ true → g.smoothed ≡ float_of n → le (float_of m) g.worst ≡ false
    → Ok (L.Slow g.smoothed) ≡ reading_of g (float_of n) (float_of m)
slow_at_the_limit g n m a e h =
    limits_read g (float_of n) (float_of m) (float_limit n) (float_limit m)
    (slow_then g (float_of n) (float_of m) a h (ap (λ (x : Float). le (float_of n) x) e ∙ at_itself n))
