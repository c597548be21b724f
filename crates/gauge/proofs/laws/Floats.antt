-- Floats: what is not a number, the literals 0.0 and 8.0 as MIR has them, whole numbers, and the step at an equal lateness.
use mathlib.Core.Path.{◌≡◌, refl, sym, ap, ap₂, ◌∙◌}
use mathlib.Core.Bool.{Bool, true, false, cond, not, ◌&&◌, ◌||◌}
use Prim.Native.Nat.{ℕ, ◌+◌, ◌-◌, ◌*◌, ◌≤◌, ◌<◌, min}
use native.Mathlib.Omega.{arith}
use native.Mathlib.Nat.{mul-pos, sub_self, zero-lt-suc, mul-le-mul_right, mul_assoc, mul_comm, mul-lt-mul_of_pos_right}
use native.Mathlib.Decide.{dec_lt, ℕ_discrete}
use mathlib.Core.Logic.{by_cases}
use lib.IntN.{ℤ}
use lib.Dec.{ltb, eqb}
use lib.Ieee.{Float, nan, inf, fin, binary64, add, sub, div, neg, sum, round, of_int, up, down, lt, le, eq, is_nan, of_bits}
use lib.Ieee.Exact.{HasValue}
use lib.Ieee.Fits.{down_pos}
use lib.Ieee.Back.{round_whole}
use lib.Ieee.Scale.{round_same}
use borrow.Author.Tests.{le-ltb, lt-ltb, eq-eqb, ne_eqb}
use Rattle.gauge.specs.Gauge.{nought, eight, float_of, most, smoother}
use Rattle.gauge.specs.Light.{bad_limit}

-- ---- what is not a number

pub not_nan : (x : Float) → eq x x ≡ true → is_nan x ≡ false
unfolding eq is_nan
not_nan nan h = let z : ◌≡◌ {A = ℕ} 0 1 = cc in absurd (omega arith)
not_nan (inf s) h = refl
not_nan (fin s m e) h = refl

pub is_nan_lem : (x : Float) → eq x x ≡ false → is_nan x ≡ true
unfolding eq is_nan
is_nan_lem nan h = refl
is_nan_lem (inf false) h = let z : ◌≡◌ {A = ℕ} 0 1 = cc in absurd (omega arith)
is_nan_lem (inf true) h = let z : ◌≡◌ {A = ℕ} 0 1 = cc in absurd (omega arith)
is_nan_lem (fin false m e) h =
    let q : ◌≡◌ {A = Bool} true false = sym (ap (λ (b : Bool). b && true) (eq-eqb (m * up e * down e) (m * up e * down e) refl)) ∙ h in
    let z : ◌≡◌ {A = ℕ} 0 1 = cc in absurd (omega arith)
is_nan_lem (fin true m e) h =
    let q : ◌≡◌ {A = Bool} true false = sym (ap (λ (b : Bool). b && true) (eq-eqb (m * up e * down e) (m * up e * down e) refl)) ∙ h in
    let z : ◌≡◌ {A = ℕ} 0 1 = cc in absurd (omega arith)

-- ---- the literals, as MIR has them

pub zero_bits : of_bits binary64 0 ≡ nought
unfolding of_bits
zero_bits = refl

pub eight_bits : of_bits binary64 4620693217682128896 ≡ eight
unfolding of_bits
eight_bits = refl

abbrev pub rough : Float → Float → Float → Float
rough s l e = add binary64 s (div binary64 (sub binary64 l s) e)

pub smoother_bits : (s l : Float) → rough s l (of_bits binary64 4620693217682128896) ≡ smoother s l
unfolding smoother
smoother_bits s l = ap (rough s l) eight_bits

-- ---- one step at an equal lateness changes nothing

-- 0 / c rounds to +0
round_zero : (c : ℕ) → 0 < c → round binary64 false 0 c ≡ nought
unfolding round
round_zero c h = round_same binary64 false 0 c 0 1 h (zero-lt-suc 0) (omega arith) ∙ refl

-- x - x is +0 for a finite x of no sign
self_sub : (m : ℕ) (e : ℤ) → sub binary64 (fin false m e) (fin false m e) ≡ nought
unfolding sub add neg sum
self_sub m e =
    let a : ℕ = m * up e * down e in
    ap (λ (b : Bool). cond b (round binary64 true (a - a) (down e * down e)) (round binary64 (false && ltb a a) (a - a) (down e * down e)))
    (le-ltb a a (omega arith))
    ∙ ap (λ (n : ℕ). round binary64 false n (down e * down e)) (sub_self a)
    ∙ round_zero (down e * down e) (mul-pos (down_pos e) (down_pos e))

-- +0 / 8 is +0
zero_eighth : div binary64 nought eight ≡ nought
unfolding div round
zero_eighth = refl

-- n + 0 is n, for a whole n that the format counts without a gap
add_nought : (n : ℕ) (x : Float) → x ≡ round binary64 false n 1 → HasValue x false n 1 → add binary64 x nought ≡ x
unfolding add sum
add_nought n nan e h = absurd h
add_nought n (inf s) e h = absurd h
add_nought n (fin true m d) e h = let q : ◌≡◌ {A = Bool} true false = h.0 in let z : ◌≡◌ {A = ℕ} 0 1 = cc in absurd (omega arith)
add_nought n (fin false m d) e h =
    round_same binary64 false (m * up d * 1 + 0 * 1 * down d) (down d * 1) n 1 (omega (arith, down_pos d)) (zero-lt-suc 0) (omega (arith, h.1))
    ∙ sym e

steady_at : (n : ℕ) (x : Float) → x ≡ round binary64 false n 1 → HasValue x false n 1 → smoother x x ≡ x
unfolding smoother
steady_at n nan e h = absurd h
steady_at n (inf s) e h = absurd h
steady_at n (fin true m d) e h = let q : ◌≡◌ {A = Bool} true false = h.0 in let z : ◌≡◌ {A = ℕ} 0 1 = cc in absurd (omega arith)
steady_at n (fin false m d) e h =
    ap (λ (y : Float). add binary64 (fin false m d) (div binary64 y eight)) (self_sub m d)
    ∙ ap (add binary64 (fin false m d)) zero_eighth ∙ add_nought n (fin false m d) e h

pub has_value : (n : ℕ) → HasValue (float_of n) false (min n most) 1
unfolding float_of of_int
has_value n = round_whole binary64 false (min n most) (omega arith)

pub steady : (n : ℕ) → smoother (float_of n) (float_of n) ≡ float_of n
unfolding float_of of_int
steady n = steady_at (min n most) (round binary64 false (min n most) 1) refl (round_whole binary64 false (min n most) (omega arith))

-- ---- the order of latenesses is that of the numbers under the cap

lt_values : (x y : Float) (a b : ℕ) → HasValue x false a 1 → HasValue y false b 1 → lt x y ≡ ltb a b
unfolding lt
lt_values nan y a b p q = absurd p
lt_values (inf s) y a b p q = absurd p
lt_values (fin s m e) nan a b p q = absurd q
lt_values (fin s m e) (inf t) a b p q = absurd q
lt_values (fin true m e) (fin t n d) a b p q = let r : ◌≡◌ {A = Bool} true false = p.0 in let z : ◌≡◌ {A = ℕ} 0 1 = cc in absurd (omega arith)
lt_values (fin false m e) (fin true n d) a b p q = let r : ◌≡◌ {A = Bool} true false = q.0 in let z : ◌≡◌ {A = ℕ} 0 1 = cc in absurd (omega arith)
lt_values (fin false m e) (fin false n d) a b p q =
    scaled a b (down e) (down d) (m * up e) (n * up d) (down_pos e) (down_pos d) (omega (arith, p.1)) (omega (arith, q.1))
  where
    scaled : (a b u v x y : ℕ) → 0 < u → 0 < v → x ≡ a * u → y ≡ b * v → ltb (x * v) (y * u) ≡ ltb a b
    scaled a b u v x y h k f g =
        let left : x * v ≡ a * (u * v) = ap (λ (n : ℕ). n * v) f ∙ mul_assoc a u v in
        let right : y * u ≡ b * (u * v) = ap (λ (n : ℕ). n * u) g ∙ mul_assoc b v u ∙ ap (λ (n : ℕ). b * n) (mul_comm v u) in
        ap₂ (λ (m n : ℕ). ltb m n) left right
        ∙ by_cases (dec_lt a b)
        (λ (l : a < b). lt-ltb (a * (u * v)) (b * (u * v)) (mul-lt-mul_of_pos_right l (mul-pos h k)) ∙ sym (lt-ltb a b l))
        (λ l. let n : b ≤ a = omega arith in le-ltb (a * (u * v)) (b * (u * v)) (mul-le-mul_right (u * v) n) ∙ sym (le-ltb a b n))

pub lt_floats : (a b : ℕ) → lt (float_of a) (float_of b) ≡ ltb (min a most) (min b most)
lt_floats a b = lt_values (float_of a) (float_of b) (min a most) (min b most) (has_value a) (has_value b)

-- never below zero, and a number
pub not_negative : (n : ℕ) → lt (float_of n) nought ≡ false
not_negative n = lt_values (float_of n) nought (min n most) 0 (has_value n) (refl, refl) ∙ le-ltb (min n most) 0 (omega arith)

value_number : (x : Float) (a : ℕ) → HasValue x false a 1 → is_nan x ≡ false
unfolding is_nan
value_number nan a h = absurd h
value_number (inf s) a h = refl
value_number (fin s m e) a h = refl

pub float_number : (n : ℕ) → is_nan (float_of n) ≡ false
float_number n = value_number (float_of n) (min n most) (has_value n)

-- ---- `0.0 <= x` tells limits: what is not a number fails it

-- 0 <= m, of a number that is not negative, and of one that is, or is -0
over : (z m : ℕ) → z ≡ 0 → ltb z m || (eqb z m && true) ≡ not (ltb m z || false)
over z m e =
    by_cases (ℕ_discrete z m)
    (λ (h : z ≡ m). simp (eq-eqb z m h, le-ltb z m (omega arith), le-ltb m z (omega arith)))
    (λ h. simp (lt-ltb z m (omega arith), le-ltb m z (omega arith)))

under : (z m : ℕ) → z ≡ 0 → (eqb z m && eqb z 0) ≡ not (ltb 0 (m + z) || false)
under z m e =
    by_cases (ℕ_discrete z m)
    (λ (h : z ≡ m). simp (eq-eqb z m h, eq-eqb z 0 e, le-ltb 0 (m + z) (omega arith)))
    (λ h. simp (ne_eqb z m h, lt-ltb 0 (m + z) (omega arith)))

pub limit_test : (x : Float) → le nought x ≡ not (bad_limit x)
unfolding le lt eq is_nan
limit_test nan = refl
limit_test (inf true) = refl
limit_test (inf false) = refl
limit_test (fin false m e) = over (0 * 1 * down e) (m * up e * 1) (omega arith)
limit_test (fin true m e) = under (0 * 1 * down e) (m * up e * 1) (omega arith)
