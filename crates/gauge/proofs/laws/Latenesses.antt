-- Many latenesses: where all are equal smoothed is that number, and worst is the greatest.
use mathlib.Core.Path.{◌≡◌, ap, ap₂, ◌∙◌}
use mathlib.Core.Bool.{Bool, true, false, ◌||◌}
use mathlib.Core.Logic.{by_cases}
use mathlib.Core.List.{List, [], ◌∷◌}
use Prim.Native.Nat.{ℕ, zero, suc, ◌<◌, min, max}
use native.Mathlib.Decide.{dec_lt}
use native.Mathlib.Omega.{arith}
use borrow.Author.Tests.{lt-ltb, le-ltb}
use lib.ListN.{replicate}
use lib.Dec.{ltb}
use lib.IntN.{pos}
use lib.Ieee.{Float, binary64, of_int, lt}
use Rattle.gauge.specs.declared.Gauge.{Gauge}
use Rattle.gauge.specs.Gauge.{most, float_of, smoother, noted}
use Rattle.gauge.specs.Light.{bad_limit}
use Rattle.gauge.specs.Many.{noted_all, floats, greatest}
use Rattle.gauge.proofs.laws.Floats.{steady, lt_floats, not_negative, float_number}
use Rattle.gauge.proofs.laws.Noting.{first_smoothed, first_worst, next_smoothed, next_worst, some}

-- ---- "If all latenesses are equal, smoothed is exactly that number."

steady_all : (n k : ℕ) (g : Gauge) → g.any ≡ true → g.smoothed ≡ float_of n → (noted_all g (replicate k (float_of n))).smoothed ≡ float_of n
steady_all n zero g a e = e
steady_all n (suc k) g a e =
    steady_all n k (noted g (float_of n)) (some g (float_of n))
    (next_smoothed g (float_of n) a ∙ ap (λ (x : Float). smoother x (float_of n)) e ∙ steady n)

-- the same float, and so bit for bit, for any number of them
pub equal_latenesses : (n k : ℕ) (g : Gauge) → g.any ≡ false → (noted_all g (replicate (suc k) (float_of n))).smoothed ≡ float_of n
equal_latenesses n k g a = steady_all n k (noted g (float_of n)) (some g (float_of n)) (first_smoothed g (float_of n) a)

-- ---- worst is the greatest

same_cap : (a b : ℕ) → min a most ≡ min b most → float_of a ≡ float_of b
unfolding float_of
same_cap a b e = ap (λ (c : ℕ). of_int binary64 (pos c)) e

worst_step : (g : Gauge) (n m : ℕ) → g.any ≡ true → g.worst ≡ float_of n → (noted g (float_of m)).worst ≡ float_of (max n m)
worst_step g n m a e =
    let t : lt g.worst (float_of m) ≡ ltb (min n most) (min m most) = ap (λ (x : Float). lt x (float_of m)) e ∙ lt_floats n m in
    by_cases (dec_lt (min n most) (min m most))
    (λ (l : min n most < min m most).
    next_worst g (float_of m) true a (t ∙ lt-ltb (min n most) (min m most) l) ∙ same_cap m (max n m) (omega arith))
    (λ l. next_worst g (float_of m) false a (t ∙ le-ltb (min n most) (min m most) (omega arith)) ∙ e ∙ same_cap n (max n m) (omega arith))

worst_all : (g : Gauge) (n : ℕ) (ns : List ℕ) → g.any ≡ true → g.worst ≡ float_of n → (noted_all g (floats ns)).worst ≡ float_of (greatest n ns)
worst_all g n [] a e = e
worst_all g n (m ∷ ns) a e = worst_all (noted g (float_of m)) (max n m) ns (some g (float_of m)) (worst_step g n m a e)

pub worst_greatest : (g : Gauge) (n : ℕ) (ns : List ℕ) → g.any ≡ false → (noted_all g (floats (n ∷ ns))).worst ≡ float_of (greatest n ns)
worst_greatest g n ns a = worst_all (noted g (float_of n)) n ns (some g (float_of n)) (first_worst g (float_of n) a)

-- ---- a number of milliseconds is a limit

pub float_limit : (n : ℕ) → bad_limit (float_of n) ≡ false
float_limit n = ap₂ (λ (a b : Bool). a || b) (not_negative n) (float_number n)
