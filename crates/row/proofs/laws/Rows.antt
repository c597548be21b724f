-- The laws of rows and their flags, over rows of n slots.
use mathlib.Core.Path.{◌≡◌, refl, sym, ap, ◌∙◌}
use mathlib.Core.Logic.{◌≢◌, by_cases}
use mathlib.Core.Bool.{Bool, true, false, true≢false}
use Prim.Native.Nat.{ℕ, zero, suc, ◌+◌, ◌-◌, ◌*◌, ◌/◌, ◌%◌, ◌^◌, ◌≤◌, ◌<◌}
use native.Mathlib.Nat.{add-mul-div_right, add-suc, add-zero, div-eq_of_lt, mod-eq_of_lt, zero-add, zero-div}
use native.Mathlib.Decide.{ℕ_discrete}
use native.Mathlib.Omega.{arith}
use lib.Dec.{eqb}
use lib.Pow.{pow_pos, pow-add, mod-pow-add}
use borrow.Author.Tests.{eq-eqb, ne_eqb}
use Rattle.row.specs.Row.{flag_at, bit, row_below, flagged, Lowest}

-- ---- a digit and its flag

digit_flag : (d : ℕ) → d < 2 → bit (eqb d 1) ≡ d
digit_flag zero h = refl
digit_flag (suc zero) h = refl
digit_flag (suc (suc d)) h = absurd (omega arith)

pub flag_digit : (x s : ℕ) → bit (flag_at x s) ≡ x / 2 ^ s % 2
unfolding flag_at
flag_digit x s = digit_flag (x / 2 ^ s % 2) (omega arith)

bit_flag : (b : Bool) → eqb (bit b) 1 ≡ b
bit_flag true = refl
bit_flag false = refl

bit_le : (b : Bool) (p : ℕ) → bit b * p ≤ p
bit_le true p = omega arith
bit_le false p = omega arith

-- ---- the parts of a row

pub row_lt : (f : ℕ → Bool) (n : ℕ) → row_below f n < 2 ^ n
unfolding row_below
row_lt f zero = omega arith
row_lt f (suc n) = omega (arith, row_lt f n, bit_le (f n) (2 ^ n))

-- the first m slots and the n after them
row_split : (f : ℕ → Bool) (m n : ℕ) → row_below f (m + n) ≡ row_below f m + row_below (λ s. f (m + s)) n * 2 ^ m
unfolding row_below
row_split f m zero = rw add-zero (omega arith)
row_split f m (suc n) = rw add-suc (omega (arith, row_split f m n, ap (λ p. bit (f (m + n)) * p) (pow-add 2 m n)))

row_shr : (f : ℕ → Bool) (m n : ℕ) → row_below f (m + n) / 2 ^ m ≡ row_below (λ s. f (m + s)) n
row_shr f m n = rw (row_split f m n, add-mul-div_right _ _ (pow_pos m), div-eq_of_lt (row_lt f m), zero-add)

row_low : (f : ℕ → Bool) (n : ℕ) → row_below f (1 + n) % 2 ≡ bit (f 0)
unfolding row_below
row_low f n = omega (arith, row_split f 1 n, bit_le (f 0) 1)

-- ---- a row has the flags that it is made of, and a number is the row of its flags

pub flag_row_lem : (f : ℕ → Bool) (n s : ℕ) → s < n → flag_at (row_below f n) s ≡ f s
unfolding flag_at
flag_row_lem f n s h =
    let e : n ≡ s + (1 + (n - s - 1)) = omega arith in
    let digit : row_below f n / 2 ^ s % 2 ≡ bit (f (s + 0))
    = ap (λ i. row_below f i / 2 ^ s % 2) e ∙ rw (row_shr f s (1 + (n - s - 1))) (row_low (λ t. f (s + t)) (n - s - 1)) in
    rw digit (bit_flag (f (s + 0)) ∙ ap f (add-zero s))

row_mod : (x n : ℕ) → row_below (flag_at x) n ≡ x % 2 ^ n
unfolding row_below
row_mod x zero = omega arith
row_mod x (suc n) =
    let one_more : x % 2 ^ suc n ≡ x % 2 ^ (1 + n) = ap (λ i. x % 2 ^ i) (omega arith) in
    rw (flag_digit x n) (omega (arith, row_mod x n, mod-pow-add x 1 n))

pub row_flags : (n : ℕ) {x : ℕ} → x < 2 ^ n → row_below (flag_at x) n ≡ x
row_flags n {x} h = row_mod x n ∙ mod-eq_of_lt h

-- ---- so a row is fixed by its flags, and it is 0 where there are none

pub row_ext : (f g : ℕ → Bool) (n : ℕ) → ((s : ℕ) → s < n → f s ≡ g s) → row_below f n ≡ row_below g n
unfolding row_below
row_ext f g zero h = refl
row_ext f g (suc n) h = rw (row_ext f g n (λ s l. h s (omega arith)), h n (omega arith))

row_some : (f : ℕ → Bool) (n : ℕ) → 0 < row_below f n → (s : ℕ) × (s < n) × (f s ≡ true)
unfolding row_below
row_some f zero h = absurd (omega arith)
row_some f (suc n) h = go (row_some f n) (f n) refl
  where
    go : (0 < row_below f n → (s : ℕ) × (s < n) × (f s ≡ true)) → (b : Bool) → f n ≡ b → (s : ℕ) × (s < suc n) × (f s ≡ true)
    go ih true e = (n, omega arith, e)
    go ih false e =
        let below : 0 < row_below f n + bit false * 2 ^ n = rw e at h in
        let s = ih (omega arith) in
        (s.0, omega arith, s.2)

pub row_none : (f : ℕ → Bool) (n : ℕ) → ((s : ℕ) → s < n → f s ≡ false) → row_below f n ≡ 0
row_none f n h =
    let none : 0 < row_below f n → ⊥ = λ p. let s = row_some f n p in true≢false (sym s.2 ∙ h s.0 s.1) in
    omega arith

pub flag_none : (s : ℕ) → flag_at 0 s ≡ false
unfolding flag_at
flag_none s = rw (zero-div (2 ^ s))

-- ---- one flag changed

pub flagged_here : (f : ℕ → Bool) (s : ℕ) (v : Bool) → flagged f s v s ≡ v
unfolding flagged
flagged_here f s v = rw (eq-eqb s s refl)

pub flagged_other : (f : ℕ → Bool) (s : ℕ) (v : Bool) (t : ℕ) → t ≢ s → flagged f s v t ≡ f t
unfolding flagged
flagged_other f s v t d = rw (ne_eqb t s d)

-- the row changes by the worth of that flag
pub row_change : (f : ℕ → Bool) (s : ℕ) (v : Bool) (n : ℕ) → s < n
    → row_below (flagged f s v) n + bit (f s) * 2 ^ s ≡ row_below f n + bit v * 2 ^ s
unfolding row_below
row_change f s v zero h = absurd (omega arith)
row_change f s v (suc n) h =
    by_cases (ℕ_discrete n s)
    (λ e. rw (e, flagged_here f s v) (omega (arith, row_ext (flagged f s v) f s (λ t l. flagged_other f s v t (omega arith)))))
    (λ d. rw (flagged_other f s v n d) (omega (arith, row_change f s v n (omega arith))))

-- ---- there is one lowest slot

lowest_le : (f : ℕ → Bool) (n r r' : ℕ) → Lowest f n r → Lowest f n r' → r ≤ r'
lowest_le f n r r' p q =
    let below : r' < r → ⊥ = λ l. true≢false (sym q.marked ∙ p.lower r' l) in
    omega arith

pub lowest_one : (f : ℕ → Bool) (n r r' : ℕ) → Lowest f n r → Lowest f n r' → r ≡ r'
lowest_one f n r r' p q = omega (arith, lowest_le f n r r' p q, lowest_le f n r' r q p)
