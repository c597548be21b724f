-- Decimals: each number below 2 ^ 64 has one and only one, of at most 20 digits, and it is the decimal of no other number.
use mathlib.Core.Path.{◌≡◌, refl, sym, ap, ◌∙◌, subst}
use mathlib.Core.List.{List, [], ◌∷◌}
use mathlib.Core.Logic.{by_cases}
use Prim.Native.Nat.{ℕ, zero, suc, ◌+◌, ◌-◌, ◌*◌, ◌/◌, ◌%◌, ◌^◌, ◌≤◌, ◌<◌}
use native.Mathlib.Nat.{pow-succ', pow-le-pow_right, mul-le-mul_right}
use native.Mathlib.Decide.{dec_le, ℕ_discrete}
use native.Mathlib.Omega.{arith}
use lib.Arith.{digits_lt, digits_div, digits_mod}
use lib.ListN.{length}
use Rattle.decimals.specs.Text.{Digits, worth, Decimal}

-- one digit more: q counts ten times as much
pub shift : (q d k w : ℕ) → q * 10 ^ suc k + (d * 10 ^ k + w) ≡ (q * 10 + d) * 10 ^ k + w
shift q d k w = ap (λ x. q * x + (d * 10 ^ k + w)) (pow-succ' 10 k) ∙ at_power (10 ^ k)
  where
    at_power : (p : ℕ) → q * (10 * p) + (d * p + w) ≡ (q * 10 + d) * p + w
    at_power p = omega arith

tail : (b : ℕ) (l : List ℕ) → Digits (b ∷ l) → Digits l
tail b l d i h = d (suc i) (omega arith)

-- ---- digits of one length and one worth are the same

worth_lt : (l : List ℕ) → Digits l → worth l < 10 ^ length l
unfolding worth
worth_lt [] d = omega arith
worth_lt (b ∷ l) d =
    let h : b - 48 < 10 = omega (arith, d 0 (omega arith)) in
    rw (pow-succ' 10 (length l)) (digits_lt h (worth_lt l (tail b l d)))

same : (l m : List ℕ) → Digits l → Digits m → length l ≡ length m → worth l ≡ worth m → l ≡ m
unfolding worth
same [] [] p q h e = refl
same [] (c ∷ m) p q h e = absurd (omega arith)
same (b ∷ l) [] p q h e = absurd (omega arith)
same (b ∷ l) (c ∷ m) p q h e =
    let k : length m ≡ length l = omega arith in
    let f : (b - 48) * 10 ^ length l + worth l ≡ (c - 48) * 10 ^ length l + worth m = e ∙ ap (λ n. (c - 48) * 10 ^ n + worth m) k in
    let u : worth l < 10 ^ length l = worth_lt l (tail b l p) in
    let v : worth m < 10 ^ length l = subst (λ (n : ℕ). worth m < 10 ^ n) k (worth_lt m (tail c m q)) in
    let heads : b - 48 ≡ c - 48 = sym (digits_div (b - 48) u) ∙ ap (λ n. n / 10 ^ length l) f ∙ digits_div (c - 48) v in
    let tails : worth l ≡ worth m = sym (digits_mod (b - 48) u) ∙ ap (λ (n : ℕ). n % 10 ^ length l) f ∙ digits_mod (c - 48) v in
    let g : b ≡ c = omega (arith, p 0 (omega arith), q 0 (omega arith)) in
    let t : l ≡ m = same l m (tail b l p) (tail c m q) (sym k) tails in
    λ i. g i ∷ t i

-- ---- and decimals of one number have one length, since no first digit is spare

lead : (b : ℕ) (l : List ℕ) → 48 < b → 10 ^ length l ≤ worth (b ∷ l)
unfolding worth
lead b l h = at_power (10 ^ length l) (mul-le-mul_right (10 ^ length l) one)
  where
    one : 1 ≤ b - 48
    one = omega arith

    at_power : (p : ℕ) → 1 * p ≤ (b - 48) * p → p ≤ (b - 48) * p + worth l
    at_power p k = omega arith

least : {b n : ℕ} {l : List ℕ} → Decimal (b ∷ l) n → 0 < length l → 10 ^ length l ≤ n
least {b} {n} {l} d h =
    subst (λ m. 10 ^ length l ≤ m) d.number
    (lead b l (omega (arith, d.digits 0 (omega arith), d.spare (omega arith))))

no_longer : (l m : List ℕ) {n : ℕ} → Decimal l n → Decimal m n → length l < length m → ⊥
no_longer l [] p q h = omega arith
no_longer l (b ∷ m) p q h =
    let k : 10 ^ length l ≤ 10 ^ length m = pow-le-pow_right (omega arith) (omega arith) in
    omega (arith, worth_lt l p.digits, least q (omega arith))

-- a number has no second decimal
pub one_decimal : {l m : List ℕ} {n : ℕ} → Decimal l n → Decimal m n → l ≡ m
one_decimal {l} {m} p q =
    let a = no_longer l m p q in
    let b = no_longer m l q p in
    same l m p.digits q.digits (omega arith) (p.number ∙ sym q.number)

-- a decimal is that of one number
pub one_number : {l : List ℕ} {n m : ℕ} → Decimal l n → Decimal l m → n ≡ m
one_number p q = sym p.number ∙ q.number

-- 10 ^ 20 does not fit a u64
pub at_most_20 : (l : List ℕ) {n : ℕ} → Decimal l n → length l ≤ 20
at_most_20 [] p = omega arith
at_most_20 (b ∷ l) p = by_cases (dec_le 20 (length l)) long (λ h. omega arith)
  where
    long : 20 ≤ length l → suc (length l) ≤ 20
    long h =
        let k : 10 ^ 20 ≤ 10 ^ length l = pow-le-pow_right (omega arith) h in
        absurd (omega (arith, least p (omega arith)))

-- ---- how a decimal is made, the last digit first: of n the digits t are there, and m is what is left

pub record Tail (n m : ℕ) (t : List ℕ) : Type 0 where
  pub digits : Digits t
  pub number : m * 10 ^ length t + worth t ≡ n
  pub more : 0 < length t → 0 < m

pub tail_none : (n : ℕ) → Tail n n []
unfolding worth
tail_none n = record { digits = λ i h. absurd (omega arith); number = omega arith; more = λ h. absurd (omega arith) }

-- what is left of a number that fits has at most 19 digits behind it
pub tail_short : {n m : ℕ} {t : List ℕ} → n < 2 ^ 64 → Tail n m t → length t ≤ 19
tail_short {n} {m} {t} f h = by_cases (dec_le 20 (length t)) long (λ k. omega arith)
  where
    long : 20 ≤ length t → length t ≤ 19
    long k =
        let p : 10 ^ 20 ≤ 10 ^ length t = pow-le-pow_right (omega arith) k in
        absurd (omega (arith, mul-le-mul_right (10 ^ length t) (h.more (omega arith))))

module _ {n m : ℕ} {t : List ℕ} (h : Tail n m t) where
  abbrev digit : ℕ
  digit = 48 + m % 10

  all : Digits (digit ∷ t)
  all zero k = (omega arith, omega arith)
  all (suc i) k = h.digits i (omega arith)

  next : m / 10 * 10 ^ suc (length t) + worth (digit ∷ t) ≡ n
  unfolding worth
  next =
      ap (λ d. m / 10 * 10 ^ suc (length t) + (d * 10 ^ length t + worth t)) (omega arith)
      ∙ shift (m / 10) (m % 10) (length t) (worth t)
      ∙ ap (λ x. x * 10 ^ length t + worth t) (omega arith)
      ∙ h.number

  pub tail_more : 0 < m / 10 → Tail n (m / 10) (digit ∷ t)
  tail_more k = record { digits = all; number = next; more = λ _. k }

  pub tail_end : n < 2 ^ 64 → m / 10 ≡ 0 → Decimal (digit ∷ t) n
  tail_end f e =
      record {
        some = omega arith;
        digits = all;
        spare = λ k z. omega (arith, h.more (omega arith));
        number = omega (arith, next, ap (λ q. q * 10 ^ suc (length t)) e);
        fits = f;
      }

-- each number that fits has a decimal
pub some_decimal : (n : ℕ) → n < 2 ^ 64 → (l : List ℕ) × Decimal l n
some_decimal n f = go n n [] (omega arith) (tail_none n)
  where
    go : (k m : ℕ) (t : List ℕ) → m ≤ k → Tail n m t → (l : List ℕ) × Decimal l n
    go zero m t b h = (_, tail_end h f (omega arith))
    go (suc k) m t b h =
        by_cases (ℕ_discrete (m / 10) 0) (λ e. (_, tail_end h f e))
        (λ e. go k (m / 10) ((48 + m % 10) ∷ t) (omega arith) (tail_more h (omega arith)))
