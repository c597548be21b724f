-- What `text` writes: the digits that `io::decimal` leaves are the decimal, and with a word and a newline they are the line.
use mathlib.Core.Path.{◌≡◌, refl, sym, ap, subst}
use mathlib.Core.Bool.{Bool, cond}
use mathlib.Core.List.{List, [], ◌∷◌, ◌++◌, append-nil, append_assoc}
use Prim.Native.Nat.{ℕ, zero, suc, ◌+◌, ◌-◌, ◌*◌, ◌/◌, ◌%◌, ◌^◌, ◌≤◌, ◌<◌}
use native.Mathlib.Omega.{arith}
use native.Mathlib.Nat.{pow-succ', one-le-pow}
use borrow.Author.Tests.{lt-ltb}
use lib.ListN.{length, length-append}
use Rattle.io.specs.Digits.{last_digits, hex_digit_ascii, IsDigitCount}
use Rattle.decimals.specs.Text.{bytes, Decimal}
use Rattle.decimals.proofs.laws.Decimals.{Tail, tail_none, tail_more, tail_end}
use Rattle.inspector.specs.declared.State.{State}
use Rattle.inspector.specs.declared.State.TheVariants as S
use Rattle.writing.specs.Writing.{Wrote}
use Rattle.writing.proofs.laws.Writing.{wrote_more, wrote_front, no_room}
use Rattle.inspect.specs.Text.{TextClaim}

-- ---- the digits that `io::decimal` leaves are the decimal

digits_more : (k n m : ℕ) (t : List ℕ) → n < 2 ^ 64 → Tail n m t → m < 10 ^ suc k → (0 < k → 10 ^ k ≤ m) → Decimal (last_digits 10 (suc k) m ++ t) n
digits_more zero n m t f h l g =
    let e : hex_digit_ascii (m % 10) ≡ 48 + m % 10 = ap (λ (b : Bool). cond b (48 + m % 10) (87 + m % 10)) (lt-ltb (m % 10) 10 (omega arith)) in
    subst (λ (x : ℕ). Decimal (x ∷ t) n) (sym e) (tail_end h f (omega arith))
digits_more (suc k) n m t f h l g =
    let e : hex_digit_ascii (m % 10) ≡ 48 + m % 10 = ap (λ (b : Bool). cond b (48 + m % 10) (87 + m % 10)) (lt-ltb (m % 10) 10 (omega arith)) in
    let a : 10 ^ suc (suc k) ≡ 10 * 10 ^ suc k = pow-succ' 10 (suc k) in
    let b : 10 ^ suc k ≡ 10 * 10 ^ k = pow-succ' 10 k in
    let c : 1 ≤ 10 ^ k = one-le-pow k 10 (omega arith) in
    let p : 10 ^ suc k ≤ m = g (omega arith) in
    let d : Tail n (m / 10) ((48 + m % 10) ∷ t) = tail_more h (omega arith) in
    subst (λ (x : List ℕ). Decimal x n) (sym (append_assoc (last_digits 10 (suc k) (m / 10)) (hex_digit_ascii (m % 10) ∷ []) t))
    (subst (λ (x : ℕ). Decimal (last_digits 10 (suc k) (m / 10) ++ x ∷ t) n) (sym e)
    (digits_more k n (m / 10) ((48 + m % 10) ∷ t) f d (omega arith) (λ _. omega arith)))

pub digits_decimal : (n r : ℕ) → n < 2 ^ 64 → IsDigitCount 10 1 n r → Decimal (last_digits 10 r n) n
digits_decimal n zero f h = absurd (omega (arith, h.0))
digits_decimal n (suc k) f h =
    let e : suc k - 1 ≡ k = omega arith in
    subst (λ (x : List ℕ). Decimal x n) (append-nil (last_digits 10 (suc k) n))
    (digits_more k n n [] f (tail_none n) h.1 (λ l. subst (λ (j : ℕ). 10 ^ j ≤ n) e (h.2 (omega arith))))

-- ---- `say_bad` and `text`

abbrev bad_line : List ℕ → List ℕ
bad_line d = bytes "bad " ++ (d ++ 10 ∷ [])

bad_length : (d : List ℕ) → length (bad_line d) ≡ length d + 5
bad_length d = omega (arith, length-append d (10 ∷ []))

module _ {n : ℕ} (d : List ℕ) (q : Decimal d n) {o : List ℕ} where
  pub bad_full : length o < length d + 5 → TextClaim (S.Bad n) o 0 o
  bad_full h = (bad_line d, (d, q, refl), no_room (omega (arith, bad_length d)))

  pub bad_room : length d + 5 ≤ length o → {a b r : ℕ} {o₁ o₂ o₃ : List ℕ}
      → Wrote o 0 (bytes "bad ") a o₁ → Wrote o₁ a d b o₂ → Wrote o₂ b (10 ∷ []) r o₃ → TextClaim (S.Bad n) o r o₃
  bad_room h u v w = (bad_line d, (d, q, refl), wrote_front (wrote_more u (wrote_more v w)) (omega (arith, bad_length d)))

module _ {t : State} {o : List ℕ} where
  line_is : (u : State) → t ≡ u → {r : ℕ} {o' : List ℕ} → TextClaim u o r o' → TextClaim t o r o'
  line_is u e {r} {o'} c = subst (λ (x : State). TextClaim x o r o') (sym e) c

  module _ (n clock m : ℕ) (e : t ≡ S.Good n clock m) where
    pub ok_full : length o < 3 → TextClaim t o 0 o
    ok_full h = line_is (S.Good n clock m) e (bytes "ok" ++ 10 ∷ [], refl, no_room (omega arith))

    pub ok_room : 3 ≤ length o → {r : ℕ} {o' : List ℕ} → Wrote o 0 (bytes "ok" ++ 10 ∷ []) r o' → TextClaim t o r o'
    ok_room h w = line_is (S.Good n clock m) e (bytes "ok" ++ 10 ∷ [], refl, wrote_front w (omega arith))
