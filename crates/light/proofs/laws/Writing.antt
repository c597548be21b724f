-- The line of a light, and its hex digits read back.
use mathlib.Core.Path.{◌≡◌, refl, sym, ap, ap₂, ◌∙◌, subst}
use mathlib.Core.Bool.{Bool, cond}
use mathlib.Core.Logic.{by_cases}
use mathlib.Core.List.{List, [], ◌∷◌, ◌++◌}
use Prim.Native.Nat.{ℕ, zero, suc, ◌+◌, ◌-◌, ◌*◌, ◌/◌, ◌%◌, ◌^◌, ◌<◌}
use native.Mathlib.Decide.{dec_lt}
use native.Mathlib.Omega.{arith}
use native.Mathlib.Nat.{pow-succ', one-le-pow}
use borrow.Author.Tests.{lt-ltb, le-ltb, le-leb, lt-leb}
use lib.Arith.{mod-mul}
use lib.ListN.{length, drop}
use Rattle.decimals.specs.Text.{bytes, Spaced}
use Rattle.answering.specs.Text.{Written, BadClaim}
use Rattle.gauge.specs.declared.Light.{Light}
use Rattle.gauge.specs.declared.Light.TheVariants as L
use Rattle.light.specs.Light.{word_of, digit_of, hex_of, line_of, bad}
use Rattle.writing.specs.Writing.{Wrote, Fronts, digits_of}
use Rattle.writing.proofs.laws.Writing.{wrote_more, digits_length}
use Rattle.light.specs.Hex.{digit_worth, hex_worth}

-- ---- the word and the line

pub word_length : (l : Light) → length (word_of l ++ bytes " ") ≡ 5
word_length L.Calm = refl
word_length (L.Slow s) = refl
word_length (L.Late w) = refl

pub word_wrote : {o : List ℕ} {r : ℕ} {o' : List ℕ} (l m : Light) → l ≡ m → Wrote o 0 (word_of m ++ bytes " ") r o' → Wrote o 0 (word_of l ++ bytes " ") r o'
word_wrote {o} {r} {o'} l m e w = subst (λ (x : Light). Wrote o 0 (word_of x ++ bytes " ") r o') (sym e) w

pub line_wrote : {o : List ℕ} (l : Light) (s w : ℕ) {a b c d e : ℕ} {o₁ o₂ o₃ o₄ o₅ : List ℕ}
    → Wrote o 0 (word_of l ++ bytes " ") a o₁ → Wrote o₁ a (hex_of 16 s) b o₂ → Wrote o₂ b (32 ∷ []) c o₃ → Wrote o₃ c (hex_of 16 w) d o₄
    → Wrote o₄ d (10 ∷ []) e o₅
    → Wrote o 0 (line_of l s w) e o₅
unfolding line_of
line_wrote l s w p q r t u = wrote_more p (wrote_more q (wrote_more r (wrote_more t u)))

pub line_length : (l : Light) (s w : ℕ) → length (line_of l s w) ≡ 39
unfolding line_of digits_of
line_length L.Calm s w = refl
line_length (L.Slow x) s w = refl
line_length (L.Late x) s w = refl

-- the line `bad` is the bench's
bad_is : {l : List ℕ} → Written (bytes "bad") [] [] l → l ≡ bad
unfolding Spaced
bad_is p = p.line ∙ ap (λ (x : List ℕ). bytes "bad" ++ (x ++ 10 ∷ [])) p.fields

pub wrote_bad : {o : List ℕ} {r : ℕ} {o' : List ℕ} → BadClaim o 0 r o' → Fronts bad o r o'
wrote_bad {o} {r} {o'} p =
    let e : 0 + length p.line ≡ length p.line = omega arith in
    subst (λ (l : List ℕ). Fronts l o r o') (bad_is p.written)
    (record {
      room = λ h. let q = p.room (omega arith) in (q.0 ∙ e, q.1 ∙ ap (λ (k : ℕ). p.line ++ drop k o) e);
      full = λ h. p.full (omega arith);
    })

-- ---- the 16 hex digits are those of the number

digit_worth_lem : (d : ℕ) → d < 16 → digit_worth (digit_of d) ≡ d
digit_worth_lem d h =
    by_cases (dec_lt d 10)
    (λ (l : d < 10).
    ap (λ (b : Bool). digit_worth (cond b (48 + d) (87 + d))) (lt-ltb d 10 l)
    ∙ ap (λ (b : Bool). cond b (48 + d - 48) (48 + d - 87)) (le-leb (48 + d) 57 (omega arith))
    ∙ omega arith)
    (λ l.
    ap (λ (b : Bool). digit_worth (cond b (48 + d) (87 + d))) (le-ltb d 10 (omega arith))
    ∙ ap (λ (b : Bool). cond b (87 + d - 48) (87 + d - 87)) (lt-leb (87 + d) 57 (omega arith))
    ∙ omega arith)

hex_worth_lem : (k n : ℕ) → hex_worth (hex_of k n) ≡ n % 16 ^ k
unfolding hex_worth digits_of
hex_worth_lem zero n = omega arith
hex_worth_lem (suc k) n =
    ap₂ (λ (x y : ℕ). x * 16 ^ y + hex_worth (hex_of k n)) (digit_worth_lem (n / 16 ^ k % 16) (omega arith)) (digits_length digit_of 16 k n)
    ∙ ap (λ (x : ℕ). n / 16 ^ k % 16 * 16 ^ k + x) (hex_worth_lem k n)
    ∙ sym (ap (λ (x : ℕ). n % x) (pow-succ' 16 k) ∙ mod-mul n {m = 16} {c = 16 ^ k} (omega arith) (one-le-pow k 16 (omega arith)))

-- so the bits of a float are read back
pub hex_back : (n : ℕ) → n < 2 ^ 64 → hex_worth (hex_of 16 n) ≡ n
hex_back n h = hex_worth_lem 16 n ∙ omega arith
