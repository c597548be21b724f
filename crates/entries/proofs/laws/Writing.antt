-- What the writers leave: an entry, and the bytes of a step.
use mathlib.Core.Path.{◌≡◌, refl, sym, ap, ap₂, ◌∙◌, subst}
use mathlib.Core.List.{List, [], ◌∷◌, ◌++◌}
use Prim.Native.Nat.{ℕ, zero, suc, ◌*◌, ◌/◌, ◌%◌, ◌^◌, ◌<◌}
use native.Mathlib.Omega.{arith}
use lib.ListN.{length, length-append}
use Rattle.std.specs.Int.{w16, w64, byte_at, bytes_high_first, to_be_bytes}
use Rattle.delay_queue.specs.declared.Call.{Call}
use Rattle.delay_queue.specs.declared.Call.TheVariants as C
use Rattle.entries.specs.declared.Step.{Step}
use Rattle.entries.specs.declared.Step.TheVariants as S
use Rattle.writing.specs.Writing.{Wrote, digits_of}
use Rattle.writing.proofs.laws.Writing.{wrote_more, digits_length}
use Rattle.entries.specs.Entries.{bytes_of, entry, insert_bytes, step_bytes}

pub wrote_none : {o : List ℕ} → Wrote o 0 [] 0 o
wrote_none = record { text = refl; end = refl; rest = refl; size = refl }

-- room and text that are known by other names
pub wrote_as : {o b : List ℕ} {at : ℕ} {s t : List ℕ} {r : ℕ} {o' : List ℕ} → o ≡ b → s ≡ t → Wrote o at s r o' → Wrote b at t r o'
wrote_as {o} {b} {at} {s} {t} {r} {o'} e f w = subst (λ (x : List ℕ). Wrote b at x r o') f (subst (λ (x : List ℕ). Wrote x at s r o') e w)

-- ---- an entry

pub bytes_length : (k x : ℕ) → length (bytes_of k x) ≡ k
bytes_length k x = digits_length (λ (d : ℕ). d) 256 k x

pub entry_length : (kind a b : ℕ) → length (entry kind a b) ≡ 18
unfolding entry
entry_length kind a b =
    omega (
      arith,
      length-append (bytes_of 2 (kind * 4096)) (bytes_of 8 a ++ bytes_of 8 b),
      length-append (bytes_of 8 a) (bytes_of 8 b),
      bytes_length 2 (kind * 4096),
      bytes_length 8 a,
      bytes_length 8 b,
    )

-- the bytes of a word, as the library gives them
digit : (k x : ℕ) → byte_at k x ≡ x / 256 ^ k % 256
digit zero x = omega arith
digit (suc k) x = refl

be_digits : (k x : ℕ) → bytes_high_first k x ≡ bytes_of k x
unfolding digits_of
be_digits zero x = refl
be_digits (suc k) x = ap₂ (λ (d : ℕ) (l : List ℕ). d ∷ l) (digit k x) (be_digits k x)

pub be_bytes : (x : ℕ) → to_be_bytes w64 x ≡ bytes_of 8 x
be_bytes x = be_digits 8 x

pub be_head : (kind : ℕ) {head : ℕ} → head ≡ kind * 4096 % 65536 → to_be_bytes w16 head ≡ bytes_of 2 (kind * 4096)
unfolding digits_of
be_head kind e = ap₂ (λ (x y : ℕ). x ∷ y ∷ []) (omega (arith, e)) (omega (arith, e))

pub entry_wrote : {o : List ℕ} {at : ℕ} (kind a b : ℕ) {i j r : ℕ} {p q o' : List ℕ} → Wrote o at (bytes_of 2 (kind * 4096)) i p
    → Wrote p i (bytes_of 8 a) j q → Wrote q j (bytes_of 8 b) r o' → Wrote o at (entry kind a b) r o'
unfolding entry
entry_wrote kind a b w x y = wrote_more w (wrote_more x y)

-- ---- a step

pub asked_bytes : {x : Step} {c d : Call} → x ≡ S.Asks c → c ≡ d → step_bytes (S.Asks d) ≡ step_bytes x
asked_bytes e f = ap (λ (c : Call). step_bytes (S.Asks c)) (sym f) ∙ ap step_bytes (sym e)

pub insert_single : (value when period : ℕ) → period ≡ 0 → entry 2 value when ≡ insert_bytes value when period
insert_single value when zero e = refl
insert_single value when (suc p) e = absurd (omega arith)

pub insert_double : (value when period : ℕ) → (period ≡ 0 → ⊥) → entry 9 value when ++ entry 10 period 0 ≡ insert_bytes value when period
insert_double value when zero f = absurd (f refl)
insert_double value when (suc p) f = refl

pub pair_size : (value when p : ℕ) → 0 < p → length (step_bytes (S.Asks (C.Insert value when p))) ≡ 36
pair_size value when zero h = absurd (omega arith)
pair_size value when (suc k) h =
    omega (arith, length-append (entry 9 value when) (entry 10 (suc k) 0), entry_length 9 value when, entry_length 10 (suc k) 0)
