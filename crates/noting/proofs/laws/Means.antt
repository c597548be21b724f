-- Lines and steps: a line says one step at most, its numbers fit the journal's fields, and 81 bytes are enough to see of it.
use mathlib.Core.Path.{◌≡◌, refl, sym, ap, ◌∙◌, subst}
use mathlib.Core.List.{List, [], ◌∷◌, head-eq_of_cons-eq}
use Prim.Native.Nat.{ℕ, ◌≤◌}
use Prim.Native.Char.{code}
use native.Mathlib.Omega.{arith}
use lib.ListN.{length, take, get_or}
use lib.Seq.{take_all}
use Rattle.std.specs.Prelude.{Some, None}
use Rattle.delay_queue.specs.declared.Call.{Call}
use Rattle.delay_queue.specs.declared.Call.TheVariants as C
use Rattle.decimals.specs.Text.{bytes, Spaced, Fit as AllFit}
use Rattle.asking.specs.Text.{letter, numbers, Says, ReadClaim}
use Rattle.asking.proofs.laws.Asking.{one_call}
use Rattle.lines.proofs.laws.Lines.{whole_line}
use Rattle.entries.specs.declared.Step.{Step}
use Rattle.entries.specs.declared.Step.TheVariants as S
use Rattle.entries.specs.Entries.{Fit}
use Rattle.noting.specs.Means.{Means, opens, ends, asks, Bad, SaidClaim, is, bad}

-- ---- one step

-- no call has the letter of an open or of a close
other_letter : (c : Call) → (code "o" ≡ letter c → ⊥) × (code "e" ≡ letter c → ⊥)
other_letter (C.Format n turn) = (λ h. omega (arith, h), λ h. omega (arith, h))
other_letter (C.Insert value when period) = (λ h. omega (arith, h), λ h. omega (arith, h))
other_letter (C.Reset key when) = (λ h. omega (arith, h), λ h. omega (arith, h))
other_letter (C.Remove key) = (λ h. omega (arith, h), λ h. omega (arith, h))
other_letter (C.Poll now) = (λ h. omega (arith, h), λ h. omega (arith, h))
other_letter (C.PollSome now limit) = (λ h. omega (arith, h), λ h. omega (arith, h))
other_letter C.Wake = (λ h. omega (arith, h), λ h. omega (arith, h))
other_letter C.Length = (λ h. omega (arith, h), λ h. omega (arith, h))
other_letter C.Clear = (λ h. omega (arith, h), λ h. omega (arith, h))

open_no_call : {l : List ℕ} {c : Call} → l ≡ bytes "o" → Says l c → ⊥
open_no_call {l} {c} e s = (other_letter c).0 (head-eq_of_cons-eq (sym e ∙ s.line))

end_no_call : {l : List ℕ} {c : Call} → l ≡ bytes "e" → Says l c → ⊥
end_no_call {l} {c} e s = (other_letter c).1 (head-eq_of_cons-eq (sym e ∙ s.line))

not_both : {l : List ℕ} → l ≡ bytes "o" → l ≡ bytes "e" → ⊥
not_both e f = let h = head-eq_of_cons-eq (sym e ∙ f) in omega (arith, h)

pub one_step : {l : List ℕ} {x y : Step} → Means l x → Means l y → x ≡ y
one_step (opens e) (opens f) = refl
one_step (opens e) (ends f) = absurd (not_both e f)
one_step (opens e) (asks s) = absurd (open_no_call e s)
one_step (ends e) (opens f) = absurd (not_both f e)
one_step (ends e) (ends f) = refl
one_step (ends e) (asks s) = absurd (end_no_call e s)
one_step (asks s) (opens e) = absurd (open_no_call e s)
one_step (asks s) (ends e) = absurd (end_no_call e s)
one_step (asks s) (asks t) = ap (λ (c : Call). S.Asks c) (one_call s t)

-- ---- "two 64-bit fields": "decimals .. fit a u64"

numbers_fit : (l ns : List ℕ) → Spaced l ns → AllFit ns
unfolding Spaced
numbers_fit l [] s = tt
numbers_fit l (n ∷ ns) s = (s.3.fits, numbers_fit s.1 ns s.4)

call_fits : (c : Call) → AllFit (numbers c) → Fit (S.Asks c)
call_fits (C.Format n turn) f = (f.0, f.1.0)
call_fits (C.Insert value when period) f = (f.0, f.1.0, f.1.1.0)
call_fits (C.Reset key when) f = (f.0, f.1.0)
call_fits (C.Remove key) f = f.0
call_fits (C.Poll now) f = f.0
call_fits (C.PollSome now limit) f = (f.0, f.1.0)
call_fits C.Wake f = tt
call_fits C.Length f = tt
call_fits C.Clear f = tt

pub step_fits : {l : List ℕ} {x : Step} → Means l x → Fit x
step_fits (opens e) = tt
step_fits (ends e) = tt
step_fits (asks {c = c} s) = call_fits c (numbers_fit s.rest (numbers c) s.fields)

-- ---- 81 bytes are enough to see of a line

step_short : {l : List ℕ} {x : Step} → Means l x → length l ≤ 80
step_short (opens e) = omega (arith, ap (λ (t : List ℕ). length t) e)
step_short (ends e) = omega (arith, ap (λ (t : List ℕ). length t) e)
step_short (asks s) = s.short

pub first_means : {l : List ℕ} {x : Step} → Means (take 81 l) x → Means l x
first_means {l} {x} m = subst (λ (t : List ℕ). Means t x) (whole_line 81 l (omega (arith, step_short m))) m

pub first_bad : {l : List ℕ} → Bad (take 81 l) → Bad l
first_bad {l} f x m = f x (subst (λ (t : List ℕ). Means t x) (sym (take_all 81 l (omega (arith, step_short m)))) m)

-- ---- what `step_in` has read

pub said_asks : {l : List ℕ} {c : Call} → ReadClaim l (Some c) → SaidClaim l (Some (S.Asks c))
said_asks {c = c} R = is (asks ((R.asks c).0 refl))

pub said_bad : {l : List ℕ} → ReadClaim l None → (l ≡ bytes "o" → ⊥) → (l ≡ bytes "e" → ⊥) → SaidClaim l None
said_bad {l} R f g = bad none_of
  where
    none_of : Bad l
    none_of S.Open (opens h) = f h
    none_of S.Close (ends h) = g h
    none_of (S.Asks c) (asks s) = R.bad.0 refl c s

-- and what its caller has from it
pub said_means : {l : List ℕ} {x : Step} → SaidClaim l (Some x) → Means l x
said_means (is m) = m

pub said_none : {l : List ℕ} → SaidClaim l None → Bad l
said_none (bad f) = f

-- ---- a line of one byte

pub one_byte : (l : List ℕ) {b : ℕ} → length l ≡ 1 → get_or l 0 0 ≡ b → l ≡ b ∷ []
one_byte [] h e = absurd (omega arith)
one_byte (a ∷ []) h e = ap (λ (x : ℕ). x ∷ []) e
one_byte (a ∷ c ∷ l) h e = absurd (omega arith)

pub its_byte : {l : List ℕ} {b : ℕ} → l ≡ b ∷ [] → get_or l 0 0 ≡ b
its_byte e = ap (λ (t : List ℕ). get_or t 0 0) e
