-- Calls and their lines: a line says one call at most, each call whose numbers fit has one line, and the claim on reading allows one answer.
use mathlib.Core.Path.{◌≡◌, refl, sym, ap, ap₂, ◌∙◌, subst}
use mathlib.Core.List.{List, [], ◌∷◌, head-eq_of_cons-eq, tail-eq_of_cons-eq}
use mathlib.Core.Logic.{by_cases}
use Prim.Native.Nat.{ℕ, ◌≤◌, ◌<◌}
use native.Mathlib.Decide.{dec_lt}
use native.Mathlib.Omega.{arith}
use lib.ListN.{length}
use Rattle.delay_queue.specs.declared.Call.{Call}
use Rattle.delay_queue.specs.declared.Call.TheVariants as C
use Rattle.std.specs.Prelude.{Option, Some, None}
use Rattle.decimals.specs.Text.{Spaced, Fit}
use Rattle.asking.specs.Text.{letter, numbers, Says, ReadClaim}
use Rattle.decimals.proofs.laws.Spacing.{one_list, one_text, some_text, at_most_21}
use Rattle.asking.specs.Parts.{fields_of, call_of}

pub same_call : {c d : Call} → Some c ≡ Some d → c ≡ d
same_call e = cc

-- a call is found by its letter and its numbers
pub own : (c : Call) → call_of (letter c) (fields_of (numbers c)) ≡ Some c
unfolding call_of
own (C.Format n turn) = refl
own (C.Insert value when period) = refl
own (C.Reset key when) = refl
own (C.Remove key) = refl
own (C.Poll now) = refl
own (C.PollSome now limit) = refl
own C.Wake = refl
own C.Length = refl
own C.Clear = refl

pub many : (ns : List ℕ) → 3 < length ns → None ≡ fields_of ns
many [] h = absurd (omega arith)
many (x ∷ []) h = absurd (omega arith)
many (x ∷ y ∷ []) h = absurd (omega arith)
many (x ∷ y ∷ z ∷ []) h = absurd (omega arith)
many (x ∷ y ∷ z ∷ w ∷ ns) h = refl

-- so it has no more than three
few : (c : Call) → length (numbers c) ≤ 3
unfolding call_of
few c = by_cases (dec_lt 3 (length (numbers c))) too_many (λ h. omega arith)
  where
    too_many : 3 < length (numbers c) → length (numbers c) ≤ 3
    too_many h =
        let e : None ≡ Some c = ap (call_of (letter c)) (many (numbers c) h) ∙ own c in
        let z : ◌≡◌ {A = ℕ} 0 1 = cc in
        absurd (omega arith)

-- a line says one call at most
pub one_call : {l : List ℕ} {c d : Call} → Says l c → Says l d → c ≡ d
one_call {l} {c} {d} p q =
    let e = sym p.line ∙ q.line in
    let s : Spaced p.rest (numbers d) = subst (λ (r : List ℕ). Spaced r (numbers d)) (sym (tail-eq_of_cons-eq e)) q.fields in
    let ns : numbers c ≡ numbers d = one_list p.rest (numbers c) (numbers d) p.fields s in
    same_call (sym (own c) ∙ ap₂ (λ (b : ℕ) (xs : List ℕ). call_of b (fields_of xs)) (head-eq_of_cons-eq e) ns ∙ own d)

-- a call has one line at most
pub one_line : {l m : List ℕ} {c : Call} → Says l c → Says m c → l ≡ m
one_line {l} {m} {c} p q =
    let e = one_text p.rest q.rest (numbers c) p.fields q.fields in
    p.line ∙ ap (λ (r : List ℕ). letter c ∷ r) e ∙ sym q.line

-- a letter, and at most three times a space and 20 digits
short : (c : Call) (l : List ℕ) → Spaced l (numbers c) → length (letter c ∷ l) ≤ 64
short c l s = omega (arith, at_most_21 l (numbers c) s, few c)

-- so the limit of 80 bytes refuses no call
pub at_most_64 : {l : List ℕ} {c : Call} → Says l c → length l ≤ 64
at_most_64 {l} {c} p = subst (λ (t : List ℕ). length t ≤ 64) (sym p.line) (short c p.rest p.fields)

-- each call whose numbers fit has a line
pub some_line : (c : Call) → Fit (numbers c) → (l : List ℕ) × Says l c
some_line c f =
    let t = some_text (numbers c) f in
    (letter c ∷ t.0, record { rest = t.0; line = refl; fields = t.1; short = omega (arith, short c t.0 t.1) })

-- and that line is read as that call
pub read_back : {l : List ℕ} {c : Call} {r : Option Call} → Says l c → ReadClaim l r → r ≡ Some c
read_back {l} {c} s p = (p.asks c).1 s

-- two answers to one line that both keep the claim are the same
pub read_once : {l : List ℕ} (r s : Option Call) → ReadClaim l r → ReadClaim l s → r ≡ s
read_once (Some c) s p q = sym ((q.asks c).1 ((p.asks c).0 refl))
read_once None s p q = sym (q.bad.1 (p.bad.0 refl))
