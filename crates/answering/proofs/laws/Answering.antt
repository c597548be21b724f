-- Answers and their lines: a word, numbers that fit and an ending have one line, and the claim on writing allows one outcome.
use mathlib.Core.Path.{◌≡◌, sym, ap, ◌∙◌, subst, refl}
use mathlib.Core.List.{List, [], ◌∷◌, ◌++◌}
use mathlib.Core.Logic.{by_cases}
use Prim.Native.Nat.{ℕ, ◌+◌, ◌*◌, ◌≤◌, ◌<◌}
use native.Mathlib.Decide.{dec_le}
use native.Mathlib.Omega.{arith}
use lib.ListN.{length, length-append}
use Rattle.queue.specs.declared.Answer.{Answer}
use Rattle.queue.specs.declared.Answer.TheVariants as A
use Rattle.answering.specs.Text.{word, shown, ending, Written, put, PutClaim}
use Rattle.decimals.specs.Text.{Fit}
use Rattle.decimals.proofs.laws.Spacing.{one_text, some_text, at_most_21}

-- a word, numbers and an ending have one line at most
pub one_written : {w ns z l m : List ℕ} → Written w ns z l → Written w ns z m → l ≡ m
one_written {w} {ns} {z} {l} {m} p q =
    let e = one_text p.rest q.rest ns p.fields q.fields in
    p.line ∙ ap (λ r. w ++ (r ++ (z ++ 10 ∷ []))) e ∙ sym q.line

-- and where the numbers fit they have one
pub some_written : (w ns z : List ℕ) → Fit ns → (l : List ℕ) × Written w ns z l
some_written w ns z f =
    let t = some_text ns f in
    (w ++ (t.0 ++ (z ++ 10 ∷ [])), record { rest = t.0; fields = t.1; line = refl })

-- two outcomes that both keep the claim are the same
pub write_once : {w ns z o : List ℕ} {at r s : ℕ} {o' o'' : List ℕ} → PutClaim w ns z o at r o' → PutClaim w ns z o at s o''
    → (r ≡ s) × (o' ≡ o'')
write_once {w} {ns} {z} {o} {at} {r} {s} {o'} {o''} p q = by_cases (dec_le (at + length p.line) (length o)) room full
  where
    k : p.line ≡ q.line
    k = one_written p.written q.written

    room : at + length p.line ≤ length o → (r ≡ s) × (o' ≡ o'')
    room h =
        let a = p.room h in
        let b = q.room (subst (λ l. at + length l ≤ length o) k h) in
        (a.0 ∙ ap (λ l. at + length l) k ∙ sym b.0, a.1 ∙ ap (put o at) k ∙ sym b.1)

    full : (at + length p.line ≤ length o → ⊥) → (r ≡ s) × (o' ≡ o'')
    full h =
        let a = p.full (omega arith) in
        let b = q.full (subst (λ (l : List ℕ). length o < at + length l) k (omega arith)) in
        (a.0 ∙ sym b.0, a.1 ∙ sym b.1)

-- ---- what a caller may count on

-- the place that comes back lies within what was lent
pub within : {w ns z o : List ℕ} {at r : ℕ} {o' : List ℕ} → PutClaim w ns z o at r o' → at ≤ length o → (at ≤ r) × (r ≤ length o)
within {w} {ns} {z} {o} {at} {r} p h =
    by_cases (dec_le (at + length p.line) (length o))
    (λ k. let a = (p.room k).0 in (omega arith, omega arith))
    (λ k. let a = (p.full (omega arith)).0 in (omega arith, omega arith))

-- and no line of an answer is over 114 bytes
size : {w ns z l : List ℕ} → Written w ns z l → length l ≤ length w + (21 * length ns + (length z + 1))
size {w} {ns} {z} {l} p =
    let e : length l ≡ length (w ++ (p.rest ++ (z ++ 10 ∷ []))) = ap (λ (t : List ℕ). length t) p.line in
    let t = z ++ 10 ∷ [] in
    omega (arith, length-append w (p.rest ++ t), length-append p.rest t, length-append z (10 ∷ []), at_most_21 p.rest ns p.fields)

pub at_most_114 : (a : Answer) {l : List ℕ} → Written (word a) (shown a) (ending a) l → length l ≤ 114
at_most_114 A.Done p = omega (arith, size p)
at_most_114 (A.Key k) p = omega (arith, size p)
at_most_114 (A.Gone value deadline) p = omega (arith, size p)
at_most_114 (A.Out key value deadline moves drains) p = omega (arith, size p)
at_most_114 (A.Last key value deadline moves drains) p = omega (arith, size p)
at_most_114 (A.Nothing moves drains) p = omega (arith, size p)
at_most_114 (A.NotYet moves drains) p = omega (arith, size p)
at_most_114 (A.Wake t) p = omega (arith, size p)
at_most_114 A.NoWake p = omega (arith, size p)
at_most_114 (A.Length n) p = omega (arith, size p)
at_most_114 (A.No number) p = omega (arith, size p)
