-- Lines of document 01 and lines at the edge of its rules, so that the claim is seen to hold of something and to refuse something.
use mathlib.Core.Path.{◌≡◌, refl, subst}
use mathlib.Core.Bool.{Bool, not}
use mathlib.Core.List.{List, [], ◌∷◌}
use Prim.Native.Nat.{ℕ, zero, suc, ◌≤◌, ◌<◌}
use Prim.Native.Char.{code}
use native.Mathlib.Omega.{arith}
use lib.Dec.{T, T_not, eqb}
use lib.ListN.{length, get_or}
use lib.Seq.{take-length}
use Rattle.delay_queue.specs.declared.Call.{Call}
use Rattle.delay_queue.specs.declared.Call.TheVariants as C
use Rattle.decimals.specs.Text.{bytes, worth, Decimal, Spaced}
use Rattle.decimals.proofs.laws.Plain.{every, at, digits, Plain, text, values, spaced}
use Rattle.std.specs.Prelude.{Some, None}
use Rattle.asking.specs.declared.Fields.TheVariants as F
use Rattle.splitting.specs.Fields.{EndsAt, Begins}
use Rattle.splitting.proofs.laws.Fields.{first_bad, others}
use Rattle.asking.specs.Text.{letter, numbers, Says}
use Rattle.asking.specs.Parts.{Holds, call_of}
use Rattle.asking.proofs.laws.Reading.{none_at_all, more}
use Rattle.asking.proofs.laws.Finding.{line}

-- ---- lines that are right

-- the fields of a line, as the numbers of a call
says : (c : Call) (ds : List (List ℕ)) → values ds ≡ numbers c → Plain ds → length (letter c ∷ text ds) ≤ 80 → Says (letter c ∷ text ds) c
says c ds e p h = record { rest = text ds; line = refl; fields = subst (λ (ns : List ℕ). Spaced (text ds) ns) e (spaced ds p); short = h }

format : Says (bytes "f 4 1") (C.Format 4 1)
unfolding worth every
format = says (C.Format 4 1) (bytes "4" ∷ bytes "1" ∷ []) refl (omega arith) (omega arith)

insert : Says (bytes "i 7 70 0") (C.Insert 7 70 0)
unfolding worth every
insert = says (C.Insert 7 70 0) (bytes "7" ∷ bytes "70" ∷ bytes "0" ∷ []) refl (omega arith) (omega arith)

some : Says (bytes "q 70 1") (C.PollSome 70 1)
unfolding worth every
some = says (C.PollSome 70 1) (bytes "70" ∷ bytes "1" ∷ []) refl (omega arith) (omega arith)

wake : Says (bytes "w") C.Wake
wake = says C.Wake [] refl tt (omega arith)

largest : Says (bytes "p 18446744073709551615") (C.Poll 18446744073709551615)
unfolding worth every
largest = says (C.Poll 18446744073709551615) (bytes "18446744073709551615" ∷ []) refl (omega arith) (omega arith)

-- ---- lines that are bad

abbrev is_other : ℕ → Bool
is_other b = not (eqb b (code " "))

unsaid : (b : ℕ) (l : List ℕ) → length (b ∷ l) ≤ 80 → Holds 3 l None → (c : Call) → Says (b ∷ l) c → ⊥
unfolding call_of
unsaid b l k h = (line b l None None k h refl).bad.0 refl

-- one field that is no decimal
one_field : (s : List ℕ) → T (every is_other s) → ((n : ℕ) → Decimal s n → ⊥) → Holds 3 (code " " ∷ s) None
one_field s t n =
    none_at_all 3 s
    (first_bad s (length s) (record { within = omega arith; inside = other; space = λ h. absurd (omega arith) }) (λ m d. n m (rw (take-length s) at d)))
  where
    other : (i : ℕ) → i < length s → get_or s i 0 ≡ code " " → ⊥
    other i h e = T_not (eqb (get_or s i 0) 32) (at is_other s t i h) (rw e tt)

spare_zero : (c : Call) → Says (bytes "p 070") c → ⊥
unfolding every
spare_zero = unsaid (code "p") (bytes " 070") (omega arith) (one_field (bytes "070") tt (λ n d. d.spare (omega arith) refl))

sign : (c : Call) → Says (bytes "p +7") c → ⊥
unfolding every
sign = unsaid (code "p") (bytes " +7") (omega arith) (one_field (bytes "+7") tt (λ n d. omega (arith, d.digits 0 (omega arith))))

no_digit : (c : Call) → Says (bytes "p ") c → ⊥
unfolding every
no_digit = unsaid (code "p") (bytes " ") (omega arith) (one_field [] tt (λ n d. omega (arith, d.some)))

too_large : (c : Call) → Says (bytes "p 18446744073709551616") c → ⊥
unfolding worth every
too_large =
    unsaid (code "p") (bytes " 18446744073709551616") (omega arith)
    (one_field (bytes "18446744073709551616") tt (λ n d. omega (arith, d.number, d.fits)))

two_spaces : (c : Call) → Says (bytes "i 7  70 0") c → ⊥
unfolding worth every
two_spaces =
    unsaid (code "i") (bytes " 7  70 0") (omega arith)
    (more 2 2 (others (bytes "7  70 0") 1 ends (omega arith) seven).1 (omega arith) None None (none_at_all 2 (bytes " 70 0") no_first) refl)
  where
    first : (k : ℕ) → k < 1 → get_or (bytes "7  70 0") k 0 ≡ code " " → ⊥
    first zero h e = omega arith
    first (suc k) h e = omega arith

    ends : EndsAt (bytes "7  70 0") 1
    ends = record { within = omega arith; inside = first; space = λ h. refl }

    seven : Decimal (bytes "7") 7
    seven = record { some = omega arith; digits = digits (bytes "7") tt; spare = λ h. absurd (omega arith); number = refl; fits = omega arith }

    no_first : Begins (bytes " 70 0") None
    no_first =
        first_bad (bytes " 70 0") 0 (record { within = omega arith; inside = λ k h. absurd (omega arith); space = λ h. refl })
        (λ n d. omega (arith, d.some))

no_limit : (c : Call) → Says (bytes "q 70") c → ⊥
unfolding worth every call_of
no_limit = (line (code "q") (bytes " 70") (Some (F.One 70)) None (omega arith) (spaced (bytes "70" ∷ []) (omega arith)) refl).bad.0 refl

-- 02 [7]: "the `i` line always has a third field"
two_fields : (c : Call) → Says (bytes "i 7 70") c → ⊥
unfolding worth every call_of
two_fields =
    (line (code "i") (bytes " 7 70") (Some (F.Two 7 70)) None (omega arith) (spaced (bytes "7" ∷ bytes "70" ∷ []) (omega arith)) refl).bad.0 refl
