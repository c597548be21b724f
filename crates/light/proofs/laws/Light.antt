-- What the program writes: for the lines of what it read, however that was cut into chunks, what `Writes` says.
use mathlib.Core.Path.{◌≡◌, refl, sym, ap, ◌∙◌, subst}
use mathlib.Core.Bool.{true}
use mathlib.Core.Logic.{◌↔◌, ◌⊎◌, inl, inr, ⊎_elim}
use mathlib.Core.List.{List, [], ◌∷◌}
use Prim.Native.Nat.{ℕ, ◌≤◌}
use native.Mathlib.Omega.{arith}
use lib.ListN.{length, take}
use lib.Seq.{take_all}
use Rattle.lines.specs.Lines.{lines_of, firsts, joined}
use Rattle.lines.specs.Running.{Along, none, more, ProgramRan}
use Rattle.lines.proofs.laws.Lines.{whole_line}
use Rattle.lines.proofs.laws.Running.{ran_all}
use Rattle.decimals.specs.Text.{Decimal}
use Rattle.decimals.proofs.laws.Decimals.{at_most_20}
use Rattle.std.specs.Prelude.{Option, Some, None}
use Rattle.gauge.specs.declared.Gauge.{Gauge}
use Rattle.gauge.specs.Gauge.{zeros, most, float_of, noted}
use Rattle.gauge.specs.Many.{noted_all, floats}
use Rattle.light.specs.declared.State.{State}
use Rattle.light.specs.declared.State.TheVariants as S
use Rattle.light.specs.Light.{Amounts, shown, bad, Writes}
use Rattle.light.specs.Steps.{AmountOf, next, Stepped}
use Rattle.light.specs.Writing.{text_of}
use Rattle.light.proofs.laws.Once.{amount_once}

-- ---- line by line

-- what a line says that is a number, and what one says that is none
says_number : {l : List ℕ} {t t' u : State} {n : ℕ} → Stepped l t t' → Decimal l n → n ≤ most → t ≡ u → t' ≡ next (Some n) u
says_number {l} {t} {n = n} s d h e =
    s.then ∙ ap (λ (r : Option ℕ). next r t) (amount_once l s.says (Some n) s.is (d, h)) ∙ ap (λ (u : State). next (Some n) u) e

bad_stays : {ls : List (List ℕ)} {t t' : State} → t ≡ S.Bad → Along Stepped ls t t' → text_of t' ≡ bad
bad_stays e none = ap (λ (u : State). text_of u) e
bad_stays {t = t} e (more s r) = bad_stays (s.then ∙ ap (λ (u : State). next s.says u) e ∙ still s.says) r
  where
    still : (r : Option ℕ) → next r S.Bad ≡ S.Bad
    still (Some n) = refl
    still None = refl

-- ---- both limits are there

both_right : {ls : List (List ℕ)} {t t' : State} (s l : ℕ) (g : Gauge) → t ≡ S.Both s l g → Along Stepped ls t t' → (ns : List ℕ) → Amounts ls ns
    → text_of t' ≡ shown s l (noted_all g (floats ns))
both_right s l g e none [] a = ap (λ (u : State). text_of u) e
both_right s l g e none (n ∷ ns) a = absurd a
both_right s l g e (more x r) [] a = absurd a
both_right s l g e (more x r) (n ∷ ns) a = both_right s l (noted g (float_of n)) (says_number x a.0 a.1 e) r ns a.2

-- a line is a number, or it is none
step_way : {l : List ℕ} {t t' u : State} → Stepped l t t' → t ≡ u
    → ((n : ℕ) × Decimal l n × (n ≤ most) × (t' ≡ next (Some n) u)) ⊎ (t' ≡ S.Bad)
step_way {l} {t} {t'} {u} s e = by s.says s.is s.then
  where
    by : (r : Option ℕ) → AmountOf l r → t' ≡ next r t → ((n : ℕ) × Decimal l n × (n ≤ most) × (t' ≡ next (Some n) u)) ⊎ (t' ≡ S.Bad)
    by (Some n) a q = inl (n, a.0, a.1, q ∙ ap (λ (v : State). next (Some n) v) e)
    by None a q = inr q

both_bad : {ls : List (List ℕ)} {t t' : State} (s l : ℕ) (g : Gauge) → t ≡ S.Both s l g → Along Stepped ls t t' → ((ns : List ℕ) → Amounts ls ns → ⊥)
    → text_of t' ≡ bad
both_bad s l g e none f = absurd (f [] tt)
both_bad s l g e (more x r) f =
    ⊎_elim (λ y. both_bad s l (noted g (float_of y.0)) y.3 r (λ ns a. f (y.0 ∷ ns) (y.1, y.2, a))) (λ q. bad_stays q r) (step_way x e)

-- ---- one limit is there

slow_right : {ls : List (List ℕ)} {t t' : State} (s : ℕ) → t ≡ S.Slow s → Along Stepped ls t t' → (l : ℕ) (ns : List ℕ) → Amounts ls (l ∷ ns)
    → text_of t' ≡ shown s l (noted_all zeros (floats ns))
slow_right s e none l ns a = absurd a
slow_right s e (more x r) l ns a = both_right s l zeros (says_number x a.0 a.1 e) r ns a.2

slow_bad : {ls : List (List ℕ)} {t t' : State} (s : ℕ) → t ≡ S.Slow s → Along Stepped ls t t' → ((l : ℕ) (ns : List ℕ) → Amounts ls (l ∷ ns) → ⊥)
    → text_of t' ≡ bad
slow_bad s e none f = ap (λ (u : State). text_of u) e
slow_bad s e (more x r) f =
    ⊎_elim (λ y. both_bad s y.0 zeros y.3 r (λ ns a. f y.0 ns (y.1, y.2, a))) (λ q. bad_stays q r) (step_way x e)

-- ---- from the first line on

first_right : {ls : List (List ℕ)} {t t' : State} → t ≡ S.Nothing → Along Stepped ls t t' → (s l : ℕ) (ns : List ℕ) → Amounts ls (s ∷ l ∷ ns)
    → text_of t' ≡ shown s l (noted_all zeros (floats ns))
first_right e none s l ns a = absurd a
first_right e (more x r) s l ns a = slow_right s (says_number x a.0 a.1 e) r l ns a.2

first_bad : {ls : List (List ℕ)} {t t' : State} → t ≡ S.Nothing → Along Stepped ls t t' → ((s l : ℕ) (ns : List ℕ) → Amounts ls (s ∷ l ∷ ns) → ⊥)
    → text_of t' ≡ bad
first_bad e none f = ap (λ (u : State). text_of u) e
first_bad e (more x r) f =
    ⊎_elim (λ y. slow_bad y.0 y.3 r (λ l ns a. f y.0 l ns (y.1, y.2, a))) (λ q. bad_stays q r) (step_way x e)

pub steps_write : {ls : List (List ℕ)} {t : State} → Along Stepped ls S.Nothing t → Writes ls (text_of t)
steps_write r = record { right = first_right refl r; bad = first_bad refl r }

-- ---- 81 bytes are enough to see of a line: a decimal has at most 20

decimal_81 : (l : List ℕ) (n : ℕ) → Decimal (take 81 l) n ↔ Decimal l n
decimal_81 l n = (
  λ d. subst (λ (x : List ℕ). Decimal x n) (whole_line 81 l (omega (arith, at_most_20 (take 81 l) d))) d,
  λ d. subst (λ (x : List ℕ). Decimal x n) (sym (take_all 81 l (omega (arith, at_most_20 l d)))) d,
)

amounts_81 : (ls : List (List ℕ)) (ns : List ℕ) → Amounts (firsts 81 ls) ns ↔ Amounts ls ns
amounts_81 [] [] = (λ a. a, λ a. a)
amounts_81 [] (n ∷ ns) = (λ a. a, λ a. a)
amounts_81 (l ∷ ls) [] = (λ a. a, λ a. a)
amounts_81 (l ∷ ls) (n ∷ ns) = (
  λ a. ((decimal_81 l n).0 a.0, a.1, (amounts_81 ls ns).0 a.2),
  λ a. ((decimal_81 l n).1 a.0, a.1, (amounts_81 ls ns).1 a.2),
)

-- whatever chunks the input came in: where it was read to its end, what is written is the text for its lines
pub all_read : {n : ℕ} {t : State} → ProgramRan Stepped 81 [] S.Nothing n true t
    → (cs : List (List ℕ)) × (length (joined cs) ≡ n) × Writes (lines_of (joined cs)) (text_of t)
all_read R =
    let x = ran_all (omega arith) R in
    let w = steps_write x.2 in
    let ls = lines_of (joined x.0) in (
      x.0,
      x.1,
      record {
        right = λ s l ns a. w.right s l ns ((amounts_81 ls (s ∷ l ∷ ns)).1 a);
        bad = λ f. w.bad (λ s l ns a. f s l ns ((amounts_81 ls (s ∷ l ∷ ns)).0 a));
      },
    )
