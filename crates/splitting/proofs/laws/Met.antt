-- Whatever bytes are, it can be told what they say as a decimal and what they begin with: both claims can be met.
use mathlib.Core.Path.{◌≡◌, refl, sym, subst}
use mathlib.Core.Logic.{by_cases}
use mathlib.Core.List.{List, [], ◌∷◌}
use Prim.Native.Nat.{ℕ, zero, suc, ◌+◌, ◌^◌, ◌≤◌, ◌<◌}
use native.Mathlib.Decide.{ℕ_discrete, dec_lt, dec_le}
use native.Mathlib.Omega.{arith}
use lib.ListN.{length, take, get_or}
use Rattle.std.specs.Prelude.{Option, Some, None}
use Rattle.decimals.specs.Text.{Digits, worth}
use Rattle.decimals.specs.Number.{NumberOf}
use Rattle.splitting.specs.declared.First.{First}
use Rattle.splitting.specs.declared.First.TheVariants as S
use Rattle.splitting.specs.Fields.{EndsAt, Begins}
use Rattle.splitting.proofs.laws.Fields.{first_bad, only_one, others}

digits_told : (l : List ℕ) → Dec (Digits l)
digits_told [] = yes (λ i h. absurd (omega arith))
digits_told (b ∷ l) =
    by_cases (dec_le 48 b)
    (λ low.
    by_cases (dec_le b 57)
    (λ high. by_cases (digits_told l) (λ d. yes (all low high d)) (λ n. no (λ d. n (λ i h. d (suc i) (omega arith)))))
    (λ n. no (λ d. n (d 0 (omega arith)).1)))
    (λ n. no (λ d. n (d 0 (omega arith)).0))
  where
    all : 48 ≤ b → b ≤ 57 → Digits l → Digits (b ∷ l)
    all low high d zero h = (low, high)
    all low high d (suc i) h = d i (omega arith)

pub number_met : (l : List ℕ) → (r : Option ℕ) × NumberOf l r
number_met l =
    by_cases (dec_lt 0 (length l))
    (λ some.
    by_cases (digits_told l)
    (λ d.
    by_cases (dec_lt (worth l) (2 ^ 64))
    (λ f.
    by_cases (dec_lt 1 (length l))
    (λ more.
    by_cases (ℕ_discrete (get_or l 0 0) 48) (λ z. (None, λ n x. x.spare more z))
    (λ z. (Some (worth l), record { some = some; digits = d; spare = λ _ e. z e; number = refl; fits = f })))
    (λ one. (Some (worth l), record { some = some; digits = d; spare = λ h e. one h; number = refl; fits = f })))
    (λ f. (None, λ n x. f (subst (λ (m : ℕ). m < 2 ^ 64) (sym x.number) x.fits))))
    (λ d. (None, λ n x. d x.digits)))
    (λ some. (None, λ n x. some x.some))

ends_met : (s : List ℕ) → (e : ℕ) × EndsAt s e
ends_met [] = (0, record { within = omega arith; inside = λ k h. absurd (omega arith); space = λ h. absurd (omega arith) })
ends_met (b ∷ s) =
    by_cases (ℕ_discrete b 32)
    (λ (h : b ≡ 32). (0, record { within = omega arith; inside = λ k l. absurd (omega arith); space = λ _. h }))
    (λ n. let r = ends_met s in (suc r.0, later n r.0 r.1))
  where
    later : (b ≡ 32 → ⊥) → (e : ℕ) → EndsAt s e → EndsAt (b ∷ s) (suc e)
    later n e h = record { within = omega (arith, h.within); inside = early; space = λ l. h.space (omega arith) }
      where
        early : (k : ℕ) → k < suc e → get_or (b ∷ s) k 0 ≡ 32 → ⊥
        early zero l q = n q
        early (suc k) l q = h.inside k (omega arith) q

pub begins_met : (s : List ℕ) → (r : Option First) × Begins s r
begins_met s = let x = ends_met s in by x.0 x.1 (number_met (take x.0 s)).0 (number_met (take x.0 s)).1
  where
    by : (e : ℕ) → EndsAt s e → (r : Option ℕ) → NumberOf (take e s) r → (f : Option First) × Begins s f
    by e h (Some n) d = by_cases (dec_lt e (length s)) (λ l. (Some (S.Then n (e + 1)), others s e h l d)) (λ l. (Some (S.Only n), only_one s e h (omega arith) d))
    by e h None d = (None, first_bad s e h d)
