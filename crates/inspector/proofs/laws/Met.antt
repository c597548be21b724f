-- Whatever a line is, it can be told what it says and whether it is right.
use mathlib.Core.Path.{◌≡◌, refl, sym, ◌∙◌, subst}
use mathlib.Core.Logic.{◌⊎◌, inl, inr, ⊎_elim, by_cases}
use mathlib.Core.List.{List, ◌∷◌}
use Prim.Native.Nat.{ℕ, ◌-◌}
use native.Mathlib.Decide.{ℕ_discrete, dec_lt}
use native.Mathlib.Omega.{arith}
use lib.ListN.{length, take, drop, get_or}
use Rattle.std.specs.Prelude.{Option, Some, None}
use Rattle.decimals.specs.Number.{NumberOf}
use Rattle.splitting.specs.declared.First.{First}
use Rattle.splitting.specs.declared.First.TheVariants as S
use Rattle.splitting.specs.Fields.{Begins}
use Rattle.splitting.proofs.laws.Fields.{the_one}
use Rattle.splitting.proofs.laws.Met.{number_met, begins_met}
use Rattle.inspector.specs.declared.Entry.{Entry}
use Rattle.inspector.specs.declared.Fields.{Fields}
use Rattle.inspector.specs.declared.Fields.TheVariants as F
use Rattle.inspector.specs.Text.{Says}
use Rattle.inspector.specs.Log.{Store, Step}
use Rattle.inspector.specs.Verdict.{Right, Wrong}
use Rattle.inspector.specs.Parts.{Second, Holds, entry_of, ReadClaim}
use Rattle.inspector.proofs.laws.Reading.{no_first, then_second, second_dash, second_bad, no_space, no_fields, a_space}
use Rattle.inspector.proofs.laws.Reading.{empty_line, long_line, whole_line, same_entry}
use Rattle.inspector.proofs.laws.Steps.{step_told, step_once}

-- ---- fields

second_met : (a : ℕ) (s : List ℕ) → (f : Option Fields) × Second a s f
second_met a s =
    by_cases (ℕ_discrete (length s) 1)
    (λ l. by_cases (ℕ_discrete (get_or s 0 0) 45) (λ e. (Some (F.Dash a), second_dash a s l e)) (λ n. number (λ _ e. n e) (number_met s).0 (number_met s).1))
    (λ n. number (λ l e. n l) (number_met s).0 (number_met s).1)
  where
    number : (length s ≡ 1 → get_or s 0 0 ≡ 45 → ⊥) → (r : Option ℕ) → NumberOf s r → (f : Option Fields) × Second a s f
    number n (Some y) d = (Some (F.Two a y), (refl, d))
    number n None d = (None, second_bad a s d n)

behind_met : (s : List ℕ) → (f : Option Fields) × Holds (32 ∷ s) f
behind_met s = by (begins_met s).0 (begins_met s).1
  where
    by : (r : Option First) → Begins s r → (f : Option Fields) × Holds (32 ∷ s) f
    by (Some (S.Only x)) d = (Some (F.One x), the_one d)
    by (Some (S.Then x k)) b = let q = second_met x (take (length s - k) (drop k s)) in (q.0, then_second k b.1 q.0 q.1)
    by None b = (None, no_first b)

fields_met : (s : List ℕ) → (f : Option Fields) × Holds s f
fields_met s =
    by_cases (dec_lt 0 (length s))
    (λ h.
    by_cases (ℕ_discrete (get_or s 0 0) 32)
    (λ e. let q = behind_met (take (length s - 1) (drop 1 s)) in (q.0, a_space s q.0 h e q.1))
    (λ n. (None, no_space s n)))
    (λ n. (None, no_fields s (omega arith)))

-- ---- a line

-- the claim on reading can be met
pub read_met : (l : List ℕ) → (r : Option Entry) × ReadClaim l r
read_met l =
    by_cases (dec_lt 0 (length l))
    (λ h.
    by_cases (dec_lt 80 (length l)) (λ k. (None, long_line l k))
    (λ k.
    let q = fields_met (take (length l - 1) (drop 1 l)) in
    (entry_of (get_or l 0 0) q.0, whole_line l q.0 (entry_of (get_or l 0 0) q.0) h (omega arith) q.1 refl)))
    (λ n. (None, empty_line l (omega arith)))

-- a line says one entry at most
pub one_entry : {l : List ℕ} (c d : Entry) → Says l c → Says l d → c ≡ d
one_entry {l} c d x y = let p = (read_met l).1 in same_entry (sym ((p.says c).1 x) ∙ (p.says d).1 y)

-- it is right or wrong
pub right_told : (m : ℕ) (l : List ℕ) (s : Store) → ((s' : Store) × Right m l s s') ⊎ Wrong m l s
right_told m l s = by (read_met l).0 (read_met l).1
  where
    by : (r : Option Entry) → ReadClaim l r → ((s' : Store) × Right m l s s') ⊎ Wrong m l s
    by (Some e) p =
        ⊎_elim (λ (x : (s' : Store) × Step m s e s'). inl (x.0, record { entry = e; says = (p.says e).0 refl; step = x.1 }))
        (λ (n : (s' : Store) → Step m s e s' → ⊥).
        inr (λ s' r. n s' (subst (λ (x : Entry). Step m s x s') (sym (same_entry ((p.says r.entry).1 r.says))) r.step)))
        (step_told m s e)
    by None p = inr (λ s' r. p.bad.0 refl r.entry r.says)

-- and leaves one store
pub right_once : {m : ℕ} {l : List ℕ} {s a b : Store} → Right m l s a → Right m l s b → a ≡ b
right_once {m} {l} {s} {a} {b} x y =
    let e = one_entry y.entry x.entry y.says x.says in
    step_once m s x.entry x.step (subst (λ (z : Entry). Step m s z b) e y.step)
