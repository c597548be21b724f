-- The first of many with a letter: it has that letter, and whatever holds of them all; where none has it, none is found.
use mathlib.Core.Path.{◌≡◌, refl, sym, ap, ◌∙◌}
use mathlib.Core.Bool.{Bool, cond}
use mathlib.Core.List.{List, [], ◌∷◌}
use mathlib.Core.Logic.{by_cases}
use Prim.Native.Nat.{ℕ}
use native.Mathlib.Decide.{ℕ_discrete}
use borrow.Author.Tests.{eq-eqb, ne_eqb}
use Rattle.std.specs.Prelude.{Some, None}
use Rattle.std.proofs.lemmas.Option.{none-some}
use Rattle.splitting.specs.Letters.{with_letter}

-- P holds of each of these, which are few and written out
abbrev pub All : {A : Type 0} → (A → Type 0) → List A → Type 0
All P [] = Unit
All P (c ∷ cs) = P c × All P cs

module _ {A : Type 0} (letter : A → ℕ) where
  hit : {b : ℕ} (c : A) (cs : List A) → b ≡ letter c → with_letter letter b (c ∷ cs) ≡ Some c
  hit {b} c cs e = ap (λ (t : Bool). cond t (Some c) (with_letter letter b cs)) (eq-eqb b (letter c) e)

  miss : {b : ℕ} (c : A) (cs : List A) → (b ≡ letter c → ⊥) → with_letter letter b (c ∷ cs) ≡ with_letter letter b cs
  miss {b} c cs n = ap (λ (t : Bool). cond t (Some c) (with_letter letter b cs)) (ne_eqb b (letter c) n)

  pub letter_found : (P : A → Type 0) (b : ℕ) (cs : List A) → All P cs → (d : A) → with_letter letter b cs ≡ Some d → (b ≡ letter d) × P d
  letter_found P b [] a d e = absurd (none-some d e)
  letter_found P b (c ∷ cs) a d e =
      by_cases (ℕ_discrete b (letter c))
      (λ (h : b ≡ letter c). let s = sym (hit c cs h) ∙ e in let m : c ≡ d = cc in (h ∙ ap letter m, rw m at a.0))
      (λ n. letter_found P b cs a.1 d (sym (miss c cs n) ∙ e))

  pub letter_absent : (b : ℕ) (cs : List A) → All (λ c. b ≡ letter c → ⊥) cs → None ≡ with_letter letter b cs
  letter_absent b [] n = refl
  letter_absent b (c ∷ cs) n = letter_absent b cs n.1 ∙ sym (miss c cs n.0)
