-- A flag's word: it says what it is to say (`flag_says`), is kept while that is the same (`flag_kept`), and is one word (`flag_one`).
use mathlib.Core.Path.{◌≡◌, refl, sym, ap, ◌∙◌}
use mathlib.Core.Logic.{by_cases, ◌≢◌}
use mathlib.Core.Bool.{Bool, true, false}
use Prim.Native.Nat.{ℕ}
use native.Mathlib.Decide.{ℕ_discrete}
use borrow.Author.Tests.{eq-eqb, ne_eqb}
use Rattle.words.specs.Words.{is_set, flag_word, FlagKept}

module _ (n : ℕ) where
  -- the ways of `flag_word`
  pub word_no : {b : Bool} → b ≡ false → 0 ≡ flag_word n b
  unfolding flag_word
  word_no e = rw e refl

  pub word_yes : {b : Bool} → b ≡ true → n ≡ 0 → 1 ≡ flag_word n b
  unfolding flag_word
  word_yes e z = rw (e, eq-eqb n 0 z) refl

  pub word_stays : {b : Bool} → b ≡ true → n ≢ 0 → n ≡ flag_word n b
  unfolding flag_word
  word_stays e d = rw (e, ne_eqb n 0 d) refl

  word_says : (b : Bool) → is_set (flag_word n b) ≡ b
  word_says true =
      by_cases (ℕ_discrete n 0) (λ z. ap is_set (sym (word_yes refl z)))
      (λ d. ap is_set (sym (word_stays refl d)) ∙ rw (ne_eqb n 0 d) refl)
  word_says false = ap is_set (sym (word_no refl))

  pub flag_says : {m : ℕ} (b : Bool) → m ≡ flag_word n b → is_set m ≡ b
  flag_says b e = ap is_set e ∙ word_says b

  pub flag_kept : {m : ℕ} (b : Bool) → m ≡ flag_word n b → FlagKept n m
  flag_kept b e = e ∙ ap (flag_word n) (sym (flag_says b e))

  pub flag_one : {m k : ℕ} → FlagKept n m → FlagKept n k → is_set m ≡ is_set k → m ≡ k
  flag_one A B e = A ∙ ap (flag_word n) e ∙ sym B
