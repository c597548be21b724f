-- Which of many things has a letter: of those that a line could say by its fields, the one that its letter is.
use Rattle.std.specs.Prelude.{List, ℕ, ◌==◌, Option}
use Rattle.std.specs.List.{find}

-- the first of these with the letter b
abbrev pub with_letter : {A : Type 0} → (A → ℕ) → ℕ → List A → Option A
with_letter letter b cs = find (λ c. b == letter c) cs
