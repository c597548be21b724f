-- What follows from a log that is right: the words of the promises.
use Rattle.std.specs.Prelude.{◌≡◌, ◌⊎◌, List, [], ◌∷◌, ℕ, ◌≤◌}
use Rattle.inspector.specs.declared.Entry.TheVariants as E
use Rattle.inspector.specs.Text.{Says}
use Rattle.inspector.specs.Log.{Timer, Free}

-- no key is pending twice
abbrev pub Apart : List Timer → Type 0
Apart [] = Unit
Apart (t ∷ p) = Free t.key p × Apart p

abbrev pub EachLine : (List ℕ → Type 0) → List (List ℕ) → Type 0
EachLine P [] = Unit
EachLine P (l ∷ ls) = P l × EachLine P ls

abbrev pub SomeLine : (List ℕ → Type 0) → List (List ℕ) → Type 0
SomeLine P [] = ⊥
SomeLine P (l ∷ ls) = P l ⊎ SomeLine P ls

-- "the largest now answered with none, 0 at first"
pub record LargestNone (ls : List (List ℕ)) (c : ℕ) : Type 0 where
  pub largest : EachLine (λ l. (t : ℕ) → Says l (E.Nothing t) → t ≤ c) ls
  pub one : (c ≡ 0) ⊎ SomeLine (λ l. Says l (E.Nothing c)) ls
