-- What the lines of an input are.
use Rattle.std.specs.Prelude.{◌≡◌, Bool, true, false, List, [], ◌∷◌, ◌++◌, map, ℕ, eqb, take}
use Prim.Native.Char.{code}

-- the byte that ends a line, and is no part of it
abbrev pub newline : ℕ
newline = code "\n"

abbrev pub pick : Bool → List (List ℕ) → List (List ℕ) → List (List ℕ)
pick true x y = x
pick false x y = y

-- "A last line needs no newline; empty input writes nothing": what stands behind the last newline is a line too, unless it is empty
abbrev pub last : List ℕ → List (List ℕ)
last [] = []
last (b ∷ l) = (b ∷ l) ∷ []

-- the lines of an input, of whose first line l is read, and s is what comes
unfoldable pub lines_from : List ℕ → List ℕ → List (List ℕ)
lines_from l [] = last l
lines_from l (b ∷ s) = pick (eqb b newline) (l ∷ lines_from [] s) (lines_from (l ++ b ∷ []) s)

-- "A program reads lines": those of an input
abbrev pub lines_of : List ℕ → List (List ℕ)
lines_of s = lines_from [] s

-- of each line its first m bytes
abbrev pub firsts : ℕ → List (List ℕ) → List (List ℕ)
firsts m ls = map (λ (l : List ℕ). take m l) ls

-- chunks, one behind the other
abbrev pub joined : List (List ℕ) → List ℕ
joined [] = []
joined (c ∷ cs) = c ++ joined cs

-- ---- the same the other way: lines that are written out

-- no byte is a newline
abbrev pub Plain : List ℕ → Type 0
Plain [] = Unit
Plain (b ∷ l) = (b ≡ newline → ⊥) × Plain l

abbrev pub AllPlain : List (List ℕ) → Type 0
AllPlain [] = Unit
AllPlain (l ∷ ls) = Plain l × AllPlain ls

-- each with its newline
abbrev pub text : List (List ℕ) → List ℕ
text [] = []
text (l ∷ ls) = l ++ newline ∷ text ls
