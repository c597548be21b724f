-- What a line of a log says, in document 02's words.
use Rattle.std.specs.Prelude.{◌≡◌, List, [], ◌∷◌, ◌++◌, ℕ, ◌≤◌, length}
use Prim.Native.Char.{code}
use Rattle.decimals.specs.Text.{bytes, Spaced}
use Rattle.inspector.specs.declared.Entry.{Entry}
use Rattle.inspector.specs.declared.Entry.TheVariants as E

-- ---- "Lines are `i key when`, `s key when` (reset), `r key`, `p now key` and `p now -`"

abbrev pub letter : Entry → ℕ
letter (E.Insert key when) = code "i"
letter (E.Reset key when) = code "s"
letter (E.Remove key) = code "r"
letter (E.Out time key) = code "p"
letter (E.Nothing time) = code "p"

abbrev pub numbers : Entry → List ℕ
numbers (E.Insert key when) = key ∷ when ∷ []
numbers (E.Reset key when) = key ∷ when ∷ []
numbers (E.Remove key) = key ∷ []
numbers (E.Out time key) = time ∷ key ∷ []
numbers (E.Nothing time) = time ∷ []

abbrev pub ending : Entry → List ℕ
ending (E.Insert key when) = []
ending (E.Reset key when) = []
ending (E.Remove key) = []
ending (E.Out time key) = []
ending (E.Nothing time) = bytes " -"

-- "written as on the bench": the line l, without its newline, says the entry e: its letter, its numbers, its ending, and no more than
-- 80 bytes
pub record Says (l : List ℕ) (e : Entry) : Type 0 where
  pub rest : List ℕ
  pub line : l ≡ letter e ∷ (rest ++ ending e)
  pub fields : Spaced rest (numbers e)
  pub short : length l ≤ 80
