-- What a line asks, in document 01's words, and the claim of `read_line`.
use Rattle.std.specs.Prelude.{◌≡◌, ◌↔◌, List, [], ◌∷◌, ℕ, ◌≤◌, length, Option, Some, None}
use Prim.Native.Char.{code}
use Rattle.delay_queue.specs.declared.Call.{Call}
use Rattle.delay_queue.specs.declared.Call.TheVariants as C
use Rattle.decimals.specs.Text.{Spaced}

-- ---- "`f N turn`, `i value when`, `s key when` (reset), `r key`, `p now`, `w`, `l`, `c`"; 02 [7]: "the `i` line always has a third field,
-- the period". 02 [10] gives the poll with a limit no line: `q now limit`, which the bench itself does not know (`bench/specs/Line`)

abbrev pub letter : Call → ℕ
letter (C.Format n turn) = code "f"
letter (C.Insert value when period) = code "i"
letter (C.Reset key when) = code "s"
letter (C.Remove key) = code "r"
letter (C.Poll now) = code "p"
letter (C.PollSome now limit) = code "q"
letter C.Wake = code "w"
letter C.Length = code "l"
letter C.Clear = code "c"

abbrev pub numbers : Call → List ℕ
numbers (C.Format n turn) = n ∷ turn ∷ []
numbers (C.Insert value when period) = value ∷ when ∷ period ∷ []
numbers (C.Reset key when) = key ∷ when ∷ []
numbers (C.Remove key) = key ∷ []
numbers (C.Poll now) = now ∷ []
numbers (C.PollSome now limit) = now ∷ limit ∷ []
numbers C.Wake = []
numbers C.Length = []
numbers C.Clear = []

-- the line l, without its newline, asks the call c: its letter, its numbers, and no more than 80 bytes
pub record Says (l : List ℕ) (c : Call) : Type 0 where
  pub rest : List ℕ
  pub line : l ≡ letter c ∷ rest
  pub fields : Spaced rest (numbers c)
  pub short : length l ≤ 80

-- "Other lines, empty ones and lines over 80 bytes answer `bad`": r is what is to be read in the line l
pub record ReadClaim (l : List ℕ) (r : Option Call) : Type 0 where
  pub asks : (c : Call) → (r ≡ Some c) ↔ Says l c
  pub bad : (r ≡ None) ↔ ((c : Call) → Says l c → ⊥)
