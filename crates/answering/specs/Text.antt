-- The line of an answer, in document 01's words, and the claims of `write_answer` and `write_bad`.
use Rattle.std.specs.Prelude.{◌≡◌, List, [], ◌∷◌, ◌++◌, ℕ, ◌+◌, ◌≤◌, ◌<◌, length, take, drop}
use Prim.Native.Char.{code}
use Rattle.queue.specs.declared.Answer.{Answer}
use Rattle.queue.specs.declared.Answer.TheVariants as A
use Rattle.decimals.specs.Text.{bytes, Spaced}

-- ---- "Answers: `ok` (f, s, c), `key K`, `gone value deadline`, `out key value deadline moves drains`, `none moves drains`,
-- `wake T` or `wake -`, `len n`, `no number`"; 02 [7]: "such an `out` line ends with a space and `last`". 02 [10] gives "not yet" no line:
-- `yet moves drains`

abbrev pub word : Answer → List ℕ
word A.Done = bytes "ok"
word (A.Key k) = bytes "key"
word (A.Gone value deadline) = bytes "gone"
word (A.Out key value deadline moves drains) = bytes "out"
word (A.Last key value deadline moves drains) = bytes "out"
word (A.Nothing moves drains) = bytes "none"
word (A.NotYet moves drains) = bytes "yet"
word (A.Wake t) = bytes "wake"
word A.NoWake = bytes "wake -"
word (A.Length n) = bytes "len"
word (A.No number) = bytes "no"

abbrev pub shown : Answer → List ℕ
shown A.Done = []
shown (A.Key k) = k ∷ []
shown (A.Gone value deadline) = value ∷ deadline ∷ []
shown (A.Out key value deadline moves drains) = key ∷ value ∷ deadline ∷ moves ∷ drains ∷ []
shown (A.Last key value deadline moves drains) = key ∷ value ∷ deadline ∷ moves ∷ drains ∷ []
shown (A.Nothing moves drains) = moves ∷ drains ∷ []
shown (A.NotYet moves drains) = moves ∷ drains ∷ []
shown (A.Wake t) = t ∷ []
shown A.NoWake = []
shown (A.Length n) = n ∷ []
shown (A.No number) = number ∷ []

abbrev pub ending : Answer → List ℕ
ending A.Done = []
ending (A.Key k) = []
ending (A.Gone value deadline) = []
ending (A.Out key value deadline moves drains) = []
ending (A.Last key value deadline moves drains) = bytes " last"
ending (A.Nothing moves drains) = []
ending (A.NotYet moves drains) = []
ending (A.Wake t) = []
ending A.NoWake = []
ending (A.Length n) = []
ending (A.No number) = []

-- l is the line of the word w, the numbers ns and the ending z, with its newline
pub record Written (w ns z l : List ℕ) : Type 0 where
  pub rest : List ℕ
  pub fields : Spaced rest ns
  pub line : l ≡ w ++ (rest ++ (z ++ code "\n" ∷ []))

-- o with l written over it from at on
abbrev pub put : List ℕ → ℕ → List ℕ → List ℕ
put o at l = take at o ++ (l ++ drop (at + length l) o)

-- the line of w, ns and z is to go into o from at on: r is the place behind it and o' is what o becomes, or, where o has no
-- room for it, r is at and o' is o
pub record PutClaim (w ns z o : List ℕ) (at r : ℕ) (o' : List ℕ) : Type 0 where
  pub line : List ℕ
  pub written : Written w ns z line
  pub room : at + length line ≤ length o → (r ≡ at + length line) × (o' ≡ put o at line)
  pub full : length o < at + length line → (r ≡ at) × (o' ≡ o)

-- the line of an answer
abbrev pub WriteClaim : Answer → List ℕ → ℕ → ℕ → List ℕ → Type 0
WriteClaim a = PutClaim (word a) (shown a) (ending a)

-- the line `bad`
abbrev pub BadClaim : List ℕ → ℕ → ℕ → List ℕ → Type 0
BadClaim = PutClaim (bytes "bad") [] []
