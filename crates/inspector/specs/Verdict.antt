-- What is to be said of a log, in document 02's words: `ok`, or which line is the first bad one.
use Rattle.std.specs.Prelude.{◌≡◌, ◌↔◌, List, ◌∷◌, ◌++◌, ℕ, ◌+◌, ◌^◌, ◌<◌, length}
use Rattle.lines.specs.Running.{Along}
use Rattle.inspector.specs.declared.Entry.{Entry}
use Rattle.inspector.specs.declared.State.{State}
use Rattle.inspector.specs.declared.State.TheVariants as S
use Rattle.inspector.specs.Text.{Says}
use Rattle.inspector.specs.Log.{Store, start, Step}

-- the line l is right after what leaves s, and leaves s', where at most m are to be pending
pub record Right (m : ℕ) (l : List ℕ) (s s' : Store) : Type 0 where
  pub entry : Entry
  pub says : Says l entry
  pub step : Step m s entry s'

-- "any other line is bad"
abbrev pub Wrong : ℕ → List ℕ → Store → Type 0
Wrong m l s = (s' : Store) → Right m l s s' → ⊥

-- "At most 1,024 are pending"
abbrev pub most : ℕ
most = 1024

-- all of these lines are right, one after the other
abbrev pub AllRight : List (List ℕ) → Store → Store → Type 0
AllRight = Along (Right most)

-- "`ok`": the whole log is right
pub record Accepted (ls : List (List ℕ)) : Type 0 where
  pub left : Store
  pub right : AllRight ls start left

-- "`bad n` with the first bad line's number counted from 1"
pub record FirstBad (ls : List (List ℕ)) (n : ℕ) : Type 0 where
  pub front : List (List ℕ)
  pub line : List ℕ
  pub behind : List (List ℕ)
  pub log : ls ≡ front ++ line ∷ behind
  pub number : n ≡ length front + 1
  pub left : Store
  pub right : AllRight front start left
  pub wrong : Wrong most line left

-- no line was bad
abbrev pub NoneBad : State → Type 0
NoneBad (S.Good n clock m) = Unit
NoneBad (S.Bad n) = ⊥

-- t is what is to be said of the log ls, whose lines a u64 counts
pub record VerdictClaim (ls : List (List ℕ)) (t : State) : Type 0 where
  pub ok : NoneBad t ↔ Accepted ls
  pub bad : length ls < 2 ^ 64 → (n : ℕ) → (t ≡ S.Bad n) ↔ FirstBad ls n
