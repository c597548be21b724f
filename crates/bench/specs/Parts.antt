-- What the bench finds in a line, and one line of a store of which it is known whether it is sound.
use Prim.Native.Char.{code}
use Rattle.std.specs.Prelude.{◌≡◌, true, Bool, List, ℕ, Option, Some, None}
use Rattle.contracts.specs.Tells.{Tells}
use Rattle.records.specs.Words.{QueueWords, Sound}
use Rattle.delay_queue.specs.declared.Call.{Call}
use Rattle.asking.specs.Text.{letter}
use Rattle.bench.specs.Line.{Asks, LineClaim}

-- the letter of the call is one of the bench's
abbrev pub Known : Bool → Call → Type 0
Known limits c = letter c ≡ code "q" → limits ≡ true

-- what a line is heard as
pub data Heard (limits : Bool) (l : List ℕ) : Option Call → Type 0 where
  asks : {c : Call} → Asks limits l c → Heard limits l (Some c)
  bad : ((c : Call) → Asks limits l c → ⊥) → Heard limits l None

-- what is claimed of the line when its call judges, and whether the store that it leaves is sound
pub record LineKnown (limits : Bool) (l : List ℕ) (s : QueueWords) (o : List ℕ) (at : ℕ) (s' : QueueWords) (o' : List ℕ) (end : ℕ)
    (sound : Bool) : Type 0 where
  pub line : LineClaim limits l s o at s' o' end
  pub tells : Tells (Sound s') sound
