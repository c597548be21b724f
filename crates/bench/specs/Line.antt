-- One line of the bench: it, the store and what is written before it; the store and what is written after it.
use Rattle.std.specs.Prelude.{◌≡◌, Bool, true, List, ℕ}
use Prim.Native.Char.{code}
use Rattle.queue.specs.declared.Answer.{Answer}
use Rattle.records.specs.Words.{QueueWords}
use Rattle.delay_queue.specs.declared.Call.{Call}
use Rattle.delay_queue.specs.Claims.{CallClaim}
use Rattle.asking.specs.Text.{letter, Says}
use Rattle.answering.specs.Text.{WriteClaim, BadClaim}

-- the line l asks the call c: the papers give the bench no line of a poll with a limit, so that q is a letter only where limits are known
pub record Asks (limits : Bool) (l : List ℕ) (c : Call) : Type 0 where
  pub says : Says l c
  pub known : letter c ≡ code "q" → limits ≡ true

-- what was asked is done, and its answer is written
pub record Answers (c : Call) (s : QueueWords) (o : List ℕ) (at : ℕ) (s' : QueueWords) (o' : List ℕ) (end : ℕ) : Type 0 where
  pub answer : Answer
  pub done : CallClaim c s answer s'
  pub written : WriteClaim answer o at end o'

-- "A program reads lines and answers each with one": a line that asks a call, and any other line
pub record LineClaim (limits : Bool) (l : List ℕ) (s : QueueWords) (o : List ℕ) (at : ℕ) (s' : QueueWords) (o' : List ℕ) (end : ℕ) : Type 0
  where
    pub asks : (c : Call) → Asks limits l c → Answers c s o at s' o' end
    pub bad : ((c : Call) → Asks limits l c → ⊥) → (s' ≡ s) × BadClaim o at end o'
