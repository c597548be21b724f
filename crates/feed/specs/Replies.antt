-- What the bench answers to lines: the claim of `bench::answer_line`, without the slice that the answer is written into.
use Rattle.std.specs.Prelude.{◌≡◌, Bool, List, [], ◌∷◌, ◌++◌, ℕ}
use Rattle.queue.specs.declared.Answer.{Answer}
use Rattle.records.specs.Words.{QueueWords}
use Rattle.delay_queue.specs.declared.Call.{Call}
use Rattle.delay_queue.specs.Claims.{CallClaim}
use Rattle.decimals.specs.Text.{bytes}
use Rattle.answering.specs.Text.{word, shown, ending, Written}
use Rattle.bench.specs.Line.{Asks}

-- what was asked is done, and t is the line of its answer, with its newline
pub record AnswersWith (c : Call) (s : QueueWords) (t : List ℕ) (s' : QueueWords) : Type 0 where
  pub answer : Answer
  pub done : CallClaim c s answer s'
  pub written : Written (word answer) (shown answer) (ending answer) t

-- the line l is answered with t, and makes s' of the store s
pub record ReplyTo (limits : Bool) (l : List ℕ) (s : QueueWords) (t : List ℕ) (s' : QueueWords) : Type 0 where
  pub asks : (c : Call) → Asks limits l c → AnswersWith c s t s'
  pub bad : ((c : Call) → Asks limits l c → ⊥) → (s' ≡ s) × Written (bytes "bad") [] [] t

-- "answers each with one": lines one after the other, an answer each, in their order, and the store runs along
pub data Replies (limits : Bool) : List (List ℕ) → QueueWords → List ℕ → QueueWords → Type 0 where
  none : {s : QueueWords} → Replies limits [] s [] s
  reply : {l : List ℕ} {ls : List (List ℕ)} {s s₁ s' : QueueWords} {t u : List ℕ} → ReplyTo limits l s t s₁ → Replies limits ls s₁ u s'
      → Replies limits (l ∷ ls) s (t ++ u) s'
