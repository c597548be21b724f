-- The steps that bytes hold, asked of a store.
use Rattle.std.specs.Prelude.{◌≡◌, List, ℕ, ◌+◌, drop, Ok, Err}
use Rattle.queue.specs.declared.Answer.{Answer}
use Rattle.records.specs.Words.{QueueWords}
use Rattle.delay_queue.specs.declared.Call.{Call}
use Rattle.delay_queue.specs.Claims.{CallClaim}
use Rattle.entries.specs.declared.Step.{Step}
use Rattle.entries.specs.declared.Step.TheVariants as S
use Rattle.entries.specs.declared.Ending.{Ending}
use Rattle.entries.specs.Reading as read
use Rattle.recover.specs.Replay.{size}

-- a step makes s' of s; "Open and close read no store"
pub data Makes : Step → QueueWords → QueueWords → Type 0 where
  asked : {s s' : QueueWords} {c : Call} (a : Answer) → CallClaim c s a s' → Makes (S.Asks c) s s'
  opened : {s : QueueWords} → Makes S.Open s s
  closed : {s : QueueWords} → Makes S.Close s s

-- the steps that l begins with, as many as are whole, use so many of its bytes and make s' of s
pub data Applies : List ℕ → QueueWords → ℕ → QueueWords → Type 0 where
  ends : {l : List ℕ} {s : QueueWords} {e : Ending} → read.next l ≡ Err e → Applies l s 0 s
  step : {l : List ℕ} {s s₁ s' : QueueWords} {x : Step} {n : ℕ} → read.next l ≡ Ok x → Makes x s s₁ → Applies (drop (size x) l) s₁ n s'
      → Applies l s (size x + n) s'
