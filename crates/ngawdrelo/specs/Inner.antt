-- What the inner functions of the face do. No contract of an exported function cites this file.
use Rattle.std.specs.Prelude.{◌≡◌, Bool, true, false, ℕ}
use Rattle.queue.specs.declared.Answer.{Answer}
use Rattle.queue.specs.Calls.{Refused}
use Rattle.records.specs.Words.{QueueWords}
use Rattle.delay_queue.specs.declared.Call.{Call}
use Rattle.delay_queue.specs.Claims.{CallClaim}
use Rattle.entries.specs.declared.Step.{Step}
use Rattle.entries.specs.declared.Step.TheVariants as S
use Rattle.tick.specs.Claims.{sum, Passes}

-- the step that opens a patch, or closes it
abbrev pub patch_step : Bool → Step
patch_step true = S.Open
patch_step false = S.Close

-- a call c is asked of s, of which M holds
pub record Makes (M : Call → Type 0) (s : QueueWords) (a : Answer) (s' : QueueWords) : Type 0 where
  pub call : Call
  pub made : M call
  pub done : CallClaim call s a s'

-- a reading that is refused asks nothing of the store; after one that is taken a call is asked, of which M holds at the new time
pub record TickClaim (M : ℕ → Call → Type 0) (time : ℕ) (s : QueueWords) (tick : ℕ) (a : Answer) (time' : ℕ) (s' : QueueWords) : Type 0 where
  pub past : Passes time tick → Refused 10 s a s' × (time' ≡ time)
  pub taken : (Passes time tick → ⊥) → Makes (M (sum time tick)) s a s' × (time' ≡ sum time tick)
