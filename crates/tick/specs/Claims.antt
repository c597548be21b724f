-- What the front part of a board with a 32-bit tick answers and leaves, for any input at all. What stands between quotation marks is request 4's text.
use Rattle.std.specs.Prelude.{◌≡◌, ℕ, ◌+◌, ◌-◌, ◌%◌, ◌^◌, ◌≤◌, cond, ◌==◌}
use Rattle.links.specs.Lists.{nobody}
use Rattle.queue.specs.declared.Answer.{Answer}
use Rattle.queue.specs.Told.{told, ok, no}
use Rattle.queue.specs.Calls.{Refused}
use Rattle.records.specs.Words.{QueueWords}
use Rattle.delay_queue.specs.Claims.{PollClaim, PollSomeClaim}

-- ---- the sum

-- "the low 32 bits": all that such a board sees of a time
abbrev pub low : ℕ → ℕ
low time = time % 2 ^ 32

-- "the wrapping difference between the tick and the low 32 bits of its time"
abbrev pub difference_of : ℕ → ℕ → ℕ
difference_of time tick = (tick + 2 ^ 32 - low time) % 2 ^ 32

-- "takes a raw tick, and adds": the sum that it comes to
abbrev pub sum : ℕ → ℕ → ℕ
sum time tick = time + difference_of time tick

-- "If the sum would pass 2^64-1"
abbrev pub Passes : ℕ → ℕ → Type 0
Passes time tick = 2 ^ 64 ≤ sum time tick

-- ---- the claims

-- "it keeps the 64-bit time, 0 at the start"
abbrev pub StartClaim : ℕ → Type 0
StartClaim time = time ≡ 0

-- "the reading is refused with 10 and the time stays"; otherwise it is taken, and the sum is the time
pub record ReadClaim (time tick : ℕ) (a : Answer) (time' : ℕ) : Type 0 where
  pub past : Passes time tick → (told a ≡ no 10) × (time' ≡ time)
  pub taken : (Passes time tick → ⊥) → (told a ≡ ok) × (time' ≡ sum time tick)

-- "Polls through this part": a reading that is refused asks nothing of the store; after one that is taken the store is polled at the new time, which stands
-- whatever the poll answers
pub record TickPollClaim (time : ℕ) (s : QueueWords) (tick : ℕ) (a : Answer) (time' : ℕ) (s' : QueueWords) : Type 0 where
  pub past : Passes time tick → Refused 10 s a s' × (time' ≡ time)
  pub taken : (Passes time tick → ⊥) → PollClaim s (sum time tick) a s' × (time' ≡ sum time tick)

-- ---- 02 [10]: "polls with another now are refused with 12"

-- the now that a board polls with: that of the poll in hand, which the store remembers, and with none in hand its time
abbrev pub now_of : ℕ → ℕ → ℕ → ℕ
now_of time hand until = cond (hand == nobody) time until

-- a poll with a limit through this part: refused and taken as the poll
pub record TickSomeClaim (time : ℕ) (s : QueueWords) (tick limit : ℕ) (a : Answer) (time' : ℕ) (s' : QueueWords) : Type 0 where
  pub past : Passes time tick → Refused 10 s a s' × (time' ≡ time)
  pub taken : (Passes time tick → ⊥) → PollSomeClaim s (now_of (sum time tick) s.hand s.until) limit a s' × (time' ≡ sum time tick)
