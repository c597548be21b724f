-- Runs of a board: readings, polls through the front part, and other calls of the store, each answered as its claim says.
use Rattle.std.specs.Prelude.{◌≡◌, ℕ, ◌+◌, ◌^◌, ◌<◌, ◌≤◌, false, List, [], ◌∷◌}
use Rattle.queue.specs.declared.Answer.{Answer}
use Rattle.records.specs.Words.{QueueWords, elapsed}
use Rattle.delay_queue.specs.declared.Call.{Call}
use Rattle.delay_queue.specs.Claims.{CallClaim}
use Rattle.promises.specs.Runs.{is_poll}
use Rattle.tick.specs.Claims.{low, ReadClaim, TickPollClaim, TickSomeClaim}

-- ---- what a board does

-- it reads its tick, polls at a tick through the front part, whole or with a limit, or makes a call of the store that does not go
-- through it
pub data Deed : Type 0 where
  reads : ℕ → Deed
  polls : ℕ → Deed
  polls_some : ℕ → ℕ → Deed
  calls : Call → Deed

-- done at a time and on a store: an answer, and the time and the store after it
abbrev pub DeedClaim : Deed → ℕ → QueueWords → Answer → ℕ → QueueWords → Type 0
DeedClaim (reads tick) time s a time' s' = ReadClaim time tick a time' × (s' ≡ s)
DeedClaim (polls tick) time s a time' s' = TickPollClaim time s tick a time' s'
DeedClaim (polls_some tick limit) time s a time' s' = TickSomeClaim time s tick limit a time' s'
DeedClaim (calls c) time s a time' s' = CallClaim c s a s' × (time' ≡ time)

-- a reading of this tick, alone or with a poll
pub data Reading (tick : ℕ) : Deed → Type 0 where
  alone : Reading tick (reads tick)
  polling : Reading tick (polls tick)
  limited : {limit : ℕ} → Reading tick (polls_some tick limit)

-- ---- runs

-- what was done, its answer, and the front part's time after it
pub record Did : Type 0 where
  pub deed : Deed
  pub answer : Answer
  pub time : ℕ

abbrev pub did : Deed → Answer → ℕ → Did
did q a t = record { deed = q; answer = a; time = t }

-- from a time and a store
pub data Boards : ℕ → QueueWords → List Did → QueueWords → Type 0 where
  rest : {time : ℕ} {s : QueueWords} → Boards time s [] s
  next : {time time' : ℕ} {s t u : QueueWords} {q : Deed} {a : Answer} {l : List Did} → DeedClaim q time s a time' t → Boards time' t l u
      → Boards time s (did q a time' ∷ l) u

-- what was done in it
abbrev pub deeds : List Did → List Deed
deeds [] = []
deeds (x ∷ l) = x.deed ∷ deeds l

-- every one of the run is such a one
abbrev pub All : (Did → Type 0) → List Did → Type 0
All P [] = Unit {0}
All P (x ∷ l) = P x × All P l

-- nothing polls the store but through the front part
abbrev pub Through : Deed → Type 0
Through (reads tick) = Unit {0}
Through (polls tick) = Unit {0}
Through (polls_some tick limit) = Unit {0}
Through (calls c) = is_poll c ≡ false

abbrev pub AllThrough : List Deed → Type 0
AllThrough [] = Unit {0}
AllThrough (q ∷ l) = Through q × AllThrough l

-- nothing has polled the store further than the time: neither elapsed nor the now of a poll in hand is past it
pub record Behind (time : ℕ) (s : QueueWords) : Type 0 where
  pub clock : elapsed s ≤ time
  pub until : s.until ≤ time

-- ---- the readings of a run: their ticks, and the times after them

abbrev pub with_tick : Deed → List ℕ → List ℕ
with_tick (reads tick) l = tick ∷ l
with_tick (polls tick) l = tick ∷ l
with_tick (polls_some tick limit) l = tick ∷ l
with_tick (calls c) l = l

abbrev pub ticks : List Deed → List ℕ
ticks [] = []
ticks (q ∷ l) = with_tick q (ticks l)

abbrev pub with_time : Deed → ℕ → List ℕ → List ℕ
with_time (reads tick) t l = t ∷ l
with_time (polls tick) t l = t ∷ l
with_time (polls_some tick limit) t l = t ∷ l
with_time (calls c) t l = l

abbrev pub times : List Did → List ℕ
times [] = []
times (x ∷ l) = with_time x.deed x.time (times l)

-- ---- a true clock, as the list of the times at which it is read

-- what a board sees of it
abbrev pub lows : List ℕ → List ℕ
lows [] = []
lows (c ∷ l) = low c ∷ lows l

-- it never goes back nor passes 2^64-1, and is read again before 2^32 ms are over; t is the time before, 0 at the start
abbrev pub Steady : ℕ → List ℕ → Type 0
Steady t [] = Unit {0}
Steady t (c ∷ l) = (t ≤ c) × (c < t + 2 ^ 32) × (c < 2 ^ 64) × Steady c l
