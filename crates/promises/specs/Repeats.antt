-- Words of the promises on timers that repeat (02 [7]).
use Rattle.std.specs.Prelude.{◌≡◌, ◌⊎◌, List, [], ◌∷◌, ℕ, ◌+◌, ◌<◌}
use Rattle.queue.specs.declared.Answer.{Answer}
use Rattle.queue.specs.declared.Answer.TheVariants as A
use Rattle.queue.specs.Told.{told}
use Rattle.queue.specs.Told as T
use Rattle.delay_queue.specs.declared.Call.TheVariants as C
use Rattle.records.specs.Words.{QueueWords}
use Rattle.promises.specs.Runs.{Asked, Runs}
use Rattle.promises.specs.Keys.{asked}
use Rattle.promises.specs.OneCall as store

-- "If refusals 4 or 5 would meet that deadline at the elapsed time after the hand-out, or it passes 2^64-1": in numbers, with elapsed e and
-- the deadline w. 5 is never given (02 [12])
abbrev pub NoNextTime : ℕ → ℕ → Type 0
NoNextTime e w = (18446744073709551615 < w) ⊎ (e + 68719476735 < w)

-- the call is no accepted reset of k
abbrev pub NotReset : ℕ → Asked → Type 0
NotReset k x = (when : ℕ) → x.call ≡ C.Reset k when → told x.answer ≡ T.ok → ⊥

-- ---- such runs there are

-- the answer hands out the value 7 under the first key of a first turn of 1, at d, and not for the last time
abbrev pub OutAt : ℕ → Answer → Type 0
OutAt d a = (moves : ℕ) × (drains : ℕ) × (told a ≡ T.out 65536 7 d moves drains)

-- "The rinse pump runs every 40 minutes": one record, set for 2,400,000 with that period, is polled at its time three times
abbrev pub three_calls : Answer → Answer → Answer → List Asked
three_calls one two three =
    asked (C.Insert 7 2400000 2400000) (A.Key 65536) ∷ asked (C.Poll 2400000) one
    ∷ asked (C.Poll 4800000) two ∷ asked (C.Poll 7200000) three ∷ []

pub record ThreeTimes : Type 0 where
  pub one : Answer
  pub two : Answer
  pub three : Answer
  pub left : QueueWords
  pub run : Runs store.one (three_calls one two three) left
  pub outs : OutAt 2400000 one × OutAt 4800000 two × OutAt 7200000 three
