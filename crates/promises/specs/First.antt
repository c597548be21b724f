-- Words of the promise "First set, first out", in calls and answers: two timers are set one after the other, and neither again.
use Rattle.std.specs.Prelude.{◌≡◌, ◌⊎◌, List, ℕ, ◌+◌, ◌<◌, max}
use Rattle.queue.specs.declared.Answer.{Answer}
use Rattle.queue.specs.Told.{told}
use Rattle.queue.specs.Told as T
use Rattle.records.specs.Records.{number_in}
use Rattle.records.specs.Words.{QueueWords, elapsed, view, Sound}
use Rattle.delay_queue.specs.declared.Call.{Call}
use Rattle.delay_queue.specs.declared.Call.TheVariants as C
use Rattle.delay_queue.specs.Claims.{CallClaim}
use Rattle.promises.specs.Runs.{Asked, Runs, Each}
use Rattle.promises.specs.Polls.{PollAt}
use Rattle.promises.specs.KeysStay.{HandsKey}

-- the call on s, accepted, sets the timer of k for `when`: it inserts it, or resets it, "a reset counting as a new placing"; or it is a poll that hands it out
-- and "places it at w plus period under the same key" (02 [7])
abbrev pub Sets : QueueWords → ℕ → ℕ → Asked → Type 0
Sets s k when x =
    ((value : ℕ) × (period : ℕ) × (x.call ≡ C.Insert value when period) × (told x.answer ≡ T.key k))
    ⊎ ((x.call ≡ C.Reset k when) × (told x.answer ≡ T.ok))
    ⊎ ((now v d m n : ℕ) × PollAt x.call now × (told x.answer ≡ T.out k v d m n) × (0 < (view s).period (number_in k))
    × (when ≡ d + (view s).period (number_in k)))

-- the call does not set it
abbrev pub NotSet : ℕ → QueueWords → Asked → QueueWords → Type 0
NotSet k s x t = (when : ℕ) → Sets s k when x → ⊥

-- a call on s sets the timer of k, and leaves t
pub record SetOn (s : QueueWords) (k : ℕ) (t : QueueWords) : Type 0 where
  pub when : ℕ
  pub asked : Asked
  pub sets : Sets s k when asked
  pub claim : CallClaim asked.call s asked.answer t

-- the deadline as it is then stored: "Insert and reset first raise the deadline to elapsed if it is smaller"
abbrev pub stored_on : {s t : QueueWords} {k : ℕ} → SetOn s k t → ℕ
stored_on {s} x = max x.when (elapsed s)

-- from s on the timer of j is set, then that of k, with any calls after each; neither is set again, and t is what is left
pub record SetInOrder (s : QueueWords) (j k : ℕ) (t : QueueWords) : Type 0 where
  pub set : QueueWords
  pub later : QueueWords
  pub both : QueueWords
  pub first : SetOn s j set
  pub between : List Asked
  pub then : Runs set between later
  pub second : SetOn later k both
  pub after : List Asked
  pub at_last : Runs both after t
  pub first_last : Each (NotSet j) then × NotSet j later second.asked both × Each (NotSet j) at_last
  pub second_last : Each (NotSet k) at_last

-- ---- such runs there are

-- two timers set one after the other, and a call that hands out the second
pub record SecondOut : Type 0 where
  pub start : QueueWords
  pub reached : QueueWords
  pub left : QueueWords
  pub one : ℕ
  pub two : ℕ
  pub call : Call
  pub answer : Answer
  pub sound : Sound start
  pub run : SetInOrder start one two reached
  pub poll : CallClaim call reached answer left
  pub out : HandsKey two (told answer)
