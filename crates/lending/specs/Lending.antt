-- What two removes of one key in a row do.
use Rattle.std.specs.Prelude.{◌≡◌, ℕ}
use Rattle.records.specs.Words.{QueueWords, AtRest, Sound}
use Rattle.queue.specs.declared.Answer.{Answer}
use Rattle.queue.specs.Told.{told, no}
use Rattle.delay_queue.specs.Claims.{RemoveClaim}

-- asked of the words s: two removes of one key in a row, of which the second answers b and leaves u. On a sound store with no poll in hand that is number 6
pub record CancelsTwice (s : QueueWords) (key : ℕ) (b : Answer) (u : QueueWords) : Type 0 where
  pub answer : Answer
  pub between : QueueWords
  pub first : RemoveClaim s key answer between
  pub second : RemoveClaim between key b u
  pub dead : Sound s → AtRest s → told b ≡ no 6
