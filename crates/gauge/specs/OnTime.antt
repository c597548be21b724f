-- Words of the promise on the light of an arm that sleeps from wake to wake (02 [14]).
use Rattle.std.specs.Prelude.{◌≡◌, ℕ}
use Rattle.queue.specs.Told.{told, Hands}
use Rattle.records.specs.Words.{QueueWords}
use Rattle.promises.specs.Polls.{PollAt}
use Rattle.promises.specs.Runs.{Asked}
use Rattle.gauge.specs.Gauge.{nought, lateness}

-- whatever timer a poll of s hands out has the lateness 0
abbrev pub NotLate : QueueWords → Asked → QueueWords → Type 0
NotLate s x t = (now k v d m n : ℕ) → PollAt x.call now → Hands (told x.answer) k v d m n → lateness now d ≡ nought
