-- What calls answer before a store is made.
use Rattle.std.specs.Prelude.{◌≡◌, false}
use Rattle.queue.specs.Told.{told}
use Rattle.queue.specs.Told as T
use Rattle.records.specs.Words.{QueueWords}
use Rattle.promises.specs.Runs.{Asked, is_format}

-- "Before an accepted f all others answer `no 2`"; and every word stays, by a refused format too
abbrev pub Answers2 : QueueWords → Asked → QueueWords → Type 0
Answers2 s x t = (is_format x.call ≡ false → told x.answer ≡ T.no 2) × (t ≡ s)
