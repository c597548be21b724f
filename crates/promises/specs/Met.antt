-- That a claim can be met.
use Rattle.queue.specs.declared.Answer.{Answer}
use Rattle.records.specs.Words.{QueueWords}

-- some answer and some final content satisfy P
abbrev pub Met : (Answer → QueueWords → Type 0) → Type 0
Met P = (a : Answer) × (t : QueueWords) × P a t
