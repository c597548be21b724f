-- Which store a poll in hand comes from: the words of the promise on soundness of 02 [10].
use Rattle.std.specs.Prelude.{◌≡◌, [], ℕ, ◌≤◌}
use Rattle.places.specs.Places.{expired}
use Rattle.queue.specs.declared.Answer.{Answer}
use Rattle.queue.specs.Told.{told}
use Rattle.records.specs.Words.{QueueWords, elapsed, view, AtRest, Sound}
use Rattle.delay_queue.specs.Claims.{PollSomeClaim}
use Rattle.pausing.specs.Pausing.{SaysYet}

-- "the states that the rules of the poll in hand pass through": s is what a limited poll of a sound store at rest leaves, with nothing expired
-- there and elapsed at most its now, when it answers "not yet"
pub record ComesFrom (s : QueueWords) : Type 0 where
  pub from : QueueWords
  pub sound : Sound from
  pub at_rest : AtRest from
  pub expired : (view from).lists expired ≡ []
  pub due : elapsed from ≤ s.until
  pub limit : ℕ
  pub answer : Answer
  pub not_yet : SaysYet (told answer)
  pub polls : PollSomeClaim from s.until limit answer s
