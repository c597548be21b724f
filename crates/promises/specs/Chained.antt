-- 02 [10]: polls at one now, one after another, until one ends.
use Rattle.std.specs.Prelude.{◌≡◌, ◌≢◌, List, [], ◌∷◌, ℕ}
use Rattle.links.specs.Lists.{nobody}
use Rattle.records.specs.Words.{QueueWords, holding}
use Rattle.queue.specs.Told.{Told, told}
use Rattle.queue.specs.Told as T
use Rattle.delay_queue.specs.declared.Call.TheVariants as C
use Rattle.pausing.specs.Pausing.{added, SaysYet}
use Rattle.promises.specs.Polls.{PollAt}
use Rattle.promises.specs.Runs.{Asked, Runs, All, moves_of}

-- "Chained calls": each is a poll at now, whole or with a limit of its own, and all but the last answer "not yet". The last answer, with the
-- "summed counts"
pub data Chain (now : ℕ) : List Asked → Told → Type 0 where
  last : {x : Asked} → PollAt x.call now → (SaysYet (told x.answer) → ⊥) → Chain now (x ∷ []) (told x.answer)
  more : {x : Asked} {l : List Asked} {m n : ℕ} {y : Told} → PollAt x.call now → told x.answer ≡ T.yet m n → Chain now l y
      → Chain now (x ∷ l) (added m n y)

-- t is s with a poll at now put in hand, and all else as it was
pub record OnlyHeld (s : QueueWords) (now : ℕ) (t : QueueWords) : Type 0 where
  pub place : ℕ
  pub some : place ≢ nobody
  pub is : t ≡ holding place now s

-- "with limit 0 it only answers if no move is needed": x and t are its answer and store, y and u those of the whole poll of s at now
pub record WithNoMove (s : QueueWords) (now : ℕ) (x : Told) (t : QueueWords) (y : Told) (u : QueueWords) : Type 0 where
  pub idle : moves_of y ≡ 0 → (x ≡ y) × (t ≡ u)
  pub due : moves_of y ≢ 0 → (x ≡ T.yet 0 0) × OnlyHeld s now t

-- "For a limit b": each call has it
abbrev pub Limits : ℕ → ℕ → List Asked → Type 0
Limits now b l = All (λ x. x.call ≡ C.PollSome now b) l

-- calls with the limit b, until one ends
pub record ChainMet (s : QueueWords) (now b : ℕ) : Type 0 where
  pub calls : List Asked
  pub answer : Told
  pub after : QueueWords
  pub runs : Runs s calls after
  pub chain : Chain now calls answer
  pub limits : Limits now b calls
