-- The calls of a journal are a run as the promises speak of it, so each promise over runs speaks of the calls that replay keeps and of those after them.
use mathlib.Core.List.{List}
use mathlib.Core.Bool.{Bool}
use Prim.Native.Nat.{ℕ, ◌≤◌}
use Rattle.queue.specs.declared.Answer.{Answer}
use Rattle.records.specs.Words.{QueueWords, Sound}
use Rattle.promises.specs.Runs.{Asked, Runs, rest, next, NoFormat}
use Rattle.promises.specs.Outs.{keys}
use Rattle.promises.proofs.laws.Outs.{keys_once}
use Rattle.entries.specs.declared.Step.{Step}
use Rattle.journal.specs.Journal.{Acts, Noted, Journals}
use Rattle.journal.specs.Journal as J
use Rattle.recover.specs.Cut.{call_of, calls_in}

with_step : {p q : Bool} {s t u : QueueWords} {x : Step} {a : Answer} {m : List Asked} → Acts p s x a q t → Runs t m u → Runs s (call_of x a m) u
with_step (J.asks A) R = next A R
with_step (J.opened f) R = R
with_step (J.open_twice f) R = R
with_step (J.closed f) R = R
with_step (J.not_open f) R = R

-- opens and closes leave the store
pub journals_run : {p q : Bool} {s t : QueueWords} {l : List Noted} {K : List ℕ} → Journals p s l K q t → Runs s (calls_in l) t
journals_run J.rest = rest
journals_run (J.next f A R) = with_step A (journals_run R)

-- "Never twice" of the calls of a journal
pub journal_keys_once : {p q : Bool} {s t : QueueWords} {l : List Noted} {K : List ℕ} (k : ℕ) → Sound s → Journals p s l K q t → NoFormat (calls_in l)
    → keys k (calls_in l) ≤ 1
journal_keys_once k S R f = keys_once k S (journals_run R) f
