-- Words of the promise on waiting: which polls count, and when a timer has come out or was removed.
use Rattle.std.specs.Prelude.{◌≡◌, ◌⊎◌, Bool, true, false, ◌&&◌, List, [], ◌∷◌, ℕ, ◌≤◌, leb}
use Rattle.queue.specs.Told.{told, Hands}
use Rattle.records.specs.View.{View}
use Rattle.records.specs.Records.{Names}
use Rattle.queue.specs.Steps.{pending}
use Rattle.records.specs.Words.{QueueWords, view, Sound}
use Rattle.delay_queue.specs.declared.Call.{Call}
use Rattle.delay_queue.specs.declared.Call.TheVariants as C
use Rattle.promises.specs.Runs.{Asked, Runs, accepted, All, tally_ended}
use Rattle.promises.specs.Polls.{PollAt}
use Rattle.promises.specs.Polling.{IsPending}

-- ---- what is said

-- "no insert, reset, clear or format"
abbrev pub disturbs : Call → Bool
disturbs (C.Format n turn) = true
disturbs (C.Insert value when period) = true
disturbs (C.Reset key when) = true
disturbs (C.Remove key) = false
disturbs (C.Poll now) = false
disturbs (C.PollSome now limit) = false
disturbs C.Wake = false
disturbs C.Length = false
disturbs C.Clear = true

-- none of those is accepted
abbrev pub Undisturbed : Asked → Type 0
Undisturbed x = (disturbs x.call && accepted x) ≡ false

-- a poll at which the deadline w is due
abbrev pub due_poll : ℕ → Call → Bool
due_poll w (C.Format n turn) = false
due_poll w (C.Insert value when period) = false
due_poll w (C.Reset key when) = false
due_poll w (C.Remove key) = false
due_poll w (C.Poll now) = leb w now
due_poll w (C.PollSome now limit) = leb w now
due_poll w C.Wake = false
due_poll w C.Length = false
due_poll w C.Clear = false

-- some call of the run is such a one
abbrev pub Some : (Asked → Type 0) → List Asked → Type 0
Some P [] = ⊥
Some P (x ∷ l) = P x ⊎ Some P l

-- a poll hands out the key k with the value v and the deadline d
abbrev pub ComesOut : ℕ → ℕ → ℕ → Asked → Type 0
ComesOut k v d x = (now m n : ℕ) × PollAt x.call now × (Hands (told x.answer) k v d m n)

-- no remove of the key k is accepted
abbrev pub NotRemoved : ℕ → Asked → Type 0
NotRemoved k x = x.call ≡ C.Remove k → accepted x ≡ false

-- 02 [7]: "stores with no repeating timers": nothing that is pending repeats
abbrev pub NoneRepeats : View → Type 0
NoneRepeats v = (y : ℕ) → IsPending v y → v.period y ≡ 0

-- the timer r, with the key k, is pending, and nothing repeats; the run is undisturbed, and has as many ended polls at which r is due as timers were
-- pending
pub record Waited (s : QueueWords) (l : List Asked) (u : QueueWords) (k r p : ℕ) : Type 0 where
  pub sound : Sound s
  pub names : Names (view s) k r p
  pub once : NoneRepeats (view s)
  pub runs : Runs s l u
  pub undisturbed : All Undisturbed l
  pub enough : pending (view s) ≤ tally_ended (due_poll ((view s).deadline r)) l
