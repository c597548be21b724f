-- Request 14 of document 02: "Show that sleeping to the next wake loses nothing." What stands between quotation marks is its text.
use Rattle.std.specs.Prelude.{◌≡◌, ◌↔◌, List, [], ◌∷◌, ℕ, ◌+◌, ◌≤◌, length}
use Rattle.wheel.specs.Drain.{heights}
use Rattle.queue.specs.declared.Answer.{Answer}
use Rattle.queue.specs.Told.{told, Hands}
use Rattle.queue.specs.Told as T
use Rattle.queue.specs.Steps.{pending}
use Rattle.records.specs.Records.{Names}
use Rattle.records.specs.Words.{QueueWords, view, elapsed}
use Rattle.delay_queue.specs.declared.Call.{Call}
use Rattle.delay_queue.specs.declared.Call.TheVariants as C
use Rattle.delay_queue.specs.Claims.{CallClaim}
use Rattle.promises.specs.Polls.{PollAt}
use Rattle.promises.specs.Runs.{Asked, Runs, Each, All}
use Rattle.promises.specs.Looking.{NonePending, Before, Idle}

-- ---- asleep

-- "any poll from elapsed up to but excluding the wake (without end if there is no wake) hands out nothing, makes no moves and changes only
-- elapsed": next wake answers a, and the poll, whole or with a limit, 0 too, answers b; `Idle` is word for word
abbrev pub Asleep : QueueWords → Type 0
Asleep s =
    (c : Call) (now : ℕ) (a b : Answer) (t : QueueWords) → PollAt c now → CallClaim C.Wake s a s → CallClaim c s b t → elapsed s ≤ now
    → Before now (told a) → Idle s now b t

-- "sleeping to the next wake loses nothing": after such a poll next wake answers the same
abbrev pub WakeStays : QueueWords → Type 0
WakeStays s =
    (c : Call) (now : ℕ) (a b a' : Answer) (t : QueueWords) → PollAt c now → CallClaim C.Wake s a s → CallClaim c s b t → elapsed s ≤ now
    → Before now (told a) → CallClaim C.Wake t a' t → told a' ≡ told a

-- ---- polls at each wake

-- "the only calls are whole polls at each wake answered": the call x is a poll, and its now is what next wake answers of the store that it
-- finds
pub record AtWake (s : QueueWords) (x : Asked) (t : QueueWords) : Type 0 where
  pub answer : Answer
  pub wake : ℕ
  pub asked : CallClaim C.Wake s answer s
  pub answered : told answer ≡ T.wake wake
  pub polled : x.call ≡ C.Poll wake

-- such calls lead from s to u
pub record Woken (s : QueueWords) (l : List Asked) (u : QueueWords) : Type 0 where
  pub runs : Runs s l u
  pub wakes : Each AtWake runs

-- "the heights' sum plus the number of timers at the start"
abbrev pub heights_and_timers : QueueWords → ℕ
heights_and_timers s = heights (view s).lists + pending (view s)

-- what next wake answers of u: never exactly if nothing is pending, and else a time
pub record WakesOn (u : QueueWords) (a : Answer) : Type 0 where
  pub never : (told a ≡ T.never) ↔ NonePending (view u)
  pub time : (NonePending (view u) → ⊥) → (w : ℕ) × (told a ≡ T.wake w)

-- such calls, until nothing is pending
pub record Ends (s : QueueWords) : Type 0 where
  pub calls : List Asked
  pub left : QueueWords
  pub woken : Woken s calls left
  pub none : NonePending (view left)

-- "nothing is pending after at most as many": such calls are never more, and go on as long as something is pending, which is as long as
-- there is a wake; so after as many nothing is pending, and there are calls after which nothing is
pub record WakesAll (s : QueueWords) : Type 0 where
  pub few : (l : List Asked) (u : QueueWords) → Woken s l u → length l ≤ heights_and_timers s
  pub goes_on : (l : List Asked) (u : QueueWords) (a : Answer) → Woken s l u → CallClaim C.Wake u a u → WakesOn u a
  pub all : (l : List Asked) (u : QueueWords) → Woken s l u → heights_and_timers s ≤ length l → NonePending (view u)
  pub ends : Ends s

-- ---- on time

-- the timer of the key k, which a poll at now hands out of s with the deadline d, is stored with this deadline, and it is now
pub record Punctual (s : QueueWords) (now k d : ℕ) : Type 0 where
  pub timer : ℕ
  pub place : ℕ
  pub names : Names (view s) k timer place
  pub stored : d ≡ (view s).deadline timer
  pub at_now : d ≡ now

-- whatever timer a poll hands out is
abbrev pub OnTime : QueueWords → Asked → QueueWords → Type 0
OnTime s x t = (now k v d m n : ℕ) → PollAt x.call now → Hands (told x.answer) k v d m n → Punctual s now k d

-- x hands out no deadline before d
abbrev pub NotBefore : ℕ → Asked → Type 0
NotBefore d x = (k v d' m n : ℕ) → Hands (told x.answer) k v d' m n → d ≤ d'

-- the deadlines that come out never fall
abbrev pub NeverFall : List Asked → Type 0
NeverFall [] = Unit {0}
NeverFall (x ∷ l) = ((k v d m n : ℕ) → Hands (told x.answer) k v d m n → All (NotBefore d) l) × NeverFall l

-- x is no poll before now
abbrev pub NotEarlier : ℕ → Asked → Type 0
NotEarlier now x = (now' : ℕ) → PollAt x.call now' → now ≤ now'

-- no poll is at a time before that of another before it
abbrev pub NeverBack : List Asked → Type 0
NeverBack [] = Unit {0}
NeverBack (x ∷ l) = ((now : ℕ) → PollAt x.call now → All (NotEarlier now) l) × NeverBack l

-- in whole polls at each wake answered, repeating timers or not
pub record Punctually {s u : QueueWords} {l : List Asked} (R : Runs s l u) : Type 0 where
  pub each : Each OnTime R
  pub order : NeverFall l
  pub wakes : NeverBack l
