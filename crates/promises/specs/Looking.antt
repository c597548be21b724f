-- Words of the promises on next wake and length, in deadlines and in timers.
use Rattle.std.specs.Prelude.{◌≡◌, Bool, [], ℕ, ◌≤◌, ◌<◌, ltb}
use Rattle.times.specs.Times.{floor}
use Rattle.links.specs.Lists.{Mem}
use Rattle.places.specs.Places.{expired, free, level_at}
use Rattle.wheel.specs.Words.{wheel_words}
use Rattle.records.specs.View.{View}
use Rattle.records.specs.Words.{QueueWords, queue_words, mark_of}
use Rattle.queue.specs.declared.Answer.{Answer}
use Rattle.queue.specs.Told.{Told, told}
use Rattle.queue.specs.Told as T
use Rattle.promises.specs.Polling.{IsPending}

-- ---- the wheel's answer

-- x lies in the list p of height p / 64: on the wheel, in a slot, or on the parking list (02 [12])
pub record InList (v : View) (x p : ℕ) : Type 0 where
  pub below : p < expired
  pub member : Mem x (v.lists p)

-- what is promised of a wake at w: it is not past; no deadline on the wheel or parked is before it; it is the deadline of such a timer,
-- rounded down to the width of its height, and of every timer whose deadline is least. At level 0 nothing is rounded; at height 6 the width
-- is a block's.
pub record WakesAt (v : View) (w : ℕ) : Type 0 where
  pub not_past : v.elapsed ≤ w
  pub in_time : (x p : ℕ) → InList v x p → w ≤ v.deadline x
  pub item : ℕ
  pub place : ℕ
  pub waits : InList v item place
  pub rounded : w ≡ floor (level_at place) (v.deadline item)
  pub exact : place < 64 → w ≡ v.deadline item
  pub least : (x p : ℕ) → InList v x p → ((y q : ℕ) → InList v y q → v.deadline x ≤ v.deadline y) → w ≡ floor (level_at p) (v.deadline x)

-- ---- next wake

abbrev pub NonePending : View → Type 0
NonePending v = (r : ℕ) → IsPending v r → ⊥

-- what is promised of a next wake at w: it is not past, and no pending deadline is before it; where a timer has expired it is elapsed, and that timer's
-- deadline; where none has, it is what is promised of the wheel's
pub record NextAt (v : View) (w : ℕ) : Type 0 where
  pub not_past : v.elapsed ≤ w
  pub in_time : (r : ℕ) → IsPending v r → w ≤ v.deadline r
  pub due : (r : ℕ) → Mem r (v.lists expired) → (w ≡ v.elapsed) × (w ≡ v.deadline r)
  pub ahead : v.lists expired ≡ [] → WakesAt v w

-- ---- a poll before it

-- 02 [14]: "up to but excluding the wake (without end if there is no wake)"
abbrev pub Before : ℕ → Told → Type 0
Before now x = (w : ℕ) → x ≡ T.wake w → now < w

-- the words of s at another elapsed
abbrev pub at_time : ℕ → QueueWords → QueueWords
at_time e s = queue_words (wheel_words e s.wheel.occupied s.wheel.places) s.values s.deadlines s.turns s.hand s.until

-- 02 [14]: "hands out nothing, makes no moves and changes only elapsed"
pub record Idle (s : QueueWords) (now : ℕ) (a : Answer) (t : QueueWords) : Type 0 where
  pub told : told a ≡ T.none 0 0
  pub only : t ≡ at_time now s

-- ---- length

-- the mark of a pending record is a list of timers
abbrev pub is_pending : QueueWords → ℕ → Bool
is_pending s i = ltb (mark_of s i) free
