-- Words of the promises on one poll: what it hands out, what stays, the clock and the drains.
use Rattle.std.specs.Prelude.{◌≡◌, ◌⊎◌, ◌↔◌, ◌≢◌, ℕ, ◌+◌, ◌*◌, ◌/◌, ◌≤◌, ◌<◌, max}
use Rattle.places.specs.Places.{free}
use Rattle.queue.specs.Told.{Told, Hands}
use Rattle.queue.specs.Told as T
use Rattle.records.specs.View.{View}
use Rattle.records.specs.Records.{At, Names}
use Rattle.queue.specs.Steps.{pending}

-- ---- what is said

-- r waits in a slot, on the parking list or on the expired stack
abbrev pub IsPending : View → ℕ → Type 0
IsPending v r = (p : ℕ) × At v r p

-- y has in u the value, the period, the deadline and the turn that it has in v, and so the key
pub record SameRecord (v u : View) (y : ℕ) : Type 0 where
  pub value : u.value y ≡ v.value y
  pub period : u.period y ≡ v.period y
  pub deadline : u.deadline y ≡ v.deadline y
  pub turn : u.turn y ≡ v.turn y

-- a pending deadline is at most now
abbrev pub Due : View → ℕ → Type 0
Due v now = (r : ℕ) × IsPending v r × (v.deadline r ≤ now)

-- "`out key value deadline moves drains`", "`none moves drains`"
abbrev pub SaysOut : Told → Type 0
SaysOut x = (k w d m n : ℕ) × (Hands x k w d m n)

abbrev pub SaysNone : Told → Type 0
SaysNone x = (m n : ℕ) × (x ≡ T.none m n)

-- the key names nobody: refusal 6 is given
abbrev pub Dead : View → ℕ → Type 0
Dead v k = (r p : ℕ) → Names v k r p → ⊥

-- 02 [7]: "the answer says it was the last time"
abbrev pub SaysLast : Told → Type 0
SaysLast x = (k w d m n : ℕ) × (x ≡ T.last k w d m n)

-- the timer of the record r is done with: it does not repeat, or this was the last time
abbrev pub Finished : View → ℕ → Told → Type 0
Finished v r x = (v.period r ≡ 0) ⊎ SaysLast x

-- then it is pending no more, its key is dead, and one fewer is pending
pub record Gone (v : View) (k timer : ℕ) (u : View) : Type 0 where
  pub gone : IsPending u timer → ⊥
  pub dead : Dead u k
  pub fewer : pending u + 1 ≡ pending v

-- "the same poll places it at w plus period under the same key": it is pending again, with its value and period, and as many are as before
pub record SetAgain (v : View) (k timer : ℕ) (u : View) : Type 0 where
  pub place : ℕ
  pub names : Names u k timer place
  pub deadline : u.deadline timer ≡ v.deadline timer + v.period timer
  pub value : u.value timer ≡ v.value timer
  pub period : u.period timer ≡ v.period timer
  pub same : pending u ≡ pending v

-- the key k, the value w and the deadline d are those of a timer that was pending, is due and is a least one; it is pending no more, or again; the others
-- stay, and nothing else is pending
pub record HandsLeast (v : View) (now k w d : ℕ) (x : Told) (u : View) : Type 0 where
  pub timer : ℕ
  pub place : ℕ
  pub names : Names v k timer place
  pub value : w ≡ v.value timer
  pub deadline : d ≡ v.deadline timer
  pub due : d ≤ now
  pub least : (y : ℕ) → IsPending v y → d ≤ v.deadline y
  pub gone : Finished v timer x → Gone v k timer u
  pub again : (Finished v timer x → ⊥) → SetAgain v k timer u
  pub others : (y : ℕ) → IsPending v y → y ≢ timer → IsPending u y × SameRecord v u y
  pub only : (y : ℕ) → IsPending u y → IsPending v y

-- all that was pending is pending, and nothing else
pub record AllStay (v u : View) : Type 0 where
  pub stay : (y : ℕ) → IsPending v y → IsPending u y × SameRecord v u y
  pub only : (y : ℕ) → IsPending u y → IsPending v y
  pub same : pending u ≡ pending v

-- ---- a record is freed: below the free list nothing changes, and of the words only its turn

pub record Beside (r : ℕ) (v u : View) : Type 0 where
  pub size : u.n ≡ v.n
  pub elapsed : u.elapsed ≡ v.elapsed
  pub value : u.value ≡ v.value
  pub period : u.period ≡ v.period
  pub deadline : u.deadline ≡ v.deadline
  pub turn : (y : ℕ) → y ≢ r → u.turn y ≡ v.turn y
  pub lists : (p : ℕ) → p < free → u.lists p ≡ v.lists p

-- ---- the promises of one poll

-- "hands out a timer exactly when a pending deadline is at most now, always one of the least; the rest stay"
pub record PollLeast (v : View) (now : ℕ) (x : Told) (u : View) : Type 0 where
  pub hands_out : SaysOut x ↔ Due v now
  pub otherwise : (Due v now → ⊥) → SaysNone x
  pub out : (k w d m n : ℕ) → Hands x k w d m n → HandsLeast v now k w d x u
  pub rest : (m n : ℕ) → x ≡ T.none m n → AllStay v u

-- "So after a poll that hands out w, elapsed is the larger of e and 64 x floor(w/64)"; "nothing handed out, elapsed becomes now"
pub record PollClock (v : View) (now : ℕ) (x : Told) (u : View) : Type 0 where
  pub out : (k w d m n : ℕ) → Hands x k w d m n → u.elapsed ≡ max v.elapsed (64 * (d / 64))
  pub rest : (m n : ℕ) → x ≡ T.none m n → u.elapsed ≡ now

-- the drains that an answer reports
abbrev pub drains_of : Told → ℕ
drains_of T.ok = 0
drains_of (T.key k) = 0
drains_of (T.gone v d) = 0
drains_of (T.out k v d m n) = n
drains_of (T.last k v d m n) = n
drains_of (T.none m n) = n
drains_of (T.yet m n) = n
drains_of (T.wake t) = 0
drains_of T.never = 0
drains_of (T.len n) = 0
drains_of (T.no n) = 0
