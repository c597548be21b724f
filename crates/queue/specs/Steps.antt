-- What poll, next wake, length and clear make of a view, in document 01's words. What stands between quotation marks is its text.
use Rattle.std.specs.Prelude.{◌≡◌, List, [], ◌∷◌, ℕ, suc, ◌+◌, ◌<◌}
use Rattle.std.proofs.Math.Option.{Option, none, some}
use Rattle.links.specs.Lists.{nobody, change}
use Rattle.places.specs.Places.{expired, free}
use Rattle.wheel.specs.Wheel.{Lists, NextList, NoneWaits, Polls}
use Rattle.wheel.specs.Sums.{total}
use Rattle.wheel.specs.Limited.{Outcome, ended as stopped, yet, Limited}
use Rattle.wheel.specs.Moves.{gotten}
use Rattle.records.specs.View.{View, with_elapsed, with_lists, with_hand}
use Rattle.records.specs.Records.{key_of, At, NoMore, left, placed, freed}
use Rattle.queue.specs.Told.{Told, out, last, wake, never}
use Rattle.queue.specs.Told as T

-- "Poll pops the expired stack if it isn't empty: elapsed, moves and drains stay as they are, counted 0. Otherwise .." the wheel is polled: who is
-- taken out, if anybody, the moves, the drains, and the view with that record in no list
pub data TakesOut (v : View) (now : ℕ) : Option ℕ → ℕ → ℕ → View → Type 0 where
  popped : {r : ℕ} {l : List ℕ} → v.lists expired ≡ r ∷ l → TakesOut v now (some r) 0 0 (with_lists (change v.lists expired l) v)
  polled : {got : Option ℕ} {m n e : ℕ} {L : Lists} → v.lists expired ≡ [] → Polls v.deadline now v.elapsed v.lists got m n e L
      → TakesOut v now got m n (with_elapsed e (with_lists L v))

-- what becomes of the record r of v that is handed out, u being the view with it in no list
pub data GoesOn (v : View) (r m n : ℕ) (u : View) : Told → View → Type 0 where
  -- a period of 0: it is freed
  once : v.period r ≡ 0 → GoesOn v r m n u (out (key_of v r) (v.value r) (v.deadline r) m n) (freed r u)
  -- 02 [7]: "When a repeating timer is handed out at w, the same poll places it at w plus period under the same key."
  again : 0 < v.period r → (NoMore u.elapsed (v.deadline r + v.period r) → ⊥)
      → GoesOn v r m n u (out (key_of v r) (v.value r) (v.deadline r) m n) (placed r (v.deadline r + v.period r) u)
  -- "If refusals 4 or 5 would meet that deadline at the elapsed time after the hand-out, or it passes 2^64-1, the record is freed and the answer says it
  -- was the last time." 5 meets none any more (02 [12]): one for the next block is parked
  ended : 0 < v.period r → NoMore u.elapsed (v.deadline r + v.period r)
      → GoesOn v r m n u (last (key_of v r) (v.value r) (v.deadline r) m n) (freed r u)

-- a poll: who is taken out is handed out, or nobody is
pub data QueuePolls (v : View) (now : ℕ) : Told → View → Type 0 where
  handed : {r m n : ℕ} {u : View} {x : Told} {w : View} → TakesOut v now (some r) m n u → GoesOn v r m n u x w → QueuePolls v now x w
  nothing : {m n : ℕ} {u : View} → TakesOut v now none m n u → QueuePolls v now (T.none m n) u

-- ---- 02 [10]: a poll with a limit on moves

-- "The store remembers the drain in hand and its now", until the poll ends
abbrev pub remembers : ℕ → Outcome → View → View
remembers now (stopped got) v = with_hand nobody 0 v
remembers now (yet p) v = with_hand p now v

-- as `TakesOut`, with so many moves at most, and from the drain in hand on if there is one: how far it came, its moves and drains, and the view after it
pub data TakesSome (v : View) (now limit : ℕ) : Outcome → ℕ → ℕ → View → Type 0 where
  popped_some : {r : ℕ} {l : List ℕ} → v.lists expired ≡ r ∷ l
      → TakesSome v now limit (stopped (some r)) 0 0 (with_lists (change v.lists expired l) v)
  polled_some : {o : Outcome} {m n e : ℕ} {L : Lists} → v.lists expired ≡ []
      → Limited v.deadline now (gotten v.hand) limit v.elapsed v.lists o m n e L
      → TakesSome v now limit o m n (remembers now o (with_elapsed e (with_lists L v)))

-- a poll with a limit: who is taken out is handed out, or nobody is, or it answers "not yet"
pub data PollsSome (v : View) (now limit : ℕ) : Told → View → Type 0 where
  handed_some : {r m n : ℕ} {u : View} {x : Told} {w : View} → TakesSome v now limit (stopped (some r)) m n u → GoesOn v r m n u x w
      → PollsSome v now limit x w
  nothing_some : {m n : ℕ} {u : View} → TakesSome v now limit (stopped none) m n u → PollsSome v now limit (T.none m n) u
  not_yet : {p m n : ℕ} {u : View} → TakesSome v now limit (yet p) m n u → PollsSome v now limit (T.yet m n) u

-- a whole poll that goes on with the poll in hand: what a limit that lets it end answers
pub data PollsRest (v : View) (now : ℕ) : Told → View → Type 0 where
  handed_rest : {limit r m n : ℕ} {u : View} {x : Told} {w : View} → TakesSome v now limit (stopped (some r)) m n u → GoesOn v r m n u x w
      → PollsRest v now x w
  nothing_rest : {limit m n : ℕ} {u : View} → TakesSome v now limit (stopped none) m n u → PollsRest v now (T.none m n) u

-- "Next wake is `poll_at`: nothing for an empty wheel, else the start of the first slot as above." 02 [12]: "A wake with only parked timers is the block
-- start."
pub data Wakes (v : View) : Told → Type 0 where
  sleeps : NoneWaits v.lists → Wakes v never
  starts : {k p c : ℕ} → NextList v.elapsed v.lists k p c → Wakes v (wake c)

-- 02 [1]: "From now on next wake is elapsed whenever the expired stack holds anything, and the wheel's answer otherwise. This mends 01's line on next
-- wake." The wheel's answer is `Wakes`
pub data NextWake (v : View) : Told → Type 0 where
  at_once : {r : ℕ} {l : List ℕ} → v.lists expired ≡ r ∷ l → NextWake v (wake v.elapsed)
  from_wheel : {x : Told} → v.lists expired ≡ [] → Wakes v x → NextWake v x

-- how many timers are pending
unfoldable pub pending : View → ℕ
pending v = total (λ p x. 1) free v.lists

-- "Clear frees pending records in rising number, so the highest goes first": the first k records
pub data Clears (v : View) : ℕ → View → Type 0 where
  begun : Clears v 0 v
  kept : {k : ℕ} {u : View} → Clears v k u → ((p : ℕ) → At u k p → ⊥) → Clears v (suc k) u
  gave : {k p : ℕ} {u : View} → Clears v k u → At u k p → Clears v (suc k) (freed k (left p k u))
