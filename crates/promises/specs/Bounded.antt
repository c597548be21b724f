-- Demand 3 in its own sentences: "The work is bounded."
use Rattle.std.specs.Prelude.{◌≡◌, true, cond, List, [], ◌∷◌, ◌++◌, ℕ, ◌+◌, ◌*◌, ◌≤◌, ltb}
use Rattle.places.specs.Places.{expired, level_at}
use Rattle.wheel.specs.Drain.{heights}
use Rattle.queue.specs.declared.Answer.{Answer}
use Rattle.queue.specs.Told.{Told, told, Hands}
use Rattle.queue.specs.Told as T
use Rattle.records.specs.View.{View}
use Rattle.records.specs.Records.{At, Names, number_in}
use Rattle.queue.specs.Steps.{pending}
use Rattle.records.specs.Words.{QueueWords, view}
use Rattle.delay_queue.specs.declared.Call.TheVariants as C
use Rattle.delay_queue.specs.Claims.{CallClaim}
use Rattle.promises.specs.Runs.{Asked, Runs, accepted, is_placing, is_poll, All, tally, tally_ended, moves_of, moves, resettings, Each}
use Rattle.promises.specs.Polls.{PollAt}
use Rattle.promises.specs.Polling.{Dead, Finished}
use Rattle.promises.specs.Waiting.{NoneRepeats, Undisturbed}

-- ---- moves

-- "a fresh store": what an accepted format leaves, whatever it was lent
pub record Fresh (t : QueueWords) : Type 0 where
  pub lent : QueueWords
  pub n : ℕ
  pub turn : ℕ
  pub answer : Answer
  pub formats : CallClaim (C.Format n turn) lent answer t
  pub done : told answer ≡ T.ok

-- "A timer's height is its level, 0 on the expired stack": that of a timer in the place p. The parking list has "height 6" (02 [12])
abbrev pub height_at : ℕ → ℕ
height_at p = cond (ltb p expired) (level_at p) 0

-- 02 [7]: "that poll's moves are counted before re-placing": the timer y is handed out and set again by a poll that answers x
abbrev pub IsSetAgain : View → Told → ℕ → Type 0
IsSetAgain v x y = (k w d m n : ℕ) × Hands x k w d m n × (y ≡ number_in k) × (Finished v y x → ⊥)

-- "the pending timers lost in levels": by the moves of x the heights are less, where a timer that is handed out lies in no slot and counts 0 after, before
-- it is set again, when its height is added; and no other rises, so that no loss is made up for
pub record LosesLevels (v : View) (x : Told) (u : View) : Type 0 where
  pub added : ℕ
  pub lost : moves_of x + heights u.lists ≡ heights v.lists + added
  pub nothing_added : ((y : ℕ) → IsSetAgain v x y → ⊥) → added ≡ 0
  pub height_added : (y q : ℕ) → IsSetAgain v x y → At u y q → added ≡ height_at q
  pub none_rises : (y p q : ℕ) → (IsSetAgain v x y → ⊥) → At v y p → At u y q → height_at q ≤ height_at p

-- "each poll reports as many moves as the pending timers lost in levels during it": one that is refused reports none
abbrev pub ReportsLost : QueueWords → Asked → QueueWords → Type 0
ReportsLost s x t = (now : ℕ) → PollAt x.call now → LosesLevels (view s) (told x.answer) (view t)

-- "each poll reports as many moves as the pending timers lost in levels during it, so all moves come to at most five for each accepted insert or reset",
-- and "a re-placing counts as an insert" (02 [7]). 02 [12]: "Demand 3's five becomes six."
pub record MovesBounded {s u : QueueWords} {l : List Asked} (R : Runs s l u) : Type 0 where
  pub each : Each ReportsLost R
  pub all : moves l ≤ 6 * (tally is_placing l + resettings R)

-- ---- waiting

-- "every poll's now at or past its deadline": asked of the accepted polls alone
abbrev pub AtOrPast : ℕ → Asked → Type 0
AtOrPast deadline x = (now : ℕ) → PollAt x.call now → accepted x ≡ true → deadline ≤ now

-- "A timer that is due, with no insert, reset, clear or format after that and every poll's now at or past its deadline": the timer r is pending in s under the
-- key k, and the calls l are made on s. Refused calls change nothing, so none is excluded. 02 [7]: "claimed for stores with no repeating timers"
pub record DueAfter (s : QueueWords) (k r p : ℕ) (l : List Asked) (u : QueueWords) : Type 0 where
  pub names : Names (view s) k r p
  pub once : NoneRepeats (view s)
  pub runs : Runs s l u
  pub undisturbed : All Undisturbed l
  pub past : All (AtOrPast ((view s).deadline r)) l

-- "is out or removed": a poll hands out the key with the timer's value v and deadline d, or a remove of the key answers them
pub data OutOrRemoved (k v d : ℕ) (x : Asked) : Type 0 where
  out : {now m n : ℕ} → PollAt x.call now → Hands (told x.answer) k v d m n → OutOrRemoved k v d x
  removed : x.call ≡ C.Remove k → told x.answer ≡ T.gone v d → OutOrRemoved k v d x

-- "within .. accepted polls": a call of the run is such a one, and up to it, itself included, the run has at most n polls that ended (02 [10])
pub record Within (n : ℕ) (P : Asked → Type 0) (l : List Asked) : Type 0 where
  pub front : List Asked
  pub call : Asked
  pub behind : List Asked
  pub split : l ≡ front ++ call ∷ behind
  pub such : P call
  pub few : tally_ended is_poll (front ++ call ∷ []) ≤ n

-- it is so within n ended polls, and pending no more at the end
pub record LeavesWithin (n k v d : ℕ) (l : List Asked) (u : QueueWords) : Type 0 where
  pub within : Within n (OutOrRemoved k v d) l
  pub dead : Dead (view u) k

-- "A timer that is due, .., is out or removed within as many accepted polls as timers were pending": if there are as many
abbrev pub WaitsBounded : QueueWords → Type 0
WaitsBounded s =
    (k r p : ℕ) (l : List Asked) (u : QueueWords) → DueAfter s k r p l u → pending (view s) ≤ tally_ended is_poll l
    → LeavesWithin (pending (view s)) k ((view s).value r) ((view s).deadline r) l u

-- ---- the demand

-- "The work is bounded. From a fresh store and any calls on it, .." the moves, and what waits in a store that the calls lead to
pub record WorkBounded (t : QueueWords) : Type 0 where
  pub moves : (l : List Asked) (s : QueueWords) (R : Runs t l s) → MovesBounded R
  pub waits : (l : List Asked) (s : QueueWords) → Runs t l s → WaitsBounded s
