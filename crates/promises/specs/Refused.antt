-- The table of refusals as document 01 has it: a line for each number, in its order.
use Rattle.std.specs.Prelude.{◌≡◌, ◌≢◌, ◌⊎◌, false, List, [], ◌∷◌, ℕ, ◌≤◌, ◌<◌}
use Rattle.places.specs.Places.{free}
use Rattle.queue.specs.declared.Answer.{Answer}
use Rattle.queue.specs.Told.{told}
use Rattle.records.specs.View.{View}
use Rattle.records.specs.Records.{At, TooOld, TooFar, number_in, turn_in}
use Rattle.records.specs.Words.{QueueWords, count, elapsed, view, MidPoll, Sound, slices, PastKept}
use Rattle.queue.specs.Calls.{Refused}
use Rattle.delay_queue.specs.declared.Call.{Call}
use Rattle.delay_queue.specs.declared.Call.TheVariants as C
use Rattle.promises.specs.OneCall.{is_no}
use Rattle.records.specs.Slices.{Fits}
use Rattle.records.specs.Format.{InRange}

-- ---- the table

-- 6: "remove, reset: record number N or above, record not pending, or turn differs"
pub data NoSuchKey (v : View) (key : ℕ) : Type 0 where
  beyond : v.n ≤ number_in key → NoSuchKey v key
  absent : ((p : ℕ) → At v (number_in key) p → ⊥) → NoSuchKey v key
  stale : v.turn (number_in key) ≢ turn_in key → NoSuchKey v key

-- lines of the table in the order in which they are judged: a number, and what it is given for
pub data Lines : Type 1 where
  end : Lines
  line : ℕ → Type 0 → Lines → Lines

-- the lines of the deadline w, at elapsed e. 11: "more than 3,600,000 below elapsed", "judged after 3 or 6 and before 4" (02 [8]); 4: "deadline less elapsed is
-- over 68,719,476,735"; 02 [12]: "Refusal 5 is then never given; 4 stays"
abbrev pub deadline_lines : ℕ → ℕ → Lines
deadline_lines e w = line 11 (TooOld e w) (line 4 (TooFar e w) end)

-- 12: "polls with another now"; 7: "now is below elapsed"
abbrev pub poll_lines : QueueWords → ℕ → Lines
poll_lines s now = line 2 (Sound s → ⊥) (line 12 (MidPoll s × (now ≢ s.until)) (line 7 (now < elapsed s) end))

-- "Order: format 1, 8; insert 2, 3, 4, 5; reset 2, 6, 4, 5; remove 2, 6; poll 2, 7; next wake, length and clear only 2." 02 [10]: "insert,
-- remove, reset, next wake and polls with another now are refused with 12, judged after 2"
-- 1: "N is 0 or over" 65,535 (02 [5]: "Refusal 1 moves to the new limit"), "or a lent slice is too short for N"; 8: "first turn 0 or 2^48 and above"
-- 2: "slices too short or store not sound"; 3: "no record is free and unretired"
abbrev pub lines_of : Call → QueueWords → Lines
lines_of (C.Format n turn) s = line 1 (Fits (slices s) n → ⊥) (line 8 (InRange turn → ⊥) end)
lines_of (C.Insert value when period) s =
    line 2 (Sound s → ⊥) (line 12 (MidPoll s) (line 3 ((view s).lists free ≡ []) (deadline_lines (elapsed s) when)))
lines_of (C.Reset key when) s =
    line 2 (Sound s → ⊥) (line 12 (MidPoll s) (line 6 (NoSuchKey (view s) key) (deadline_lines (elapsed s) when)))
lines_of (C.Remove key) s = line 2 (Sound s → ⊥) (line 12 (MidPoll s) (line 6 (NoSuchKey (view s) key) end))
lines_of (C.Poll now) s = poll_lines s now
lines_of (C.PollSome now limit) s = poll_lines s now
lines_of C.Wake s = line 2 (Sound s → ⊥) (line 12 (MidPoll s) end)
lines_of C.Length s = line 2 (Sound s → ⊥) end
lines_of C.Clear s = line 2 (Sound s → ⊥) end

-- k is the number of the first line that is met
abbrev pub FirstMet : Lines → ℕ → Type 0
FirstMet end k = ⊥
FirstMet (line j P l) k = ((k ≡ j) × P) ⊎ ((P → ⊥) × FirstMet l k)

-- the numbers of the lines
abbrev pub numbers : Lines → List ℕ
numbers end = []
numbers (line j P l) = j ∷ numbers l

-- the table refuses the call with number k
abbrev pub RefusedBy : Call → QueueWords → ℕ → Type 0
RefusedBy c s k = FirstMet (lines_of c s) k

-- ---- how the lines and the claims go together

-- the call is refused as the lines say, or meets none of them and is not refused. n records' words may have changed, and n are the records after it
pub data Settled (n : ℕ) (s : QueueWords) (a : Answer) (t : QueueWords) (l : Lines) : Type 0 where
  refused : {k : ℕ} → FirstMet l k → Refused k s a t → Settled n s a t l
  accepted : ((k : ℕ) → FirstMet l k → ⊥) → is_no (told a) ≡ false → count t ≡ n → PastKept n s t → Settled n s a t l

-- ---- the promises

-- the deadline that a call asks for; 0 where it asks for none
abbrev pub when_of : Call → ℕ
when_of (C.Format n turn) = 0
when_of (C.Insert value when period) = when
when_of (C.Reset key when) = when
when_of (C.Remove key) = 0
when_of (C.Poll now) = 0
when_of (C.PollSome now limit) = 0
when_of C.Wake = 0
when_of C.Length = 0
when_of C.Clear = 0
