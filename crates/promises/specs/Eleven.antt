-- Words of the promise on refusal 11, deadlines from a dead patch (02 [8]).
use Rattle.std.specs.Prelude.{◌≡◌, ◌≢◌, false, [], ℕ, ◌+◌, ◌<◌}
use Rattle.places.specs.Places.{free}
use Rattle.queue.specs.declared.Answer.{Answer}
use Rattle.queue.specs.Told.{told}
use Rattle.queue.specs.Told as T
use Rattle.records.specs.Words.{QueueWords, elapsed, view, AtRest, Sound}
use Rattle.delay_queue.specs.declared.Call.{Call}
use Rattle.delay_queue.specs.declared.Call.TheVariants as C
use Rattle.delay_queue.specs.Claims.{CallClaim}
use Rattle.promises.specs.OneCall.{is_no}
use Rattle.promises.specs.Refused.{NoSuchKey, when_of}

-- "An insert or reset", "judged after 3 or 6": there is a timer to place, an insert's with a record free, or that of the key of a reset
abbrev pub HasTimer : Call → QueueWords → Type 0
HasTimer (C.Format n turn) s = ⊥
HasTimer (C.Insert value when period) s = (view s).lists free ≢ []
HasTimer (C.Reset key when) s = NoSuchKey (view s) key → ⊥
HasTimer (C.Remove key) s = ⊥
HasTimer (C.Poll now) s = ⊥
HasTimer (C.PollSome now limit) s = ⊥
HasTimer C.Wake s = ⊥
HasTimer C.Length s = ⊥
HasTimer C.Clear s = ⊥

-- the call asks a sound store for a deadline that is "more than 3,600,000 below elapsed", and nothing before that refuses it
pub record AsksOld (c : Call) (s : QueueWords) : Type 0 where
  pub sound : Sound s
  pub at_rest : AtRest s
  pub timer : HasTimer c s
  pub old : when_of c + 3600000 < elapsed s

-- ---- both sides of the boundary

-- a store that a call asks for a deadline: 3,600,001 below elapsed is refused, "Exactly 3,600,000 below is still taken"
pub record AtTheHour (w : ℕ) (asks : ℕ → Call) : Type 0 where
  pub store : QueueWords
  pub clock : elapsed store ≡ w + 3600001
  pub refused : (a : Answer) (t : QueueWords) → CallClaim (asks w) store a t → (told a ≡ T.no 11) × (t ≡ store)
  pub taken : (a : Answer) (t : QueueWords) → CallClaim (asks (w + 1)) store a t → is_no (told a) ≡ false
