-- What every call answers and leaves, for any input at all, in document 01's words. `Fits`, `InRange`, `Sound`, the view and what happens to one record stand in
-- `records` (specs/Slices.antt, Format.antt, Words.antt, View.antt, Records.antt), `Refused` and what a call does on a sound store in `queue` (specs/Calls.antt, Steps.antt, Told.antt).
use Rattle.std.specs.Prelude.{◌≡◌, cond, [], ℕ, ltb}
use Rattle.links.specs.Lists.{nobody, change}
use Rattle.places.specs.Places.{free}
use Rattle.places.specs.Format.{range}
use Rattle.queue.specs.Told.{told, ok}
use Rattle.records.specs.View.{View, view_of}
use Rattle.queue.specs.declared.Answer.{Answer}
use Rattle.delay_queue.specs.declared.Call.{Call}
use Rattle.delay_queue.specs.declared.Call.TheVariants as C
use Rattle.records.specs.Slices.{Fits}
use Rattle.records.specs.Format.{InRange}
use Rattle.records.specs.Words.{QueueWords, slices, Sound, PastKept, view}
use Rattle.queue.specs.Calls.{Refused, InsertOn, ResetOn, RemoveOn, PollOn, Freely, Resuming, RestOn, PollsOn, WakeOn, LengthOn, ClearOn}

-- ---- format

-- f with x at 0, .., n - 1
unfoldable pub first : ℕ → ℕ → (ℕ → ℕ) → ℕ → ℕ
first n x f i = cond (ltb i n) x (f i)

-- "Format sets values, deadlines and elapsed to 0 and makes every record free", "a first turn .., given to every record", "Fresh records are taken as
-- 0, 1, 2 and so on"; 02 [7]: "format sets it to 0", the period; 02 [10]: "clear or format ends it", the poll in hand
abbrev pub fresh : ℕ → ℕ → View → View
fresh n turn v =
    view_of n 0 (change (λ p. []) free (range n 0))
    (first n 0 v.value) (first n 0 v.period) (first n 0 v.deadline) (first n turn v.turn) nobody 0

pub record Formatted (s : QueueWords) (n turn : ℕ) (a : Answer) (s' : QueueWords) : Type 0 where
  pub told : told a ≡ ok
  pub sound : Sound s'
  pub view : view s' ≡ fresh n turn (view s)
  pub kept : PastKept n s s'

-- "format 1, 8"
pub record FormatClaim (s : QueueWords) (n turn : ℕ) (a : Answer) (s' : QueueWords) : Type 0 where
  pub short : (Fits (slices s) n → ⊥) → Refused 1 s a s'
  pub outside : Fits (slices s) n → (InRange turn → ⊥) → Refused 8 s a s'
  pub done : Fits (slices s) n → InRange turn → Formatted s n turn a s'

-- ---- the other calls

-- "Every call but format judges this first": number 2 with nothing changed, or else what the call does on a sound store
pub record Judging (s : QueueWords) (a : Answer) (s' : QueueWords) (On : Type 0) : Type 0 where
  pub bad : (Sound s → ⊥) → Refused 2 s a s'
  pub good : Sound s → On

abbrev pub InsertClaim : QueueWords → ℕ → ℕ → ℕ → Answer → QueueWords → Type 0
InsertClaim s value when period a s' = Judging s a s' (Freely s a s' (InsertOn s value when period a s'))

abbrev pub ResetClaim : QueueWords → ℕ → ℕ → Answer → QueueWords → Type 0
ResetClaim s key when a s' = Judging s a s' (Freely s a s' (ResetOn s key when a s'))

abbrev pub RemoveClaim : QueueWords → ℕ → Answer → QueueWords → Type 0
RemoveClaim s key a s' = Judging s a s' (Freely s a s' (RemoveOn s key a s'))

abbrev pub PollClaim : QueueWords → ℕ → Answer → QueueWords → Type 0
PollClaim s now a s' = Judging s a s' (Resuming s now a s' (PollOn s now a s') (RestOn s now a s'))

-- 02 [10]: "Add a poll with a limit on moves"
abbrev pub PollSomeClaim : QueueWords → ℕ → ℕ → Answer → QueueWords → Type 0
PollSomeClaim s now limit a s' = Judging s a s' (PollsOn s now limit a s')

abbrev pub ClearClaim : QueueWords → Answer → QueueWords → Type 0
ClearClaim s a s' = Judging s a s' (ClearOn s a s')

-- next wake and length change nothing: nothing is lent to them to be changed, and they answer alone
abbrev pub WakeClaim : QueueWords → Answer → Type 0
WakeClaim s a = Judging s a s (Freely s a s (WakeOn s a))

abbrev pub LengthClaim : QueueWords → Answer → Type 0
LengthClaim s a = Judging s a s (LengthOn s a)

-- ---- any call

abbrev pub CallClaim : Call → QueueWords → Answer → QueueWords → Type 0
CallClaim (C.Format n turn) s a s' = FormatClaim s n turn a s'
CallClaim (C.Insert value when period) s a s' = InsertClaim s value when period a s'
CallClaim (C.Reset key when) s a s' = ResetClaim s key when a s'
CallClaim (C.Remove key) s a s' = RemoveClaim s key a s'
CallClaim (C.Poll now) s a s' = PollClaim s now a s'
CallClaim (C.PollSome now limit) s a s' = PollSomeClaim s now limit a s'
CallClaim C.Wake s a s' = WakeClaim s a × (s' ≡ s)
CallClaim C.Length s a s' = LengthClaim s a × (s' ≡ s)
CallClaim C.Clear s a s' = ClearClaim s a s'
