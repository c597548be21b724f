-- What each call answers and leaves on a sound store: refusals exactly as the table has them, in its order, with nothing changed; and the accepted case.
use Rattle.std.specs.Prelude.{◌≡◌, ◌≢◌, List, [], ◌∷◌, ℕ, ◌≤◌, ◌<◌}
use Rattle.links.specs.Lists.{nobody}
use Rattle.places.specs.Places.{free}
use Rattle.queue.specs.declared.Answer.{Answer}
use Rattle.queue.specs.Told.{Told, told, ok, key, gone, len, no}
use Rattle.records.specs.View.{View, with_elapsed, with_value, with_period, with_hand, upd}
use Rattle.records.specs.Records.{key_of, Names, TooOld, TooFar, Takes, taken, left, placed, freed}
use Rattle.queue.specs.Steps.{QueuePolls, PollsSome, PollsRest, NextWake, pending, Clears}
use Rattle.records.specs.Words.{QueueWords, AtRest, MidPoll, Sound, PastKept, count, view, elapsed}

-- "A refusal answers its number alone; every lent slice stays word for word the same, and the state that went in by value is handed back equal."
pub record Refused (number : ℕ) (s : QueueWords) (a : Answer) (s' : QueueWords) : Type 0 where
  pub told : told a ≡ no number
  pub same : s' ≡ s

-- the answer is t, the store is sound again and has the view v, and words past N are kept
pub record Answered (s : QueueWords) (a : Answer) (t : Told) (v : View) (s' : QueueWords) : Type 0 where
  pub told : told a ≡ t
  pub sound : Sound s'
  pub view : view s' ≡ v
  pub kept : PastKept (count s) s s'

-- "insert 2, 3, 4, 5", with 11 "judged after 3 or 6 and before 4" (02 [8]), and 5 "never given" (02 [12]): 2, 3, 11, 4
pub record InsertOn (s : QueueWords) (value when period : ℕ) (a : Answer) (s' : QueueWords) : Type 0 where
  pub full : (view s).lists free ≡ [] → Refused 3 s a s'
  pub old : (r : ℕ) (l : List ℕ) → (view s).lists free ≡ r ∷ l → TooOld (elapsed s) when → Refused 11 s a s'
  pub far : (r : ℕ) (l : List ℕ) → (view s).lists free ≡ r ∷ l → TooFar (elapsed s) when → Refused 4 s a s'
  pub done : (r : ℕ) (l : List ℕ) → (view s).lists free ≡ r ∷ l → Takes (elapsed s) when
      → Answered s a (key (key_of (view s) r))
      (placed r when (with_period (upd (view s).period r period) (with_value (upd (view s).value r value) (taken l (view s))))) s'

-- "reset 2, 6, 4, 5", likewise: 2, 6, 11, 4
pub record ResetOn (s : QueueWords) (k when : ℕ) (a : Answer) (s' : QueueWords) : Type 0 where
  pub dead : ((r p : ℕ) → Names (view s) k r p → ⊥) → Refused 6 s a s'
  pub old : (r p : ℕ) → Names (view s) k r p → TooOld (elapsed s) when → Refused 11 s a s'
  pub far : (r p : ℕ) → Names (view s) k r p → TooFar (elapsed s) when → Refused 4 s a s'
  pub done : (r p : ℕ) → Names (view s) k r p → Takes (elapsed s) when → Answered s a ok (placed r when (left p r (view s))) s'

-- "remove 2, 6"
pub record RemoveOn (s : QueueWords) (k : ℕ) (a : Answer) (s' : QueueWords) : Type 0 where
  pub dead : ((r p : ℕ) → Names (view s) k r p → ⊥) → Refused 6 s a s'
  pub done : (r p : ℕ) → Names (view s) k r p → Answered s a (gone ((view s).value r) ((view s).deadline r)) (freed r (left p r (view s))) s'

-- "poll 2, 7"
pub record PollOn (s : QueueWords) (time : ℕ) (a : Answer) (s' : QueueWords) : Type 0 where
  pub back : time < elapsed s → Refused 7 s a s'
  pub done : elapsed s ≤ time → Sound s' × QueuePolls (view s) time (told a) (view s') × PastKept (count s) s s'

-- ---- 02 [10]

-- "Until that poll ends, insert, remove, reset, next wake .. are refused with 12, judged after 2"
pub record Freely (s : QueueWords) (a : Answer) (s' : QueueWords) (On : Type 0) : Type 0 where
  pub held : MidPoll s → Refused 12 s a s'
  pub free : AtRest s → On

-- ".. and polls with another now": one with the same now goes on with the poll in hand
pub record Resuming (s : QueueWords) (now : ℕ) (a : Answer) (s' : QueueWords) (On Rest : Type 0) : Type 0 where
  pub other : MidPoll s → now ≢ s.until → Refused 12 s a s'
  pub same : MidPoll s → now ≡ s.until → Rest
  pub free : AtRest s → On

-- a whole poll goes on
abbrev pub RestOn : QueueWords → ℕ → Answer → QueueWords → Type 0
RestOn s now a s' = Sound s' × PollsRest (view s) now (told a) (view s') × PastKept (count s) s s'

-- one with a limit goes on, or begins
abbrev pub SomeOn : QueueWords → ℕ → ℕ → Answer → QueueWords → Type 0
SomeOn s now limit a s' = Sound s' × PollsSome (view s) now limit (told a) (view s') × PastKept (count s) s s'

pub record PollSomeOn (s : QueueWords) (now limit : ℕ) (a : Answer) (s' : QueueWords) : Type 0 where
  pub back : now < elapsed s → Refused 7 s a s'
  pub done : elapsed s ≤ now → SomeOn s now limit a s'

-- with a limit: 2, then 12, then 7
abbrev pub PollsOn : QueueWords → ℕ → ℕ → Answer → QueueWords → Type 0
PollsOn s now limit a s' = Resuming s now a s' (PollSomeOn s now limit a s') (SomeOn s now limit a s')

-- "next wake, length and clear only 2"
pub record WakeOn (s : QueueWords) (a : Answer) : Type 0 where
  pub done : NextWake (view s) (told a)

pub record LengthOn (s : QueueWords) (a : Answer) : Type 0 where
  pub done : told a ≡ len (pending (view s))

-- 02 [10]: "clear or format ends it", the poll in hand
pub record ClearOn (s : QueueWords) (a : Answer) (s' : QueueWords) : Type 0 where
  pub cleared : View
  pub clears : Clears (view s) (view s).n cleared
  pub done : Answered s a ok (with_hand nobody 0 (with_elapsed 0 cleared)) s'
