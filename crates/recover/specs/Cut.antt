-- Words of the promises on a journal that is cut or damaged: steps of a patch that is not closed, what is left of a step's bytes, and
-- what replay recovers.
use Rattle.std.specs.Prelude.{◌≡◌, ◌≢◌, Bool, true, false, List, [], ◌∷◌, ◌++◌, ℕ, ◌+◌, ◌<◌, length, take, Ok, Err}
use Rattle.records.specs.Slices.{Slices, Fits}
use Rattle.records.specs.Words.{QueueWords}
use Rattle.delay_queue.specs.declared.Call.TheVariants as C
use Rattle.queue.specs.declared.Answer.{Answer}
use Rattle.queue.specs.Told.{told}
use Rattle.queue.specs.Told as T
use Rattle.promises.specs.Runs.{Asked}
use Rattle.entries.specs.declared.Step.{Step}
use Rattle.entries.specs.declared.Step.TheVariants as S
use Rattle.entries.specs.declared.Ending.{Ending}
use Rattle.entries.specs.declared.Ending.TheVariants as E
use Rattle.entries.specs.Entries.{Fit}
use Rattle.entries.specs.Reading as read
use Rattle.journal.specs.Journal.{Acts, unwritten, written, Noted, Journals}
use Rattle.recover.specs.Replay.{Found}

-- ---- the calls of a journal

-- the calls among steps, in their order, as the promises speak of runs: opens and closes leave the store
abbrev pub call_of : Step → Answer → List Asked → List Asked
call_of (S.Asks c) a l = record { call = c; answer = a } ∷ l
call_of S.Open a l = l
call_of S.Close a l = l

abbrev pub calls_in : List Noted → List Asked
calls_in [] = []
calls_in (x ∷ l) = call_of x.step x.answer (calls_in l)

-- ---- a journal that is cut

-- no step of these closes a patch
abbrev pub NoClose : List Noted → Type 0
NoClose [] = Unit {0}
NoClose (x ∷ l) = (x.step ≢ S.Close) × NoClose l

-- "an unclosed patch": its steps, the first of which opens it, or none where no patch is open
pub data Unclosed : List Noted → Type 0 where
  none_open : Unclosed []
  not_closed : {x : Noted} {l : List Noted} → x.step ≡ S.Open → NoClose l → Unclosed (x ∷ l)

-- what a cut leaves of the bytes of one step: nothing, or not all of them
pub data Part : List ℕ → Type 0 where
  nothing : Part []
  part : (x : Noted) (k : ℕ) → Fit x.step → k < length (written x.step (told x.answer))
      → Part (take k (written x.step (told x.answer)))

-- the calls of a run, cut: those that are kept, those in an unclosed patch, and the others, of whose bytes only `part` is there
pub record CutOf (s : QueueWords) (run : List Noted) (l : List ℕ) : Type 0 where
  pub calls : List Noted
  pub lost : List Noted
  pub others : List Noted
  pub whole : run ≡ calls ++ (lost ++ others)
  pub store : QueueWords
  pub journal : List ℕ
  pub keeps : Journals false s calls journal false store
  pub unclosed : Unclosed lost
  pub patch : Bool
  pub reached : QueueWords
  pub lost_bytes : List ℕ
  pub loses : Journals false store lost lost_bytes patch reached
  pub part : List ℕ
  pub is_part : Part part
  pub split : l ≡ journal ++ (lost_bytes ++ part)
  pub not_whole : (x : Noted) (m : List Noted) → others ≡ x ∷ m → length part < length (written x.step (told x.answer))

-- ---- the last step

-- a run up to its last step x, what that does, and that the journal ends with its bytes
pub record Last (p : Bool) (s : QueueWords) (l : List Noted) (x : Noted) (K : List ℕ) (q : Bool) (t : QueueWords) : Type 0 where
  pub journal : List ℕ
  pub patch : Bool
  pub store : QueueWords
  pub runs : Journals p s l journal patch store
  pub acts : Acts patch store x.step x.answer q t
  pub ends : K ≡ journal ++ written x.step (told x.answer)

-- ---- other slices

-- every format that is written has room in z, also one refused with 8
abbrev pub RoomFor : Slices → List Noted → Type 0
RoomFor z [] = Unit {0}
RoomFor z (x ∷ l) = ((n turn : ℕ) → x.step ≡ S.Asks (C.Format n turn) → unwritten (told x.answer) ≡ false → Fits z n) × RoomFor z l

-- of the steps l those that are written, m, in their order
pub data Keeps : List Noted → List Noted → Type 0 where
  none : Keeps [] []
  kept : {x : Noted} {l m : List Noted} → Keeps l m → Keeps (x ∷ l) (x ∷ m)
  left_out : {x : Noted} {l m : List Noted} → written x.step (told x.answer) ≡ [] → Keeps l m → Keeps (x ∷ l) m

-- ---- any bytes

-- why nothing more is read of l, with p saying whether a patch is open and the store s: there is no whole step, or it gets 1, 2 or 13
pub data Stops (p : Bool) (s : QueueWords) (l : List ℕ) : Ending → Type 0 where
  no_step : {e : Ending} → read.next l ≡ Err e → Stops p s l e
  refused : {x : Step} {a : Answer} {q : Bool} {t : QueueWords} {n : ℕ} → read.next l ≡ Ok x → Acts p s x a q t → told a ≡ T.no n
      → unwritten (told a) ≡ true
      → Stops p s l (E.Gets n)

-- Of the bytes l, with the store s before them, the first `kept` are the journal of calls that end with no patch open and lead to the
-- store found; behind them stand, up to `at`, the calls of a patch that is not closed; and of what is behind those nothing more is read
pub record Recovers (l : List ℕ) (s : QueueWords) (f : Found) : Type 0 where
  pub calls : List Noted
  pub journal : List ℕ
  pub keeps : Journals false s calls journal false f.store
  pub kept : f.kept ≡ length journal
  pub lost : List Noted
  pub unclosed : Unclosed lost
  pub lost_bytes : List ℕ
  pub patch : Bool
  pub reached : QueueWords
  pub loses : Journals false f.store lost lost_bytes patch reached
  pub at : f.at ≡ length journal + length lost_bytes
  pub behind : List ℕ
  pub split : l ≡ journal ++ (lost_bytes ++ behind)
  pub stops : Stops patch reached behind f.ending

-- the journal of a run, and behind it fewer than 18 bytes, whatever they are, or a kind 9 whose zeros are zero with fewer than 18 bytes behind it
pub record Undamaged (s : QueueWords) (l : List ℕ) : Type 0 where
  pub run : List Noted
  pub journal : List ℕ
  pub patch : Bool
  pub store : QueueWords
  pub runs : Journals false s run journal patch store
  pub part : List ℕ
  pub cut : read.Unfinished part
  pub split : l ≡ journal ++ part
