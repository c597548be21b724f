-- A store with its journal, in document 02's words: what a step answers and leaves, which bytes it writes, and the journal of a run.
use Rattle.std.specs.Prelude.{◌≡◌, Bool, true, false, cond, ◌||◌, List, [], ◌∷◌, ◌++◌, ℕ, eqb}
use Rattle.queue.specs.declared.Answer.{Answer}
use Rattle.queue.specs.Told.{Told, told}
use Rattle.queue.specs.Told as T
use Rattle.records.specs.Words.{QueueWords}
use Rattle.delay_queue.specs.declared.Call.{Call}
use Rattle.delay_queue.specs.Claims.{CallClaim}
use Rattle.entries.specs.declared.Step.{Step}
use Rattle.entries.specs.declared.Step.TheVariants as S
use Rattle.entries.specs.Entries.{step_bytes, Fit}

-- ---- one step

-- asked of the store s, where p says whether a patch is open, the step answers a and leaves s', and p' says whether one is open then
pub data Acts : Bool → QueueWords → Step → Answer → Bool → QueueWords → Type 0 where
  -- "Calls in an open patch act at once", as those outside do
  asks : {p : Bool} {s s' : QueueWords} {c : Call} {a : Answer} → CallClaim c s a s' → Acts p s (S.Asks c) a p s'
  -- "Open and close read no store; a second open, or a close without an open, is refused with 13"
  opened : {s : QueueWords} {a : Answer} → told a ≡ T.ok → Acts false s S.Open a true s
  open_twice : {s : QueueWords} {a : Answer} → told a ≡ T.no 13 → Acts true s S.Open a true s
  closed : {s : QueueWords} {a : Answer} → told a ≡ T.ok → Acts true s S.Close a false s
  not_open : {s : QueueWords} {a : Answer} → told a ≡ T.no 13 → Acts false s S.Close a false s

-- "save one refused with 1, 2 or 13": a poll that answers "not yet" is written, and so is a call refused with 12
abbrev pub unwritten : Told → Bool
unwritten T.ok = false
unwritten (T.key k) = false
unwritten (T.gone v d) = false
unwritten (T.out k v d m n) = false
unwritten (T.last k v d m n) = false
unwritten (T.none m n) = false
unwritten (T.yet m n) = false
unwritten (T.wake t) = false
unwritten T.never = false
unwritten (T.len n) = false
unwritten (T.no n) = eqb n 1 || (eqb n 2 || eqb n 13)

-- "Write each call that could change the store .., accepted or refused, save one refused with 1, 2 or 13": the bytes of a step that
-- answers t. Next wake and length could not: they have no bytes
unfoldable pub written : Step → Told → List ℕ
written x t = cond (unwritten t) [] (step_bytes x)

-- what `act` claims: the step is done, and its bytes are those to be written
pub record ActClaim (p : Bool) (s : QueueWords) (x : Step) (a : Answer) (p' : Bool) (s' : QueueWords) (bytes : List ℕ) : Type 0 where
  pub acts : Acts p s x a p' s'
  pub writes : bytes ≡ written x (told a)

-- ---- a run of steps

-- a step with its answer
pub record Noted : Type 0 where
  pub step : Step
  pub answer : Answer

-- steps one after the other, from s to s', and all the bytes that they write, in their order
pub data Journals : Bool → QueueWords → List Noted → List ℕ → Bool → QueueWords → Type 0 where
  rest : {p : Bool} {s : QueueWords} → Journals p s [] [] p s
  next : {p p₁ p' : Bool} {s s₁ s' : QueueWords} {x : Noted} {l : List Noted} {J : List ℕ} → Fit x.step
      → Acts p s x.step x.answer p₁ s₁ → Journals p₁ s₁ l J p' s'
      → Journals p s (x ∷ l) (written x.step (told x.answer) ++ J) p' s'
