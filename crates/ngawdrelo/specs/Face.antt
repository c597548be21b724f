-- The words of a store as C keeps them, and what a call says over them.
use Rattle.std.specs.Prelude.{◌≡◌, Bool, List, [], ◌∷◌, ℕ}
use Rattle.queue.specs.declared.Answer.{Answer}
use Rattle.queue.specs.Told.{told}
use Rattle.records.specs.Words.{QueueWords, parts, holding}
use Rattle.delay_queue.specs.declared.Call.{Call}
use Rattle.run.specs.Groups.{command_words, answer_words}
use Rattle.writing.specs.Writing.{Wrote}
use Rattle.entries.specs.declared.Step.{Step}
use Rattle.entries.specs.declared.Step.TheVariants as S
use Rattle.entries.specs.Writing.{blank}
use Rattle.journal.specs.Journal.{ActClaim}
use Rattle.words.specs.Words.{is_set, FlagKept}

-- ---- words

-- the words w say something of which P holds: `say` puts it into words
pub record Says {A W : Type 0} (say : A → W) (w : W) (P : A → Type 0) : Type 0 where
  pub what : A
  pub is : w ≡ say what
  pub holds : P what

-- ---- a call

-- the six words are those of an answer that the claim allows
abbrev pub Told : (Answer → Type 0) → List ℕ → Type 0
Told C w = Says (λ (a : Answer). answer_words (told a)) w C

-- with s' left
abbrev pub Faced : (Answer → QueueWords → Type 0) → List ℕ → QueueWords → Type 0
Faced C w s' = Told (λ (a : Answer). C a s') w

-- a store, by the words that C keeps
module _ (elapsed : ℕ) (occupied tops : List ℕ) (hand until : ℕ) (heads : List (List ℕ)) (values deadlines nexts prevs turns marks : List ℕ) where
  abbrev pub store_of : QueueWords
  store_of = holding hand until (parts elapsed occupied tops heads values deadlines nexts prevs turns marks)

-- ---- the journal

-- the six words that tell that four words are no command: a kind that no answer has
abbrev pub no_command : List ℕ
no_command = 11 ∷ 0 ∷ 0 ∷ 0 ∷ 0 ∷ 0 ∷ []

-- what `act` claims, with the bytes at the front of room for 36, of which the first `size` count
pub record ActsInto (p : Bool) (s : QueueWords) (x : Step) (a : Answer) (p' : Bool) (s' : QueueWords) (size : ℕ) (bytes : List ℕ) : Type 0 where
  pub text : List ℕ
  pub acts : ActClaim p s x a p' s' text
  pub stands : Wrote blank 0 text size bytes

-- the four words g are a call, which acts and is noted as its claim says, whether a patch is open or not; or none, and then nothing changes
pub data ActsOn (g : List ℕ) (s : QueueWords) (w : List ℕ) (s' : QueueWords) (size : ℕ) (bytes : List ℕ) : Type 0 where
  asks : (c : Call) → g ≡ command_words c → Told (λ (a : Answer). (p : Bool) → ActsInto p s (S.Asks c) a p s' size bytes) w
      → ActsOn g s w s' size bytes
  none : ((c : Call) → g ≡ command_words c → ⊥) → w ≡ no_command → s' ≡ s → Wrote blank 0 [] size bytes → ActsOn g s w s' size bytes

-- a patch is opened or closed, which reads no store; the word of its flag is kept while it says the same
pub record Patches (x : Step) (n n' : ℕ) (w : List ℕ) (size : ℕ) (bytes : List ℕ) : Type 0 where
  pub acts : Told (λ (a : Answer). (s : QueueWords) → ActsInto (is_set n) s x a (is_set n') s size bytes) w
  pub word : FlagKept n n'
