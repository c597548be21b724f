-- Request 13 of document 02: "For a run of commands over one store, judge it once, then work without judging again, with answers the same as
-- one by one."
use Rattle.std.specs.Prelude.{◌≡◌, Bool, List, [], ◌∷◌, ◌++◌, ℕ, ◌+◌, ◌*◌, ◌≤◌, ◌<◌, length, take, drop}
use Rattle.contracts.specs.Tells.{Tells}
use Rattle.queue.specs.declared.Answer.{Answer}
use Rattle.queue.specs.Told.{told}
use Rattle.records.specs.Words.{QueueWords, Sound}
use Rattle.delay_queue.specs.declared.Call.{Call}
use Rattle.delay_queue.specs.declared.Call.TheVariants as C
use Rattle.delay_queue.specs.Claims.{CallClaim}
use Rattle.promises.specs.Runs.{Asked, Runs}
use Rattle.run.specs.declared.Why.{Why}
use Rattle.run.specs.declared.Why.TheVariants as W
use Rattle.run.specs.Groups.{command_words, answer_words}

-- ---- one call, without judging

-- 02 [10]: the calls that are refused with 12 "Until that poll ends", all but the polls: "insert, remove, reset, next wake"
abbrev pub MustWait : Call → Type 0
MustWait (C.Format n turn) = ⊥
MustWait (C.Insert value when period) = Unit {0}
MustWait (C.Reset key when) = Unit {0}
MustWait (C.Remove key) = Unit {0}
MustWait (C.Poll now) = ⊥
MustWait (C.PollSome now limit) = ⊥
MustWait C.Wake = Unit {0}
MustWait C.Length = ⊥
MustWait C.Clear = ⊥

-- what is claimed of the call when it judges, and whether the store that it leaves is sound
pub record Knows (c : Call) (s : QueueWords) (a : Answer) (s' : QueueWords) (sound : Bool) : Type 0 where
  pub does : CallClaim c s a s'
  pub tells : Tells (Sound s') sound

-- ---- a run

-- the words of calls, and of their answers, one behind the other
abbrev pub commands_of : List Asked → List ℕ
commands_of [] = []
commands_of (x ∷ l) = command_words x.call ++ commands_of l

abbrev pub answers_of : List Asked → List ℕ
answers_of [] = []
answers_of (x ∷ l) = answer_words (told x.answer) ++ answers_of l

-- the first n commands of cs, each answered as its claim says, made s' of the store s; their answers stand at the front of out, and the rest
-- of it stays
pub record CommandsDone (s : QueueWords) (cs out : List ℕ) (n : ℕ) (s' : QueueWords) (out' : List ℕ) : Type 0 where
  pub calls : List Asked
  pub many : length calls ≡ n
  pub runs : Runs s calls s'
  pub read : cs ≡ commands_of calls ++ drop (4 * n) cs
  pub wrote : out' ≡ answers_of calls ++ drop (6 * n) out
  pub room : 6 * n ≤ length out

-- the four words behind n commands
abbrev pub next_four : List ℕ → ℕ → List ℕ
next_four cs n = take 4 (drop (4 * n) cs)

-- why it stops behind n commands: fewer than four words are left; or the next four are no command; or they are one, and six words of room are not left
abbrev pub StopsAt : List ℕ → List ℕ → ℕ → Why → Type 0
StopsAt cs out n W.NoWords = length cs < 4 * n + 4
StopsAt cs out n W.NoCommand = (4 * n + 4 ≤ length cs) × ((c : Call) → next_four cs n ≡ command_words c → ⊥)
StopsAt cs out n W.NoRoom = (length out < 6 * n + 6) × ((c : Call) × (next_four cs n ≡ command_words c))

-- "with answers the same as one by one", for any words at all: as many as it says, and why it stopped there
pub record RunClaim (s : QueueWords) (cs out : List ℕ) (n : ℕ) (why : Why) (s' : QueueWords) (out' : List ℕ) : Type 0 where
  pub answered : CommandsDone s cs out n s' out'
  pub stops : StopsAt cs out n why

-- and whether the store that it leaves is sound
pub record RunKnown (s : QueueWords) (cs out : List ℕ) (n : ℕ) (why : Why) (s' : QueueWords) (out' : List ℕ) (sound : Bool) : Type 0 where
  pub run : RunClaim s cs out n why s' out'
  pub tells : Tells (Sound s') sound
