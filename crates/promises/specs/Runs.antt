-- Runs of any calls from any store, each answered as its claim says: refused calls, clear and format again among them.
use Rattle.std.specs.Prelude.{◌≡◌, Bool, true, false, not, ◌&&◌, cond, List, [], ◌∷◌, ℕ, ◌+◌, ltb}
use Rattle.queue.specs.declared.Answer.{Answer}
use Rattle.queue.specs.Told.{Told, told}
use Rattle.queue.specs.Told as T
use Rattle.records.specs.Records.{number_in}
use Rattle.records.specs.Words.{QueueWords, view}
use Rattle.delay_queue.specs.declared.Call.{Call}
use Rattle.delay_queue.specs.declared.Call.TheVariants as C
use Rattle.delay_queue.specs.Claims.{CallClaim}
use Rattle.promises.specs.OneCall.{is_no}

-- a call with its answer
pub record Asked : Type 0 where
  pub call : Call
  pub answer : Answer

pub data Runs : QueueWords → List Asked → QueueWords → Type 0 where
  rest : {s : QueueWords} → Runs s [] s
  next : {s t u : QueueWords} {x : Asked} {l : List Asked} → CallClaim x.call s x.answer t → Runs t l u → Runs s (x ∷ l) u

-- ---- which calls a run has

abbrev pub accepted : Asked → Bool
accepted x = not (is_no (told x.answer))

abbrev pub is_format : Call → Bool
is_format (C.Format n turn) = true
is_format (C.Insert value when period) = false
is_format (C.Reset key when) = false
is_format (C.Remove key) = false
is_format (C.Poll now) = false
is_format (C.PollSome now limit) = false
is_format C.Wake = false
is_format C.Length = false
is_format C.Clear = false

-- insert or reset
abbrev pub is_placing : Call → Bool
is_placing (C.Format n turn) = false
is_placing (C.Insert value when period) = true
is_placing (C.Reset key when) = true
is_placing (C.Remove key) = false
is_placing (C.Poll now) = false
is_placing (C.PollSome now limit) = false
is_placing C.Wake = false
is_placing C.Length = false
is_placing C.Clear = false

abbrev pub is_poll : Call → Bool
is_poll (C.Format n turn) = false
is_poll (C.Insert value when period) = false
is_poll (C.Reset key when) = false
is_poll (C.Remove key) = false
is_poll (C.Poll now) = true
is_poll (C.PollSome now limit) = true
is_poll C.Wake = false
is_poll C.Length = false
is_poll C.Clear = false

-- every call of the run is such a one
abbrev pub All : (Asked → Type 0) → List Asked → Type 0
All P [] = Unit {0}
All P (x ∷ l) = P x × All P l

-- how many accepted calls of a run are of a kind
abbrev pub tally : (Call → Bool) → List Asked → ℕ
tally f [] = 0
tally f (x ∷ l) = cond (f x.call && accepted x) 1 0 + tally f l

-- 02 [10]: "waiting counts ended polls": neither refused nor answered "not yet"
abbrev pub ends : Told → Bool
ends T.ok = true
ends (T.key k) = true
ends (T.gone v d) = true
ends (T.out k v d m n) = true
ends (T.last k v d m n) = true
ends (T.none m n) = true
ends (T.yet m n) = false
ends (T.wake t) = true
ends T.never = true
ends (T.len n) = true
ends (T.no n) = false

-- how many calls of a run that ended are of a kind
abbrev pub tally_ended : (Call → Bool) → List Asked → ℕ
tally_ended f [] = 0
tally_ended f (x ∷ l) = cond (f x.call && ends (told x.answer)) 1 0 + tally_ended f l

-- the moves that an answer reports, and those of a run
abbrev pub moves_of : Told → ℕ
moves_of T.ok = 0
moves_of (T.key k) = 0
moves_of (T.gone v d) = 0
moves_of (T.out k v d m n) = m
moves_of (T.last k v d m n) = m
moves_of (T.none m n) = m
moves_of (T.yet m n) = m
moves_of (T.wake t) = 0
moves_of T.never = 0
moves_of (T.len n) = 0
moves_of (T.no n) = 0

abbrev pub moves : List Asked → ℕ
moves [] = 0
moves (x ∷ l) = moves_of (told x.answer) + moves l

-- 02 [7]: "the same poll places it at w plus period": 1 where a poll of s, answered x, sets again what it hands out, which repeats and not for the last time
abbrev pub resetting : QueueWords → Told → ℕ
resetting s T.ok = 0
resetting s (T.key k) = 0
resetting s (T.gone v d) = 0
resetting s (T.out k v d m n) = cond (ltb 0 ((view s).period (number_in k))) 1 0
resetting s (T.last k v d m n) = 0
resetting s (T.none m n) = 0
resetting s (T.yet m n) = 0
resetting s (T.wake t) = 0
resetting s T.never = 0
resetting s (T.len n) = 0
resetting s (T.no n) = 0

-- how many polls of a run do
abbrev pub resettings : {s u : QueueWords} {l : List Asked} → Runs s l u → ℕ
resettings rest = 0
resettings (next {s} {t} {u} {x} {l} A R) = resetting s (told x.answer) + resettings R

-- no format of the run is accepted: "until the next format"
abbrev pub NoFormat : List Asked → Type 0
NoFormat l = All (λ x. (is_format x.call && accepted x) ≡ false) l

-- P is said of each call of a run: of the store that it finds, of the call with its answer, and of the store that it leaves
abbrev pub Each : (QueueWords → Asked → QueueWords → Type 0) → {s u : QueueWords} {l : List Asked} → Runs s l u → Type 0
Each P rest = Unit {0}
Each P (next {s} {t} {u} {x} {l} A R) = P s x t × Each P R
