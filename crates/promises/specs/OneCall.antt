-- Which answers are refusals, how many records a call speaks of, and the store that the examples begin with.
use Rattle.std.specs.Prelude.{◌≡◌, Bool, true, false, List, [], ◌∷◌, ℕ, replicate}
use Rattle.links.specs.Lists.{nobody}
use Rattle.places.specs.Format.{over, formatted}
use Rattle.wheel.specs.declared.Wheel.{Wheel}
use Rattle.wheel.specs.Words.{wheel_words}
use Rattle.queue.specs.declared.Answer.{Answer}
use Rattle.queue.specs.Told.{Told, told}
use Rattle.queue.specs.Told as T
use Rattle.records.specs.Words.{QueueWords, queue_words, words, count, Sound, PastKept}
use Rattle.queue.specs.Calls.{Refused}
use Rattle.delay_queue.specs.declared.Call.{Call}
use Rattle.delay_queue.specs.declared.Call.TheVariants as C

-- ---- how a call ends

-- how many records' words it may change
abbrev pub reach : Call → QueueWords → ℕ
reach (C.Format n turn) s = n
reach (C.Insert value when period) s = count s
reach (C.Reset key when) s = count s
reach (C.Remove key) s = count s
reach (C.Poll now) s = count s
reach (C.PollSome now limit) s = count s
reach C.Wake s = count s
reach C.Length s = count s
reach C.Clear s = count s

-- it is a refusal: "`no number`"
abbrev pub is_no : Told → Bool
is_no T.ok = false
is_no (T.key k) = false
is_no (T.gone v d) = false
is_no (T.out k v d m n) = false
is_no (T.last k v d m n) = false
is_no (T.none m n) = false
is_no (T.yet m n) = false
is_no (T.wake t) = false
is_no T.never = false
is_no (T.len n) = false
is_no (T.no n) = true

-- accepted: no number is answered, the store is sound, words past n records stay
pub record Accepted (n : ℕ) (s : QueueWords) (a : Answer) (t : QueueWords) : Type 0 where
  pub says : is_no (told a) ≡ false
  pub sound : Sound t
  pub kept : PastKept n s t

pub data Ends (n : ℕ) (s : QueueWords) (a : Answer) (t : QueueWords) : Type 0 where
  refused : (k : ℕ) → Refused k s a t → Ends n s a t
  accepted : Accepted n s a t → Ends n s a t

-- ---- a sound store there is: one record, freshly formatted over words of 0

abbrev pub word : List ℕ
word = 0 ∷ []

-- the state before any format, every word 0
abbrev pub zeros : Wheel
zeros = record { elapsed = 0; occupied = []; tops = record { n = 0; expired = 0; free = 0; parking = 0 }; hand = 0; until = 0 }

abbrev pub blank : QueueWords
blank = words zeros [] (0 ∷ word) word word word word word

abbrev pub one : QueueWords
one = queue_words (wheel_words 0 (replicate 6 0) (formatted 1 word word word)) (over 2 (λ i. 0) (0 ∷ word)) (over 1 (λ i. 0) word)
    (over 1 (λ i. 1) word) nobody 0
