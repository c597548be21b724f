-- One line where there is a journal: what is done, what is noted to be written to the journal, and what is answered.
use Rattle.std.specs.Prelude.{Bool, true, false, List, ℕ, ◌+◌, ◌≤◌, ◌<◌, ◌≡◌, length}
use Rattle.queue.specs.declared.Answer.{Answer}
use Rattle.queue.specs.Told.{told}
use Rattle.records.specs.Words.{QueueWords}
use Rattle.answering.specs.Text.{WriteClaim, BadClaim}
use Rattle.writing.specs.Writing.{Wrote}
use Rattle.entries.specs.declared.Step.{Step}
use Rattle.journal.specs.Journal.{Acts, written}
use Rattle.feed.specs.Feed.{answer_room}
use Rattle.noting.specs.Means.{Means, Bad}

-- no step writes more bytes
abbrev pub note_room : ℕ
note_room = 36

-- Whether a patch is open, the store, the bytes that are noted for the journal and how far they go, and the answers and how far they go.
pub record Desk : Type 0 where
  pub patch : Bool
  pub store : QueueWords
  pub notes : List ℕ
  pub noted : ℕ
  pub out : List ℕ
  pub at : ℕ

abbrev pub desk : Bool → QueueWords → List ℕ → ℕ → List ℕ → ℕ → Desk
desk p s n k o e = record { patch = p; store = s; notes = n; noted = k; out = o; at = e }

-- there is room for what any step writes, in what has m bytes, and for any answer, in what has n
abbrev pub Fits : ℕ → ℕ → ℕ → ℕ → Type 0
Fits noted m at n = (noted + note_room ≤ m) × (at + answer_room ≤ n)

abbrev pub DeskRoom : Desk → Type 0
DeskRoom a = Fits a.noted (length a.notes) a.at (length a.out)

-- the step x is done; what it writes to the journal stands behind what was noted, and its answer behind the answers
pub data Does (x : Step) (a : Desk) : Desk → Type 0 where
  does : {y : Answer} {p : Bool} {s : QueueWords} {n : List ℕ} {k : ℕ} {o : List ℕ} {e : ℕ} → Acts a.patch a.store x y p s
      → Wrote a.notes a.noted (written x (told y)) k n → WriteClaim y a.out a.at e o
      → Does x a (desk p s n k o e)

-- "A program reads lines and answers each with one": a line that says a step, and any other line, of which nothing is noted
pub data LineClaim (l : List ℕ) (a : Desk) : Desk → Type 0 where
  step : {x : Step} {b : Desk} → Means l x → Does x a b → LineClaim l a b
  bad : {o : List ℕ} {e : ℕ} → Bad l → BadClaim a.out a.at e o
      → LineClaim l a (desk a.patch a.store a.notes a.noted o e)

-- what `answer_line` claims: where there is no room nothing is done, and it says so
pub data NoteClaim (l : List ℕ) (a : Desk) : Bool → Desk → Type 0 where
  done : {b : Desk} → DeskRoom a → LineClaim l a b → NoteClaim l a true b
  full : (DeskRoom a → ⊥) → NoteClaim l a false a

-- and `answer_last`: the input has ended, and what was kept, l, is the last line, if it is anything
pub data LastClaim (l : List ℕ) (a : Desk) : Bool → Desk → Type 0 where
  none : length l ≡ 0 → LastClaim l a true a
  some : {d : Bool} {b : Desk} → 0 < length l → NoteClaim l a d b → LastClaim l a d b
