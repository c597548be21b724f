-- What this crate's functions claim: the lines of a chunk, answered as far as the output has room, and the last line.
use Rattle.std.specs.Prelude.{◌≡◌, Bool, true, false, List, ℕ, ◌+◌, ◌≤◌, ◌<◌, length, take}
use Rattle.records.specs.Words.{QueueWords}
use Rattle.bench.specs.Line.{LineClaim}
use Rattle.lines.specs.Taking.{TakeClaim}

-- no answer has more bytes, so that one has room in these
abbrev pub answer_room : ℕ
answer_room = 114

-- How it stands: how far the chunk is taken, the room of a line and how many bytes at its front are kept, the store, and the room of
-- answers and how far they go.
pub record Stand : Type 0 where
  pub next : ℕ
  pub line : List ℕ
  pub kept : ℕ
  pub store : QueueWords
  pub out : List ℕ
  pub at : ℕ

abbrev pub stand : ℕ → List ℕ → ℕ → QueueWords → List ℕ → ℕ → Stand
stand i l k w o e = record { next = i; line = l; kept = k; store = w; out = o; at = e }

-- a byte of the chunk is left, and room for an answer
abbrev pub CanGoOn : List ℕ → Stand → Type 0
CanGoOn got a = (a.next < length got) × (a.at + answer_room ≤ length a.out)

-- one line is taken: it has ended and is answered, or the chunk has ended and what came of it is kept
pub data NextLine (limits : Bool) (got : List ℕ) (a : Stand) : Stand → Type 0 where
  answered : {i k : ℕ} {l : List ℕ} {w : QueueWords} {o : List ℕ} {e : ℕ} → TakeClaim got a.next a.line a.kept i k true l
      → LineClaim limits (take k l) a.store a.out a.at w o e
      → NextLine limits got a (stand i l 0 w o e)
  goes_on : {i k : ℕ} {l : List ℕ} → TakeClaim got a.next a.line a.kept i k false l
      → NextLine limits got a (stand i l k a.store a.out a.at)

-- one line after the other, as long as a byte is left and room for an answer
pub data FeedClaim (limits : Bool) (got : List ℕ) : Stand → Stand → Type 0 where
  stops : {a : Stand} → (CanGoOn got a → ⊥) → FeedClaim limits got a a
  lines_on : {a b c : Stand} → CanGoOn got a → NextLine limits got a b → FeedClaim limits got b c → FeedClaim limits got a c

-- the input has ended: what was kept, l, is the last line, if it is anything, and is answered at the front of o
pub record LastClaim (limits : Bool) (l : List ℕ) (w : QueueWords) (o : List ℕ) (w' : QueueWords) (o' : List ℕ) (end : ℕ) : Type 0 where
  pub none : length l ≡ 0 → (w' ≡ w) × (o' ≡ o) × (end ≡ 0)
  pub some : 0 < length l → LineClaim limits l w o 0 w' o' end
