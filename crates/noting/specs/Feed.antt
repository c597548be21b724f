-- The lines of a chunk, done and answered as far as there is room for what they write and for their answers.
use Rattle.std.specs.Prelude.{true, false, List, ℕ, ◌<◌, length, take}
use Rattle.lines.specs.Taking.{TakeClaim}
use Rattle.noting.specs.Line.{Desk, DeskRoom, LineClaim}

-- How it stands: how far the chunk is taken, the room of a line and how many bytes at its front are kept, and the rest
pub record Stand : Type 0 where
  pub next : ℕ
  pub line : List ℕ
  pub kept : ℕ
  pub desk : Desk

abbrev pub stand : ℕ → List ℕ → ℕ → Desk → Stand
stand i l k d = record { next = i; line = l; kept = k; desk = d }

-- a byte of the chunk is left, and room
abbrev pub CanGoOn : List ℕ → Stand → Type 0
CanGoOn got a = (a.next < length got) × DeskRoom a.desk

-- one line is taken: it has ended and is answered, or the chunk has ended and what came of it is kept
pub data NextLine (got : List ℕ) (a : Stand) : Stand → Type 0 where
  answered : {i k : ℕ} {l : List ℕ} {d : Desk} → TakeClaim got a.next a.line a.kept i k true l → LineClaim (take k l) a.desk d
      → NextLine got a (stand i l 0 d)
  goes_on : {i k : ℕ} {l : List ℕ} → TakeClaim got a.next a.line a.kept i k false l → NextLine got a (stand i l k a.desk)

-- one line after the other, as long as a byte is left and room
pub data FeedClaim (got : List ℕ) : Stand → Stand → Type 0 where
  stops : {a : Stand} → (CanGoOn got a → ⊥) → FeedClaim got a a
  lines_on : {a b c : Stand} → CanGoOn got a → NextLine got a b → FeedClaim got b c → FeedClaim got a c
