-- A whole run of the program: what it reads, in chunks, and what it writes.
use Rattle.std.specs.Prelude.{◌≡◌, Bool, List, [], ◌∷◌, ◌++◌, ℕ, ◌≤◌, length}
use Rattle.records.specs.Words.{QueueWords}
use Rattle.lines.specs.Lines.{last}
use Rattle.lines.specs.Passed.{Passed}
use Rattle.feed.specs.Replies.{ReplyTo, Replies}

-- the line l is answered, which makes w' of the store w
pub record LineAnswered (limits : Bool) (l : List ℕ) (w w' : QueueWords) : Type 0 where
  pub text : List ℕ
  pub reply : ReplyTo limits l w text w'

-- Of a line k was kept, s was left of the chunk and w was the store; now these are k', s' and w'. In between the lines that ended were
-- answered with t, each seen as its first m bytes: none is left out, and none comes twice.
pub record Feeds (limits : Bool) (m : ℕ) (k s : List ℕ) (w : QueueWords) (t k' s' : List ℕ) (w' : QueueWords) : Type 0 where
  pub lines : List (List ℕ)
  pub passed : Passed m k s lines k' s'
  pub replies : Replies limits lines w t w'

-- What is left to the program, where the room of a line has m bytes: it reads chunks cs, calls `answer_lines` until each is used up, and
-- writes all that a call answered before the next; v is what it writes, and k is kept of a line that has not ended.
pub data Fed (limits : Bool) (m : ℕ) : List ℕ → List (List ℕ) → QueueWords → List ℕ → List ℕ → QueueWords → Type 0 where
  call : {k s k₁ s₁ k' : List ℕ} {cs : List (List ℕ)} {w w₁ w' : QueueWords} {u v : List ℕ} → Feeds limits m k s w u k₁ s₁ w₁
      → Fed limits m k₁ (s₁ ∷ cs) w₁ v k' w'
      → Fed limits m k (s ∷ cs) w (u ++ v) k' w'
  used : {k k' : List ℕ} {cs : List (List ℕ)} {w w' : QueueWords} {v : List ℕ} → Fed limits m k cs w v k' w'
      → Fed limits m k ([] ∷ cs) w v k' w'
  none : {k : List ℕ} {w : QueueWords} → Fed limits m k [] w [] k w

-- and where the input has ended, what `answer_last` answers to what is kept
pub record Serving (limits : Bool) (m : ℕ) (cs : List (List ℕ)) (w : QueueWords) (v : List ℕ) (w' : QueueWords) : Type 0 where
  pub kept : List ℕ
  pub short : length kept ≤ m
  pub between : QueueWords
  pub first : List ℕ
  pub then : List ℕ
  pub fed : Fed limits m [] cs w first kept between
  pub ended : Replies limits (last kept) between then w'
  pub all : v ≡ first ++ then
