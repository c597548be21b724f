-- For a program's own loop over a chunk: lines that were taken.
use Rattle.std.specs.Prelude.{◌≡◌, List, ◌++◌, ℕ}
use Rattle.lines.specs.Lines.{lines_from, firsts}

-- Of a line k was kept and s was left of the chunk; now these are k' and s', and ls are the lines that ended in between, each as its
-- first m bytes: whatever comes behind the chunk, they are the first of the lines, and the others are still to come.
pub record Passed (m : ℕ) (k s : List ℕ) (ls : List (List ℕ)) (k' s' : List ℕ) : Type 0 where
  pub first : (t : List ℕ) → firsts m (lines_from k (s ++ t)) ≡ ls ++ firsts m (lines_from k' (s' ++ t))
