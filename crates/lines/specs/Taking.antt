-- The claim of `take_line`, and the lines that come out of chunks by it.
use Rattle.std.specs.Prelude.{◌≡◌, Bool, true, false, List, [], ◌∷◌, ◌++◌, ℕ, ◌≤◌, length, take, drop}
use Rattle.lines.specs.Lines.{newline, last, Plain}

-- of a line k was kept, a part of it is taken off the front of s, and s' is what is left: k', no more than m bytes, is kept now
pub record Part (m : ℕ) (k s k' s' : List ℕ) : Type 0 where
  pub part : List ℕ
  pub plain : Plain part
  pub taken : s ≡ part ++ s'
  pub kept : k' ≡ take m (k ++ part)

-- from `from` on the bytes of one line are taken out of got, and kept behind the first n bytes of line, as far as it has room: to a
-- newline, behind which it goes on at next, or to the end of got
pub record TakeClaim (got : List ℕ) (from : ℕ) (line : List ℕ) (n next kept : ℕ) (ended : Bool) (line' : List ℕ) : Type 0 where
  pub whole : ended ≡ true → Part (length line) (take n line) (drop from got) (take kept line') (newline ∷ drop next got)
  pub unfinished : ended ≡ false → (next ≡ length got) × Part (length line) (take n line) (drop from got) (take kept line') []
  pub within : next ≤ length got
  pub fits : kept ≤ length line
  pub size : length line' ≡ length line
  pub rest : drop kept line' ≡ drop kept line

-- the lines that come out of chunks, where k is kept before them
pub data Delivered (m : ℕ) : List ℕ → List (List ℕ) → List (List ℕ) → Type 0 where
  line : {k s k' s' : List ℕ} {cs ls : List (List ℕ)} → Part m k s k' (newline ∷ s') → Delivered m [] (s' ∷ cs) ls
      → Delivered m k (s ∷ cs) (k' ∷ ls)
  chunk : {k s k' : List ℕ} {cs ls : List (List ℕ)} → Part m k s k' [] → Delivered m k' cs ls → Delivered m k (s ∷ cs) ls
  end : {k : List ℕ} → Delivered m k [] (last k)
