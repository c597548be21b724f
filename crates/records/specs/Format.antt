-- Format: which number it answers, and the words that it makes.
use Rattle.std.specs.Prelude.{◌≡◌, List, ℕ, ◌*◌, ◌^◌, ◌<◌, replicate}
use Rattle.links.specs.Lists.{nobody}
use Rattle.places.specs.Format.{over, formatted}
use Rattle.wheel.specs.Words.{wheel_words}
use Rattle.records.specs.Slices.{Slices}
use Rattle.records.specs.Words.{QueueWords, parts}

-- ---- the number

-- number 8 is not given: "a first turn (1 to 2^48-1)"
pub record InRange (turn : ℕ) : Type 0 where
  pub some : 0 < turn
  pub last : turn < 2 ^ 48

-- 1 or 8 where format is refused, and 0 just where it is not
pub record FormatNo (fits range : Type 0) (r : ℕ) : Type 0 where
  pub short : (fits → ⊥) → r ≡ 1
  pub outside : fits → (range → ⊥) → r ≡ 8
  pub near : fits → range → r ≡ 0
  pub taken : r ≡ 0 → fits × range

-- ---- the store

-- the words that format makes
pub record Makes (n turn : ℕ) (l : Slices) (s' : QueueWords) : Type 0 where
  pub wheel : s'.wheel ≡ wheel_words 0 (replicate 6 0) (formatted n l.links.nexts l.links.prevs l.links.marks)
  pub values : s'.values ≡ over (2 * n) (λ i. 0) l.values
  pub deadlines : s'.deadlines ≡ over n (λ i. 0) l.deadlines
  pub turns : s'.turns ≡ over n (λ i. turn) l.turns
  pub hand : s'.hand ≡ nobody
  pub until : s'.until ≡ 0

-- of the slices that `make` is lent, and what it leaves
module _ (n turn : ℕ) (l : Slices) (tops : List ℕ) (heads : List (List ℕ)) (values deadlines nexts prevs turns marks : List ℕ) where
  abbrev pub MakesOf : Type 0
  MakesOf = Makes n turn l (parts 0 (replicate 6 0) tops heads values deadlines nexts prevs turns marks)
