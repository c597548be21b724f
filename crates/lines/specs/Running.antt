-- For a program that takes the lines of its input one after the other. Takes l a b says what it does with one: the line l makes b of a.
use Rattle.std.specs.Prelude.{◌≡◌, Bool, true, false, List, [], ◌∷◌, ℕ, ◌≤◌, ◌<◌, length, take}
use Rattle.lines.specs.Lines.{last, joined}
use Rattle.lines.specs.Taking.{TakeClaim}
use Rattle.lines.specs.Passed.{Passed}

module _ {A : Type 0} (Takes : List ℕ → A → A → Type 0) where
  -- lines, each taken behind the one before it
  pub data Along : List (List ℕ) → A → A → Type 0 where
    none : {a : A} → Along [] a a
    more : {l : List ℕ} {ls : List (List ℕ)} {a b c : A} → Takes l a b → Along ls b c → Along (l ∷ ls) a c

  -- From i on the lines of got are taken, of whose first line k bytes at the front of line are kept already: each line that ends, and where
  -- got ends, what is left is kept.
  pub data Chunk (got : List ℕ) : ℕ → List ℕ → ℕ → A → List ℕ → ℕ → A → Type 0 where
    used : {i k : ℕ} {line : List ℕ} {a : A} → length got ≤ i → Chunk got i line k a line k a
    ended : {i k i₁ k₁ k' : ℕ} {line line₁ line' : List ℕ} {a a₁ a' : A} → i < length got → TakeClaim got i line k i₁ k₁ true line₁
        → Takes (take k₁ line₁) a a₁ → Chunk got i₁ line₁ 0 a₁ line' k' a' → Chunk got i line k a line' k' a'
    part : {i k i₁ k₁ k' : ℕ} {line line₁ line' : List ℕ} {a a' : A} → i < length got → TakeClaim got i line k i₁ k₁ false line₁
        → Chunk got i₁ line₁ k₁ a line' k' a' → Chunk got i line k a line' k' a'

  -- the end, where k is kept: the input has ended, and k is the last line, if it is anything; or the input broke off
  pub record Closes (k : List ℕ) (a : A) (ended : Bool) (a' : A) : Type 0 where
    pub closed : ended ≡ true → Along (last k) a a'
    pub broken : ended ≡ false → a' ≡ a

  module _ (m : ℕ) where
    -- Of a line k was kept, s was left of the chunk and it stood at a; now these are k', s' and a'. In between the lines that ended were
    -- taken, each seen as its first m bytes: none is left out, and none comes twice.
    pub record Passes (k s : List ℕ) (a : A) (k' s' : List ℕ) (a' : A) : Type 0 where
      pub lines : List (List ℕ)
      pub passed : Passed m k s lines k' s'
      pub along : Along lines a a'

    -- chunks that were read, of so many bytes together, all used up; which bytes these are is not said
    pub record Reads (k : List ℕ) (a : A) (bytes : ℕ) (k' : List ℕ) (a' : A) : Type 0 where
      pub chunks : List (List ℕ)
      pub size : length (joined chunks) ≡ bytes
      pub passes : Passes k (joined chunks) a k' [] a'

    -- A program's run, where k was kept at first: chunks of so many bytes were read and their lines taken, and then it closed.
    pub record ProgramRan (k : List ℕ) (a : A) (bytes : ℕ) (ended : Bool) (a' : A) : Type 0 where
      pub kept : List ℕ
      pub short : length kept ≤ m
      pub between : A
      pub reads : Reads k a bytes kept between
      pub closes : Closes kept between ended a'
