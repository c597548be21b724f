-- Words of the promise on clear: what is free afterwards, and in which order it is taken.
use Rattle.std.specs.Prelude.{◌≡◌, Bool, true, false, not, cond, ◌&&◌, List, [], ◌∷◌, ◌++◌, ℕ, zero, suc, ◌+◌, ◌<◌, eqb}
use Rattle.links.specs.Lists.{Mem}
use Rattle.places.specs.Places.{free}
use Rattle.records.specs.Records.{last_turn, At}
use Rattle.records.specs.Words.{QueueWords, count, elapsed, view}
use Rattle.promises.specs.Looking.{is_pending}

-- a pending record whose turn can be raised: "At turn 2^48-1 it is retired instead."
abbrev pub comes_back : QueueWords → ℕ → Bool
comes_back s i = is_pending s i && not (eqb ((view s).turn i) last_turn)

-- the numbers below n that pass f, the highest first
abbrev pub falling : (ℕ → Bool) → ℕ → List ℕ
falling f zero = []
falling f (suc k) = cond (f k) (k ∷ falling f k) (falling f k)

-- "Clear empties wheel and expired stack and sets elapsed to 0", "frees pending records in rising number, so the highest goes first", ahead of those that
-- were free. "A record that leaves .. has its turn raised by one ... At turn 2^48-1 it is retired instead", "keeps its value and deadline"
pub record Cleared (s t : QueueWords) : Type 0 where
  pub size : count t ≡ count s
  pub clock : elapsed t ≡ 0
  pub empty : (p : ℕ) → p < free → (view t).lists p ≡ []
  pub freed : (view t).lists free ≡ falling (comes_back s) (count s) ++ (view s).lists free
  pub raised : (i : ℕ) → i < count s → comes_back s i ≡ true → (view t).turn i ≡ (view s).turn i + 1
  pub same : (i : ℕ) → (i < count s → comes_back s i ≡ false) → (view t).turn i ≡ (view s).turn i
  pub retired : (i p : ℕ) → At (view s) i p → (view s).turn i ≡ last_turn → (q : ℕ) → Mem i ((view t).lists q) → ⊥
  pub values : (view t).value ≡ (view s).value
  pub periods : (view t).period ≡ (view s).period
  pub deadlines : (view t).deadline ≡ (view s).deadline
