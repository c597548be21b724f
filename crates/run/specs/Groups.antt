-- A command as four words, and an answer as six.
use Rattle.std.specs.Prelude.{◌≡◌, List, [], ◌∷◌, ◌++◌, ℕ, ◌+◌, take, drop, Option, Some, None}
use Rattle.queue.specs.Told.{Told}
use Rattle.queue.specs.Told as T
use Rattle.delay_queue.specs.declared.Call.{Call}
use Rattle.delay_queue.specs.declared.Call.TheVariants as C

-- ---- commands

-- the kind, and the numbers of the call in the papers' order, with 0 behind them. 02 [9]: "Kinds: 1 format (N, turn), 2 insert (value, when),
-- 3 reset (key, when), 4 remove (key, 0), 5 poll (now, 0), 6 clear"; an insert has its period behind it; 02 [10]: "kind 11 (now, limit)"; 12 and 13
-- are the calls that change nothing, next wake and length
abbrev pub command_words : Call → List ℕ
command_words (C.Format n turn) = 1 ∷ n ∷ turn ∷ 0 ∷ []
command_words (C.Insert value when period) = 2 ∷ value ∷ when ∷ period ∷ []
command_words (C.Reset key when) = 3 ∷ key ∷ when ∷ 0 ∷ []
command_words (C.Remove key) = 4 ∷ key ∷ 0 ∷ 0 ∷ []
command_words (C.Poll now) = 5 ∷ now ∷ 0 ∷ 0 ∷ []
command_words C.Clear = 6 ∷ 0 ∷ 0 ∷ 0 ∷ []
command_words (C.PollSome now limit) = 11 ∷ now ∷ limit ∷ 0 ∷ []
command_words C.Wake = 12 ∷ 0 ∷ 0 ∷ 0 ∷ []
command_words C.Length = 13 ∷ 0 ∷ 0 ∷ 0 ∷ []

-- ---- answers

-- which answer it is, in the order of 01's list with the later ones behind it, and its numbers, with 0 behind them
abbrev pub answer_words : Told → List ℕ
answer_words T.ok = 0 ∷ 0 ∷ 0 ∷ 0 ∷ 0 ∷ 0 ∷ []
answer_words (T.key k) = 1 ∷ k ∷ 0 ∷ 0 ∷ 0 ∷ 0 ∷ []
answer_words (T.gone v d) = 2 ∷ v ∷ d ∷ 0 ∷ 0 ∷ 0 ∷ []
answer_words (T.out k v d m n) = 3 ∷ k ∷ v ∷ d ∷ m ∷ n ∷ []
answer_words (T.last k v d m n) = 4 ∷ k ∷ v ∷ d ∷ m ∷ n ∷ []
answer_words (T.none m n) = 5 ∷ m ∷ n ∷ 0 ∷ 0 ∷ 0 ∷ []
answer_words (T.wake t) = 6 ∷ t ∷ 0 ∷ 0 ∷ 0 ∷ 0 ∷ []
answer_words T.never = 7 ∷ 0 ∷ 0 ∷ 0 ∷ 0 ∷ 0 ∷ []
answer_words (T.len n) = 8 ∷ n ∷ 0 ∷ 0 ∷ 0 ∷ 0 ∷ []
answer_words (T.no n) = 9 ∷ n ∷ 0 ∷ 0 ∷ 0 ∷ 0 ∷ []
answer_words (T.yet m n) = 10 ∷ m ∷ n ∷ 0 ∷ 0 ∷ 0 ∷ []

-- ---- what the parts of the crate find and leave

-- the words g are those of a call, or of none
pub record GroupIs (g : List ℕ) (r : Option Call) : Type 0 where
  pub asks : (c : Call) → r ≡ Some c → g ≡ command_words c
  pub not : r ≡ None → (c : Call) → g ≡ command_words c → ⊥

-- the call, just where the three words are 0
pub record BlankIs (x y z : ℕ) (c : Call) (r : Option Call) : Type 0 where
  pub asks : (d : Call) → r ≡ Some d → (d ≡ c) × (x ≡ 0) × (y ≡ 0) × (z ≡ 0)
  pub not : r ≡ None → x ≡ 0 → y ≡ 0 → z ≡ 0 → ⊥

-- the words w stand in t from i on, and else t is s
unfoldable pub Written : ℕ → List ℕ → List ℕ → List ℕ → Type 0
Written i w s t = t ≡ take i s ++ w ++ drop (i + 6) s
