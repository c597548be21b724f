-- The words that the inspector works on, and the claim of `inspect_line`.
use Rattle.std.specs.Prelude.{◌≡◌, List, [], ◌∷◌, ◌++◌, map, ℕ, ◌+◌, ◌-◌, ◌^◌, min, length, take, drop}
use Rattle.lines.specs.Running.{Along}
use Rattle.inspector.specs.declared.State.{State}
use Rattle.inspector.specs.declared.State.TheVariants as S
use Rattle.inspector.specs.Log.{Timer, timer, Store, store}
use Rattle.inspector.specs.Verdict.{Right, Wrong, most}

-- keys, and place by place their deadlines
abbrev pub timers : List ℕ → List ℕ → List Timer
timers [] ds = []
timers (k ∷ ks) [] = []
timers (k ∷ ks) (d ∷ ds) = timer k d ∷ timers ks ds

-- the first n keys and deadlines are pending
abbrev pub held : ℕ → ℕ → List ℕ → List ℕ → Store
held n clock ks ds = store (timers (take n ks) (take n ds)) clock

-- 1,024, or fewer where a slice that was lent is shorter
abbrev pub room_of : List ℕ → List ℕ → ℕ
room_of ks ds = min most (min (length ks) (length ds))

-- what the words say, whatever n is
abbrev pub store_of : ℕ → ℕ → List ℕ → List ℕ → Store
store_of n clock ks ds = held (min n (room_of ks ds)) clock ks ds

abbrev pub keys_of : List Timer → List ℕ
keys_of p = map (λ (t : Timer). t.key) p

abbrev pub deadlines_of : List Timer → List ℕ
deadlines_of p = map (λ (t : Timer). t.deadline) p

-- l at the front of words, and behind it what stood there
abbrev pub over : List ℕ → List ℕ → List ℕ
over l ws = l ++ drop (length l) ws

-- a line more, as far as a u64 counts
abbrev pub counted : ℕ → ℕ
counted m = min (m + 1) (2 ^ 64 - 1)

-- the words, after m lines that were right: what the next line makes of them
pub record LineClaim (n clock m : ℕ) (ks ds l : List ℕ) (t : State) (ks' ds' : List ℕ) : Type 0 where
  pub right : (s : Store) → Right (room_of ks ds) l (store_of n clock ks ds) s
      → (t ≡ S.Good (length s.pending) s.clock (counted m))
      × (ks' ≡ over (keys_of s.pending) ks) × (ds' ≡ over (deadlines_of s.pending) ds)
  pub wrong : Wrong (room_of ks ds) l (store_of n clock ks ds) → (t ≡ S.Bad (counted m)) × (ks' ≡ ks) × (ds' ≡ ds)

-- and once a line was bad nothing changes any more
abbrev pub InspectClaim : State → List ℕ → List ℕ → List ℕ → State → List ℕ → List ℕ → Type 0
InspectClaim (S.Good n clock m) ks ds l t ks' ds' = LineClaim n clock m ks ds l t ks' ds'
InspectClaim (S.Bad m) ks ds l t ks' ds' = (t ≡ S.Bad m) × (ks' ≡ ks) × (ds' ≡ ds)

-- ---- many lines

-- what the lines so far have come to, and the words that are lent
pub record Words : Type 0 where
  pub state : State
  pub keys : List ℕ
  pub deadlines : List ℕ

abbrev pub words : State → List ℕ → List ℕ → Words
words t ks ds = record { state = t; keys = ks; deadlines = ds }

-- `inspect_line` was called for the line l
abbrev pub Inspected : List ℕ → Words → Words → Type 0
Inspected l w w' = InspectClaim w.state w.keys w.deadlines l w'.state w'.keys w'.deadlines

-- and for each of these lines
abbrev pub AllInspected : List (List ℕ) → Words → Words → Type 0
AllInspected = Along Inspected
