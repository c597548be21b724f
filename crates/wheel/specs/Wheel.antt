-- The wheel as document 01 has it, over the lists of the places. What stands between quotation marks is its text.
use Rattle.std.specs.Prelude.{◌≡◌, List, [], ◌∷◌, ℕ, suc, ◌+◌, ◌*◌, ◌%◌, ◌≤◌, ◌<◌}
use Rattle.std.proofs.Math.Option.{Option, none, some}
use Rattle.times.specs.Times.{slot_of, start_at, level_of, block, NextBlock, block_end}
use Rattle.links.specs.Lists.{Mem, change}
use Rattle.places.specs.Places.{slot_place, slots, parking, expired, put}

-- the list of each place; a place below `slots` is slot p % 64 of level p / 64
abbrev pub Lists : Type 0
Lists = ℕ → List ℕ

-- ---- where timers lie

-- the slot where a deadline w belongs at elapsed e: "at level(e, w) in its slot there"
unfoldable pub place_for : ℕ → ℕ → ℕ
place_for e w = slot_place (level_of e w) (slot_of w (level_of e w))

-- ".. with w at least e and floor(w/2^36) equal to floor(e/2^36)"
pub record OnWheel (p e w : ℕ) : Type 0 where
  pub place : p ≡ place_for e w
  pub late : e ≤ w
  pub near : block w ≡ block e

-- "Between calls, a timer on the wheel at deadline w lies at level(e, w) in its slot there ..; expired ones all have deadline e."
-- 02 [12]: "one parking list for deadlines in the next block"
pub record Rule (d : ℕ → ℕ) (e : ℕ) (L : Lists) : Type 0 where
  pub wheel : (p x : ℕ) → p < slots → Mem x (L p) → OnWheel p e (d x)
  pub parked : (x : ℕ) → Mem x (L parking) → NextBlock e (d x)
  pub expired : (x : ℕ) → Mem x (L expired) → d x ≡ e

-- ---- the next slot

-- "the lowest non-empty level and its first occupied slot from elapsed on": slot s of level k, some steps on from elapsed's, round the 64
pub record FirstSlot (e : ℕ) (L : Lists) (k s : ℕ) : Type 0 where
  pub within : k < 6
  pub lowest : (q : ℕ) → q < 64 * k → L q ≡ []
  pub steps : ℕ
  pub near : steps < 64
  pub is : s ≡ (slot_of e k + steps) % 64
  pub passed : (j : ℕ) → j < steps → L (slot_place k ((slot_of e k + j) % 64)) ≡ []
  pub head : ℕ
  pub rest : List ℕ
  pub filled : L (slot_place k s) ≡ head ∷ rest

-- "An empty wheel"
abbrev pub EmptyWheel : Lists → Type 0
EmptyWheel L = (q : ℕ) → q < slots → L q ≡ []

-- ---- the next list

-- what comes next: the list of the place p, of height k, which starts at c. It is the first slot, or 02 [12]'s
-- parking list, "When nothing else is pending"
pub data NextList (e : ℕ) (L : Lists) : ℕ → ℕ → ℕ → Type 0 where
  in_slot : {k s : ℕ} → FirstSlot e L k s → NextList e L k (slot_place k s) (start_at e k s)
  in_parking : {x : ℕ} {l : List ℕ} → EmptyWheel L → L parking ≡ x ∷ l → NextList e L 6 parking (block_end e)

-- nothing does: neither a slot nor the parking list holds anything
abbrev pub NoneWaits : Lists → Type 0
NoneWaits L = EmptyWheel L × (L parking ≡ [])

-- ---- a drain

-- x, with the deadline w, joins its slot of level k
unfoldable pub arrive : ℕ → ℕ → ℕ → Lists → Lists
arrive k w x L = let q = slot_place k (slot_of w k) in change L q (put q x (L q))

-- "the slot is drained: each entry, from the head, is moved" to "its slot one level down (one move each)", and "drained entries now join a list's
-- tail": p is a list of height k + 1, a slot or, 02 [12], the parking list: "each entry is moved once, to level 5"
pub data Drains (d : ℕ → ℕ) (k p : ℕ) : Lists → ℕ → Lists → Type 0 where
  drained : {L : Lists} → L p ≡ [] → Drains d k p L 0 L
  moved : {L M : Lists} {m x : ℕ} {l : List ℕ} → L p ≡ x ∷ l → Drains d k p (arrive k (d x) x (change L p l)) m M → Drains d k p L (suc m) M

-- ---- a poll of the wheel: what it hands out, its moves, its drains, elapsed and the lists after it

pub data Polls (d : ℕ → ℕ) (now : ℕ) : ℕ → Lists → Option ℕ → ℕ → ℕ → ℕ → Lists → Type 0 where
  -- "An empty wheel or a slot start past now ends it: nothing handed out, elapsed becomes now."
  idle : {e : ℕ} {L : Lists} → NoneWaits L → Polls d now e L none 0 0 now L
  early : {e k p c : ℕ} {L : Lists} → NextList e L k p c → now < c → Polls d now e L none 0 0 now L
  -- "At level 0 the head is handed out and elapsed is not set."
  out : {e s x : ℕ} {L : Lists} {l : List ℕ} → FirstSlot e L 0 s → start_at e 0 s ≤ now → L (slot_place 0 s) ≡ x ∷ l
      → Polls d now e L (some x) 0 0 e (change L (slot_place 0 s) l)
  -- "At a higher level the slot is drained ..; elapsed becomes the slot start; it looks again." 02 [12]: "When .. the
  -- next block's start is at most now, poll drains it (one drain): each entry is moved once, to level 5, and elapsed becomes that start."
  drain : {e k p c m : ℕ} {L M : Lists} {got : Option ℕ} {moves drains e' : ℕ} {N : Lists} → NextList e L (suc k) p c → c ≤ now
      → Drains d k p L m M → Polls d now c M got moves drains e' N
      → Polls d now e L got (m + moves) (suc drains) e' N
