-- 02 [10], "A poll that can pause", over the lists of the places: a poll with a limit on moves. What stands between quotation
-- marks is its text.
use Rattle.std.specs.Prelude.{◌≡◌, List, [], ◌∷◌, cond, ℕ, suc, ◌-◌, ◌≤◌, ◌<◌, eqb}
use Rattle.std.proofs.Math.Option.{Option, none, some}
use Rattle.times.specs.Times.{start_at, block_end}
use Rattle.links.specs.Lists.{change}
use Rattle.places.specs.Places.{slot_place, parking, level_at, slot_at}
use Rattle.wheel.specs.Wheel.{Lists, FirstSlot, NextList, NoneWaits, arrive}

-- the answer of the whole poll, or "not yet", with the place whose drain is in hand
pub data Outcome : Type 0 where
  ended : Option ℕ → Outcome
  yet : ℕ → Outcome

-- where the list of p starts: a slot, or 02 [12]'s parking list, at "the next block's start"
unfoldable pub start : ℕ → ℕ → ℕ
start e p = cond (eqb p parking) (block_end e) (start_at e (level_at p) (slot_at p))

-- So many moves are allowed. From `none` it looks, as document 01's poll does (Wheel.antt); from `some p` it is inside the drain of p. The
-- outcome, the moves and drains of this call, elapsed and the lists after it
pub data Limited (d : ℕ → ℕ) (now : ℕ) : Option ℕ → ℕ → ℕ → Lists → Outcome → ℕ → ℕ → ℕ → Lists → Type 0 where
  rests : {b e : ℕ} {L : Lists} → NoneWaits L → Limited d now none b e L (ended none) 0 0 now L
  waits : {b e k p c : ℕ} {L : Lists} → NextList e L k p c → now < c → Limited d now none b e L (ended none) 0 0 now L
  hands : {b e s x : ℕ} {L : Lists} {l : List ℕ} → FirstSlot e L 0 s → start_at e 0 s ≤ now → L (slot_place 0 s) ≡ x ∷ l
      → Limited d now none b e L (ended (some x)) 0 0 e (change L (slot_place 0 s) l)
  finds : {b e k p c : ℕ} {L N : Lists} {o : Outcome} {m n e' : ℕ} → NextList e L (suc k) p c → c ≤ now
      → Limited d now (some p) b e L o m n e' N → Limited d now none b e L o m n e' N
  -- "it stops before the move that would exceed the limit and answers "not yet""
  stops : {e p x : ℕ} {L : Lists} {l : List ℕ} → L p ≡ x ∷ l → Limited d now (some p) 0 e L (yet p) 0 0 e L
  moves : {b e p x : ℕ} {L N : Lists} {l : List ℕ} {o : Outcome} {m n e' : ℕ} → L p ≡ x ∷ l
      → Limited d now (some p) b e (arrive (level_at p - 1) (d x) x (change L p l)) o m n e' N
      → Limited d now (some p) (suc b) e L o (suc m) n e' N
  -- "A drain is counted by the call that empties its slot"
  empties : {b e p : ℕ} {L N : Lists} {o : Outcome} {m n e' : ℕ} → L p ≡ []
      → Limited d now none b (start e p) L o m n e' N → Limited d now (some p) b e L o m (suc n) e' N
