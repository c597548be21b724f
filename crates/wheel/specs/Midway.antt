-- 02 [10]: "Soundness allows exactly the states that the rules of the poll in hand pass through, before, inside or between drains, in place
-- of 01's level rule between calls." The rule that a judge can test (`InHand`), and the states that a poll with a limit stops in (`Comes`),
-- which are the same (`midway_exactly`).
use Rattle.std.specs.Prelude.{◌≡◌, ◌≢◌, ◌⊎◌, List, [], ◌∷◌, ℕ, suc, ◌-◌, ◌≤◌, ◌<◌, max}
use Rattle.std.proofs.Math.Option.{none}
use Rattle.times.specs.Times.{slot_of, level_of, floor, block, NextBlock}
use Rattle.links.specs.Lists.{nobody}
use Rattle.places.specs.Places.{slot_place, parking, expired, level_at}
use Rattle.wheel.specs.Wheel.{Lists, Rule}
use Rattle.wheel.specs.Between.{Draining}
use Rattle.wheel.specs.Limited.{Outcome, start, Limited}

-- e is a multiple of the width of level k. Where it is a block's start, the drain of the parking list has begun the poll: nothing is
-- parked
abbrev pub Own : ℕ → ℕ → Lists → Type 0
Own k e L = (floor k e ≡ e) × (floor 6 e ≡ e → (0 < e) × (L parking ≡ []))

-- a poll at `until` is in hand, and its next step is the move of the head of p. Where p starts at elapsed itself, a drain of the list above
-- has filled it
pub record InHand (d : ℕ → ℕ) (until p e : ℕ) (L : Lists) : Type 0 where
  pub high : 0 < level_at p
  pub below : p < expired
  pub filled : (x : ℕ) × (l : List ℕ) × (L p ≡ x ∷ l)
  pub expired : L expired ≡ []
  pub late : e ≤ start e p
  pub due : start e p ≤ until
  pub rule : Draining d (level_at p - 1) p (start e p) L
  pub own : start e p ≡ e → Own (suc (level_at p)) e L

-- the rule that a wheel obeys: 01's between calls, or that of the poll at `until` whose drain of `hand` is in hand
pub record Obeys (d : ℕ → ℕ) (until hand e : ℕ) (L : Lists) : Type 0 where
  pub free : hand ≡ nobody → Rule d e L
  pub inside : hand ≢ nobody → InHand d until hand e L

-- a store between calls, nothing expired, from where a poll at now with some limit answers so and leaves this
pub record Comes (d : ℕ → ℕ) (now : ℕ) (o : Outcome) (e : ℕ) (L : Lists) : Type 0 where
  pub from : ℕ
  pub lists : Lists
  pub rule : Rule d from lists
  pub expired : lists expired ≡ []
  pub due : from ≤ now
  pub limit : ℕ
  pub moves : ℕ
  pub drains : ℕ
  pub polls : Limited d now none limit from lists o moves drains e L

-- ---- in numbers, a record at a time

-- a timer in the slot p with the deadline w: at the greater of low and its level at the clock c, in its slot there; or still in the slot h
-- whose drain is in hand, if its level is at most low. With no poll in hand low is 0, h is nobody and c is elapsed: 01's rule
-- (`belongs_wheel`)
pub record Belongs (low h c p w : ℕ) : Type 0 where
  pub late : c ≤ w
  pub near : block w ≡ block c
  pub place : (p ≡ slot_place (max low (level_of c w)) (slot_of w (max low (level_of c w)))) ⊎ ((p ≡ h) × (level_of c w ≤ low))

-- a parked timer with the deadline w: in the block after the clock c's, or, where the parking list is the one in hand, in that which
-- starts at c
pub record Parked (h c w : ℕ) : Type 0 where
  pub aside : h ≢ parking → NextBlock c w
  pub inside : h ≡ parking → block w ≡ block c
