-- What next expiration and next wake say of the lists, and what they ask of the rows.
use Rattle.std.specs.Prelude.{◌≡◌, ◌≢◌, false, List, [], ◌∷◌, ℕ, ◌^◌, ◌<◌, length, Option, Some, None}
use Rattle.times.specs.Times.{slot_of, NextBlock}
use Rattle.row.specs.Row.{flag_at}
use Rattle.links.specs.Lists.{nobody}
use Rattle.links.specs.Links.{at}
use Rattle.places.specs.Places.{slot_place, parking, expired, level_at, slot_at}
use Rattle.wheel.specs.declared.Expiration.{Expiration}
use Rattle.wheel.specs.Wheel.{Lists, NextList, NoneWaits}
use Rattle.wheel.specs.Occupied.{Occupied}
use Rattle.wheel.specs.Limited.{start}

-- a slot that elapsed has passed is never occupied
pub record NotPassed (e : ℕ) (occ : List ℕ) : Type 0 where
  pub passed : (k s : ℕ) → k < 6 → s < slot_of e k → flag_at (at occ k) s ≡ false

-- what a look asks: the head of the parking list, if it has one, has a deadline
pub record CanLook (e : ℕ) (occ ds : List ℕ) (head : ℕ) : Type 0 where
  pub occupied : NotPassed e occ
  pub deadline : head ≢ nobody → head < length ds

-- and what it sees of the lists L: the occupied rows, and the head of the parking list, whose deadline lies in the next block
pub record Sees (d : ℕ → ℕ) (e : ℕ) (occ : List ℕ) (head : ℕ) (L : Lists) : Type 0 where
  pub occupied : Occupied occ L
  pub none : head ≡ nobody → L parking ≡ []
  pub some : head ≢ nobody → (l : List ℕ) × (L parking ≡ head ∷ l)
  pub block : head ≢ nobody → NextBlock e (d head)

-- what a call finds: the next list with its start, or nothing. The parking list is told as slot 0 of level 6
abbrev pub NextIs : ℕ → Lists → Option Expiration → Type 0
NextIs e L None = NoneWaits L
NextIs e L (Some x) = (x.slot < 64) × NextList e L x.level (slot_place x.level x.slot) x.deadline

-- what a poll asks before it goes on: a look's, or that the start of the list in hand is a u64
pub record CanGo (e : ℕ) (occ ds : List ℕ) (head hand : ℕ) : Type 0 where
  pub free : hand ≡ nobody → CanLook e occ ds head
  pub held : hand ≢ nobody → (hand < expired) × (start e hand < 2 ^ 64)

-- 02 [10]: the list whose drain is in hand, with its start
abbrev pub HandIs : ℕ → ℕ → Option Expiration → Type 0
HandIs e hand None = ⊥
HandIs e hand (Some x) = (x.level ≡ level_at hand) × (x.slot ≡ slot_at hand) × (x.deadline ≡ start e hand)

-- where a poll goes on: with that list, and with none in hand at the next one
pub record GoesTo (d : ℕ → ℕ) (e : ℕ) (occ : List ℕ) (head hand : ℕ) (r : Option Expiration) : Type 0 where
  pub free : hand ≡ nobody → (L : Lists) → Sees d e occ head L → NextIs e L r
  pub held : hand ≢ nobody → HandIs e hand r

-- "Next wake is `poll_at`: nothing for an empty wheel, else the start of the first slot as above." 02 [12]: "A wake with only
-- parked timers is the block start."
abbrev pub WakeIs : ℕ → Lists → Option ℕ → Type 0
WakeIs e L None = NoneWaits L
WakeIs e L (Some t) = (k : ℕ) × (p : ℕ) × NextList e L k p t
