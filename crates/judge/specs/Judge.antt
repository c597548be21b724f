-- The parts of soundness as they are judged, record by record, with and without a poll in hand.
use Rattle.std.specs.Prelude.{◌≡◌, ◌≢◌, List, ℕ, suc, ◌%◌, ◌^◌, ◌≤◌, ◌<◌, length}
use Rattle.times.specs.Times.{width}
use Rattle.links.specs.Lists.{nobody}
use Rattle.links.specs.Links.{at}
use Rattle.places.specs.Heads.{Shape}
use Rattle.places.specs.Places.{slots, parking, expired, places, retired, level_at}
use Rattle.wheel.specs.Limited.{start}
use Rattle.wheel.specs.Midway.{Belongs, Parked}
use Rattle.records.specs.Records.{last_turn}

-- ---- what types say

-- what the types of n, of occupied and of the heads say, which a contract over what is lent does not know
pub record Typed (n : ℕ) (occupied : List ℕ) (heads : List (List ℕ)) : Type 0 where
  pub few : n ≤ nobody
  pub six : length occupied ≡ 6
  pub shape : Shape heads

-- ---- the records

-- turn and deadline of a record, by its mark, where the list h of height low + 1, which starts at c, is drained; with no poll in hand low
-- is 0, h is nobody and c is elapsed
pub record RecordAgrees (low h c w t m : ℕ) : Type 0 where
  pub some : 0 < t
  pub last : t < 2 ^ 48
  pub wheel : m < slots → Belongs low h c m w
  pub parked : m ≡ parking → Parked h c w
  pub expired : m ≡ expired → w ≡ c
  pub retired : places ≤ m → (m ≡ retired) × (t ≡ last_turn)

abbrev pub RecordsAgree : ℕ → ℕ → ℕ → ℕ → List ℕ → List ℕ → List ℕ → Type 0
RecordsAgree low h c n ds ts ms = (i : ℕ) → i < n → RecordAgrees low h c (at ds i) (at ts i) (at ms i)

-- ---- a poll in hand

-- e is a multiple of the width of the level above; where it is a block's start, it is not 0 and nothing is parked, by the head of the
-- parking list
abbrev pub OwnStart : ℕ → ℕ → ℕ → Type 0
OwnStart k e parked = (e % width (suc k) ≡ 0) × (e % 2 ^ 36 ≡ 0 → (0 < e) × (parked ≡ nobody))

-- what is asked beside the records of a poll at `until` with the drain of p in hand, by the heads of p, of the expired stack and of the
-- parking list
pub record CanHold (e until p head first parked : ℕ) : Type 0 where
  pub below : p < expired
  pub high : 0 < level_at p
  pub filled : head ≢ nobody
  pub expired : first ≡ nobody
  pub late : e ≤ start e p
  pub due : start e p ≤ until
  pub own : start e p ≡ e → OwnStart (level_at p) e parked
