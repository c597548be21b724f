-- The places, as numbers: "every record is in exactly one place (free, retired, expired stack or one slot)", or 02 [12]'s "one parking list". Retired
-- is a place and no list.
use Rattle.std.specs.Prelude.{cond, List, [], ◌∷◌, ◌++◌, ℕ, ◌+◌, ◌*◌, ◌/◌, ◌%◌, eqb}
use Rattle.links.specs.Lists.{nobody}

-- slot s of level k
abbrev pub slot_place : ℕ → ℕ → ℕ
slot_place k s = 64 * k + s

-- and back: the level and the slot of a place
abbrev pub level_at : ℕ → ℕ
level_at p = p / 64

abbrev pub slot_at : ℕ → ℕ
slot_at p = p % 64

-- the slots of the six levels lie below
abbrev pub slots : ℕ
slots = 384

-- 02 [12]: "Add one parking list .., height 6": as a number it would be a slot of a seventh level, and it is none
abbrev pub parking : ℕ
parking = 384

abbrev pub expired : ℕ
expired = 385

abbrev pub free : ℕ
free = 386

-- so many places have a list
abbrev pub places : ℕ
places = 387

-- "marks tell the true place": a retired record has this one, so that none that is in no list for another reason is taken for retired
abbrev pub retired : ℕ
retired = 387

-- the greatest height, that of a parked timer, and the most that the heights of all records come to
abbrev pub top_height : ℕ
top_height = 6

abbrev pub most_heights : ℕ
most_heights = top_height * nobody

-- where i comes into the list l of the place p, the only word that says it: "New entries and drained entries now join a list's tail", and the free
-- list alone has "freed ones last freed first"
unfoldable pub put : ℕ → ℕ → List ℕ → List ℕ
put p i l = cond (eqb p free) (i ∷ l) (l ++ i ∷ [])
