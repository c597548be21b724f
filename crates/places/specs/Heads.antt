-- The heads of the places: six times 64 for the slots, and the three of `Tops`.
use Rattle.std.specs.Prelude.{◌≡◌, List, [], cond, ℕ, ◌/◌, ◌%◌, ◌<◌, length, get_or, set, eqb, ltb}
use Rattle.links.specs.Lists.{nobody}
use Rattle.places.specs.declared.Tops.{Tops}
use Rattle.places.specs.Places.{slots, parking, expired, free}

-- the head of slot s of level k, and the heads with v there
abbrev pub slot_head : List (List ℕ) → ℕ → ℕ → ℕ
slot_head hh k s = get_or (get_or hh k []) s 0

abbrev pub with_slot_head : List (List ℕ) → ℕ → ℕ → ℕ → List (List ℕ)
with_slot_head hh k s v = set hh k (set (get_or hh k []) s v)

-- the head of the place p; a number that is no place has none
unfoldable pub head_of : Tops → List (List ℕ) → ℕ → ℕ
head_of st hh p =
    cond (ltb p slots) (slot_head hh (p / 64) (p % 64))
    (cond (eqb p parking) st.parking (cond (eqb p expired) st.expired (cond (eqb p free) st.free nobody)))

-- the heads with v at the slot p
abbrev pub set_slot : List (List ℕ) → ℕ → ℕ → List (List ℕ)
set_slot hh p v = with_slot_head hh (p / 64) (p % 64) v

-- v as the head of the place p
unfoldable pub heads_with : List (List ℕ) → ℕ → ℕ → List (List ℕ)
heads_with hh p v = cond (ltb p slots) (set_slot hh p v) hh

abbrev pub tops_by : ℕ → ℕ → ℕ → ℕ → Tops
tops_by n x f p = record { n = n; expired = x; free = f; parking = p }

unfoldable pub tops_with : Tops → ℕ → ℕ → Tops
tops_with st p v =
    cond (ltb p slots) st (cond (eqb p parking) (tops_by st.n st.expired st.free v)
    (cond (eqb p expired) (tops_by st.n v st.free st.parking) (tops_by st.n st.expired v st.parking)))

-- six times 64
pub record Shape (hh : List (List ℕ)) : Type 0 where
  pub six : length hh ≡ 6
  pub wide : (k : ℕ) → k < 6 → length (get_or hh k []) ≡ 64
