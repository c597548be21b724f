-- The first slot of the lowest level holds the least deadlines: all that lies elsewhere is later than all that lies in it, and so is its slot's start.
-- The same of the list that comes next, which may be the parking list.
use mathlib.Core.Path.{◌≡◌, refl, sym, ap, ◌∙◌, subst}
use mathlib.Core.Logic.{◌≢◌, inl, by_cases}
use mathlib.Core.List.{List, [], ◌∷◌, nil≢cons}
use Prim.Native.Nat.{ℕ, ◌+◌, ◌-◌, ◌*◌, ◌/◌, ◌%◌, ◌≤◌, ◌<◌}
use native.Mathlib.Nat.{lt_of_not-le}
use native.Mathlib.Decide.{dec_le, dec_lt, ℕ_discrete}
use native.Mathlib.Omega.{arith}
use Rattle.times.specs.Times.{width, slot_of, start_at, floor, Lies, NextBlock, block_end}
use Rattle.times.proofs.laws.Quotients.{quotient_le, slot_lt, lt_floor, floor_le, lies_late, lies_block, lies_start, lies_before}
use Rattle.times.proofs.laws.Blocks.{end_later, next_floor, lies_ends}
use Rattle.links.specs.Lists.{Mem}
use Rattle.places.specs.Places.{slot_place, slots, parking, expired, level_at, slot_at}
use Rattle.wheel.specs.Wheel.{Lists, FirstSlot, NextList, in_slot, in_parking, NoneWaits}
use Rattle.wheel.specs.Between.{Between}
use Rattle.wheel.proofs.laws.Between.{place_level, place_slot}

none_in : (y : ℕ) {l : List ℕ} → l ≡ [] → Mem y l → ⊥
none_in y e m = subst (Mem y) e m

-- ---- the slots of one level, from elapsed's on

-- how many slots on from elapsed's the deadline w lies
abbrev ahead : ℕ → ℕ → ℕ → ℕ
ahead k e w = w / width k - e / width k

module _ (k e w : ℕ) (l : Lies k e w) where
  ahead_lt : ahead k e w < 64
  ahead_lt = omega (arith, lies_block k e w l, quotient_le k (lies_late k e w l))

  ahead_slot : slot_of w k ≡ (slot_of e k + ahead k e w) % 64
  unfolding slot_of
  ahead_slot = omega (arith, lies_block k e w l, quotient_le k (lies_late k e w l))

  -- a slot that elapsed has passed is never occupied
  pub not_passed : slot_of e k ≤ slot_of w k
  unfolding slot_of
  not_passed = omega (arith, lies_block k e w l, quotient_le k (lies_late k e w l))

module _ {d : ℕ → ℕ} {e : ℕ} {L : Lists} (B : Between d e L) where
  -- what lies at a higher level is later than all that lies lower
  higher_later : (p x q y : ℕ) → p < slots → q < slots → Mem x (L p) → Mem y (L q) → level_at q < level_at p → d y < floor (level_at p) (d x)
  higher_later p x q y hp hq mx my h = lies_before (level_at q) e (d y) (B.spot q y hq my).lies (level_at p) (d x) h
      (B.later p x q y hp hq mx my h)

  module _ {k s : ℕ} (F : FirstSlot e L k s) where
    abbrev pub here : ℕ
    here = slot_place k s

    pub slot_below : s < 64
    slot_below = omega (arith, F.is)

    pub here_below : here < slots
    here_below = omega (arith, F.within, slot_below)

    here_level : here / 64 ≡ k
    here_level = place_level k s slot_below

    pub first_in : Mem F.head (L here)
    first_in = rw F.filled (inl refl)

    -- whatever lies in the slot lies at its level
    at_level : (x : ℕ) → Mem x (L here) → (s ≡ slot_of (d x) k) × Lies k e (d x)
    at_level x m =
        let p = B.spot here x here_below m in
        (sym (place_slot k s slot_below) ∙ p.slot ∙ ap (slot_of (d x)) here_level, subst (λ (j : ℕ). Lies j e (d x)) here_level p.lies)

    -- and its start is that deadline rounded down
    pub start_is : (x : ℕ) → Mem x (L here) → start_at e k s ≡ floor k (d x)
    start_is x m = let r = at_level x m in ap (start_at e k) r.0 ∙ lies_start k e (d x) r.1

    pub start_late : e ≤ start_at e k s
    start_late = omega (arith, start_is F.head first_in, (at_level F.head first_in).1.start)

    -- the steps to it
    steps_is : (x : ℕ) → Mem x (L here) → F.steps ≡ ahead k e (d x)
    steps_is x m =
        let r = at_level x m in
        omega (arith, F.is, F.near, r.0, ahead_slot k e (d x) r.1, ahead_lt k e (d x) r.1, slot_lt e k)

    module _ (q y : ℕ) (hq : q < slots) (my : Mem y (L q)) where
      -- no level below is occupied
      pub next_lowest : k ≤ level_at q
      next_lowest = by_cases (dec_le k (level_at q)) (λ h. h) (λ h. absurd (none_in y (F.lowest q (omega (arith, h))) my))

      -- of its level, no earlier slot
      no_earlier : level_at q ≡ k → F.steps ≤ ahead k e (d y)
      no_earlier h =
          let p = B.spot q y hq my in
          let l : Lies k e (d y) = subst (λ (j : ℕ). Lies j e (d y)) h p.lies in
          let t : slot_at q ≡ slot_of (d y) k = p.slot ∙ ap (slot_of (d y)) h in
          let w : q ≡ slot_place k ((slot_of e k + ahead k e (d y)) % 64) = omega (arith, h, t, ahead_slot k e (d y) l) in
          by_cases (dec_le F.steps (ahead k e (d y))) (λ g. g)
          (λ g. absurd (none_in y (ap L w ∙ F.passed (ahead k e (d y)) (lt_of_not-le g)) my))

      -- all that lies in another slot is later than all that lies here, and so is that slot's start
      pub next_before : (x : ℕ) → Mem x (L here) → q ≢ here → d x < floor (level_at q) (d y)
      unfolding slot_of
      next_before x mx n =
          by_cases (ℕ_discrete (level_at q) k)
          (λ (h : level_at q ≡ k).
          let p = B.spot q y hq my in
          let late : e / width k ≤ d y / width k = quotient_le k (lies_late (level_at q) e (d y) p.lies) in
          let t : slot_at q ≡ d y / width k % 64 = p.slot ∙ ap (λ (j : ℕ). d y / width j % 64) h in
          let r = at_level x mx in
          let late-x : e / width k ≤ d x / width k = quotient_le k (lies_late k e (d x) r.1) in
          rw h ((lt_floor k (d x) (d y)).0 (omega (arith, steps_is x mx, no_earlier h, t, r.0, n, h, late, late-x))))
          (λ h. higher_later q y here x hq here_below my mx (omega (arith, h, next_lowest, here_level)))

      -- nothing is due before the start of the slot
      pub next_not_before : start_at e k s ≤ floor (level_at q) (d y)
      next_not_before =
          by_cases (ℕ_discrete q here)
          (λ (h : q ≡ here).
          let m : Mem y (L here) = rw h at my in
          let z : floor (level_at q) (d y) ≡ floor k (d y) = ap (λ (j : ℕ). floor j (d y)) (ap (λ (p : ℕ). level_at p) h ∙ here_level) in
          omega (arith, start_is y m, z))
          (λ n. omega (arith, start_is F.head first_in, floor_le k (d F.head), next_before F.head first_in n))

      pub next_start : q ≢ here → start_at e k s < floor (level_at q) (d y)
      next_start n = omega (arith, start_is F.head first_in, floor_le k (d F.head), next_before F.head first_in n)

    -- and before the block ends
    pub start_ends : start_at e k s < block_end e
    start_ends =
        omega (arith, start_is F.head first_in, floor_le k (d F.head), lies_ends k e (d F.head) F.within (at_level F.head first_in).1)

  -- ---- the next list, by its place p and its start c

  -- what is no slot is the parking list
  parked_at : (q y : ℕ) → q < expired → (q < slots → ⊥) → Mem y (L q) → (q ≡ parking) × NextBlock e (d y) × (floor (level_at q) (d y) ≡ block_end e)
  parked_at q y hq n m =
      let z : q ≡ parking = omega (arith, hq, n) in
      let b : NextBlock e (d y) = B.parked y (rw z at m) in
      (z, b, ap (λ (j : ℕ). floor (level_at j) (d y)) z ∙ next_floor e (d y) b)

  pub list_late : {k p c : ℕ} → NextList e L k p c → e ≤ c
  list_late (in_slot F) = start_late F
  list_late (in_parking E is) = omega (arith, end_later e)

  -- it starts at the floor of whatever lies in it
  pub list_start : {k p c : ℕ} → NextList e L k p c → (x : ℕ) → Mem x (L p) → floor k (d x) ≡ c
  list_start (in_slot F) x m = sym (start_is F x m)
  list_start (in_parking E is) x m = next_floor e (d x) (B.parked x m)

  -- nothing lies lower, and what else there is starts later
  pub list_lowest : {k p c : ℕ} → NextList e L k p c → (q y : ℕ) → q < expired → Mem y (L q) → k ≤ level_at q
  list_lowest (in_slot F) q y hq m =
      by_cases (dec_lt q slots) (λ h. next_lowest F q y h m) (λ n. omega (arith, (parked_at q y hq n m).0, F.within))
  list_lowest (in_parking E is) q y hq m =
      by_cases (dec_lt q slots) (λ h. absurd (none_in y (E q h) m)) (λ n. omega (arith, (parked_at q y hq n m).0))

  pub list_later : {k p c : ℕ} → NextList e L k p c → (q y : ℕ) → q < expired → q ≢ p → Mem y (L q) → c < floor (level_at q) (d y)
  list_later (in_slot F) q y hq d m =
      by_cases (dec_lt q slots) (λ h. next_start F q y h m d) (λ n. omega (arith, start_ends F, (parked_at q y hq n m).2))
  list_later (in_parking E is) q y hq d m =
      by_cases (dec_lt q slots) (λ h. absurd (none_in y (E q h) m)) (λ n. absurd (d (parked_at q y hq n m).0))

  pub list_least : {k p c : ℕ} → NextList e L k p c → (q y : ℕ) → q < expired → Mem y (L q) → c ≤ floor (level_at q) (d y)
  list_least (in_slot F) q y hq m =
      by_cases (dec_lt q slots) (λ h. next_not_before F q y h m) (λ n. omega (arith, start_ends F, (parked_at q y hq n m).2))
  list_least (in_parking E is) q y hq m =
      by_cases (dec_lt q slots) (λ h. absurd (none_in y (E q h) m)) (λ n. omega (arith, (parked_at q y hq n m).2))

-- its place is one of its height, and somebody lies there
pub list_height : {e : ℕ} {L : Lists} {k p c : ℕ} → NextList e L k p c → (p / 64 ≡ k) × (p < expired)
list_height (in_slot {k} {s} F) = let h : s < 64 = omega (arith, F.is) in (place_level k s h, omega (arith, F.within, h))
list_height (in_parking E is) = omega arith

pub list_some : {e : ℕ} {L : Lists} {k p c : ℕ} → NextList e L k p c → (x : ℕ) × (l : List ℕ) × (L p ≡ x ∷ l)
list_some (in_slot F) = (F.head, F.rest, F.filled)
list_some (in_parking {x} {l} E is) = (x, l, is)

-- ---- there is one first slot only

module _ {e : ℕ} {L : Lists} where
  first_level : {k s j t : ℕ} → FirstSlot e L k s → FirstSlot e L j t → k ≤ j
  first_level {k} {s} {j} {t} F G =
      by_cases (dec_le k j) (λ h. h)
      (λ h.
      let a : slot_place j t < 64 * k = omega (arith, h, G.is) in
      let z : ◌≡◌ {A = List ℕ} [] (G.head ∷ G.rest) = sym (F.lowest (slot_place j t) a) ∙ G.filled in
      let w : ◌≡◌ {A = ℕ} 0 1 = cc in
      absurd (omega arith))

  first_steps : {k s t : ℕ} (F : FirstSlot e L k s) (G : FirstSlot e L k t) → F.steps ≤ G.steps
  first_steps {k} {s} {t} F G =
      by_cases (dec_le F.steps G.steps) (λ h. h)
      (λ h.
      let z : ◌≡◌ {A = List ℕ} [] (G.head ∷ G.rest) = sym (F.passed G.steps (lt_of_not-le h)) ∙ ap
      (λ (v : ℕ). L (slot_place k v)) (sym G.is) ∙ G.filled in
      let w : ◌≡◌ {A = ℕ} 0 1 = cc in
      absurd (omega arith))

  pub first_one : {k s j t : ℕ} → FirstSlot e L k s → FirstSlot e L j t → (k ≡ j) × (s ≡ t)
  first_one {k} {s} {j} {t} F G =
      let q : k ≡ j = omega (arith, first_level F G, first_level G F) in
      let H : FirstSlot e L k t = rw (sym q) at G in
      (q, omega (arith, F.is, H.is, first_steps F H, first_steps H F))

  pub first_not_empty : {k s : ℕ} → FirstSlot e L k s → ((q : ℕ) → q < slots → L q ≡ []) → ⊥
  first_not_empty {k} {s} F E =
      let z : ◌≡◌ {A = List ℕ} [] (F.head ∷ F.rest) = sym (E (slot_place k s) (omega (arith, F.is, F.within))) ∙ F.filled in
      let w : ◌≡◌ {A = ℕ} 0 1 = cc in
      omega arith

-- and one next list only, unless there is none: it has the height, the place and the start of any other
pub record SameList (k p c j q b : ℕ) : Type 0 where
  pub height : k ≡ j
  pub place : p ≡ q
  pub start : c ≡ b

module _ {e : ℕ} {L : Lists} where
  pub list_one : {k p c j q b : ℕ} → NextList e L k p c → NextList e L j q b → SameList k p c j q b
  list_one (in_slot F) (in_slot G) =
      let r = first_one F G in
      record { height = r.0; place = rw (r.0, r.1); start = rw (r.0, r.1) }
  list_one (in_slot F) (in_parking E is) = absurd (first_not_empty F E)
  list_one (in_parking E is) (in_slot F) = absurd (first_not_empty F E)
  list_one (in_parking E is) (in_parking E' is') = record { height = refl; place = refl; start = refl }

  pub list_not_none : {k p c : ℕ} → NextList e L k p c → NoneWaits L → ⊥
  list_not_none (in_slot F) N = first_not_empty F N.0
  list_not_none (in_parking E is) N = nil≢cons (sym N.1 ∙ is)
