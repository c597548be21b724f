-- An entry comes into a list or leaves it: the words stay whole, and the rows follow.
use mathlib.Core.Path.{◌≡◌, refl, sym, ap, ◌∙◌, subst}
use mathlib.Core.Logic.{◌≢◌, inl, by_cases}
use mathlib.Core.Bool.{true, false}
use mathlib.Core.List.{List, [], ◌∷◌, ◌++◌, nil≢cons}
use Prim.Native.Nat.{ℕ, ◌≤◌, ◌<◌}
use native.Mathlib.Decide.{ℕ_discrete}
use native.Mathlib.Omega.{arith}
use lib.ListN.{set}
use Rattle.times.specs.Times.{slot_of}
use Rattle.times.proofs.laws.Quotients.{slot_lt}
use Rattle.row.specs.Row.{flag_at}
use Rattle.links.specs.Lists.{nobody, Mem, without, change}
use Rattle.links.proofs.laws.Lists.{change_same}
use Rattle.links.specs.Links.{at, CanJoin}
use Rattle.places.specs.Places.{slot_place, slots, places, put}
use Rattle.places.proofs.laws.Places.{put_either}
use Rattle.places.specs.Words.{PlaceWords, push, pop, remove, head_at as headIn, CanRemove, CanPushSlot, CanPopSlot}
use Rattle.places.specs.Heads.{slot_head}
use Rattle.places.proofs.laws.Heads.{slot_head_lem}
use Rattle.places.specs.Whole as places
use Rattle.places.proofs.laws.Whole as place_laws
use Rattle.wheel.specs.Wheel.{arrive}
use Rattle.wheel.specs.Occupied.{filled, Occupied}
use Rattle.wheel.proofs.laws.Occupied.{flag_row, with_flag, flag_is, occupied_flagged, occupied_kept, occupied_aside}
use Rattle.wheel.specs.Words.{WheelWords, wheel_words, count, mark_of, lists, WheelWhole, Becomes, Arrives, CanAdd, Pops, CanPop, CanPush, CanLeave, Leaves}

abbrev pub head_at : WheelWords → ℕ → ℕ
head_at t p = headIn t.places p

-- one list changes, and the rows are those of the lists then
becomes : {t : WheelWords} {p : ℕ} {l : List ℕ} {u : PlaceWords} {occ : List ℕ} → places.Changes t.places p l u
    → Occupied occ (change (lists t) p l)
    → Becomes t (change (lists t) p l) (wheel_words t.elapsed occ u)
becomes C R = record { whole = record { places = C.whole; occupied = rw C.lists R }; lists = C.lists; elapsed = refl; kept = C.kept }

-- ---- an entry comes into a slot

module _ {t : WheelWords} {k i : ℕ} (C : CanAdd t k i) (w s : ℕ) (es : s ≡ slot_of w k) where
  pub add_slot : (k < 6) × (s < 64)
  add_slot = omega (arith, slot_lt w k)

  pub add_push : CanPushSlot t.places.heads t.places.links k s i
  add_push = place_laws.can_push_slot C.whole.places k s add_slot.0 add_slot.1 i C.item.below

put_filled : (p i : ℕ) (l : List ℕ) → true ≡ filled (put p i l)
put_filled p i l = put_either p i l (λ k. true ≡ filled k) refl (end l)
  where
    end : (k : List ℕ) → true ≡ filled (k ++ i ∷ [])
    end [] = refl
    end (x ∷ k) = refl

pub add_law : {t : WheelWords} {k i : ℕ} → CanAdd t k i → (w s : ℕ) {x : ℕ} {u : PlaceWords} → s ≡ slot_of w k
    → u ≡ push t.places (slot_place k s) i → x ≡ flag_row t.occupied k s true
    → Arrives t k w i (wheel_words t.elapsed (set t.occupied k x) u)
unfolding arrive
add_law {t} {k} {i} C w s es eu ex =
    let hs : s < 64 = omega (arith, slot_lt w k) in
    let p : ℕ = slot_place k s in
    rw (← es, ex) (becomes (rw eu (place_laws.push_law C.whole.places p i (omega arith) C.item.below C.item.loose))
    (occupied_flagged C.whole.occupied k s true (put p i (lists t p)) C.level hs (put_filled p i (lists t p))))

-- ---- an entry leaves its list, where l is left

module _ {t : WheelWords} (W : WheelWhole t) {p : ℕ} {l : List ℕ} {u : PlaceWords} (C : places.Changes t.places p l u) where
  left_list : places.lists u p ≡ l
  left_list = rw C.lists (change_same (lists t) p l)

  -- it is no slot
  pub left_aside : slots ≤ p → Becomes t (change (lists t) p l) (wheel_words t.elapsed t.occupied u)
  left_aside h = becomes C (occupied_aside W.occupied p l h)

  -- it still has a head
  pub left_some : filled (lists t p) ≡ true → headIn u p ≢ nobody
      → Becomes t (change (lists t) p l) (wheel_words t.elapsed t.occupied u)
  left_some f h =
      let r = place_laws.list_cons C.whole p h in
      becomes C (occupied_kept W.occupied p l (ap filled (sym left_list ∙ r.1) ∙ sym f))

  -- it has none, and its flag is cleared
  pub left_none : (k s : ℕ) {occ : List ℕ} → k < 6 → s < 64 → p ≡ slot_place k s → headIn u p ≡ nobody
      → occ ≡ with_flag t.occupied k s false
      → Becomes t (change (lists t) p l) (wheel_words t.elapsed occ u)
  left_none k s hk hs ep h eo =
      let e : l ≡ [] = sym left_list ∙ place_laws.list_empty C.whole p h in
      becomes C (rw (eo, ep) (occupied_flagged W.occupied k s false l hk hs (ap filled (sym e))))

-- ---- the head of a list leaves it

module _ {t : WheelWords} (W : WheelWhole t) (p item : ℕ) (ei : item ≡ head_at t p) {u : PlaceWords} (eu : u ≡ pop t.places p) where
  -- nobody was there
  pub popped_none : item ≡ nobody → Pops t p item (wheel_words t.elapsed t.occupied u)
  popped_none z =
      let e : lists t p ≡ [] = place_laws.list_empty W.places p (sym ei ∙ z) in
      let y : u ≡ t.places = eu ∙ (place_laws.pop_empty W.places p e).1 in
      record {
        none = λ g. (z, rw y (record { whole = W; lists = refl; elapsed = refl; kept = place_laws.kept_refl t.places }));
        some = λ x l g. absurd (nil≢cons (sym e ∙ g));
      }

  module _ (some : item ≢ nobody) where
    was : (l : List ℕ) × (lists t p ≡ item ∷ l)
    was = rw (← ei) at (place_laws.list_cons W.places p (λ z. some (ei ∙ z)))

    change_here : places.Changes t.places p was.0 u
    change_here = subst (places.Changes t.places p was.0) (sym eu) (place_laws.pop_law W.places p item was.0 was.1).1

    item_below : item < count t
    item_below = place_laws.member_below W.places p item (rw was.1 (inl refl))

    -- whatever occupied rows it is left with
    pops : {occ : List ℕ} → Becomes t (change (lists t) p was.0) (wheel_words t.elapsed occ u)
        → Pops t p item (wheel_words t.elapsed occ u)
    pops B =
        record {
          none = λ g. absurd (nil≢cons (sym g ∙ was.1));
          some = λ x l g.
              let e : item ∷ was.0 ≡ x ∷ l = sym was.1 ∙ g in
              let a : item ≡ x = cc in
              let b : was.0 ≡ l = cc in (
                a,
                rw (← a) (record {
                  below = omega (arith, item_below);
                  loose = rw eu (place_laws.pop_mark W.places p item was.0 was.1);
                }),
                rw b at B,
              );
        }

    -- p is no slot
    popped_aside : slots ≤ p → Pops t p item (wheel_words t.elapsed t.occupied u)
    popped_aside h = pops (left_aside W change_here h)

    -- more are left
    pub popped_more : headIn u p ≢ nobody → Pops t p item (wheel_words t.elapsed t.occupied u)
    popped_more h = pops (left_some W change_here (ap filled was.1) h)

    -- it was the last of slot s of level k, whose flag is set until now
    module _ (k s : ℕ) (hk : k < 6) (hs : s < 64) (ep : p ≡ slot_place k s) where
      pub popped_flag : flag_at (at t.occupied k) s ≡ true
      popped_flag = flag_is W.occupied k s hk hs ∙ rw (← ep) (ap filled was.1)

      pub popped_last : headIn u p ≡ nobody → {occ : List ℕ} → occ ≡ with_flag t.occupied k s false
          → Pops t p item (wheel_words t.elapsed occ u)
      popped_last h eo = pops (left_none W change_here k s hk hs ep h eo)

-- p is no slot
pub pops_aside : {t : WheelWords} → WheelWhole t → (p item : ℕ) → item ≡ head_at t p → {u : PlaceWords} → u ≡ pop t.places p → slots ≤ p
    → Pops t p item (wheel_words t.elapsed t.occupied u)
pops_aside W p item ei eu h = by_cases (ℕ_discrete item nobody) (popped_none W p item ei eu) (λ d. popped_aside W p item ei eu d h)

pub pop_asks : {t : WheelWords} {k s : ℕ} → CanPop t k s → CanPopSlot t.places.heads t.places.links k s
pop_asks {t} {k} {s} C = place_laws.can_pop_slot C.whole.places k s C.level C.slot

-- the three ways in the words of the code, which looks at the slot's head and at no place
module _ {t : WheelWords} {k s : ℕ} (C : CanPop t k s) {item : ℕ} (ei : item ≡ slot_head t.places.heads k s) {u : PlaceWords}
    (eu : u ≡ pop t.places (slot_place k s)) where
  head_here : (v : PlaceWords) → slot_head v.heads k s ≡ headIn v (slot_place k s)
  head_here v = slot_head_lem k s C.level C.slot v.tops v.heads

  pub slot_none : item ≡ nobody → Pops t (slot_place k s) item (wheel_words t.elapsed t.occupied u)
  slot_none z = popped_none C.whole (slot_place k s) item (ei ∙ head_here t.places) eu z

  module _ (some : item ≢ nobody) where
    pub slot_more : slot_head u.heads k s ≢ nobody → Pops t (slot_place k s) item (wheel_words t.elapsed t.occupied u)
    slot_more h = popped_more C.whole (slot_place k s) item (ei ∙ head_here t.places) eu some (λ z. h (head_here u ∙ z))

    pub slot_flag : flag_at (at t.occupied k) s ≡ true
    slot_flag = popped_flag C.whole (slot_place k s) item (ei ∙ head_here t.places) eu some k s C.level C.slot refl

    pub slot_last : slot_head u.heads k s ≡ nobody → {x : ℕ} → x ≡ flag_row t.occupied k s false
        → Pops t (slot_place k s) item (wheel_words t.elapsed (set t.occupied k x) u)
    slot_last h ex =
        popped_last C.whole (slot_place k s) item (ei ∙ head_here t.places) eu some k s C.level C.slot refl
        (sym (head_here u) ∙ h)
        (ap (set t.occupied k) ex)

-- ---- a record comes to a list that is no slot

pub push_aside : {t : WheelWords} {p i : ℕ} → CanPush t p i → {u : PlaceWords} → u ≡ push t.places p i
    → Becomes t (change (lists t) p (put p i (lists t p))) (wheel_words t.elapsed t.occupied u)
push_aside {t} {p} {i} C eu =
    left_aside C.whole (rw eu (place_laws.push_law C.whole.places p i C.place C.item.below C.item.loose)) C.aside

pub push_asks : {t : WheelWords} {p i : ℕ} → CanPush t p i → (p < places) × CanJoin t.places.links i (head_at t p)
push_asks {t} {p} {i} C = place_laws.can_push C.whole.places p i C.place C.item.below

-- ---- a record leaves whatever list it is in

pub leave_asks : {t : WheelWords} {i : ℕ} → CanLeave t i → CanRemove t.places i
leave_asks {t} {i} C = place_laws.can_remove C.whole.places i C.below C.listed

module _ {t : WheelWords} {i : ℕ} (C : CanLeave t i) {u : PlaceWords} (eu : u ≡ remove t.places i) where
  abbrev from : ℕ
  from = mark_of t i

  left_here : places.Changes t.places from (without i (lists t from)) u
  left_here = rw eu (place_laws.remove_law C.whole.places i C.below C.listed)

  was_filled : filled (lists t from) ≡ true
  was_filled = by (lists t from) (place_laws.marked_member C.whole.places i C.below C.listed)
    where
      by : (l : List ℕ) → Mem i l → filled l ≡ true
      by [] m = absurd m
      by (x ∷ l) m = refl

  leaves : {occ : List ℕ} → Becomes t (change (lists t) from (without i (lists t from))) (wheel_words t.elapsed occ u)
      → Leaves t i (wheel_words t.elapsed occ u)
  leaves B =
      record {
        item = record {
          below = omega arith;
          loose = rw eu (place_laws.remove_mark C.whole.places i C.below).0;
        };
        becomes = B;
      }

  pub leaves_aside : slots ≤ from → Leaves t i (wheel_words t.elapsed t.occupied u)
  leaves_aside h = leaves (left_aside C.whole left_here h)

  -- from a slot of level k
  module _ (k s : ℕ) (hk : k < 6) (hs : s < 64) (e : from ≡ slot_place k s) where
    head_there : headIn u from ≡ slot_head u.heads k s
    head_there = rw e (sym (slot_head_lem k s hk hs u.tops u.heads))

    pub leaves_more : slot_head u.heads k s ≢ nobody → Leaves t i (wheel_words t.elapsed t.occupied u)
    leaves_more h = leaves (left_some C.whole left_here was_filled (λ z. h (sym head_there ∙ z)))

    pub leaves_flag : flag_at (at t.occupied k) s ≡ true
    leaves_flag = flag_is C.whole.occupied k s hk hs ∙ rw e at was_filled

    pub leaves_last : slot_head u.heads k s ≡ nobody → {x : ℕ} → x ≡ flag_row t.occupied k s false
        → Leaves t i (wheel_words t.elapsed (set t.occupied k x) u)
    leaves_last h ex = leaves (left_none C.whole left_here k s hk hs e (head_there ∙ h) (ap (set t.occupied k) ex))
