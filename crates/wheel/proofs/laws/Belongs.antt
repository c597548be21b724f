-- How a judge tests the rule of a poll in hand, record by record: one test for stores with and without one.
use mathlib.Core.Path.{◌≡◌, refl, sym, ap, ◌∙◌, subst}
use mathlib.Core.Logic.{◌≢◌, ◌↔◌, inl, inr, ⊎_elim, by_cases}
use mathlib.Core.List.{List, [], ◌∷◌}
use Prim.Native.Nat.{ℕ, suc, ◌-◌, ◌/◌, ◌%◌, ◌^◌, ◌≤◌, ◌<◌, max}
use native.Mathlib.Nat.{div-add-mod'}
use native.Mathlib.Decide.{dec_le, dec_lt, ℕ_discrete}
use native.Mathlib.Omega.{arith}
use Rattle.times.specs.Times.{width, slot_of, level_of, floor, Lies, block, NextBlock}
use Rattle.times.proofs.laws.Quotients.{slot_lt, floor_quotient, agree_above, lies_late, lies_agree, lies_block, lies_down}
use Rattle.times.proofs.laws.Levels.{level_is, block_six}
use Rattle.links.specs.Lists.{Mem}
use Rattle.places.specs.Places.{slot_place, slots, parking, expired}
use Rattle.wheel.specs.Wheel.{Lists, place_for, OnWheel}
use Rattle.wheel.specs.Between.{Spot, Draining}
use Rattle.wheel.proofs.laws.Between.{place_level, place_slot, on_spot, spot_on}
use Rattle.wheel.specs.Limited.{start}
use Rattle.wheel.specs.Midway.{InHand, Belongs, Parked}
use Rattle.wheel.proofs.laws.Midway.{list_floor, list_slot, floor_same}

-- a record in the slot q with the deadline w, where the list h of height k + 1, which starts at c, is drained
pub record Fits (k h c q w : ℕ) : Type 0 where
  pub spot : Spot q c w
  pub low : k ≤ q / 64
  pub hand : q ≡ h → floor (suc k) w ≡ c
  pub later : q ≢ h → k < q / 64 → c < floor (q / 64) w

-- and one that is parked
pub record FitsParked (k h c w : ℕ) : Type 0 where
  pub hand : h ≡ parking → floor (suc k) w ≡ c
  pub parked : h ≢ parking → NextBlock c w

pub draining_fits : {d : ℕ → ℕ} {k h c : ℕ} {L : Lists} → h < expired
    → Draining d k h c L ↔ (((q y : ℕ) → q < slots → Mem y (L q) → Fits k h c q (d y)) × ((y : ℕ) → Mem y (L parking) → FitsParked k h c (d y)))
draining_fits {d} {k} {h} {c} {L} hh = (
  λ D. (
    λ q y hq m. record {
      spot = D.spot q y hq m;
      low = D.low q y hq m;
      hand = λ (e : q ≡ h). D.hand y (rw e at m);
      later = λ n u. D.later q y hq n m u;
    },
    λ y m. record { hand = λ (e : h ≡ parking). D.hand y (rw e m); parked = λ n. D.parked y n m },
  ),
  λ f. record {
    spot = λ q y hq m. (f.0 q y hq m).spot;
    hand = λ y m.
        by_cases (dec_lt h slots) (λ a. (f.0 h y a m).hand refl)
        (λ a. let z : h ≡ parking = omega (arith, hh, a) in (f.1 y (rw z at m)).hand z);
    low = λ q y hq m. (f.0 q y hq m).low;
    later = λ q y hq n m u. (f.0 q y hq m).later n u;
    parked = λ y n m. (f.1 y m).parked n;
  },
)

-- that is the judge's test, where c is a multiple of the width
pub parked_fits : (k h c w : ℕ) → h / 64 ≡ suc k → floor (suc k) c ≡ c → FitsParked k h c w ↔ Parked h c w
parked_fits k h c w lv hc = (
  λ F. record { aside = F.parked; inside = λ e. sym (block_six w) ∙ whole_same (six e) (F.hand e) ∙ block_six c },
  λ J. record { hand = λ e. floor_same (suc k) w c (as_width (six e) (block_six w ∙ J.inside e ∙ sym (block_six c))) ∙ hc; parked = J.aside },
)
  where
    six : h ≡ parking → suc k ≡ 6
    six e = omega (arith, lv, e)

    as_width : suc k ≡ 6 → w / width 6 ≡ c / width 6 → w / width (suc k) ≡ c / width (suc k)
    as_width j q = rw j q

    whole_same : suc k ≡ 6 → floor (suc k) w ≡ c → w / width 6 ≡ c / width 6
    whole_same j q = sym (floor_quotient 6 w) ∙ ap (λ (n : ℕ). n / width 6) (ap (λ (n : ℕ). floor n w) (sym j) ∙ q)

-- the level of w at c is at most k exactly where they agree above k
level_agree : (c w k : ℕ) → k < 6 → block w ≡ block c → level_of c w ≤ k → w / width (suc k) ≡ c / width (suc k)
level_agree c w k h n l =
    by_cases (ℕ_discrete (suc k) 6)
    (λ (z : suc k ≡ 6). rw z (block_six w ∙ n ∙ sym (block_six c)))
    (λ z. sym ((level_is c w).above (suc k) (omega (arith, l)) (omega (arith, h, z))))

agree_level : (c w k : ℕ) → w / width (suc k) ≡ c / width (suc k) → level_of c w ≤ k
agree_level c w k e =
    by_cases (dec_le (level_of c w) k) (λ h. h)
    (λ h. absurd ((level_is c w).differ (omega (arith, h)) (sym (agree_above w c (suc k) e (level_of c w) (omega (arith, h))))))

module _ (k h c q w : ℕ) (lv : h / 64 ≡ suc k) (hh : h < expired) (hc : floor (suc k) c ≡ c) (hs : h < slots → slot_of c (suc k) ≡ h % 64) (hq : q < slots) where
  abbrev lev : ℕ
  lev = level_of c w

  pub fits_belongs : Fits k h c q w → Belongs k h c q w
  unfolding place_for
  fits_belongs F =
      record {
        late = lies_late (q / 64) c w F.spot.lies;
        near = sym (block_six w) ∙ lies_agree (q / 64) c w F.spot.lies 6 (omega arith) ∙ block_six c;
        place = by_cases (ℕ_discrete q h)
            (λ e. inr (e, agree_level c w k (lies_down k c w (F.hand e)).above))
            (λ n. inl (by_cases (ℕ_discrete (q / 64) k) at_low (λ u. above n (omega (arith, u, F.low)))));
      }
    where
      at_low : q / 64 ≡ k → q ≡ slot_place (max k lev) (slot_of w (max k lev))
      at_low u =
          let l : lev ≤ k = agree_level c w k (subst (λ (n : ℕ). w / width (suc n) ≡ c / width (suc n)) u F.spot.lies.above) in
          let m : k ≡ max k lev = omega (arith, l) in
          let a : q % 64 ≡ slot_of w k = F.spot.slot ∙ ap (slot_of w) u in
          subst (λ (n : ℕ). q ≡ slot_place n (slot_of w n)) m (omega (arith, a, u))

      above : q ≢ h → k < q / 64 → q ≡ slot_place (max k lev) (slot_of w (max k lev))
      above n u =
          let O = spot_on q c w hq F.spot (λ z. F.later n u) in
          let a : q ≡ slot_place lev (slot_of w lev) = O.place in
          let m : lev ≡ max k lev = omega (arith, a, u, slot_lt w lev) in
          subst (λ (n : ℕ). q ≡ slot_place n (slot_of w n)) m a

  pub belongs_fits : Belongs k h c q w → Fits k h c q w
  unfolding place_for slot_of
  belongs_fits J = ⊎_elim (λ a. by_cases (dec_le lev k) (at_low a) (above a)) in_hand J.place
    where
      floor_w : w / width (suc k) ≡ c / width (suc k) → floor (suc k) w ≡ c
      floor_w a = floor_same (suc k) w c a ∙ hc

      in_hand : (q ≡ h) × (lev ≤ k) → Fits k h c q w
      in_hand z =
          let e : q ≡ h = z.0 in
          let v : q / 64 ≡ suc k = ap (λ (n : ℕ). n / 64) e ∙ lv in
          let a : w / width (suc k) ≡ c / width (suc k) = level_agree c w k (omega (arith, lv, hh)) J.near z.1 in
          let f = floor_w a in
          record {
            spot = record {
              slot = ap (λ (n : ℕ). n % 64) e ∙ sym (hs (omega (arith, hq, e))) ∙ ap (λ (n : ℕ). n % 64) (sym a) ∙ ap (slot_of w) (sym v);
              lies = subst (λ (n : ℕ). Lies n c w) (sym v) (record { above = agree_above w c (suc k) a (suc (suc k)) (omega arith); start = omega (arith, f) });
            };
            low = omega (arith, v);
            hand = λ g. f;
            later = λ n u. absurd (n e);
          }

      at_low : q ≡ slot_place (max k lev) (slot_of w (max k lev)) → lev ≤ k → Fits k h c q w
      at_low p l =
          let m : max k lev ≡ k = omega (arith, l) in
          let p' : q ≡ slot_place k (slot_of w k) = subst (λ (n : ℕ). q ≡ slot_place n (slot_of w n)) m p in
          let v : q / 64 ≡ k = ap (λ (n : ℕ). n / 64) p' ∙ place_level k (slot_of w k) (slot_lt w k) in
          let s : q % 64 ≡ slot_of w k = ap (λ (n : ℕ). n % 64) p' ∙ place_slot k (slot_of w k) (slot_lt w k) in
          let a : w / width (suc k) ≡ c / width (suc k) = level_agree c w k (omega (arith, lv, hh)) J.near l in
          record {
            spot = record { slot = s ∙ ap (slot_of w) (sym v); lies = subst (λ (n : ℕ). Lies n c w) (sym v) (lies_down k c w (floor_w a)) };
            low = omega (arith, v);
            hand = λ g. absurd (omega (arith, v, lv, ap (λ (n : ℕ). n / 64) g));
            later = λ n u. absurd (omega (arith, u, v));
          }

      above : q ≡ slot_place (max k lev) (slot_of w (max k lev)) → (lev ≤ k → ⊥) → Fits k h c q w
      above p l =
          let m : max k lev ≡ lev = omega (arith, l) in
          let p' : q ≡ slot_place lev (slot_of w lev) = subst (λ (n : ℕ). q ≡ slot_place n (slot_of w n)) m p in
          let v : q / 64 ≡ lev = ap (λ (n : ℕ). n / 64) p' ∙ place_level lev (slot_of w lev) (slot_lt w lev) in
          let O = on_spot q c w (record { place = p'; late = J.late; near = J.near }) in
          let ah : c < floor (q / 64) w = O.1 (omega (arith, l, v)) in
          record {
            spot = O.0;
            low = omega (arith, l, v);
            hand = λ g. not_hand O.0 g;
            later = λ n u. ah;
          }
        where
          not_hand : Spot q c w → q ≡ h → floor (suc k) w ≡ c
          not_hand S g =
              let v : q / 64 ≡ suc k = ap (λ (n : ℕ). n / 64) g ∙ lv in
              let b : w / width (suc k) / 64 ≡ c / width (suc k) / 64 = lies_block (suc k) c w (subst (λ (n : ℕ). Lies n c w) v S.lies) in
              let t : w / width (suc k) % 64 ≡ c / width (suc k) % 64
              = ap (λ (n : ℕ). w / width n % 64) (sym v) ∙ sym S.slot ∙ ap (λ (n : ℕ). n % 64) g ∙ sym (hs (omega (arith, hq, g))) in
              floor_w (omega (arith, b, t))

-- without a poll in hand: 01's rule
pub belongs_wheel : (h e q w : ℕ) → q < slots → slots ≤ h → OnWheel q e w ↔ Belongs 0 h e q w
unfolding place_for
belongs_wheel h e q w hq hh = (
  λ O. record { late = O.late; near = O.near; place = inl (subst (λ (n : ℕ). q ≡ slot_place n (slot_of w n)) (by (level_of e w)) O.place) },
  λ J. record {
    place = ⊎_elim (λ a. subst (λ (n : ℕ). q ≡ slot_place n (slot_of w n)) (sym (by (level_of e w))) a) (λ a. absurd (omega (arith, hq, hh, a.0))) J.place;
    late = J.late;
    near = J.near;
  },
)
  where
    by : (n : ℕ) → n ≡ max 0 n
    by n = omega arith

-- a multiple of the width
pub floor_mod : (k e : ℕ) → (floor k e ≡ e) ↔ (e % width k ≡ 0)
unfolding floor
floor_mod k e = (λ h. omega (arith, h, div-add-mod' e (width k)), λ h. omega (arith, h, div-add-mod' e (width k)))

-- what a judge tests of a poll in hand, in numbers
pub record HandTests (d : ℕ → ℕ) (until p e : ℕ) (L : Lists) : Type 0 where
  pub high : 0 < p / 64
  pub below : p < expired
  pub filled : (x : ℕ) × (l : List ℕ) × (L p ≡ x ∷ l)
  pub expired : L expired ≡ []
  pub late : e ≤ start e p
  pub due : start e p ≤ until
  pub each : (q y : ℕ) → q < slots → Mem y (L q) → Belongs (p / 64 - 1) p (start e p) q (d y)
  pub parked : (y : ℕ) → Mem y (L parking) → Parked p (start e p) (d y)
  pub own : start e p ≡ e → (e % width (suc (p / 64)) ≡ 0) × (e % 2 ^ 36 ≡ 0 → (0 < e) × (L parking ≡ []))

block_mod : (e : ℕ) → e % width 6 ≡ e % 2 ^ 36
unfolding width
block_mod e = refl

pub hand_tests : (d : ℕ → ℕ) (until p e : ℕ) (L : Lists) → InHand d until p e L ↔ HandTests d until p e L
hand_tests d until p e L = (
  λ H. let q = lev H.high in let F = (draining_fits H.below).0 H.rule in record {
    high = H.high;
    below = H.below;
    filled = H.filled;
    expired = H.expired;
    late = H.late;
    due = H.due;
    each = λ r y hr m. fits_belongs (p / 64 - 1) p (start e p) r (d y) q H.below (whole q H.below) (slot q) hr (F.0 r y hr m);
    parked = λ y m. (parked_fits (p / 64 - 1) p (start e p) (d y) q (whole q H.below)).0 (F.1 y m);
    own = λ z. ((floor_mod (suc (p / 64)) e).0 (H.own z).0, λ w. (H.own z).1 ((floor_mod 6 e).1 (block_mod e ∙ w)));
  },
  λ T. let q = lev T.high in record {
    high = T.high;
    below = T.below;
    filled = T.filled;
    expired = T.expired;
    late = T.late;
    due = T.due;
    rule = (draining_fits T.below).1 (
      λ r y hr m. belongs_fits (p / 64 - 1) p (start e p) r (d y) q T.below (whole q T.below) (slot q) hr (T.each r y hr m),
      λ y m. (parked_fits (p / 64 - 1) p (start e p) (d y) q (whole q T.below)).1 (T.parked y m),
    );
    own = λ z. ((floor_mod (suc (p / 64)) e).1 (T.own z).0, λ w. (T.own z).1 (sym (block_mod e) ∙ (floor_mod 6 e).0 w));
  },
)
  where
    lev : 0 < p / 64 → p / 64 ≡ suc (p / 64 - 1)
    lev h = omega (arith, h)

    whole : p / 64 ≡ suc (p / 64 - 1) → p < expired → floor (suc (p / 64 - 1)) (start e p) ≡ start e p
    whole q h = list_floor (p / 64 - 1) p e q h

    slot : p / 64 ≡ suc (p / 64 - 1) → p < slots → slot_of (start e p) (suc (p / 64 - 1)) ≡ p % 64
    slot q h = list_slot (p / 64 - 1) p e q h
