-- The parts of soundness as they are judged are soundness together.
use mathlib.Core.Path.{◌≡◌, sym, ap, ◌∙◌, subst}
use mathlib.Core.Logic.{◌≢◌, inl, inr, ⊎_elim, by_cases}
use mathlib.Core.Bool.{Bool, true}
use mathlib.Core.List.{List, nil≢cons}
use Prim.Native.Nat.{ℕ, zero, suc, ◌+◌, ◌-◌, ◌%◌, ◌^◌, ◌≤◌, ◌<◌, max}
use native.Mathlib.Decide.{ℕ_discrete}
use native.Mathlib.Omega.{arith}
use lib.Dec.{eqb, ltb}
use borrow.Author.Count.{below_more}
use borrow.Author.Tests.{ltb-true, ltb-false}
use Rattle.contracts.specs.Tells.{Tells}
use Rattle.contracts.proofs.laws.Tells.{tells_yes, tells_by, tells_eq}
use Rattle.times.specs.Times.{width, slot_of, start_at, level_of, block, block_end}
use Rattle.times.proofs.laws.Blocks.{end_later}
use Rattle.links.specs.Lists.{Mem, nobody, first_d}
use Rattle.links.specs.Links.{at}
use Rattle.places.specs.Places.{slot_place, slots, parking, expired, free, places, retired, level_at, slot_at}
use Rattle.places.specs.Words.{head_at}
use Rattle.places.specs.Whole as places
use Rattle.places.proofs.laws.Whole as place_laws
use Rattle.wheel.specs.Limited.{start}
use Rattle.wheel.specs.Midway.{Belongs, Parked}
use Rattle.wheel.proofs.laws.Limited.{start_slot_at, start_parking}
use Rattle.wheel.proofs.laws.Belongs.{belongs_wheel, hand_tests}
use Rattle.wheel.specs.Words.{WheelWhole}
use Rattle.records.specs.Records.{last_turn}
use Rattle.records.specs.Slices.{Fits}
use Rattle.records.specs.Words.{QueueWords, count, elapsed, mark_of, slices, view, Standing, AtRest, MidPoll, Sound}
use Rattle.judge.specs.Judge.{RecordAgrees, RecordsAgree, OwnStart, CanHold}

-- ---- a record

module _ {low h c p w l : ℕ} (late : c ≤ w) (near : block w ≡ block c) (el : l ≡ level_of c w) where
  -- above the level drained into
  pub place_above : low < l → {s r : ℕ} → s ≡ slot_of w l → r ≡ slot_place l s → Tells (Belongs low h c p w) (eqb p r)
  place_above g {s} {r} es er =
      let m : l ≡ max low (level_of c w) = omega (arith, el, g) in
      let is : r ≡ slot_place (max low (level_of c w)) (slot_of w (max low (level_of c w)))
      = er ∙ ap (slot_place l) es ∙ ap (λ (j : ℕ). slot_place j (slot_of w j)) m in
      tells_by (tells_eq p r) (λ q. record { late = late; near = near; place = inl (q ∙ is) })
      (λ B. ⊎_elim (λ q. q ∙ sym is) (λ q. absurd (omega (arith, q.1, g, el))) B.place)

  -- in the slot that is drained
  pub place_hand : l ≤ low → p ≡ h → Tells (Belongs low h c p w) true
  place_hand g q = tells_yes (record { late = late; near = near; place = inr (q, omega (arith, el, g)) })

  -- at the level drained into
  pub place_low : l ≤ low → p ≢ h → {s r : ℕ} → s ≡ slot_of w low → r ≡ slot_place low s → Tells (Belongs low h c p w) (eqb p r)
  place_low g n {s} {r} es er =
      let m : low ≡ max low (level_of c w) = omega (arith, el, g) in
      let is : r ≡ slot_place (max low (level_of c w)) (slot_of w (max low (level_of c w)))
      = er ∙ ap (slot_place low) es ∙ ap (λ (j : ℕ). slot_place j (slot_of w j)) m in
      tells_by (tells_eq p r) (λ q. record { late = late; near = near; place = inl (q ∙ is) })
      (λ B. ⊎_elim (λ q. q ∙ sym is) (λ q. absurd (n q.0)) B.place)

-- on the parking list
pub parked_hand : {h c w : ℕ} → h ≡ parking → Tells (Parked h c w) (eqb (block w) (block c))
parked_hand {h} {c} {w} z =
    tells_by (tells_eq (block w) (block c)) (λ q. record { aside = λ n. absurd (n z); inside = λ _. q }) (λ P. P.inside z)

pub parked_aside : {h c w : ℕ} → h ≢ parking → Tells (Parked h c w) (eqb (block w) (block c + 1))
parked_aside {h} {c} {w} n =
    tells_by (tells_eq (block w) (block c + 1)) (λ q. record { aside = λ _. q; inside = λ z. absurd (n z) }) (λ P. P.aside n)

past_free : {m : ℕ} → slots ≤ m → m ≢ parking → m ≢ expired → m ≢ free → places ≤ m
past_free i p d z = omega arith

module _ {low h c w t m : ℕ} (some : t ≢ 0) (last : t ≤ last_turn) where
  agrees : (m < slots → Belongs low h c m w) → (m ≡ parking → Parked h c w) → (m ≡ expired → w ≡ c)
      → (places ≤ m → (m ≡ retired) × (t ≡ last_turn))
      → RecordAgrees low h c w t m
  agrees f p g k = record { some = omega arith; last = omega arith; wheel = f; parked = p; expired = g; retired = k }

  pub record_slot : {b : Bool} → m < slots → Tells (Belongs low h c m w) b → Tells (RecordAgrees low h c w t m) b
  record_slot i T =
      tells_by T (λ o. agrees (λ g. o) (λ q. absurd (omega arith)) (λ q. absurd (omega arith)) (λ q. absurd (omega arith))) (λ R. R.wheel i)

  pub record_parked : {b : Bool} → m ≡ parking → Tells (Parked h c w) b → Tells (RecordAgrees low h c w t m) b
  record_parked i T =
      tells_by T (λ o. agrees (λ g. absurd (omega arith)) (λ q. o) (λ q. absurd (omega arith)) (λ q. absurd (omega arith))) (λ R. R.parked i)

  pub record_expired : m ≡ expired → Tells (RecordAgrees low h c w t m) (eqb w c)
  record_expired i =
      tells_by (tells_eq w c)
      (λ o. agrees (λ g. absurd (omega arith)) (λ q. absurd (omega arith)) (λ q. o) (λ q. absurd (omega arith))) (λ R. R.expired i)

  pub record_retired : m ≡ retired → Tells (RecordAgrees low h c w t m) (eqb t last_turn)
  record_retired i =
      tells_by (tells_eq t last_turn)
      (λ o. agrees (λ g. absurd (omega arith)) (λ q. absurd (omega arith)) (λ q. absurd (omega arith)) (λ q. (i, o))) (λ R. (R.retired (omega arith)).1)

  pub record_aside : slots ≤ m → m ≢ parking → m ≢ expired → m ≢ retired → Tells (RecordAgrees low h c w t m) (eqb m free)
  record_aside i p d n =
      tells_by (tells_eq m free)
      (λ o. agrees (λ g. absurd (omega arith)) (λ q. absurd (p q)) (λ q. absurd (d q)) (λ q. absurd (omega arith)))
      (λ R. by_cases (ℕ_discrete m free) (λ z. z) (λ z. absurd (n (R.retired (past_free i p d z)).0)))

pub record_next : {low h c n : ℕ} (ds ts ms : List ℕ) → RecordsAgree low h c n ds ts ms → RecordAgrees low h c (at ds n) (at ts n) (at ms n)
    → RecordsAgree low h c (n + 1) ds ts ms
record_next ds ts ms R r = below_more _ _ R r

-- ---- the judgement

-- by the words: beside the lists, what is asked of a store with a poll in hand and without one
pub record Judged (s : QueueWords) : Type 0 where
  pub fits : Fits (slices s) (count s)
  pub whole : WheelWhole s.wheel
  pub rest : AtRest s → (s.until ≡ 0) × RecordsAgree 0 nobody (elapsed s) (count s) s.deadlines s.turns s.wheel.places.links.marks
  pub mid : MidPoll s
      → CanHold (elapsed s) s.until s.hand (head_at s.wheel.places s.hand) (head_at s.wheel.places expired)
      (head_at s.wheel.places parking)
      × RecordsAgree (level_at s.hand - 1) s.hand (start (elapsed s) s.hand) (count s) s.deadlines s.turns
      s.wheel.places.links.marks

module _ {s : QueueWords} where
  -- records by their marks, members by their lists
  module _ (T : Standing s) {low h c : ℕ} where
    by_marks : ((p x : ℕ) → p < slots → Mem x ((view s).lists p) → Belongs low h c p (at s.deadlines x))
        → ((x : ℕ) → Mem x ((view s).lists parking) → Parked h c (at s.deadlines x))
        → ((x : ℕ) → Mem x ((view s).lists expired) → at s.deadlines x ≡ c)
        → RecordsAgree low h c (count s) s.deadlines s.turns s.wheel.places.links.marks
    by_marks f j g i k =
        let W = T.whole.places in
        record {
          some = (T.turns i k).0;
          last = (T.turns i k).1;
          wheel = λ m. f (mark_of s i) i m (place_laws.marked_member W i k (omega arith));
          parked = λ m. j i (rw m at (place_laws.marked_member W i k (omega arith)));
          expired = λ m. g i (rw m at (place_laws.marked_member W i k (omega arith)));
          retired = λ m. T.retired i k (omega (arith, k, place_laws.small W)) m;
        }

  module _ (J : Judged s) {low h c : ℕ}
      (R : RecordsAgree low h c (count s) s.deadlines s.turns s.wheel.places.links.marks) where
    by_lists : (p x : ℕ) → p < slots → Mem x ((view s).lists p) → Belongs low h c p (at s.deadlines x)
    by_lists p x h m =
        let W = J.whole.places in
        let e : mark_of s x ≡ p = place_laws.member_mark W p x m in
        rw e at ((R x (place_laws.member_below W p x m)).wheel (omega arith))

    by_parked : (x : ℕ) → Mem x ((view s).lists parking) → Parked h c (at s.deadlines x)
    by_parked x m = let W = J.whole.places in (R x (place_laws.member_below W parking x m)).parked (place_laws.member_mark W parking x m)

    by_expired : (x : ℕ) → Mem x ((view s).lists expired) → at s.deadlines x ≡ c
    by_expired x m = let W = J.whole.places in (R x (place_laws.member_below W expired x m)).expired (place_laws.member_mark W expired x m)

  by_words : (J : Judged s) {low h c : ℕ} → RecordsAgree low h c (count s) s.deadlines s.turns s.wheel.places.links.marks → Standing s
  by_words J R =
      record {
        fits = J.fits;
        whole = J.whole;
        turns = λ i h. let r = R i h in (r.some, r.last);
        retired = λ i h d. (R i h).retired;
      }

  pub sound_judged : Sound s → Judged s
  sound_judged S =
      let T = S.standing in
      let W = T.whole.places in
      record {
        fits = T.fits;
        whole = T.whole;
        rest = λ z.
            let R = S.rule.free z in (
              S.no_now z,
              by_marks T (λ p x h m. (belongs_wheel nobody (elapsed s) p (at s.deadlines x) h (omega arith)).0 (R.wheel p x h m))
                  (λ x m. record { aside = λ _. R.parked x m; inside = λ q. absurd (omega (arith, q)) }) R.expired,
            );
        mid = λ d.
            let H = (hand_tests (at s.deadlines) s.until s.hand (elapsed s) (view s).lists).0 (S.rule.inside d) in
            let f = H.filled in (
              record {
                below = H.below;
                high = H.high;
                filled = λ z. nil≢cons (sym (place_laws.list_empty W s.hand z) ∙ f.2);
                expired = place_laws.head_first W expired ∙ ap (first_d nobody) H.expired;
                late = H.late;
                due = H.due;
                own = λ z. ((H.own z).0, λ w. (((H.own z).1 w).0, place_laws.head_first W parking ∙ ap (first_d nobody) ((H.own z).1 w).1));
              },
              by_marks T H.each H.parked (λ x m. absurd (subst (Mem x) H.expired m)),
            );
      }

  pub judged_sound : Judged s → Sound s
  judged_sound J = by_cases (ℕ_discrete s.hand nobody) at_rest mid_poll
    where
      W : places.Whole s.wheel.places
      W = J.whole.places

      at_rest : AtRest s → Sound s
      at_rest z =
          let R = J.rest z in
          record {
            standing = by_words J R.1;
            rule = record {
              free = λ _. record {
                wheel = λ p x h m. (belongs_wheel nobody (elapsed s) p (at s.deadlines x) h (omega arith)).1 (by_lists J R.1 p x h m);
                parked = λ x m. (by_parked J R.1 x m).aside (λ q. omega (arith, q));
                expired = by_expired J R.1;
              };
              inside = λ d. absurd (d z);
            };
            no_now = λ _. R.0;
          }

      mid_poll : MidPoll s → Sound s
      mid_poll d =
          let R = J.mid d in
          let C = R.0 in
          let f = place_laws.list_cons W s.hand C.filled in
          record {
            standing = by_words J R.1;
            rule = record {
              free = λ z. absurd (d z);
              inside = λ _. (hand_tests (at s.deadlines) s.until s.hand (elapsed s) (view s).lists).1 (record {
                high = C.high;
                below = C.below;
                filled = (_, f.0, f.1);
                expired = place_laws.list_empty W expired C.expired;
                late = C.late;
                due = C.due;
                each = by_lists J R.1;
                parked = by_parked J R.1;
                own = λ z. ((C.own z).0, λ w. (((C.own z).1 w).0, place_laws.list_empty W parking ((C.own z).1 w).1));
              });
            };
            no_now = λ z. absurd (d z);
          }

-- by the answer of the judge of the records
module _ {s : QueueWords} (F : Fits (slices s) (count s)) (W : WheelWhole s.wheel) {b : Bool} where
  pub judged_rest : (h : ℕ) → h ≡ nobody → AtRest s → s.until ≡ 0
      → Tells (RecordsAgree 0 h (elapsed s) (count s) s.deadlines s.turns s.wheel.places.links.marks) b → Tells (Sound s) b
  judged_rest h is z u T =
      tells_by (rw is at T)
      (λ R. judged_sound (record { fits = F; whole = W; rest = λ _. (u, R); mid = λ d. absurd (d z) }))
      (λ S. ((sound_judged S).rest z).1)

  pub judged_mid : MidPoll s → CanHold (elapsed s) s.until s.hand (head_at s.wheel.places s.hand) (head_at s.wheel.places expired)
      (head_at s.wheel.places parking)
      → (k c : ℕ) → k ≡ level_at s.hand → c ≡ start (elapsed s) s.hand
      → Tells (RecordsAgree (k - 1) s.hand c (count s) s.deadlines s.turns s.wheel.places.links.marks) b → Tells (Sound s) b
  judged_mid d H k c ek ec T =
      tells_by (rw (ek, ec) at T)
      (λ R. judged_sound (record { fits = F; whole = W; rest = λ z. absurd (d z); mid = λ _. (H, R) }))
      (λ S. ((sound_judged S).mid d).1)

-- ---- a poll in hand

-- the start of a slot, as the code computes it
pub start_of : (e p : ℕ) {k s c : ℕ} → p ≢ parking → k ≡ level_at p → s ≡ slot_at p → c ≡ start_at e k s → c ≡ start e p
start_of e p {k} {s} n ek es ec =
    let a : start_at e k s ≡ start_at e (level_at p) (slot_at p) = rw (ek, es) in
    ec ∙ a ∙ sym (start_slot_at e p n)

-- at a block's start
six_whole : (k e : ℕ) → k < 6 → e % 2 ^ 36 ≡ 0 → e % width (suc k) ≡ 0
unfolding width
six_whole zero e h z = omega (arith, z)
six_whole (suc zero) e h z = omega (arith, z)
six_whole (suc (suc zero)) e h z = omega (arith, z)
six_whole (suc (suc (suc zero))) e h z = omega (arith, z)
six_whole (suc (suc (suc (suc zero)))) e h z = omega (arith, z)
six_whole (suc (suc (suc (suc (suc zero))))) e h z = omega (arith, z)
six_whole (suc (suc (suc (suc (suc (suc k)))))) e h z = absurd (omega (arith, h))

pub own_block : {k e parked : ℕ} → k < 6 → e % 2 ^ 36 ≡ 0 → e ≢ 0 → Tells (OwnStart k e parked) (eqb parked nobody)
own_block {k} {e} {parked} h z n =
    tells_by (tells_eq parked nobody) (λ q. (six_whole k e h z, λ _. (omega (arith, n), q))) (λ o. (o.1 z).1)

pub own_told : {k a parked : ℕ} (e : ℕ) → a ≡ suc k → e % 2 ^ 36 ≢ 0 → {r : ℕ} → r ≡ width a → Tells (OwnStart k e parked) (eqb (e % r) 0)
own_told {k} {a} e ea n {r} er =
    let z : e % r ≡ e % width (suc k) = ap (λ (j : ℕ). e % j) (er ∙ ap width ea) in
    tells_by (tells_eq (e % r) 0) (λ q. (sym z ∙ q, λ w. absurd (n w))) (λ o. z ∙ o.0)

pub own_top : {k a parked : ℕ} (e : ℕ) → a ≡ suc k → a ≡ 6 → e % 2 ^ 36 ≢ 0 → OwnStart k e parked → ⊥
unfolding width
own_top {k} {a} e ea z n o = n (ap (λ (j : ℕ). e % width j) (sym z ∙ ea) ∙ o.0)

module _ {e until p head first parked : ℕ} (below : p < expired) (high : level_at p ≢ 0) (filled : head ≢ nobody) (none_expired : first ≡ nobody) where
  -- the parking list
  pub hold_parking : p ≡ parking → Tells (CanHold e until p head first parked) (ltb (block e) (block until))
  unfolding block_end
  hold_parking z =
      let a : start e p ≡ block_end e = ap (start e) z ∙ start_parking e in
      record {
        yes = λ q.
            record {
              below = below;
              high = omega (arith, high);
              filled = filled;
              expired = none_expired;
              late = omega (arith, a, end_later e);
              due = omega (arith, a, ltb-true (block e) (block until) q);
              own = λ w. absurd (omega (arith, a, w, end_later e));
            };
        no = λ q H. omega (arith, ltb-false (block e) (block until) q, H.due, a);
      }

  module _ {c : ℕ} (ec : c ≡ start e p) (due : c ≤ until) where
    holds : e ≤ c → (c ≡ e → OwnStart (level_at p) e parked) → CanHold e until p head first parked
    holds l o =
        record {
          below = below;
          high = omega (arith, high);
          filled = filled;
          expired = none_expired;
          late = omega (arith, l, ec);
          due = omega (arith, due, ec);
          own = λ z. o (ec ∙ z);
        }

    pub hold_own : c ≡ e → {b : Bool} → Tells (OwnStart (level_at p) e parked) b → Tells (CanHold e until p head first parked) b
    hold_own z T = tells_by T (λ o. holds (omega (arith, z)) (λ _. o)) (λ H. H.own (sym ec ∙ z))

    pub hold_later : c ≢ e → Tells (CanHold e until p head first parked) (ltb e c)
    hold_later n =
        record {
          yes = λ q. holds (omega (arith, ltb-true e c q)) (λ z. absurd (n z));
          no = λ q H. omega (arith, ltb-false e c q, H.late, ec, n);
        }
