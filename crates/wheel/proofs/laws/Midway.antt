-- Exactly which stores a poll in hand leaves: the rule that a judge can test, and a poll with a limit that stopped there, say the same.
use mathlib.Core.Path.{◌≡◌, refl, sym, ap, ◌∙◌, subst, fun_ext}
use mathlib.Core.Logic.{◌≢◌, ◌↔◌, ◌⊎◌, inl, inr, ⊎_elim, by_cases}
use mathlib.Core.List.{List, [], ◌∷◌, ◌++◌}
use mathlib.Core.Option.{Option, none, some}
use Prim.Native.Nat.{ℕ, zero, suc, ◌+◌, ◌-◌, ◌*◌, ◌/◌, ◌%◌, ◌≤◌, ◌<◌}
use native.Mathlib.Nat.{le-div_iff_mul-le, le_trans, mul_assoc, mul-div_cancel}
use native.Mathlib.Decide.{dec_le, dec_lt, ℕ_discrete}
use native.Mathlib.Omega.{arith}
use Rattle.times.specs.Times.{width, slot_of, start_at, floor, Lies, NextBlock, block, block_end}
use Rattle.times.proofs.laws.Widths.{width_pos, width_step}
use Rattle.times.proofs.laws.Quotients.{quotient_step, quotient_le, slot_lt, agree_above, floor_le, floor_quotient, lt_floor, lies_block}
use Rattle.times.proofs.laws.Levels.{block_six}
use Rattle.times.proofs.laws.Blocks.{end_later}
use Rattle.links.specs.Lists.{Mem, change}
use Rattle.links.proofs.laws.Lists.{change_same, change_other, mem_left as mem-before, mem_right as mem-after}
use Rattle.places.specs.Places.{slot_place, slots, parking, expired, put}
use Rattle.places.proofs.laws.Places.{put_tail}
use Rattle.wheel.specs.Wheel.{Lists, Rule, FirstSlot, NextList, in_slot, in_parking, arrive}
use Rattle.wheel.proofs.laws.Sums.{total_le, mem_change}
use Rattle.wheel.specs.Between.{Spot, Between, Draining}
use Rattle.wheel.proofs.laws.Between.{place_level, place_slot, on_spot, rule_between, between_rule}
use Rattle.wheel.proofs.laws.Next.{not_passed, list_late, list_start, list_height, list_some}
use Rattle.wheel.specs.Drain.{heights}
use Rattle.wheel.proofs.laws.Drain.{amount, drain_begins, drain_ends, move_law}
use Rattle.wheel.specs.Limited.{Outcome, yet, start, Limited, finds, stops, moves, empties}
use Rattle.wheel.specs.Midway.{Own, InHand, Comes}
use Rattle.wheel.proofs.laws.Limited.{start_slot_at, start_parking, list_begins}

-- M is L after m moves of a poll whose elapsed went from e to e': the same timers wait, and nothing else changed
pub record PollKept (e : ℕ) (L : Lists) (m e' : ℕ) (M : Lists) : Type 0 where
  pub rises : e ≤ e'
  pub fallen : heights M + m ≡ heights L
  pub kept : (v : ℕ → ℕ) → amount v M ≡ amount v L
  pub aside : (q : ℕ) → expired ≤ q → M q ≡ L q

-- ---- the start of a slot

module _ (e k s : ℕ) where
  start_whole : start_at e k s ≡ (e / width (suc k) * 64 + s) * width k
  unfolding start_at
  start_whole = rw (width_step k) (omega (arith, mul_assoc (e / (64 * width k)) 64 (width k)))

  start_quotient : start_at e k s / width k ≡ e / width (suc k) * 64 + s
  start_quotient = ap (λ (n : ℕ). n / width k) start_whole ∙ mul-div_cancel (e / width (suc k) * 64 + s) (width_pos k)

  pub start_floor : floor k (start_at e k s) ≡ start_at e k s
  unfolding floor
  start_floor = ap (λ (n : ℕ). n * width k) start_quotient ∙ sym start_whole

  start_agree : s < 64 → start_at e k s / width (suc k) ≡ e / width (suc k)
  start_agree h = quotient_step (start_at e k s) k ∙ omega (arith, start_quotient)

  pub start_slot : s < 64 → slot_of (start_at e k s) k ≡ s
  unfolding slot_of
  start_slot h = omega (arith, start_quotient)

pub floor_same : (k a b : ℕ) → a / width k ≡ b / width k → floor k a ≡ floor k b
unfolding floor
floor_same k a b h = ap (λ (n : ℕ). n * width k) h

end_whole : (e : ℕ) → floor 6 (block_end e) ≡ block_end e
unfolding floor width block_end
end_whole e = omega arith

-- the start of any list, by its height
pub list_floor : (k p e : ℕ) → p / 64 ≡ suc k → p < expired → floor (suc k) (start e p) ≡ start e p
list_floor k p e lv h = by_cases (ℕ_discrete p parking) at_parking in_a_slot
  where
    at_parking : p ≡ parking → floor (suc k) (start e p) ≡ start e p
    at_parking z =
        let a : block_end e ≡ start e p = sym (start_parking e) ∙ ap (start e) (sym z) in
        let j : 6 ≡ suc k = omega (arith, lv, z) in
        subst (λ (n : ℕ). floor n (start e p) ≡ start e p) j (subst (λ (c : ℕ). floor 6 c ≡ c) a (end_whole e))

    in_a_slot : p ≢ parking → floor (suc k) (start e p) ≡ start e p
    in_a_slot n =
        let a : start_at e (suc k) (p % 64) ≡ start e p = ap (λ (j : ℕ). start_at e j (p % 64)) (sym lv) ∙ sym (start_slot_at e p n) in
        subst (λ (c : ℕ). floor (suc k) c ≡ c) a (start_floor e (suc k) (p % 64))

-- and of a slot
module _ (k p e : ℕ) (lv : p / 64 ≡ suc k) (h : p < slots) where
  start_as : start e p ≡ start_at e (suc k) (p % 64)
  start_as = start_slot_at e p (omega (arith, h)) ∙ ap (λ (j : ℕ). start_at e j (p % 64)) lv

  pub list_slot : slot_of (start e p) (suc k) ≡ p % 64
  list_slot = ap (λ (c : ℕ). slot_of c (suc k)) start_as ∙ start_slot e (suc k) (p % 64) (omega arith)

  list_agree : start e p / width (suc (suc k)) ≡ e / width (suc (suc k))
  list_agree = ap (λ (c : ℕ). c / width (suc (suc k))) start_as ∙ start_agree e (suc k) (p % 64) (omega arith)

-- the level of a list that is no slot
parking_level : (k p : ℕ) → p / 64 ≡ suc k → p < expired → (p < slots → ⊥) → (p ≡ parking) × (k ≡ 5)
parking_level k p lv h n = omega (arith, lv, h, n)

-- whose deadlines round down to the next block's start lie in that block
floor_next : (e w : ℕ) → floor 6 w ≡ block_end e → NextBlock e w
unfolding floor width block_end
floor_next e w h = omega (arith, h)

-- a block's start is the end of the block before it
whole_end : (e : ℕ) → floor 6 e ≡ e → 0 < e → block_end (e - 1) ≡ e
unfolding floor width block_end
whole_end e h p = omega (arith, h, p)

-- two numbers of one block: a block start that is not before the other is it
block_same : (e f : ℕ) → e ≤ f → f / width 6 ≡ e / width 6 → floor 6 f ≡ f → e ≡ f
block_same e f l h k = omega (arith, l, k, floor_same 6 f e h, floor_le 6 e)

-- a number that is no multiple of the width and the one before it have one quotient
pred_quotient : (j e : ℕ) → floor j e ≢ e → (e - 1) / width j ≡ e / width j
unfolding floor
pred_quotient j e n =
    let a : e / width j * width j ≤ e = floor_le j e in
    let b : e / width j ≤ (e - 1) / width j = (le-div_iff_mul-le (width_pos j)).1 (omega (arith, a, n)) in
    let c : (e - 1) / width j ≤ e / width j = quotient_le j (omega arith) in
    omega (arith, b, c)

-- ---- what a poll passes through: between drains, where it looks, and inside one

module _ (d : ℕ → ℕ) (now : ℕ) where
  -- between drains: what lies in a slot that starts at elapsed came there by the last drain
  pub record Looking (e : ℕ) (L : Lists) : Type 0 where
    pub rule : Between d e L
    pub expired : L expired ≡ []
    pub due : e ≤ now
    pub own : (p x : ℕ) → p < slots → Mem x (L p) → 0 < p / 64 → floor (p / 64) (d x) ≡ e → Own (suc (p / 64)) e L

  -- inside the drain of p, a list of height k + 1, whose last entry may just have gone
  pub record Inside (k p e : ℕ) (L : Lists) : Type 0 where
    pub level : p / 64 ≡ suc k
    pub below : p < expired
    pub expired : L expired ≡ []
    pub late : e ≤ start e p
    pub due : start e p ≤ now
    pub rule : Draining d k p (start e p) L
    pub own : start e p ≡ e → Own (suc (suc k)) e L

  pub inside_hand : {k p e : ℕ} {L : Lists} → Inside k p e L → {x : ℕ} {l : List ℕ} → L p ≡ x ∷ l → InHand d now p e L
  inside_hand {k} {p} {e} {L} D {x} {l} is =
      let z : k ≡ p / 64 - 1 = omega (arith, D.level) in
      record {
        high = omega (arith, D.level);
        below = D.below;
        filled = (x, l, is);
        expired = D.expired;
        late = D.late;
        due = D.due;
        rule = subst (λ (n : ℕ). Draining d n p (start e p) L) z D.rule;
        own = λ w. rw D.level (D.own w);
      }

  pub hand_inside : {p e : ℕ} {L : Lists} → InHand d now p e L → Inside (p / 64 - 1) p e L
  hand_inside {p} {e} {L} H =
      let q : p / 64 ≡ suc (p / 64 - 1) = omega (arith, H.high) in
      record {
        level = q;
        below = H.below;
        expired = H.expired;
        late = H.late;
        due = H.due;
        rule = H.rule;
        own = λ w. subst (λ (n : ℕ). Own (suc n) e L) q (H.own w);
      }

  -- ---- from a store between calls on

  pub begun : {e : ℕ} {L : Lists} → Rule d e L → L expired ≡ [] → e ≤ now → Looking e L
  begun {e} {L} R s l =
      record {
        rule = rule_between R;
        expired = s;
        due = l;
        own = λ p x hp m u k. absurd (omega (arith, (on_spot p e (d x) (R.wheel p x hp m)).1 u, k));
      }

  pub found : {e k p c : ℕ} {L : Lists} → Looking e L → NextList e L (suc k) p c → c ≤ now → Inside k p e L
  found {e} {k} {p} {c} {L} P X due =
      let B = P.rule in
      let lv = (list_height X).0 in
      let a : c ≡ start e p = list_begins X in
      record {
        level = lv;
        below = (list_height X).1;
        expired = P.expired;
        late = omega (arith, a, list_late B X);
        due = omega (arith, a, due);
        rule = subst (λ (n : ℕ). Draining d k p n L) a (drain_begins B X);
        own = λ z. by_cases (dec_lt p slots) (in_a_slot z) (λ n. absurd (ends z n));
      }
    where
      lev : p / 64 ≡ suc k
      lev = (list_height X).0

      in_a_slot : start e p ≡ e → p < slots → Own (suc (suc k)) e L
      in_a_slot z h =
          let o = list_some X in
          let m : Mem o.0 (L p) = rw o.2 (inl refl) in
          let f : floor (suc k) (d o.0) ≡ e = list_start P.rule X o.0 m ∙ list_begins X ∙ z in
          subst (λ (n : ℕ). Own (suc n) e L) lev (P.own p o.0 h m (omega (arith, lev)) (ap (λ (n : ℕ). floor n (d o.0)) lev ∙ f))

      ends : start e p ≡ e → (p < slots → ⊥) → ⊥
      ends z n =
          let g = (parking_level k p lev (list_height X).1 n).0 in
          omega (arith, z, ap (start e) g, start_parking e, end_later e)

  -- a drain of a slot leaves what is parked alone
  own_moved : {k p e : ℕ} {L : Lists} → Inside k p e L → (M : Lists) → (p ≢ parking → M parking ≡ L parking) → start e p ≡ e → Own (suc (suc k)) e M
  own_moved {k} {p} {e} D M same z =
      let n : p ≢ parking = λ g. omega (arith, z, ap (start e) g, start_parking e, end_later e) in
      let O = D.own z in
      (O.0, λ w. ((O.1 w).0, same n ∙ (O.1 w).1))

  moved_parked : {k p e : ℕ} {L : Lists} → Inside k p e L → (x : ℕ) (l : List ℕ) → p ≢ parking → arrive k (d x) x (change L p l) parking ≡ L parking
  unfolding arrive
  moved_parked {k} {p} {e} {L} D x l n =
      let q : ℕ = slot_place k (slot_of (d x) k) in
      change_other (change L p l) q (put q x (change L p l q)) parking (omega (arith, D.level, D.below, slot_lt (d x) k))
      ∙ change_other L p l parking (λ g. n (sym g))

  pub moved_on : {k p e x : ℕ} {L : Lists} {l : List ℕ} → Inside k p e L → L p ≡ x ∷ l → Inside k p e (arrive k (d x) x (change L p l))
  moved_on {k} {p} {e} {x} {L} {l} D is =
      let M = move_law d k p D.level D.below L x l is in
      record {
        level = D.level;
        below = D.below;
        expired = M.aside expired (omega arith) ∙ D.expired;
        late = D.late;
        due = D.due;
        rule = M.rule (start e p) D.rule;
        own = own_moved D (arrive k (d x) x (change L p l)) (moved_parked D x l);
      }

  -- the start of a slot agrees with elapsed above its level
  module _ {k p e : ℕ} {L : Lists} (D : Inside k p e L) (h : p < slots) where
    agree_start : (j : ℕ) → suc (suc k) ≤ j → start e p / width j ≡ e / width j
    agree_start j l = agree_above (start e p) e (suc (suc k)) (list_agree k p e D.level h) j l

  pub emptied : {k p e : ℕ} {L : Lists} → Inside k p e L → L p ≡ [] → Looking (start e p) L
  emptied {k} {p} {e} {L} D is =
      record {
        rule = drain_ends D.rule is;
        expired = D.expired;
        due = D.due;
        own = λ q x hq m u z. by q x hq m z (dec_le (suc k) (q / 64));
      }
    where
      c : ℕ
      c = start e p

      -- a block's start: elapsed was there, or this was the drain of the parking list
      at_block : floor 6 c ≡ c → (0 < c) × (L parking ≡ [])
      at_block w =
          by_cases (dec_lt p slots)
          (λ h.
          let s : e ≡ c = block_same e c D.late (agree_start D h 6 (omega (arith, D.level, h))) w in
          let O = (D.own (sym s)).1 (subst (λ (n : ℕ). floor 6 n ≡ n) (sym s) w) in
          (omega (arith, O.0, s), O.1))
          (λ n.
          let g : p ≡ parking = (parking_level k p D.level D.below n).0 in
          (omega (arith, ap (start e) g, start_parking e, end_later e), ap L (sym g) ∙ is))

      by : (q x : ℕ) → q < slots → Mem x (L q) → floor (q / 64) (d x) ≡ c → Dec (suc k ≤ q / 64) → Own (suc (q / 64)) c L
      by q x hq m z (yes h) = absurd (omega (arith, z, D.rule.later q x hq (λ g. subst (Mem x) (ap L g ∙ is) m) m (omega (arith, h))))
      by q x hq m z (no h) =
          let j : suc k ≡ suc (q / 64) = omega (arith, h, D.rule.low q x hq m) in
          (subst (λ (n : ℕ). floor n c ≡ c) j (list_floor k p e D.level D.below), at_block)

  -- what it holds of, from a look or inside a drain
  abbrev pub Passes : Option ℕ → ℕ → Lists → Type 0
  Passes none e L = Looking e L
  Passes (some p) e L = (k : ℕ) × Inside k p e L

  limited_hand : {h : Option ℕ} {b e p m n e' : ℕ} {L M : Lists} → Passes h e L → Limited d now h b e L (yet p) m n e' M → InHand d now p e' M
  limited_hand P (finds F due r) = limited_hand (_, found P F due) r
  limited_hand P (stops is) = inside_hand P.1 is
  limited_hand {e = e} {L = L} P (moves {p = p} {x = x} {l = l} is r) =
      let z : P.0 ≡ p / 64 - 1 = omega (arith, P.1.level) in
      limited_hand (p / 64 - 1, rw z at (moved_on P.1 is)) r
  limited_hand {e = e} {L = L} P (empties {p = p} is r) =
      limited_hand (emptied P.1 is) r

  as_level : {k p e : ℕ} {L : Lists} → Inside k p e L → Inside (p / 64 - 1) p e L
  as_level {k} {p} {e} {L} D = let z : k ≡ p / 64 - 1 = omega (arith, D.level) in subst (λ (j : ℕ). Inside j p e L) z D

  pub limited_kept : {h : Option ℕ} {b e p m n e' : ℕ} {L M : Lists} → Passes h e L → Limited d now h b e L (yet p) m n e' M → PollKept e L m e' M
  limited_kept P (finds F due r) = limited_kept (_, found P F due) r
  limited_kept P (stops is) = record { rises = omega arith; fallen = omega arith; kept = λ v. refl; aside = λ q a. refl }
  limited_kept {L = L} P (moves {p = p} {x = x} {l = l} is r) =
      let D = as_level P.1 in
      let W = move_law d (p / 64 - 1) p D.level D.below L x l is in
      let K = limited_kept (p / 64 - 1, moved_on D is) r in
      record { rises = K.rises; fallen = omega (arith, K.fallen, W.fallen); kept = λ v. K.kept v ∙ W.kept v; aside = λ q a. K.aside q a ∙ W.aside q a }
  limited_kept {e = e} {L = L} P (empties {p = p} is r) =
      let K = limited_kept (emptied P.1 is) r in
      record { rises = omega (arith, K.rises, P.1.late); fallen = K.fallen; kept = K.kept; aside = K.aside }

  -- a store that a poll comes from holds the same timers, no lower, and its elapsed is no later
  pub comes_kept : {p e : ℕ} {L : Lists} (C : Comes d now (yet p) e L) → PollKept C.from C.lists C.moves e L
  comes_kept C = limited_kept (begun C.rule C.expired C.due) C.polls

  pub comes_hand : {p e : ℕ} {L : Lists} → Comes d now (yet p) e L → InHand d now p e L
  comes_hand C = limited_hand (begun C.rule C.expired C.due) C.polls

  -- ---- and back: moves are undone until a drain has just been found, and drains until the poll has just begun

  none_in : (y : ℕ) {l : List ℕ} → l ≡ [] → Mem y l → ⊥
  none_in y e m = subst (Mem y) e m

  empty_where : (l : List ℕ) → ((x : ℕ) → Mem x l → ⊥) → l ≡ []
  empty_where [] h = refl
  empty_where (x ∷ l) h = absurd (h x (inl refl))

  -- no move to undo: the drain has just been found
  module _ {k p e : ℕ} {L : Lists} (D : Inside k p e L) (none_below : (q x : ℕ) → q < slots → Mem x (L q) → suc k ≤ q / 64) where
    -- where it is the parking list's, no slot is filled
    not_parking : (q x : ℕ) → q < slots → Mem x (L q) → p < slots
    not_parking q x hq m =
        by_cases (dec_lt p slots) (λ h. h)
        (λ n. absurd (omega (arith, none_below q x hq m, hq, (parking_level k p D.level D.below n).1)))

    was_parked : (x : ℕ) → Mem x (L parking) → NextBlock e (d x)
    was_parked x m =
        by_cases (dec_lt p slots)
        (λ h.
        let b : block (start e p) ≡ block e = sym (block_six (start e p)) ∙ agree_start D h 6 (omega (arith, D.level, h)) ∙ block_six e in
        D.rule.parked x (omega (arith, h)) m ∙ ap (λ (n : ℕ). n + 1) b)
        (λ n.
        let g = parking_level k p D.level D.below n in
        let f : floor (suc k) (d x) ≡ start e p = D.rule.hand x (subst (λ (q : ℕ). Mem x (L q)) (sym g.0) m) in
        floor_next e (d x) (ap (λ (j : ℕ). floor (suc j) (d x)) (sym g.1) ∙ f ∙ ap (start e) g.0 ∙ start_parking e))

    just_looked : Looking e L
    just_looked =
        record {
          rule = record {
            spot = λ q x hq m.
                let s = D.rule.spot q x hq m in
                record {
                  slot = s.slot;
                  lies = record {
                    above = s.lies.above ∙ agree_start D (not_parking q x hq m) (suc (q / 64)) (omega (arith, none_below q x hq m));
                    start = le_trans D.late s.lies.start;
                  };
                };
            later = λ q x r y hq hr mx my h.
                let g = none_below r y hr my in
                omega (arith, D.late, D.rule.later q x hq (λ z. omega (arith, h, g, ap (λ (n : ℕ). n / 64) z, D.level)) mx (omega (arith, h, g)));
            parked = was_parked;
          };
          expired = D.expired;
          due = le_trans D.late D.due;
          own = λ q x hq m u z.
              by_cases (ℕ_discrete q p)
              (λ (g : q ≡ p).
              let v : q / 64 ≡ suc k = ap (λ (n : ℕ). n / 64) g ∙ D.level in
              let s : start e p ≡ e = sym (D.rule.hand x (rw g at m)) ∙ ap (λ (n : ℕ). floor n (d x)) (sym v) ∙ z in
              subst (λ (n : ℕ). Own (suc n) e L) (sym v) (D.own s))
              (λ g. absurd (omega (arith, z, D.late, D.rule.later q x hq g m (omega (arith, none_below q x hq m)))));
        }

    module _ (x : ℕ) (l : List ℕ) (is : L p ≡ x ∷ l) (below : p < slots) where
      -- elapsed's slot is not past p
      slot_on : slot_of e (suc k) ≤ p % 64
      slot_on =
          let m : Mem x (L p) = rw is (inl refl) in
          let s = just_looked.rule.spot p x below m in
          let a : Lies (suc k) e (d x) = subst (λ (n : ℕ). Lies n e (d x)) D.level s.lies in
          let b : p % 64 ≡ slot_of (d x) (suc k) = s.slot ∙ ap (slot_of (d x)) D.level in
          omega (arith, not_passed (suc k) e (d x) a, b)

      -- an earlier slot of its level is empty
      earlier : (t y : ℕ) → t < p % 64 → Mem y (L (slot_place (suc k) t)) → ⊥
      unfolding slot_of
      earlier t y ht m =
          let q : ℕ = slot_place (suc k) t in
          let c : ℕ = start e p in
          let v : q / 64 ≡ suc k = place_level (suc k) t (omega (arith, ht)) in
          let w : q % 64 ≡ t = place_slot (suc k) t (omega (arith, ht)) in
          let hq : q < slots = omega (arith, D.level, below, ht) in
          let s = D.rule.spot q y hq m in
          let f : c < floor (suc k) (d y)
          = subst (λ (n : ℕ). c < floor n (d y)) v (D.rule.later q y hq (λ z. omega (arith, ht, w, ap (λ (n : ℕ). n % 64) z)) m (omega (arith, v))) in
          let g = (lt_floor (suc k) c (d y)).1 f in
          let a : Lies (suc k) c (d y) = subst (λ (n : ℕ). Lies n c (d y)) v s.lies in
          let b : t ≡ d y / width (suc k) % 64 = sym w ∙ s.slot ∙ ap (λ (n : ℕ). d y / width n % 64) v in
          let i : c / width (suc k) % 64 ≡ p % 64 = list_slot k p e D.level below in
          omega (arith, g, b, i, lies_block (suc k) c (d y) a, ht)

      slot_found : FirstSlot e L (suc k) (p % 64)
      slot_found =
          record {
            within = omega (arith, D.level, below);
            lowest = λ q h. empty_where (L q) (λ y m. omega (arith, h, none_below q y (omega (arith, h, D.level, below)) m));
            steps = p % 64 - slot_of e (suc k);
            near = omega arith;
            is = omega (arith, slot_on);
            passed = λ j h. empty_where (L (slot_place (suc k) ((slot_of e (suc k) + j) % 64)))
                (λ y m. earlier ((slot_of e (suc k) + j) % 64) y (omega (arith, h)) m);
            head = x;
            rest = l;
            filled = subst (λ (q : ℕ). L q ≡ x ∷ l) (omega (arith, D.level)) is;
          }

    just_found : (x : ℕ) (l : List ℕ) → L p ≡ x ∷ l → NextList e L (suc k) p (start e p)
    just_found x l is = by_cases (dec_lt p slots) in_a_slot at_parking
      where
        in_a_slot : p < slots → NextList e L (suc k) p (start e p)
        in_a_slot h =
            let X : NextList e L (suc k) (slot_place (suc k) (p % 64)) (start_at e (suc k) (p % 64)) = in_slot (slot_found x l is h) in
            let z : slot_place (suc k) (p % 64) ≡ p = omega (arith, D.level) in
            subst (λ (q : ℕ). NextList e L (suc k) q (start e p)) z
            (subst (λ (c : ℕ). NextList e L (suc k) (slot_place (suc k) (p % 64)) c) (sym (start_as k p e D.level h)) X)

        at_parking : (p < slots → ⊥) → NextList e L (suc k) p (start e p)
        at_parking n =
            let g = parking_level k p D.level D.below n in
            let z : p ≡ parking = g.0 in
            let X : NextList e L 6 parking (block_end e) = in_parking (λ q hq. empty_where (L q) (λ y m. n (not_parking q y hq m))) (ap L (sym z) ∙ is) in
            let j : 6 ≡ suc k = omega (arith, g.1) in
            subst (λ (i : ℕ). NextList e L i p (start e p)) j
            (subst (λ (q : ℕ). NextList e L 6 q (start e q)) (sym z) (subst (λ (c : ℕ). NextList e L 6 parking c) (sym (start_parking e)) X))

  -- the last move is undone: y, the last of r, goes back to the head of p
  module _ {k p e : ℕ} {L : Lists} (D : Inside k p e L) (r y : ℕ) (l : List ℕ) (hr : r < slots) (is : L r ≡ l ++ y ∷ []) (lower : r / 64 ≡ k) where
    abbrev K : Lists
    K = change L r l

    abbrev back : Lists
    back = change K p (y ∷ L p)

    abbrev c : ℕ
    c = start e p

    mr : Mem y (L r)
    mr = rw is (mem-after y l (y ∷ []) (inl refl))

    apart : r ≢ p
    apart z = omega (arith, lower, D.level, ap (λ (n : ℕ). n / 64) z)

    same : d y / width (suc k) ≡ c / width (suc k)
    same = subst (λ (n : ℕ). d y / width (suc n) ≡ c / width (suc n)) lower (D.rule.spot r y hr mr).lies.above

    floor_y : floor (suc k) (d y) ≡ c
    floor_y = floor_same (suc k) (d y) c same ∙ list_floor k p e D.level D.below

    spot_y : p < slots → Spot p c (d y)
    unfolding slot_of
    spot_y h =
        record {
          slot = rw D.level (sym (list_slot k p e D.level h) ∙ ap (λ (n : ℕ). n % 64) (sym same));
          lies = rw D.level (record { above = agree_above (d y) c (suc k) same (suc (suc k)) (omega arith); start = omega (arith, floor_y) });
        }

    who_back : (q z : ℕ) → Mem z (back q) → ((q ≡ p) × (z ≡ y)) ⊎ Mem z (L q)
    who_back q z m =
        ⊎_elim
        (λ a. ⊎_elim (λ g. inl (a.0, g)) (λ g. inr (rw a.0 g)) a.1)
        (λ a. inr (⊎_elim
        (λ b. rw (b.0, is) (mem-before z l (y ∷ []) b.1))
        (λ b. b.1)
        (mem_change L r l q z a.1)))
        (mem_change K p (y ∷ L p) q z m)

    undone : Inside k p e back
    undone =
        record {
          level = D.level;
          below = D.below;
          expired = change_other K p (y ∷ L p) expired (omega (arith, D.below)) ∙ change_other L r l expired (omega (arith, hr)) ∙ D.expired;
          late = D.late;
          due = D.due;
          rule = record {
            spot = λ q z hq m. ⊎_elim (λ a. rw (a.0, a.1) (spot_y (omega (arith, hq, a.0)))) (D.rule.spot q z hq) (who_back q z m);
            hand = λ z m. ⊎_elim (λ a. rw a.1 floor_y) (D.rule.hand z) (who_back p z m);
            low = λ q z hq m. ⊎_elim (λ a. omega (arith, ap (λ (n : ℕ). n / 64) a.0, D.level)) (D.rule.low q z hq) (who_back q z m);
            later = λ q z hq n m h. ⊎_elim (λ a. absurd (n a.0)) (λ a. D.rule.later q z hq n a h) (who_back q z m);
            parked = λ z n m. ⊎_elim (λ a. absurd (n (sym a.0))) (D.rule.parked z n) (who_back parking z m);
          };
          own = own_moved D back (λ n. change_other K p (y ∷ L p) parking (λ g. n (sym g)) ∙ change_other L r l parking (omega (arith, hr)));
        }

    back_is : back p ≡ y ∷ L p
    back_is = change_same K p (y ∷ L p)

    to_r : slot_place k (slot_of (d y) k) ≡ r
    to_r =
        let a : r % 64 ≡ slot_of (d y) k = (D.rule.spot r y hr mr).slot ∙ ap (slot_of (d y)) lower in
        omega (arith, a, lower)

    redone : arrive k (d y) y (change back p (L p)) ≡ L
    unfolding arrive
    redone =
        let J : Lists = change back p (L p) in
        let at-r : J r ≡ l = change_other back p (L p) r apart ∙ change_other K p (y ∷ L p) r apart ∙ change_same L r l in
        ap (λ (q : ℕ). change J q (put q y (J q))) to_r
        ∙ fun_ext (λ q.
        by_cases (ℕ_discrete q r)
        (λ (a : q ≡ r). rw a (change_same J r (put r y (J r)) ∙ put_tail r y (J r) (omega (arith, hr)) ∙ ap (λ (z : List ℕ). z ++ y ∷ []) at-r ∙ sym is))
        (λ a. change_other J r (put r y (J r)) q a
        ∙ by_cases (ℕ_discrete q p)
        (λ (b : q ≡ p). rw b (change_same back p (L p)))
        (λ b. change_other back p (L p) q b ∙ change_other K p (y ∷ L p) q b ∙ change_other L r l q a)))

  -- ---- elapsed's own slots

  abbrev own_place : ℕ → ℕ → ℕ
  own_place e k = slot_place k (slot_of e k)

  own_level : (e k : ℕ) → own_place e k / 64 ≡ k
  own_level e k = place_level k (slot_of e k) (slot_lt e k)

  own_slot : (e k : ℕ) → own_place e k % 64 ≡ slot_of e k
  own_slot e k = place_slot k (slot_of e k) (slot_lt e k)

  own_below : (e k : ℕ) → k < 6 → own_place e k < slots
  own_below e k h = omega (arith, slot_lt e k)

  -- e, a multiple of the width, is the start of its own slot, where elapsed f agrees with e above
  own_start : (e f k : ℕ) → floor k e ≡ e → f / width (suc k) ≡ e / width (suc k) → start_at f k (own_place e k % 64) ≡ e
  unfolding floor slot_of
  own_start e f k h g =
      ap (start_at f k) (own_slot e k) ∙ start_whole f k (slot_of e k)
      ∙ ap (λ (n : ℕ). (n * 64 + slot_of e k) * width k) (g ∙ quotient_step e k)
      ∙ ap (λ (n : ℕ). n * width k) (by (e / width k)) ∙ h
    where
      by : (n : ℕ) → n / 64 * 64 + n % 64 ≡ n
      by n = omega arith

  module _ {e : ℕ} {L : Lists} (P : Looking e L) where
    -- what lies in elapsed's own slot starts at elapsed
    own_floor : (k x : ℕ) → k < 6 → Mem x (L (own_place e k)) → floor k (d x) ≡ e
    unfolding slot_of
    own_floor k x h m =
        let s = P.rule.spot (own_place e k) x (own_below e k h) m in
        let l : Lies k e (d x) = subst (λ (n : ℕ). Lies n e (d x)) (own_level e k) s.lies in
        let a : e / width k % 64 ≡ d x / width k % 64 = sym (own_slot e k) ∙ s.slot ∙ ap (λ (n : ℕ). d x / width n % 64) (own_level e k) in
        let b : d x / width k ≡ e / width k = omega (arith, a, lies_block k e (d x) l) in
        omega (arith, floor_same k (d x) e b, floor_le k e, l.start)

    -- what starts at elapsed lies in its own slot
    own_place_lem : (p x : ℕ) → p < slots → Mem x (L p) → floor (p / 64) (d x) ≡ e → p ≡ own_place e (p / 64)
    unfolding slot_of
    own_place_lem p x hp m z =
        let b : d x / width (p / 64) ≡ e / width (p / 64) = sym (floor_quotient (p / 64) (d x)) ∙ ap (λ (n : ℕ). n / width (p / 64)) z in
        omega (arith, (P.rule.spot p x hp m).slot, ap (λ (n : ℕ). n % 64) b)

    -- nothing lies in one: the poll has just begun
    just_begun : ((k : ℕ) → 0 < k → k ≤ 5 → (x : ℕ) → Mem x (L (own_place e k)) → ⊥) → Rule d e L
    just_begun empty =
        between_rule P.rule
        (λ p x hp m u.
        by_cases (ℕ_discrete (floor (p / 64) (d x)) e)
        (λ z. absurd (empty (p / 64) u (omega arith) x (subst (λ (q : ℕ). Mem x (L q)) (own_place_lem p x hp m z) m)))
        (λ z. omega (arith, z, (P.rule.spot p x hp m).lies.start)))
        (λ x m. absurd (none_in x P.expired m))

    -- and nothing lies lower than what lies in one
    above_own : (k x : ℕ) → k < 6 → Mem x (L (own_place e k)) → (r y : ℕ) → r < slots → Mem y (L r) → k ≤ r / 64
    above_own k x h mx r y hr m =
        by_cases (dec_le k (r / 64)) (λ a. a)
        (λ a.
        let b = P.rule.later (own_place e k) x r y (own_below e k h) hr mx m (omega (arith, a, own_level e k)) in
        let c : e < floor k (d x) = subst (λ (n : ℕ). e < floor n (d x)) (own_level e k) b in
        absurd (omega (arith, c, own_floor k x h mx)))

    -- something lies in that of level k: a drain of the one above it has just ended
    module _ (k x : ℕ) (h : k < 5) (mx : Mem x (L (own_place e k))) (whole : floor (suc k) e ≡ e) where
      up_empty : L (own_place e (suc k)) ≡ []
      up_empty = empty_where (L (own_place e (suc k))) (λ y m.
          let a = P.rule.later (own_place e (suc k)) y (own_place e k) x (own_below e (suc k) (omega arith)) (own_below e k (omega arith)) m mx
          (omega (arith, own_level e k, own_level e (suc k))) in
          let b : e < floor (suc k) (d y) = subst (λ (n : ℕ). e < floor n (d y)) (own_level e (suc k)) a in
          omega (arith, b, own_floor (suc k) y (omega arith) m))

      just_drained : (f : ℕ) → f ≤ e → f / width (suc (suc k)) ≡ e / width (suc (suc k)) → (e ≡ f → Own (suc (suc k)) e L) → Inside k (own_place e (suc k)) f L
      just_drained f l g own =
          let p : ℕ = own_place e (suc k) in
          let hp : p < slots = own_below e (suc k) (omega arith) in
          let st : start f p ≡ e = start_as k p f (own_level e (suc k)) hp ∙ own_start e f (suc k) whole g in
          let hk : own_place e k < slots = own_below e k (omega arith) in
          let R : Draining d k p e L = record {
            spot = P.rule.spot;
            hand = λ y m. absurd (none_in y up_empty m);
            low = above_own k x (omega arith) mx;
            later = λ r y hr n m a. P.rule.later r y (own_place e k) x hr hk m mx (omega (arith, a, own_level e k));
            parked = λ y n m. P.rule.parked y m;
          } in
          record {
            level = own_level e (suc k);
            below = omega (arith, hp);
            expired = P.expired;
            late = omega (arith, st, l);
            due = omega (arith, st, P.due);
            rule = subst (λ (n : ℕ). Draining d k p n L) (sym st) R;
            own = λ z. let a : e ≡ f = sym st ∙ z in subst (λ (n : ℕ). Own (suc (suc k)) n L) a (own a);
          }

    -- something lies in that of the top level: the drain of the parking list has just ended
    just_unparked : (x : ℕ) → Mem x (L (own_place e 5)) → floor 6 e ≡ e → 0 < e → L parking ≡ [] → Inside 5 parking (e - 1) L
    just_unparked x mx whole pos bare =
        let st : start (e - 1) parking ≡ e = start_parking (e - 1) ∙ whole_end e whole pos in
        let R : Draining d 5 parking e L = record {
          spot = P.rule.spot;
          hand = λ y m. absurd (none_in y bare m);
          low = above_own 5 x (omega arith) mx;
          later = λ r y hr n m a. absurd (omega (arith, hr, a));
          parked = λ y n m. absurd (n refl);
        } in
        record {
          level = omega arith;
          below = omega arith;
          expired = P.expired;
          late = omega (arith, st);
          due = omega (arith, st, P.due);
          rule = subst (λ (n : ℕ). Draining d 5 parking n L) (sym st) R;
          own = λ z. absurd (omega (arith, st, z, pos));
        }

  -- ---- searches

  own_some : (e : ℕ) (L : Lists) (n : ℕ)
      → ((k : ℕ) × (x : ℕ) × (0 < k) × (k ≤ n) × Mem x (L (own_place e k))) ⊎ ((k : ℕ) → 0 < k → k ≤ n → (x : ℕ) → Mem x (L (own_place e k)) → ⊥)
  own_some e L zero = inr (λ k a b x m. omega (arith, a, b))
  own_some e L (suc n) = by (own_some e L n) (L (own_place e (suc n))) refl
    where
      by : ((k : ℕ) × (x : ℕ) × (0 < k) × (k ≤ n) × Mem x (L (own_place e k))) ⊎ ((k : ℕ) → 0 < k → k ≤ n → (x : ℕ) → Mem x (L (own_place e k)) → ⊥)
          → (l : List ℕ) → L (own_place e (suc n)) ≡ l
          → ((k : ℕ) × (x : ℕ) × (0 < k) × (k ≤ suc n) × Mem x (L (own_place e k))) ⊎ ((k : ℕ) → 0 < k → k ≤ suc n → (x : ℕ) → Mem x (L (own_place e k)) → ⊥)
      by (inl c) l is = inl (c.0, c.1, c.2, omega (arith, c.3), c.4)
      by (inr h) [] is = inr (λ k a b x m. by_cases (ℕ_discrete k (suc n)) (λ (z : k ≡ suc n). none_in x is (rw z at m)) (λ z. h k a (omega (arith, b, z)) x m))
      by (inr h) (x ∷ l) is = inl (suc n, x, omega arith, omega arith, rw is (inl refl))

  level_some : (L : Lists) (k n : ℕ) → ((q : ℕ) × (x : ℕ) × (q < n) × (q / 64 ≡ k) × Mem x (L q)) ⊎ ((q x : ℕ) → q < n → Mem x (L q) → q / 64 ≢ k)
  level_some L k zero = inr (λ q x h m. absurd (omega (arith, h)))
  level_some L k (suc n) = by (level_some L k n) (ℕ_discrete (n / 64) k) (L n) refl
    where
      by : ((q : ℕ) × (x : ℕ) × (q < n) × (q / 64 ≡ k) × Mem x (L q)) ⊎ ((q x : ℕ) → q < n → Mem x (L q) → q / 64 ≢ k) → Dec (n / 64 ≡ k)
          → (l : List ℕ) → L n ≡ l
          → ((q : ℕ) × (x : ℕ) × (q < suc n) × (q / 64 ≡ k) × Mem x (L q)) ⊎ ((q x : ℕ) → q < suc n → Mem x (L q) → q / 64 ≢ k)
      by (inl c) v l is = inl (c.0, c.1, omega (arith, c.2), c.3, c.4)
      by (inr h) (yes v) (x ∷ l) is = inl (n, x, omega arith, v, rw is (inl refl))
      by (inr h) (yes v) [] is =
          inr (λ q x g m. by_cases (ℕ_discrete q n) (λ (z : q ≡ n). absurd (none_in x is (rw z at m))) (λ z. h q x (omega (arith, g, z)) m))
      by (inr h) (no v) l is = inr (λ q x g m. by_cases (ℕ_discrete q n) (λ (z : q ≡ n). rw z v) (λ z. h q x (omega (arith, g, z)) m))

  last_of : (x : ℕ) (l : List ℕ) → (a : List ℕ) × (y : ℕ) × (x ∷ l ≡ a ++ y ∷ [])
  last_of x [] = ([], x, refl)
  last_of x (z ∷ l) = let r = last_of z l in (x ∷ r.0, r.1, ap (λ (k : List ℕ). x ∷ k) r.2)

  -- who is in a list shows its last
  mem_last_of : (x : ℕ) (l : List ℕ) → Mem x l → (a : List ℕ) × (y : ℕ) × (l ≡ a ++ y ∷ [])
  mem_last_of x [] m = absurd m
  mem_last_of x (z ∷ l) m = last_of z l

  -- ---- the way back, by how far the entries can still rise

  abbrev CanRise : ℕ → Lists → Type 0
  CanRise n L = amount (λ x. 6) L < n + heights L

  room_some : (L : Lists) → CanRise 0 L → ⊥
  unfolding heights amount
  room_some L h = omega (arith, h, total_le (λ p x. p / 64) (λ p x. 6) expired L (λ p x l. omega (arith, l)))

  room_all : (L : Lists) → CanRise (suc (amount (λ x. 6) L)) L
  room_all L = omega arith

  record Back (n : ℕ) : Type 0 where
    look : {e : ℕ} {L : Lists} → Looking e L → CanRise n L
        → {o : Outcome} {b m i e' : ℕ} {N : Lists} → Limited d now none b e L o m i e' N → Comes d now o e' N
    inside : {k p e : ℕ} {L : Lists} → Inside k p e L → (x : ℕ) (l : List ℕ) → L p ≡ x ∷ l → CanRise n L
        → {o : Outcome} {b m i e' : ℕ} {N : Lists} → Limited d now (some p) b e L o m i e' N → Comes d now o e' N

  -- one move back
  back_move : {n : ℕ} → Back n → {k p e : ℕ} {L : Lists} → Inside k p e L → (r x : ℕ) → r < slots → r / 64 ≡ k → Mem x (L r) → CanRise (suc n) L
      → {o : Outcome} {b m i e' : ℕ} {N : Lists} → Limited d now (some p) b e L o m i e' N → Comes d now o e' N
  back_move {n} ih {k} {p} {e} {L} D r x hr lower mx room {o} {b} {m} {i} {e'} {N} q =
      let c = mem_last_of x (L r) mx in
      let y : ℕ = c.1 in
      let l : List ℕ = c.0 in
      let is : L r ≡ l ++ y ∷ [] = c.2 in
      let M : Lists = back D r y l hr is lower in
      let E : arrive k (d y) y (change M p (L p)) ≡ L = redone D r y l hr is lower in
      let W = move_law d k p D.level D.below M y (L p) (back_is D r y l hr is lower) in
      let f : heights L + 1 ≡ heights M = ap (λ (Q : Lists). heights Q + 1) (sym E) ∙ W.fallen in
      let a : amount (λ x. 6) L ≡ amount (λ x. 6) M = ap (amount (λ x. 6)) (sym E) ∙ W.kept (λ x. 6) in
      let z : k ≡ p / 64 - 1 = omega (arith, D.level) in
      let E' : arrive (p / 64 - 1) (d y) y (change M p (L p)) ≡ L = ap (λ (j : ℕ). arrive j (d y) y (change M p (L p))) (sym z) ∙ E in
      ih.inside (undone D r y l hr is lower) y (L p) (back_is D r y l hr is lower) (omega (arith, room, f, a))
      (moves (back_is D r y l hr is lower) (subst (λ (Q : Lists). Limited d now (some p) b e Q o m i e' N) (sym E') q))

  -- one drain back
  back_look : {n : ℕ} → Back n → {e : ℕ} {L : Lists} → Looking e L → CanRise (suc n) L
      → {o : Outcome} {b m i e' : ℕ} {N : Lists} → Limited d now none b e L o m i e' N → Comes d now o e' N
  back_look {n} ih {e} {L} P room {o} {b} {m} {i} {e'} {N} q = ⊎_elim (λ c. undo c.0 c.1 c.2 c.3 c.4) begin (own_some e L 5)
    where
      begin : ((k : ℕ) → 0 < k → k ≤ 5 → (x : ℕ) → Mem x (L (own_place e k)) → ⊥) → Comes d now o e' N
      begin h = record { from = e; lists = L; rule = just_begun P h; expired = P.expired; due = P.due; limit = b; moves = m; drains = i; polls = q }

      undo : (k x : ℕ) → 0 < k → k ≤ 5 → Mem x (L (own_place e k)) → Comes d now o e' N
      undo k x pos le mx = by_cases (ℕ_discrete k 5) unpark (λ z. by (omega (arith, le, z)) (ℕ_discrete (floor (suc (suc k)) e) e))
        where
          hk : own_place e k < slots
          hk = own_below e k (omega arith)

          O : Own (suc k) e L
          O =
              subst (λ (n : ℕ). Own (suc n) e L) (own_level e k)
              (P.own (own_place e k) x hk mx (omega (arith, own_level e k)) (ap (λ (n : ℕ). floor n (d x)) (own_level e k) ∙ own_floor P k x (omega arith) mx))

          -- of the top level: out of the parking list
          unpark : k ≡ 5 → Comes d now o e' N
          unpark z =
              let w : floor 6 e ≡ e = subst (λ (n : ℕ). floor (suc n) e ≡ e) z O.0 in
              let A = O.1 w in
              let mx' : Mem x (L (own_place e 5)) = subst (λ (n : ℕ). Mem x (L (own_place e n))) z mx in
              let st : e ≡ start (e - 1) parking = sym (start_parking (e - 1) ∙ whole_end e w A.0) in
              back_move ih (just_unparked P x mx' w A.0 A.1) (own_place e 5) x (own_below e 5 (omega arith)) (own_level e 5) mx' room
              (empties A.1 (subst (λ (c : ℕ). Limited d now none b c L o m i e' N) st q))

          go : k < 5 → (f : ℕ) → f ≤ e → f / width (suc (suc k)) ≡ e / width (suc (suc k)) → (e ≡ f → Own (suc (suc k)) e L) → Comes d now o e' N
          go small f l g own =
              let p : ℕ = own_place e (suc k) in
              let st : e ≡ start f p = sym (start_as k p f (own_level e (suc k)) (own_below e (suc k) (omega arith)) ∙ own_start e f (suc k) O.0 g) in
              back_move ih (just_drained P k x small mx O.0 f l g own) (own_place e k) x hk (own_level e k) mx room
              (empties (up_empty P k x small mx O.0) (subst (λ (c : ℕ). Limited d now none b c L o m i e' N) st q))

          some_time : floor (suc (suc k)) e ≢ e → 0 < e
          some_time w = by_cases (ℕ_discrete e 0) (λ z. absurd (w (omega (arith, z, floor_le (suc (suc k)) e)))) (λ z. omega (arith, z))

          -- where elapsed is no multiple of the width above, it was one less
          by : k < 5 → Dec (floor (suc (suc k)) e ≡ e) → Comes d now o e' N
          by small (yes w) = go small e (omega arith) refl (λ z. (w, O.1))
          by small (no w) = go small (e - 1) (omega arith) (pred_quotient (suc (suc k)) e w) (λ z. absurd (omega (arith, z, some_time w)))

  back_inside : {n : ℕ} → Back n → {k p e : ℕ} {L : Lists} → Inside k p e L → (x : ℕ) (l : List ℕ) → L p ≡ x ∷ l → CanRise (suc n) L
      → {o : Outcome} {b m i e' : ℕ} {N : Lists} → Limited d now (some p) b e L o m i e' N → Comes d now o e' N
  back_inside {n} ih {k} {p} {e} {L} D x l is room {o} {b} {m} {i} {e'} {N} q =
      ⊎_elim (λ c. back_move ih D c.0 c.1 c.2 c.3 c.4 room q) find (level_some L k slots)
    where
      find : ((q x : ℕ) → q < slots → Mem x (L q) → q / 64 ≢ k) → Comes d now o e' N
      find h =
          let none_below : (r y : ℕ) → r < slots → Mem y (L r) → suc k ≤ r / 64 = λ r y hr my. omega (arith, h r y hr my, D.rule.low r y hr my) in
          back_look ih (just_looked D none_below) room (finds (just_found D none_below x l is) D.due q)

  back_all : (n : ℕ) → Back n
  back_all zero = record { look = λ {e} {L} P room q. absurd (room_some L room); inside = λ {k} {p} {e} {L} D x l is room q. absurd (room_some L room) }
  back_all (suc n) = record { look = back_look (back_all n); inside = back_inside (back_all n) }

  pub hand_comes : {p e : ℕ} {L : Lists} → InHand d now p e L → Comes d now (yet p) e L
  hand_comes {p} {e} {L} H =
      let c = H.filled in
      (back_all (suc (amount (λ x. 6) L))).inside (hand_inside H) c.0 c.1 c.2 (room_all L) (stops c.2)

  -- a call that goes on with it and stops again leaves the rule too
  pub hand_goes : {b p e q m n e' : ℕ} {L M : Lists} → InHand d now p e L → Limited d now (some p) b e L (yet q) m n e' M
      → InHand d now q e' M × PollKept e L m e' M
  hand_goes H r = (limited_hand (_, hand_inside H) r, limited_kept (_, hand_inside H) r)

-- the rule holds exactly of what a poll at `until` that stopped at p leaves
pub midway_exactly : (d : ℕ → ℕ) (until p e : ℕ) (L : Lists) → InHand d until p e L ↔ Comes d until (yet p) e L
midway_exactly d until p e L = (hand_comes d until, comes_hand d until)
