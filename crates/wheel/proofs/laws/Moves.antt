-- What the loops' proofs cite: a move, a drain move by move, a poll look by look. Whatever the relation says from here, it says from the start with
-- the counts so far added.
use mathlib.Core.Path.{◌≡◌, refl, sym, ap, ◌∙◌, subst}
use mathlib.Core.Logic.{◌≢◌, inl, by_cases}
use mathlib.Core.List.{List, [], ◌∷◌, nil≢cons}
use mathlib.Core.Option.{Option, none, some}
use Prim.Native.Nat.{ℕ, zero, suc, ◌+◌, ◌-◌, ◌^◌, ◌≤◌, ◌<◌}
use native.Mathlib.Omega.{arith}
use native.Mathlib.Nat.{zero-add}
use native.Mathlib.Decide.{ℕ_discrete}
use lib.ListN.{length}
use borrow.Author.Tests.{eq-eqb, ne_eqb}
use Rattle.times.specs.Times.{start_at, level_of}
use Rattle.times.proofs.laws.Levels.{level_is}
use Rattle.links.specs.Lists.{nobody, first_d, change}
use Rattle.links.specs.Links.{at}
use Rattle.places.specs.Places.{slot_place, parking, expired, places, level_at, slot_at, top_height, most_heights}
use Rattle.places.proofs.laws.Heads.{head_parking}
use Rattle.places.specs.Whole as places
use Rattle.places.proofs.laws.Whole as place_laws
use Rattle.wheel.specs.declared.Expiration.{Expiration}
use Rattle.std.specs.Prelude.{Option as Maybe, Some, None}
use Rattle.wheel.specs.Wheel.{Lists, FirstSlot, NextList, in_slot, in_parking, arrive, Polls, idle, early, out}
use Rattle.wheel.specs.Limited.{Outcome, ended, yet, start, Limited, rests, waits, hands, finds, stops, moves, empties}
use Rattle.wheel.specs.Midway.{InHand}
use Rattle.wheel.specs.Between.{Between}
use Rattle.wheel.proofs.laws.Sums.{total_zero, total_le, total_scale}
use Rattle.wheel.proofs.laws.Next.{list_height, list_some}
use Rattle.wheel.proofs.laws.Limited.{list_begins}
use Rattle.wheel.specs.Drain.{heights}
use Rattle.wheel.proofs.laws.Drain.{move_law}
use Rattle.wheel.proofs.laws.Midway.{Looking, Inside, inside_hand, hand_inside, begun, found, moved_on, emptied}
use Rattle.wheel.proofs.laws.Poll.{poll_law}
use Rattle.wheel.specs.Expiration.{CanLook, Sees, NextIs, CanGo, GoesTo}
use Rattle.wheel.proofs.laws.Expiration.{between_passed}
use Rattle.wheel.specs.Words.{WheelWords, wheel_words, lists, count, WheelWhole, Becomes, LooseIn, CanAdd, CanPop, Pops}
use Rattle.wheel.proofs.laws.Words.{head_at}
use Rattle.wheel.specs.Moves.{CanInsert, CanTake, CanMove, MovesOne, Shifts, stays, shifts, DrainsTo, CanPoll, gotten, outcome, PollsTo}

-- ---- becoming, twice

pub becomes_refl : {t : WheelWords} → WheelWhole t → Becomes t (lists t) t
becomes_refl {t} W = record { whole = W; lists = refl; elapsed = refl; kept = place_laws.kept_refl t.places }

pub becomes_trans : {t u v : WheelWords} {L M : Lists} → Becomes t L u → Becomes u M v → Becomes t M v
becomes_trans A B = record {
  whole = B.whole;
  lists = B.lists;
  elapsed = B.elapsed ∙ A.elapsed;
  kept = place_laws.kept_trans A.kept B.kept;
}

-- ---- insert: the deadline lies in elapsed's block, so that its level is one of the six

pub insert_adds : {t : WheelWords} {w i : ℕ} → CanInsert t w i → (k : ℕ) → k ≡ level_of t.elapsed w → CanAdd t k i
insert_adds {t} {w} C k e = record { whole = C.whole; level = omega (arith, (level_is t.elapsed w).within); item = C.item }

pub inserted : (t : WheelWords) (w i k : ℕ) {t' : WheelWords} → k ≡ level_of t.elapsed w → Becomes t (arrive k w i (lists t)) t'
    → Becomes t (arrive (level_of t.elapsed w) w i (lists t)) t'
inserted t w i k e B = rw e at B

-- ---- the head of a slot, or of the parking list

pub take_slot : {t : WheelWords} {k s : ℕ} → CanTake t k s → k < 6 → CanPop t k s
take_slot C h = record { whole = C.whole; level = h; slot = C.slot }

-- above the six levels only it is left
pub take_parking : {t : WheelWords} {k s : ℕ} → CanTake t k s → 6 ≤ k → parking ≡ slot_place k s
take_parking C h = omega (arith, C.below, h)

pub taken_parking : {t u : WheelWords} {k s item : ℕ} → CanTake t k s → 6 ≤ k → Pops t parking item u → Pops t (slot_place k s) item u
taken_parking {t} {u} {k} {s} {item} C h Q = subst (λ p. Pops t p item u) (take_parking C h) Q

-- ---- one move

-- by what came of it: item is the head of p, or nobody where p is empty
module _ {t : WheelWords} (W : WheelWhole t) (p : ℕ) {item : ℕ} (none : lists t p ≡ [] → item ≡ nobody)
    (some : (x : ℕ) (l : List ℕ) → lists t p ≡ x ∷ l → item ≡ x) where
  head_is : head_at t p ≡ item
  head_is = place_laws.head_first W.places p ∙ by (lists t p) refl
    where
      by : (l : List ℕ) → lists t p ≡ l → first_d nobody l ≡ item
      by [] e = sym (none e)
      by (x ∷ l) e = sym (some x l e)

  was_empty : item ≡ nobody → lists t p ≡ []
  was_empty z = place_laws.list_empty W.places p (head_is ∙ z)

  was_cons : item ≢ nobody → (l : List ℕ) × (lists t p ≡ item ∷ l)
  was_cons d = rw head_is at (place_laws.list_cons W.places p (λ z. d (sym head_is ∙ z)))

module _ {t : WheelWords} {p item : ℕ} {u : WheelWords} (W : WheelWhole t) (Q : Pops t p item u) where
  pub popped_empty : item ≡ nobody → lists t p ≡ []
  popped_empty = was_empty W p (λ e. (Q.none e).0) (λ x l e. (Q.some x l e).0)

  pub popped_cons : item ≢ nobody → (l : List ℕ) × (lists t p ≡ item ∷ l)
  popped_cons = was_cons W p (λ e. (Q.none e).0) (λ x l e. (Q.some x l e).0)

module _ {t : WheelWords} {ds : List ℕ} {k s : ℕ} (C : CanMove t ds k s) {item : ℕ} {u : WheelWords}
    (Q : Pops t (slot_place k s) item u) where
  pub moved_none : item ≡ nobody → MovesOne (at ds) t (k - 1) (slot_place k s) item u
  moved_none z =
      let e = popped_empty C.pop.whole Q z in
      record { none = Q.none; some = λ x l f. absurd (nil≢cons (sym e ∙ f)) }

  module _ (some : item ≢ nobody) where
    was : (l : List ℕ) × (lists t (slot_place k s) ≡ item ∷ l)
    was = popped_cons C.pop.whole Q some

    pub move_deadline : item < length ds
    move_deadline = omega (arith, place_laws.member_below C.pop.whole.places (slot_place k s) item (rw was.1 (inl refl)))

    pub move_adds : CanAdd u (k - 1) item
    move_adds =
        let r = Q.some item was.0 was.1 in
        record { whole = r.2.whole; level = omega (arith, C.pop.below, C.high); item = r.1 }

    pub moved_some : (w : ℕ) → w ≡ at ds item → {v : WheelWords} → Becomes u (arrive (k - 1) w item (lists u)) v
        → MovesOne (at ds) t (k - 1) (slot_place k s) item v
    moved_some w ew {v} B =
        let r = Q.some item was.0 was.1 in
        let A : Becomes u (arrive (k - 1) (at ds item) item (change (lists t) (slot_place k s) was.0)) v
        = subst (λ (L : Lists). Becomes u (arrive (k - 1) (at ds item) item L) v) r.2.lists
        (subst (λ (z : ℕ). Becomes u (arrive (k - 1) z item (lists u)) v) ew B) in
        record {
          none = λ f. absurd (nil≢cons (sym f ∙ was.1));
          some = λ x l f.
              let e : item ∷ was.0 ≡ x ∷ l = sym was.1 ∙ f in
              let a : item ≡ x = cc in
              let b : was.0 ≡ l = cc in
              (a, rw (← a, ← b) (becomes_trans r.2 A));
        }

-- ---- a drain, move by move

-- t₀ was drained of some entries, so that `left` of `limit` moves are left, and is t now
pub record DrainedSo (d : ℕ → ℕ) (t₀ : WheelWords) (k p limit left : ℕ) (t : WheelWords) : Type 0 where
  pub within : left ≤ limit
  pub becomes : Becomes t₀ (lists t) t
  pub so_far : (m : ℕ) (M : Lists) → Shifts d k p (lists t) m M → Shifts d k p (lists t₀) (limit - left + m) M

shifts_as : {d : ℕ → ℕ} {k p m n : ℕ} {L M : Lists} → m ≡ n → Shifts d k p L m M → Shifts d k p L n M
shifts_as {d} {k} {p} {m} {n} {L} {M} e r = subst (λ (i : ℕ). Shifts d k p L i M) e r

module _ {t₀ : WheelWords} {ds : List ℕ} {k s : ℕ} (C : CanMove t₀ ds k s) where
  abbrev So : ℕ → ℕ → WheelWords → Type 0
  So limit left t = DrainedSo (at ds) t₀ (k - 1) (slot_place k s) limit left t

  pub step_start : (limit : ℕ) → So limit limit t₀
  step_start limit =
      record { within = omega arith; becomes = becomes_refl C.pop.whole; so_far = λ m M D. shifts_as (omega arith) D }

  module _ {limit left : ℕ} {t : WheelWords} (S : So limit left t) where
    pub step_can : CanMove t ds k s
    step_can =
        record {
          pop = record { whole = S.becomes.whole; slot = C.pop.slot; below = C.pop.below };
          high = C.high;
          deadlines = omega arith;
        }

    -- the limit is used up
    pub step_full : left ≡ 0 → DrainsTo (at ds) t₀ (k - 1) (slot_place k s) limit left t
    step_full z =
        record {
          within = S.within;
          shifted = shifts_as (omega arith) (S.so_far 0 (lists t) stays);
          becomes = S.becomes;
          stopped = λ h. absurd (h z);
        }

    module _ {item : ℕ} {u : WheelWords} (Q : MovesOne (at ds) t (k - 1) (slot_place k s) item u) where
      pub step_more : left ≢ 0 → item ≢ nobody → So limit (left - 1) u
      step_more more h =
          let p : ℕ = slot_place k s in
          let w = was_cons S.becomes.whole p (λ e. (Q.none e).0) (λ x l e. (Q.some x l e).0) h in
          let r = Q.some item w.0 w.1 in
          record {
            within = omega (arith, S.within);
            becomes = becomes_trans S.becomes (rw r.1.lists r.1);
            so_far = λ m M D. shifts_as (omega (arith, S.within)) (S.so_far (suc m) M (shifts w.1 (rw r.1.lists at D)));
          }

      -- nobody is left
      pub step_done : item ≡ nobody → DrainsTo (at ds) t₀ (k - 1) (slot_place k s) limit left u
      step_done z =
          let p : ℕ = slot_place k s in
          let e = was_empty S.becomes.whole p (λ e. (Q.none e).0) (λ x l e. (Q.some x l e).0) z in
          let r = Q.none e in
          record {
            within = S.within;
            shifted = rw r.1.lists (shifts_as (omega arith) (S.so_far 0 (lists t) stays));
            becomes = becomes_trans S.becomes (rw r.1.lists r.1);
            stopped = λ h. ap (λ (L : Lists). L p) r.1.lists ∙ e;
          }

-- ---- a poll, look by look

-- no record is higher than a parked one
pub heights_small : {t : WheelWords} → WheelWhole t → heights (lists t) ≤ most_heights
unfolding heights
heights_small {t} W =
    let a = total_le (λ p x. level_at p) (λ p x. top_height) expired (lists t) (omega arith) in
    let b = total_scale top_height places (lists t) 0 places (omega arith) in
    let c = total_scale top_height places (lists t) expired 2 (omega arith) in
    omega (arith, total_zero (λ p x. top_height) (lists t), place_laws.members_few W.places)

-- the head of the parking list
parked_head : (t : WheelWords) → head_at t parking ≡ t.places.tops.parking
parked_head t = head_parking t.places.tops t.places.heads

parked_first : {t : WheelWords} → WheelWhole t → t.places.tops.parking ≢ nobody
    → (l : List ℕ) × (lists t parking ≡ t.places.tops.parking ∷ l)
parked_first {t} W h = rw (parked_head t) at (place_laws.list_cons W.places parking (λ z. h (sym (parked_head t) ∙ z)))

-- what a look asks, and what it sees
pub wheel_asks : {t : WheelWords} → WheelWhole t → {d : ℕ → ℕ} → Between d t.elapsed (lists t) → (ds : List ℕ) → count t ≤ length ds
    → CanLook t.elapsed t.occupied ds t.places.tops.parking
wheel_asks {t} W B ds h =
    record {
      occupied = between_passed B W.occupied;
      deadline = λ n.
          let r = parked_first W n in
          omega (arith, h, place_laws.member_below W.places parking t.places.tops.parking (rw r.1 (inl refl)));
    }

pub wheel_sees : {t : WheelWords} → WheelWhole t → {d : ℕ → ℕ} → Between d t.elapsed (lists t)
    → Sees d t.elapsed t.occupied t.places.tops.parking (lists t)
wheel_sees {t} W B =
    record {
      occupied = W.occupied;
      none = λ z. place_laws.list_empty W.places parking (parked_head t ∙ z);
      some = parked_first W;
      block = λ h. let r = parked_first W h in B.parked t.places.tops.parking (rw r.1 (inl refl));
    }

pub got_none : (i : ℕ) → i ≡ nobody → gotten i ≡ none
got_none i e = rw (eq-eqb i nobody e)

pub got_some : (i : ℕ) → i ≢ nobody → gotten i ≡ some i
got_some i d = rw (ne_eqb i nobody d)

-- what a poll passes through: it looks, or a drain is in hand
pub record Passing (d : ℕ → ℕ) (now place e : ℕ) (L : Lists) : Type 0 where
  pub free : place ≡ nobody → Looking d now e L
  pub inside : place ≢ nobody → InHand d now place e L

-- t₀ was polled up to here, so many moves were made, `left` more are allowed, and it is t now, with the drain of `place` in hand
pub record PolledSo (d : ℕ → ℕ) (now limit hand : ℕ) (t₀ : WheelWords) (place left made drains : ℕ) (t : WheelWords) : Type 0 where
  pub whole : WheelWhole t
  pub passing : Passing d now place t.elapsed (lists t)
  pub kept : places.PlacesKept t₀.places t.places
  pub within : made + left ≡ limit
  pub so_far : {o : Outcome} {m n e : ℕ} {M : Lists} → Limited d now (gotten place) left t.elapsed (lists t) o m n e M
      → Limited d now (gotten hand) limit t₀.elapsed (lists t₀) o (made + m) (drains + n) e M
  pub counted : made + heights (lists t) ≡ heights (lists t₀)
  pub few : drains ≤ made

-- equal numbers in a poll with a limit
module _ {d : ℕ → ℕ} {now e e' : ℕ} {L N : Lists} where
  counts_as : {h : Option ℕ} {b m n m' n' : ℕ} {o : Outcome} → m ≡ m' → n ≡ n' → Limited d now h b e L o m n e' N
      → Limited d now h b e L o m' n' e' N
  counts_as {h} {b} {m} {n} {m'} {n'} {o} p q r =
      subst (λ (j : ℕ). Limited d now h b e L o m' j e' N) q (subst (λ (i : ℕ). Limited d now h b e L o i n e' N) p r)

  from_as : {h i : Option ℕ} {b c m n : ℕ} {o : Outcome} → h ≡ i → b ≡ c → Limited d now h b e L o m n e' N → Limited d now i c e L o m n e' N
  from_as {h} {i} {b} {c} {m} {n} {o} p q r =
      subst (λ (j : ℕ). Limited d now i j e L o m n e' N) q (subst (λ (j : Option ℕ). Limited d now j b e L o m n e' N) p r)

-- the constructors at the code's level k
module _ {d : ℕ → ℕ} {now e : ℕ} {L : Lists} where
  out_at : {b : ℕ} (k s x : ℕ) (l : List ℕ) → FirstSlot e L k s → k ≡ 0 → start_at e k s ≤ now → L (slot_place k s) ≡ x ∷ l
      → Limited d now none b e L (ended (some x)) 0 0 e (change L (slot_place k s) l)
      × Polls d now e L (some x) 0 0 e (change L (slot_place k s) l)
  out_at zero s x l F z h i = (hands F h i, out F h i)
  out_at (suc k) s x l F z h i = absurd (omega arith)

  out_next : {b k p c : ℕ} → NextList e L k p c → k ≡ 0 → c ≤ now → {x : ℕ} {l : List ℕ} → L p ≡ x ∷ l
      → Limited d now none b e L (ended (some x)) 0 0 e (change L p l) × Polls d now e L (some x) 0 0 e (change L p l)
  out_next (in_slot {k} {s} F) z h {x} {l} i = out_at k s x l F z h i
  out_next (in_parking E is) z h i = absurd (omega arith)

  finds_at : {b m n e' : ℕ} {N : Lists} {o : Outcome} (k : ℕ) {p c : ℕ} → NextList e L k p c → k ≢ 0 → c ≤ now
      → Limited d now (some p) b e L o m n e' N → Limited d now none b e L o m n e' N
  finds_at zero X z h r = absurd (z refl)
  finds_at (suc k) X z h r = finds X h r

  found_at : Looking d now e L → (k : ℕ) {p c : ℕ} → NextList e L k p c → k ≢ 0 → c ≤ now → InHand d now p e L
  found_at P zero X z h = absurd (z refl)
  found_at P (suc k) X z h = inside_hand d now (found d now P X h) (list_some X).2

-- some moves out of p
module _ {d : ℕ → ℕ} {now : ℕ} where
  shifts_limited : {k p b e m i n e' : ℕ} {L M N : Lists} {o : Outcome} → k ≡ level_at p - 1 → Shifts d k p L m M
      → Limited d now (some p) b e M o i n e' N → Limited d now (some p) (m + b) e L o (m + i) n e' N
  shifts_limited {b = b} {i = i} z stays r = rw (zero-add b, zero-add i) r
  shifts_limited {k} {p} {b} {e} {i = i} {n} {e'} {N = N} {o = o} z (shifts {L = L} {m = m} {x = x} {l = l} is D) r =
      let q = shifts_limited z D r in
      let w : Limited d now (some p) (m + b) e (arrive (level_at p - 1) (d x) x (change L p l)) o (m + i) n e' N
      = subst (λ (j : ℕ). Limited d now (some p) (m + b) e (arrive j (d x) x (change L p l)) o (m + i) n e' N) z q in
      counts_as (omega arith) refl (from_as refl (omega arith) (moves is w))

  shifts_inside : {k p e m : ℕ} {L M : Lists} → Inside d now k p e L → Shifts d k p L m M → Inside d now k p e M
  shifts_inside D stays = D
  shifts_inside D (shifts is S) = shifts_inside (moved_on d now D is) S

  shifts_fallen : {k p e m : ℕ} {L M : Lists} → Inside d now k p e L → Shifts d k p L m M → m + heights M ≡ heights L
  shifts_fallen D stays = omega arith
  shifts_fallen {k} {p} D (shifts {L = L} {x = x} {l = l} is S) =
      omega (arith, shifts_fallen (moved_on d now D is) S, (move_law d k p D.level D.below L x l is).fallen)

shifts_some : {d : ℕ → ℕ} {k p m x : ℕ} {L M : Lists} {l : List ℕ} → L p ≡ x ∷ l → M p ≡ [] → Shifts d k p L m M → 0 < m
shifts_some is e stays = absurd (nil≢cons (sym e ∙ is))
shifts_some is e (shifts i S) = omega arith

module _ {t₀ : WheelWords} {ds : List ℕ} {hand now : ℕ} (C : CanPoll t₀ ds hand now) (limit : ℕ) where
  abbrev d : ℕ → ℕ
  d = at ds

  abbrev PollSo : ℕ → ℕ → ℕ → ℕ → WheelWords → Type 0
  PollSo place left made drains t = PolledSo d now limit hand t₀ place left made drains t

  pub poll_start : PollSo hand limit 0 0 t₀
  poll_start =
      record {
        whole = C.whole;
        passing = record {
          free = λ z. begun d now (C.rule.free z) C.expired (C.not_back z);
          inside = λ z. C.rule.inside z;
        };
        kept = place_laws.kept_refl t₀.places;
        within = omega arith;
        so_far = λ {o} {m} {n} {e} {M} r. counts_as (omega arith) (omega arith) r;
        counted = omega arith;
        few = omega arith;
      }

  module _ {place left count drains : ℕ} {t : WheelWords} (S : PollSo place left count drains t) where
    pub counts_small : (count ≤ most_heights) × (drains ≤ most_heights)
    counts_small = omega (arith, heights_small C.whole, S.counted, S.few)

    -- ---- it looks

    module _ (free : place ≡ nobody) where
      looking : Looking d now t.elapsed (lists t)
      looking = S.passing.free free

      look_asks : CanLook t.elapsed t.occupied ds t.places.tops.parking
      look_asks = wheel_asks S.whole looking.rule ds (omega (arith, C.deadlines, S.kept.size))

      look_sees : Sees d t.elapsed t.occupied t.places.tops.parking (lists t)
      look_sees = wheel_sees S.whole looking.rule

      -- the poll ends: what it hands out, elapsed and the lists after it
      ends : {item : ℕ} {u : WheelWords} → Limited d now none left t.elapsed (lists t) (ended (gotten item)) 0 0 u.elapsed (lists u)
          → Polls d now t.elapsed (lists t) (gotten item) 0 0 u.elapsed (lists u)
          → WheelWhole u → places.PlacesKept t.places u.places → (item ≢ nobody → LooseIn u item)
          → PollsTo d now limit hand t₀ item place count drains u
      ends {item} {u} r p W K l =
          let o : outcome item place ≡ ended (gotten item) = rw (eq-eqb place nobody free) in
          record {
            polls = rw o (counts_as (omega arith) (omega arith) (S.so_far (from_as (sym (got_none place free)) refl r)));
            whole = W;
            rule = record {
              free = λ z. (poll_law looking.rule looking.expired looking.due p).rule;
              inside = λ z. absurd (z free);
            };
            kept = place_laws.kept_trans S.kept K;
            loose = l;
          }

      rest : Limited d now none left t.elapsed (lists t) (ended none) 0 0 now (lists t) → Polls d now t.elapsed (lists t) none 0 0 now (lists t)
          → PollsTo d now limit hand t₀ nobody place count drains (wheel_words now t.occupied t.places)
      rest r p =
          ends {item = nobody} r p (record { places = S.whole.places; occupied = S.whole.occupied }) (place_laws.kept_refl t.places)
          (λ h. absurd (h refl))

      -- an empty wheel
      pub poll_idle : NextIs t.elapsed (lists t) None
          → PollsTo d now limit hand t₀ nobody place count drains (wheel_words now t.occupied t.places)
      poll_idle E = rest (rests E) (idle E)

      module _ {k s c : ℕ} (N : (s < 64) × NextList t.elapsed (lists t) k (slot_place k s) c) where
        -- a start past now
        pub poll_early : now < c
            → PollsTo d now limit hand t₀ nobody place count drains (wheel_words now t.occupied t.places)
        poll_early h = rest (waits N.1 h) (early N.1 h)

        pub pop_can : k ≡ 0 → CanPop t k s
        pop_can z = record { whole = S.whole; level = omega arith; slot = N.0 }

        pub place_can : (s < 64) × (slot_place k s < expired)
        place_can = (N.0, (list_height N.1).1)

        -- the head of a slot of level 0
        pub poll_out : k ≡ 0 → c ≤ now → (item : ℕ) {u : WheelWords} → Pops t (slot_place k s) item u
            → PollsTo d now limit hand t₀ item place count drains u
        poll_out z due item {u} Q =
            let f = list_some N.1 in
            let x : ℕ = f.0 in
            let l : List ℕ = f.1 in
            let r = Q.some x l f.2 in
            let h : item ≢ nobody
            = omega (
              arith,
              r.0,
              place_laws.member_below S.whole.places (slot_place k s) x (rw f.2 (inl refl)),
              place_laws.small S.whole.places,
            ) in
            let o = out_next {d = d} {now = now} {b = left} N.1 z due f.2 in
            let g : gotten item ≡ some x = got_some item h ∙ ap some r.0 in
            ends {item = item} {u = u} (rw (g, r.2.elapsed, r.2.lists) o.0) (rw (g, r.2.elapsed, r.2.lists) o.1) r.2.whole r.2.kept
            (λ y. rw r.0 r.1)

        -- a list above level 0: its drain is in hand
        pub poll_finds : k ≢ 0 → c ≤ now → (p : ℕ) → p ≡ slot_place k s → PollSo p left count drains t
        poll_finds z due p is =
            let n : p ≢ nobody = omega (arith, is, (list_height N.1).1) in
            let H : InHand d now p t.elapsed (lists t) = rw is (found_at looking k N.1 z due) in
            record {
              whole = S.whole;
              passing = record { free = λ w. absurd (n w); inside = λ w. H };
              kept = S.kept;
              within = S.within;
              so_far = λ {o} {m} {n = i} {e} {M} r.
                  S.so_far (from_as (sym (got_none place free)) refl (finds_at k N.1 z due (from_as (got_some p n ∙ ap some is) refl r)));
              counted = S.counted;
              few = S.few;
            }

    -- ---- the drain in hand

    module _ (held : place ≢ nobody) where
      hand_is : InHand d now place t.elapsed (lists t)
      hand_is = S.passing.inside held

      module _ (k s : ℕ) (ek : k ≡ level_at place) (es : s ≡ slot_at place) where
        hand_parts : (s < 64) × (slot_place k s < expired) × (place ≡ slot_place k s)
        hand_parts = (omega (arith, es), omega (arith, ek, es, hand_is.below), omega (arith, ek, es))

      module _ (k s : ℕ) (ek : k ≡ level_at place) (es : s ≡ slot_at place) where
        pub drain_can : CanMove t ds k s
        drain_can =
            record {
              pop = record { whole = S.whole; slot = omega (arith, es); below = omega (arith, ek, es, hand_is.below) };
              high = omega (arith, ek, hand_is.high);
              deadlines = omega (arith, C.deadlines, S.kept.size);
            }

        module _ (r : ℕ) {u : WheelWords} (D : DrainsTo d t (k - 1) (slot_place k s) left r u) (c : ℕ) (is : c ≡ limit - r) where
          at_place : slot_place k s ≡ place
          at_place = omega (arith, ek, es)

          shifted : Shifts d (level_at place - 1) place (lists t) (left - r) (lists u)
          shifted = rw (at_place, ek) at D.shifted

          inside : Inside d now (level_at place - 1) place t.elapsed (lists u)
          inside = shifts_inside (hand_inside d now hand_is) shifted

          fallen : left - r + heights (lists u) ≡ heights (lists t)
          fallen = shifts_fallen (hand_inside d now hand_is) shifted

          -- the limit is used up, and the head is left
          pub poll_yet : head_at u place ≢ nobody → PollsTo d now limit hand t₀ nobody place c drains u
          poll_yet h =
              let f = place_laws.list_cons D.becomes.whole.places place h in
              let z : r ≡ 0 = by_cases (ℕ_discrete r 0) (λ w. w)
              (λ w. absurd (nil≢cons (sym (rw at_place at (D.stopped w)) ∙ f.1))) in
              let q : Limited d now (some place) (left - r + 0) t.elapsed (lists t) (yet place) (left - r + 0) 0 t.elapsed (lists u)
              = shifts_limited refl shifted (stops f.1) in
              let o : outcome nobody place ≡ yet place = rw (ne_eqb place nobody held) in
              record {
                polls = rw (o, D.becomes.elapsed) (counts_as (omega (arith, S.within, D.within, is)) (omega arith)
                    (S.so_far (from_as (sym (got_some place held)) (omega (arith, D.within, z)) q)));
                whole = D.becomes.whole;
                rule = record {
                  free = λ w. absurd (held w);
                  inside = λ w. rw D.becomes.elapsed (inside_hand d now inside f.1);
                };
                kept = place_laws.kept_trans S.kept D.becomes.kept;
                loose = λ w. absurd (w refl);
              }

          -- the slot is empty, elapsed becomes its start, and it looks again
          pub poll_drained : head_at u place ≡ nobody → (w : ℕ) → w ≡ start t.elapsed place
              → PollSo nobody r c (drains + 1) (wheel_words w u.occupied u.places) × (heights (lists u) < heights (lists t))
          poll_drained h w st =
              let e : lists u place ≡ [] = place_laws.list_empty D.becomes.whole.places place h in
              let f = hand_is.filled in
              let pos : 0 < left - r = shifts_some f.2 e shifted in
              let P : Looking d now (start t.elapsed place) (lists u) = emptied d now inside e in (
                record {
                  whole = record { places = D.becomes.whole.places; occupied = D.becomes.whole.occupied };
                  passing = record { free = λ z. rw st P; inside = λ z. absurd (z refl) };
                  kept = place_laws.kept_trans S.kept D.becomes.kept;
                  within = omega (arith, S.within, D.within, is);
                  so_far = λ {o} {m} {n} {e = e'} {M} q.
                      let q₁ : Limited d now none r (start t.elapsed place) (lists u) o m n e' M = rw st at q in
                      let q₂ = shifts_limited refl shifted (empties e q₁) in
                      counts_as (omega (arith, S.within, D.within, is)) (omega arith)
                      (S.so_far (from_as (sym (got_some place held)) (omega (arith, D.within)) q₂));
                  counted = omega (arith, S.counted, fallen, S.within, D.within, is);
                  few = omega (arith, S.few, pos, S.within, D.within, is);
                },
                omega (arith, fallen, pos),
              )

-- ---- the poll goes on: with the drain in hand, or with the next list

-- what `next_list` found, by the answer's case
module _ {d : ℕ → ℕ} {e : ℕ} {occ : List ℕ} {head hand : ℕ} {r : Maybe Expiration} (G : GoesTo d e occ head hand r) where
  goes_nothing : r ≡ None → GoesTo d e occ head hand None
  goes_nothing z = rw z at G

  goes_at : (x : Expiration) → r ≡ Some x → GoesTo d e occ head hand (Some x)
  goes_at x z = rw z at G

module _ {t₀ : WheelWords} {ds : List ℕ} {hand now : ℕ} (C : CanPoll t₀ ds hand now) (limit : ℕ)
    {place left count drains : ℕ} {t : WheelWords} (S : PolledSo (at ds) now limit hand t₀ place left count drains t) where
  -- the start of the list in hand is at most now, a u64
  pub next_asks : now < 2 ^ 64 → CanGo t.elapsed t.occupied ds t.places.tops.parking place
  next_asks f =
      record {
        free = λ z. look_asks C limit S z;
        held = λ z. let H = S.passing.inside z in (H.below, omega (arith, f, H.due));
      }

  module _ {parked : ℕ} (first : parked ≡ t.places.tops.parking) {r : Maybe Expiration}
      (F : GoesTo (at ds) t.elapsed t.occupied parked place r) where
    G : GoesTo (at ds) t.elapsed t.occupied t.places.tops.parking place r
    G = subst (λ y. GoesTo (at ds) t.elapsed t.occupied y place r) first F

    -- nothing waits: nothing is in hand
    pub next_idle : r ≡ None → PollsTo (at ds) now limit hand t₀ nobody place count drains (wheel_words now t.occupied t.places)
    next_idle e =
        let H = goes_nothing G e in
        by_cases (ℕ_discrete place nobody) (λ z. poll_idle C limit S z (H.free z (lists t) (look_sees C limit S z))) (λ z. absurd (H.held z))

    module _ (x : Expiration) (e : r ≡ Some x) where
      goes : GoesTo (at ds) t.elapsed t.occupied t.places.tops.parking place (Some x)
      goes = goes_at G x e

      looked : place ≡ nobody → NextIs t.elapsed (lists t) (Some x)
      looked z = goes.free z (lists t) (look_sees C limit S z)

      -- a start past now, or a slot of level 0: nothing is in hand
      pub next_early : now < x.deadline → PollsTo (at ds) now limit hand t₀ nobody place count drains (wheel_words now t.occupied t.places)
      next_early h =
          by_cases (ℕ_discrete place nobody)
          (λ z. poll_early C limit S z (looked z) h)
          (λ z. absurd (omega (arith, h, (goes.held z).2, (S.passing.inside z).due)))

      module _ (low : x.level ≡ 0) where
        none_held : place ≡ nobody
        none_held =
            by_cases (ℕ_discrete place nobody) (λ z. z)
            (λ z. absurd (omega (arith, low, (goes.held z).0, (S.passing.inside z).high)))

        pub next_pops : CanPop t x.level x.slot
        next_pops = pop_can C limit S none_held (looked none_held) low

        pub next_out : x.deadline ≤ now → (item : ℕ) {u : WheelWords} → Pops t (slot_place x.level x.slot) item u
            → PollsTo (at ds) now limit hand t₀ item place count drains u
        next_out due item Q = poll_out C limit S none_held (looked none_held) low due item Q

      -- a list above level 0: its drain is in hand
      module _ (high : x.level ≢ 0) (due : x.deadline ≤ now) where
        abbrev p : ℕ
        p = slot_place x.level x.slot

        held_parts : place ≢ nobody → (x.slot < 64) × (p < expired) × (place ≡ p)
        held_parts z = hand_parts C limit S z _ _ (goes.held z).0 (goes.held z).1

        pub next_parts : (x.slot < 64) × (p < expired)
        next_parts =
            by_cases (ℕ_discrete place nobody)
            (λ z. place_can C limit S z (looked z))
            (λ z. let q = held_parts z in (q.0, q.1))

        drains_it : PolledSo (at ds) now limit hand t₀ p left count drains t
        drains_it =
            by_cases (ℕ_discrete place nobody)
            (λ z. poll_finds C limit S z (looked z) high due p refl)
            (λ z. subst (λ (y : ℕ). PolledSo (at ds) now limit hand t₀ y left count drains t) (held_parts z).2 S)

        some_place : p ≢ nobody
        some_place = omega (arith, next_parts)

        level_at_lem : x.level ≡ level_at p
        level_at_lem = omega (arith, next_parts)

        slot_at_lem : x.slot ≡ slot_at p
        slot_at_lem = omega (arith, next_parts)

        pub next_can : CanMove t ds x.level x.slot
        next_can = drain_can C limit drains_it some_place _ _ level_at_lem slot_at_lem

        module _ (o : ℕ) {u : WheelWords} (D : DrainsTo (at ds) t (x.level - 1) p left o u) (c : ℕ) (is : c ≡ limit - o) (q : ℕ) (qp : q ≡ p) where
          pub next_yet : head_at u q ≢ nobody → PollsTo (at ds) now limit hand t₀ nobody q c drains u
          next_yet h = rw qp (poll_yet C limit drains_it some_place _ _ level_at_lem slot_at_lem o D c is (rw qp at h))

          pub next_drained : head_at u q ≡ nobody
              → PolledSo (at ds) now limit hand t₀ nobody o c (drains + 1) (wheel_words x.deadline u.occupied u.places)
              × (heights (lists u) < heights (lists t))
          next_drained h = poll_drained C limit drains_it some_place _ _ level_at_lem slot_at_lem o D c is (rw qp at h) _ start_is
            where
              start_is : x.deadline ≡ start t.elapsed p
              start_is =
                  by_cases (ℕ_discrete place nobody)
                  (λ z. list_begins (looked z).1)
                  (λ z. (goes.held z).2 ∙ ap (start t.elapsed) (held_parts z).2)
