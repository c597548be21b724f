-- One record before another in a list, and what a call of the wheel makes of it: who stands first leaves first (`limited_first`). A call may stop inside a
-- drain, where the first was moved and the other was not.
use mathlib.Core.Path.{◌≡◌, refl, sym, ap, ◌∙◌, subst}
use mathlib.Core.Logic.{◌≢◌, ◌⊎◌, inl, inr, ⊎_elim, by_cases}
use mathlib.Core.List.{List, [], ◌∷◌, ◌++◌}
use mathlib.Core.Option.{Option, none, some, some-injective}
use Prim.Native.Nat.{ℕ, ◌-◌, ◌≤◌, ◌<◌}
use native.Mathlib.Decide.{ℕ_discrete}
use native.Mathlib.Omega.{arith}
use borrow.Author.Tests.{eq-eqb, ne_eqb}
use Rattle.times.specs.Times.{slot_of}
use Rattle.times.proofs.laws.Quotients.{slot_lt}
use Rattle.links.specs.Lists.{Mem, without, change}
use Rattle.links.proofs.laws.Lists.{mem_left, mem_right, change_same, change_other}
use Rattle.records.proofs.laws.Inner.{mem_other}
use Rattle.places.specs.Places.{slot_place, expired, put, level_at}
use Rattle.places.proofs.laws.Places.{put_tail}
use Rattle.wheel.specs.Wheel.{Lists, arrive}
use Rattle.wheel.proofs.laws.Next.{list_height}
use Rattle.wheel.specs.Limited.{Outcome, ended as stopped, yet, Limited, rests, waits, hands, finds, stops, moves, empties}
use Rattle.wheel.specs.Sums.{total}
use Rattle.wheel.proofs.laws.Sums.{total_less, total_more, hits, lies_times, mem_kept, put_mem}
use Rattle.promises.proofs.laws.TakesOut.{got_by}

-- r stands before s in the list
abbrev pub Precedes : ℕ → ℕ → List ℕ → Type 0
Precedes r s [] = ⊥
Precedes r s (x ∷ l) = ((r ≡ x) × Mem s l) ⊎ Precedes r s l

-- r and s wait in one of the first b places with one deadline, r before s
pub record Leads (b : ℕ) (d : ℕ → ℕ) (L : Lists) (r s : ℕ) : Type 0 where
  pub place : ℕ
  pub within : place < b
  pub order : Precedes r s (L place)
  pub equal : d r ≡ d s

-- ---- lists

module _ (r s : ℕ) where
  pub prec_mem : (l : List ℕ) → Precedes r s l → Mem r l × Mem s l
  prec_mem [] p = absurd p
  prec_mem (x ∷ l) (inl p) = (inl p.0, inr p.1)
  prec_mem (x ∷ l) (inr p) = let m = prec_mem l p in (inr m.0, inr m.1)

  pub prec_left : (a b : List ℕ) → Precedes r s a → Precedes r s (a ++ b)
  prec_left [] b p = absurd p
  prec_left (x ∷ a) b (inl p) = inl (p.0, mem_left s a b p.1)
  prec_left (x ∷ a) b (inr p) = inr (prec_left a b p)

  prec_right : (a b : List ℕ) → Precedes r s b → Precedes r s (a ++ b)
  prec_right [] b p = p
  prec_right (x ∷ a) b p = inr (prec_right a b p)

  -- who comes to the tail stands behind all
  pub prec_end : (a : List ℕ) → Mem r a → Precedes r s (a ++ s ∷ [])
  prec_end [] m = absurd m
  prec_end (x ∷ a) (inl e) = inl (e, mem_right s a (s ∷ []) (inl refl))
  prec_end (x ∷ a) (inr m) = inr (prec_end a m)

  pub prec_without : (i : ℕ) → r ≢ i → s ≢ i → (l : List ℕ) → Precedes r s l → Precedes r s (without i l)
  prec_without i a b [] p = absurd p
  prec_without i a b (x ∷ l) p =
      by_cases (ℕ_discrete x i)
      (λ e. rw (eq-eqb x i e) (⊎_elim (λ z. absurd (a (z.0 ∙ e))) (λ k. k) p))
      (λ e. rw (ne_eqb x i e) (⊎_elim (λ z. inl (z.0, mem_other i s l b z.1)) (λ k. inr (prec_without i a b l k)) p))

-- ---- a poll of the wheel

-- who lies once in the first n places, and is the head of a list there, lies there no more when it has left
pub gone_then : (s n : ℕ) (L : Lists) → total (λ q x. hits s x) n L ≤ 1 → (p : ℕ) (l : List ℕ) → p < n → L p ≡ s ∷ l → (q : ℕ) → q < n
    → Mem s (change L p l q) → ⊥
gone_then s n L one p l hp e q hq m =
    let own : hits s s ≡ 1 = rw (eq-eqb s s refl) in
    omega (arith, total_less (λ q₁ x. hits s x) n L p s l hp e, lies_times n (change L p l) s q hq m, own)

module _ {d : ℕ → ℕ} {r s : ℕ} where
  -- the head x of a list leaves: it is r, or r still stands before s; and s waits still
  pub leave_first : {b : ℕ} {L : Lists} (p x : ℕ) (l : List ℕ) → p < b → L p ≡ x ∷ l → Leads b d L r s
      → ((q : ℕ) × (q < b) × Mem s (change L p l q)) × ((r ≡ x) ⊎ Leads b d (change L p l) r s)
  leave_first {b} {L} p x l hp is O = by (ℕ_discrete O.place p)
    where
      here : Precedes r s (x ∷ l) → ((q : ℕ) × (q < b) × Mem s (change L p l q)) × ((r ≡ x) ⊎ Leads b d (change L p l) r s)
      here (inl z) = ((p, hp, rw (change_same L p l) z.1), inl z.0)
      here (inr k) = (
        (p, hp, rw (change_same L p l) (prec_mem r s l k).1),
        inr (record { place = p; within = hp; order = rw (change_same L p l) k; equal = O.equal }),
      )

      by : Dec (O.place ≡ p) → ((q : ℕ) × (q < b) × Mem s (change L p l q)) × ((r ≡ x) ⊎ Leads b d (change L p l) r s)
      by (yes z) = here (rw (z, is) at O.order)
      by (no z) =
          let e = change_other L p l O.place z in (
            (O.place, O.within, rw e (prec_mem r s (L O.place) O.order).1),
            inr (record { place = O.place; within = O.within; order = rw e O.order; equal = O.equal }),
          )

-- ---- a call of the wheel, which may stop inside a drain

-- the same while p is drained: r was moved down already, and s, which goes to the same slot, is still to be moved
pub record Split (d : ℕ → ℕ) (p : ℕ) (L : Lists) (r s : ℕ) : Type 0 where
  pub high : 0 < level_at p
  pub below : p < expired
  pub place : ℕ
  pub is : place ≡ slot_place (level_at p - 1) (slot_of (d r) (level_at p - 1))
  pub front : Mem r (L place)
  pub back : Mem s (L p)
  pub equal : d r ≡ d s

-- in one list, or so
abbrev pub Apart : (ℕ → ℕ) → ℕ → Lists → ℕ → ℕ → Type 0
Apart d p L r s = Leads expired d L r s ⊎ Split d p L r s

abbrev pub Ahead : (ℕ → ℕ) → Option ℕ → Lists → ℕ → ℕ → Type 0
Ahead d none L r s = Leads expired d L r s
Ahead d (some p) L r s = Apart d p L r s

abbrev pub After : (ℕ → ℕ) → Outcome → Lists → ℕ → ℕ → Type 0
After d (stopped g) L r s = Leads expired d L r s
After d (yet p) L r s = Apart d p L r s

abbrev pub High : Option ℕ → Type 0
High none = Unit {0}
High (some p) = (0 < level_at p) × (p < expired)

-- one move
module _ (d : ℕ → ℕ) (r s p x : ℕ) (l : List ℕ) (L : Lists) (high : 0 < level_at p) (below : p < expired) (is : L p ≡ x ∷ l) where
  abbrev k : ℕ
  k = level_at p - 1

  abbrev to : ℕ
  to = slot_place k (slot_of (d x) k)

  abbrev M : Lists
  M = change L p l

  abbrev W : Lists
  W = change M to (put to x (M to))

  to_other : to ≢ p
  to_other = omega (arith, high, slot_lt (d x) k)

  to_below : to < expired
  to_below = omega (arith, high, below, slot_lt (d x) k)

  rest_is : W p ≡ l
  rest_is = change_other M to (put to x (M to)) p (λ z. to_other (sym z)) ∙ change_same L p l

  tail_is : W to ≡ M to ++ x ∷ []
  tail_is = change_same M to (put to x (M to)) ∙ put_tail to x (M to) (omega (arith, to_below))

  arrive_leads : Leads expired d M r s → Leads expired d W r s
  arrive_leads O =
      record {
        place = O.place;
        within = O.within;
        order = by_cases (ℕ_discrete O.place to)
            (λ (z : O.place ≡ to). rw (z, tail_is) (prec_left r s (M to) (x ∷ []) (rw z at O.order)))
            (λ z. rw (change_other M to (put to x (M to)) O.place z) O.order);
        equal = O.equal;
      }

  -- from its list
  leads_moves : Leads expired d L r s → Apart d p W r s
  leads_moves O = by_cases (ℕ_discrete O.place p) (λ (z : O.place ≡ p). here (rw (z, is) at O.order)) elsewhere
    where
      here : Precedes r s (x ∷ l) → Apart d p W r s
      here (inl z) =
          inr (record {
            high = high;
            below = below;
            place = to;
            is = ap (λ (y : ℕ). slot_place k (slot_of (d y) k)) (sym z.0);
            front = rw tail_is (mem_right r (M to) (x ∷ []) (inl z.0));
            back = rw rest_is z.1;
            equal = O.equal;
          })
      here (inr q) = inl (arrive_leads (record { place = p; within = below; order = rw (change_same L p l) q; equal = O.equal }))

      elsewhere : O.place ≢ p → Apart d p W r s
      elsewhere z =
          inl (arrive_leads (record {
            place = O.place;
            within = O.within;
            order = rw (change_other L p l O.place z) O.order;
            equal = O.equal;
          }))

  -- or r is there already
  split_moves : Split d p L r s → Apart d p W r s
  split_moves O = by_cases (ℕ_discrete x s) comes stays
    where
      place_other : O.place ≢ p
      place_other = omega (arith, O.is, high, slot_lt (d r) k)

      there : Mem r (M O.place)
      there = rw (change_other L p l O.place place_other) O.front

      comes : x ≡ s → Apart d p W r s
      comes e =
          let same : O.place ≡ to = O.is ∙ ap (λ (w : ℕ). slot_place k (slot_of w k)) (O.equal ∙ ap d (sym e)) in
          inl (record {
            place = to;
            within = to_below;
            order = rw tail_is (subst (λ (y : ℕ). Precedes r s (M to ++ y ∷ [])) (sym e) (prec_end r s (M to) (rw same at there)));
            equal = O.equal;
          })

      stays : x ≢ s → Apart d p W r s
      stays n =
          inr (record {
            high = high;
            below = below;
            place = O.place;
            is = O.is;
            front = mem_kept M to (put to x (M to)) O.place r (λ m. put_mem to x r (M to) (inr m)) there;
            back = rw rest_is (⊎_elim (λ z. absurd (n (sym z))) (λ m. m) (rw is at O.back));
            equal = O.equal;
          })

  move_once : total (λ q y. hits s y) expired W ≡ total (λ q y. hits s y) expired L
  move_once = omega (arith, total_less (λ q y. hits s y) expired L p x l below is, total_more (λ q y. hits s y) expired M to x to_below)

module _ {d : ℕ → ℕ} {now r s : ℕ} where
  -- a call of the wheel does not hand out s, and r it hands out or leaves before s
  pub limited_first : {h : Option ℕ} {b e m n c : ℕ} {L N : Lists} {o : Outcome} → Limited d now h b e L o m n c N → High h
      → total (λ q x. hits s x) expired L ≤ 1 → Ahead d h L r s → (got_by o ≡ some s → ⊥) × ((got_by o ≡ some r) ⊎ After d o N r s)
  unfolding arrive
  limited_first (rests E) h one O = (λ z. let y : ◌≡◌ {A = ℕ} 0 1 = cc in omega arith, inr O)
  limited_first (waits F g) h one O = (λ z. let y : ◌≡◌ {A = ℕ} 0 1 = cc in omega arith, inr O)
  limited_first (hands {s = c} {x = x} {L = L} {l = l} F due is) h one O =
      let p = slot_place 0 c in
      let hp : p < expired = omega (arith, F.is) in
      let A = leave_first p x l hp is O in (
        λ z.
            let y : x ≡ s = some-injective x s z in
            gone_then s expired L one p l hp (rw y at is) A.0.0 A.0.1 A.0.2,
        ⊎_elim (λ z. inl (ap some (sym z))) inr A.1,
      )
  limited_first (finds X due R) h one O = limited_first R (omega (arith, (list_height X).0), (list_height X).1) one (inl O)
  limited_first (stops i) h one O = (λ z. let y : ◌≡◌ {A = ℕ} 0 1 = cc in omega arith, inr O)
  limited_first (moves {p = p} {x = x} {L = L} {l = l} i R) h one O =
      limited_first R h (rw (move_once d r s p x l L h.0 h.1 i) one)
      (⊎_elim (leads_moves d r s p x l L h.0 h.1 i) (split_moves d r s p x l L h.0 h.1 i) O)
  limited_first (empties {p = p} {L = L} i R) h one O = limited_first R tt one (⊎_elim (λ y. y) (λ y. absurd (rw i at y.back)) O)
