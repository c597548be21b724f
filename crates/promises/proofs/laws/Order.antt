-- The order in which equal deadlines leave is that of the lists.
use mathlib.Core.Path.{◌≡◌, refl, sym, ap, ◌∙◌}
use mathlib.Core.Logic.{◌≢◌, inl, inr, by_cases}
use mathlib.Core.Bool.{Bool, true, false, cond, true≢false}
use mathlib.Core.List.{List, [], ◌∷◌, ◌++◌, append-nil, append_assoc, nil≢cons}
use mathlib.Core.Option.{some}
use Prim.Native.Nat.{ℕ, suc, ◌/◌, ◌≤◌, ◌<◌, ◌+◌, max, ◌*◌, ◌%◌}
use native.Mathlib.Decide.{ℕ_discrete}
use native.Mathlib.Omega.{arith}
use lib.Dec.{eqb}
use borrow.Author.Tests.{eqb-true, eq-eqb, ne_eqb}
use Rattle.times.specs.Times.{slot_of, width, level_of}
use Rattle.times.proofs.laws.Quotients.{slot_lt}
use Rattle.links.specs.Lists.{Mem, change}
use Rattle.links.proofs.laws.Lists.{change_same, change_other}
use Rattle.places.specs.Places.{slot_place, expired, free, put, level_at}
use Rattle.places.proofs.laws.Places.{put_tail}
use Rattle.wheel.specs.Wheel.{Lists, NextList, arrive, Drains, drained, moved, Polls, out, drain, place_for}
use Rattle.wheel.specs.Between.{Between}
use Rattle.wheel.proofs.laws.Between.{rule_between, place_level}
use Rattle.wheel.proofs.laws.Next.{slot_below, here_below, list_height}
use Rattle.wheel.proofs.laws.Drain.{move_rest, drains_law, drain_law}
use Rattle.queue.specs.declared.Answer.{Answer}
use Rattle.queue.specs.Told.{Told, told, Hands, timer}
use Rattle.records.specs.View.{View, upd, with_elapsed, with_lists}
use Rattle.records.specs.Records.{key_of, At, Names, placed, target, freed}
use Rattle.queue.proofs.laws.Calls.{names_one}
use Rattle.queue.specs.Steps.{QueuePolls, polled, popped, handed, nothing, GoesOn, once, ended, again}
use Rattle.records.specs.Words.{QueueWords, AtRest, elapsed, view, Sound}
use Rattle.delay_queue.specs.Claims.{PollClaim}
use Rattle.promises.proofs.laws.Polling.{taken_from_rest, none_out, freed_beside, goes_on_says, goes_on_clock, clock_before}
use Rattle.promises.proofs.laws.Does.{whole_takes}
use Rattle.promises.specs.Order.{keep, of_deadline, goes_to, PollOrder}
use Rattle.promises.proofs.laws.TakesOut.{one_list, key_of_names, taken_out}
use Rattle.promises.proofs.laws.Parked.{list_low, target_waits, target_level}
use Rattle.times.proofs.laws.Levels.{level_is}
use Rattle.records.proofs.laws.Words.{upd_same, upd_other}

-- ---- lists

add_cond : (b : Bool) (x : ℕ) (xs ys : List ℕ) → cond b (xs ++ x ∷ []) xs ++ ys ≡ xs ++ cond b (x ∷ ys) ys
add_cond true x xs ys = append_assoc xs (x ∷ []) ys
add_cond false x xs ys = refl

keep_none : (f : ℕ → Bool) (l : List ℕ) → ((x : ℕ) → f x ≡ false) → keep f l ≡ []
keep_none f [] h = refl
keep_none f (x ∷ l) h = rw (h x) (keep_none f l h)

-- the same pass
keep_same : (f g : ℕ → Bool) (l : List ℕ) → ((y : ℕ) → Mem y l → f y ≡ g y) → keep f l ≡ keep g l
keep_same f g [] h = refl
keep_same f g (x ∷ l) h = rw (h x (inl refl), keep_same f g l (λ y m. h y (inr m)))

-- the last does not
keep_end : (f : ℕ → Bool) (l : List ℕ) (x : ℕ) → f x ≡ false → keep f (l ++ x ∷ []) ≡ keep f l
keep_end f [] x h = rw h
keep_end f (y ∷ l) x h = rw (keep_end f l x h)

-- who passes f passes g
keep_keep : (f g : ℕ → Bool) (l : List ℕ) → ((x : ℕ) → f x ≡ true → g x ≡ true) → keep f (keep g l) ≡ keep f l
keep_keep f g [] h = refl
keep_keep f g (x ∷ l) h = by (f x) refl (g x) refl (keep_keep f g l h)
  where
    by : (b : Bool) → f x ≡ b → (c : Bool) → g x ≡ c → keep f (keep g l) ≡ keep f l
        → keep f (cond c (x ∷ keep g l) (keep g l)) ≡ cond b (x ∷ keep f l) (keep f l)
    by true e true i ih = rw (e, ih)
    by true e false i ih = absurd (true≢false (sym (h x e) ∙ i))
    by false e true i ih = rw (e, ih)
    by false e false i ih = ih

mem_keep : (f : ℕ → Bool) (y : ℕ) (l : List ℕ) → Mem y (keep f l) → Mem y l × (f y ≡ true)
mem_keep f y [] m = absurd m
mem_keep f y (x ∷ l) m = by (f x) refl m (mem_keep f y l)
  where
    by : (b : Bool) → f x ≡ b → Mem y (cond b (x ∷ keep f l) (keep f l)) → (Mem y (keep f l) → Mem y l × (f y ≡ true))
        → Mem y (x ∷ l) × (f y ≡ true)
    by true e (inl h) ih = (inl h, ap f h ∙ e)
    by true e (inr h) ih = let r = ih h in (inr r.0, r.1)
    by false e h ih = let r = ih h in (inr r.0, r.1)

-- ---- a drain

module _ (d : ℕ → ℕ) (k h : ℕ) (level : h / 64 ≡ suc k) (below : h < expired) where
  -- one move
  move_order : (L : Lists) (x : ℕ) (l : List ℕ) (r : ℕ) → r ≢ h → arrive k (d x) x (change L h l) r ≡ cond (goes_to d k r x) (L r ++ x ∷ []) (L r)
  unfolding arrive
  move_order L x l r n =
      let q = slot_place k (slot_of (d x) k) in
      let M = change L h l in
      let other : M r ≡ L r = change_other L h l r n in
      by_cases (ℕ_discrete q r)
      (λ e.
      let timed : r ≢ free = omega (arith, e, slot_lt (d x) k, level, below) in
      rw (eq-eqb q r e, e) (change_same M r (put r x (M r)) ∙ put_tail r x (M r) timed ∙ ap (λ (a : List ℕ). a ++ x ∷ []) other))
      (λ e. rw (ne_eqb q r e) (change_other M q (put q x (M q)) r (λ z. e (sym z)) ∙ other))

  -- "drained entries now join a list's tail": those that go to one slot stand after what it held, in their order
  pub drain_order : {L M : Lists} {m : ℕ} → Drains d k h L m M → (r : ℕ) → r ≢ h → M r ≡ L r ++ keep (goes_to d k r) (L h)
  drain_order (drained {L} e) r n = rw e (sym (append-nil (L r)))
  drain_order (moved {L} {M} {m} {x} {l} e D) r n =
      let f = goes_to d k r in
      let W = arrive k (d x) x (change L h l) in
      let a : W h ≡ l = move_rest d k h level below L x l e in
      let b : W r ≡ cond (f x) (L r ++ x ∷ []) (L r) = move_order L x l r n in
      cc (drain_order D r n, add_cond (f x) x (L r) (keep f l))

-- ---- a poll of the wheel

-- x, handed out, lay in the place and is the first of its equals there; the others come next, at level 0, in their order
record Ordered (d : ℕ → ℕ) (L : Lists) (x : ℕ) (N : Lists) : Type 0 where
  place : ℕ
  below : place < expired
  member : Mem x (L place)
  slot : ℕ
  low : slot < 64
  order : of_deadline d (d x) (L place) ≡ x ∷ of_deadline d (d x) (N slot)

-- a drain, and what the rest of the poll does
drained_order : {d : ℕ → ℕ} {e : ℕ} {L : Lists} {k h c : ℕ} → NextList e L (suc k) h c → {m : ℕ} {M : Lists}
    → Drains d k h L m M → {x : ℕ} {N : Lists} → Ordered d M x N → Ordered d L x N
drained_order {d} {e} {L} {k} {h} {c} X {m} {M} D {x} {N} O = by (ℕ_discrete (level_at O.place) k)
  where
    level : h / 64 ≡ suc k
    level = (list_height X).0

    below : h < expired
    below = (list_height X).1

    empty : M h ≡ []
    empty = (drains_law d k h level below D).1

    not_here : O.place ≢ h
    not_here = λ z. rw (z, empty) at O.member

    is : M O.place ≡ L O.place ++ keep (goes_to d k O.place) (L h)
    is = drain_order d k h level below D O.place not_here

    by : Dec (level_at O.place ≡ k) → Ordered d L x N
    by (yes z) =
        let f = goes_to d k O.place in
        let w : ℕ → Bool = λ y. eqb (d y) (d x) in
        let l = L h in
        let e₁ : M O.place ≡ keep f l = is ∙ ap (λ a. a ++ keep f l) (list_low X O.place (omega arith)) in
        let m₃ = mem_keep f x l (rw e₁ at O.member) in
        let same : (y : ℕ) → w y ≡ true → f y ≡ true
        = λ y g. let a : d y ≡ d x = eqb-true (d y) (d x) g in rw a m₃.1 in
        let e₂ : keep w (M O.place) ≡ keep w l = ap (keep w) e₁ ∙ keep_keep w f l same in
        record {
          place = h;
          below = below;
          member = m₃.0;
          slot = O.slot;
          low = O.low;
          order = sym e₂ ∙ O.order;
        }
    by (no z) =
        let f = goes_to d k O.place in
        let l = L h in
        let nobody : (y : ℕ) → f y ≡ false
        = λ y.
        ne_eqb (slot_place k (slot_of (d y) k)) O.place
        (λ g. z (ap (λ q. level_at q) (sym g) ∙ place_level k (slot_of (d y) k) (slot_lt (d y) k))) in
        let e₁ : M O.place ≡ L O.place = is ∙ ap (λ a. L O.place ++ a) (keep_none f l nobody) ∙ append-nil (L O.place) in
        record {
          place = O.place;
          below = O.below;
          member = rw e₁ at O.member;
          slot = O.slot;
          low = O.low;
          order = cc;
        }

polls_order : {d : ℕ → ℕ} {now e : ℕ} {L : Lists} {x m n c : ℕ} {N : Lists} → Between d e L → Polls d now e L (some x) m n c N
    → Ordered d L x N
polls_order {d} B (out {e} {s} {x} {L} {l} F due is) =
    let p = slot_place 0 s in
    let low : level_at p ≡ 0 = place_level 0 s (slot_below B F) in
    record {
      place = p;
      below = omega (arith, here_below B F);
      member = rw is (inl refl);
      slot = p;
      low = omega arith;
      order =
          ap (of_deadline d (d x)) is
          ∙ ap (λ b. cond b (x ∷ of_deadline d (d x) l) (of_deadline d (d x) l)) (eq-eqb (d x) (d x) refl)
          ∙ ap (λ a. x ∷ of_deadline d (d x) a) (sym (change_same L p l));
    }
polls_order B (drain X due D r) = drained_order X D (polls_order (drain_law B X D).rule r)

-- at level 0 already, it is the head of its slot
polls_head : {d : ℕ → ℕ} {now e : ℕ} {L : Lists} {x m n c : ℕ} {N : Lists} → Polls d now e L (some x) m n c N → (p : ℕ) → p < 64
    → Mem x (L p)
    → ((q : ℕ) → Mem x (L q) → q ≡ p) → (l : List ℕ) × (L p ≡ x ∷ l) × (N p ≡ l) × (c ≡ e)
polls_head (out {e} {s} {x} {L} {l} F due is) p low m one =
    let z : slot_place 0 s ≡ p = one (slot_place 0 s) (rw is (inl refl)) in
    (l, ap L (sym z) ∙ is, ap (change L (slot_place 0 s) l) (sym z) ∙ change_same L (slot_place 0 s) l, refl)
polls_head {x = x} (drain {k = k} X due D r) p low m one = absurd (rw (list_low X p (omega arith)) at m)

-- ---- what becomes of the record that is handed out

-- two hand-outs of one answer are one
same_key : (x : Told) {a b c d e a' b' c' d' e' : ℕ} → Hands x a b c d e → Hands x a' b' c' d' e' → (a ≡ a') × (c ≡ c')
same_key x {a} {b} {c} {d} {e} {a'} {b'} {c'} {d'} {e'} p q =
    let z : timer a b c d e ≡ timer a' b' c' d' e' = sym p ∙ q in
    let f : a ≡ a' = cc in
    let g : c ≡ c' = cc in
    (f, g)

-- a deadline in the row of elapsed is its own
low_deadline : (p e w : ℕ) → p < 64 → p ≡ place_for e w → w ≡ 64 * (e / 64) + p
unfolding place_for slot_of width
low_deadline p e w h q =
    let low : level_of e w ≡ 0 = omega (arith, q, slot_lt w (level_of e w)) in
    let row : e / 64 ≡ w / 64 = (level_is e w).above 1 (omega (arith, low)) (omega arith) in
    let slot : p ≡ 64 * 0 + w / width 0 % 64 = q ∙ ap (λ k. 64 * k + w / width k % 64) low in
    omega (arith, row, slot)

module _ {v : View} {r m n : ℕ} {u : View} (late : u.elapsed ≤ v.deadline r) where
  -- a list below the free one is as it was, but for the one where the timer is set again
  goes_list : {x : Told} {w : View} → GoesOn v r m n u x w → (p : ℕ) → p < free → (0 < v.period r → p ≢ target u.elapsed (v.deadline r + v.period r))
      → w.lists p ≡ u.lists p
  unfolding placed
  goes_list (once z) p h f = (freed_beside r u).lists p h
  goes_list (ended q g) p h f = (freed_beside r u).lists p h
  goes_list (again q g) p h f =
      let t : max (v.deadline r + v.period r) u.elapsed ≡ v.deadline r + v.period r = omega (arith, late) in
      change_other u.lists _ _ p (λ z. f q (z ∙ ap (target u.elapsed) t))

  -- those with the deadline of the one that was handed out are as they were, wherever it is set again
  goes_equals : {x : Told} {w : View} → GoesOn v r m n u x w → u.deadline ≡ v.deadline → (p : ℕ) → p < free → (Mem r (u.lists p) → ⊥)
      → of_deadline w.deadline (v.deadline r) (w.lists p) ≡ of_deadline v.deadline (v.deadline r) (u.lists p)
  unfolding placed
  goes_equals (once z) q p h f =
      let B = freed_beside r u in
      ap (λ g. of_deadline g (v.deadline r) ((freed r u).lists p)) (B.deadline ∙ q) ∙ ap (of_deadline v.deadline (v.deadline r)) (B.lists p h)
  goes_equals (ended y g) q p h f =
      let B = freed_beside r u in
      ap (λ g. of_deadline g (v.deadline r) ((freed r u).lists p)) (B.deadline ∙ q) ∙ ap (of_deadline v.deadline (v.deadline r)) (B.lists p h)
  goes_equals (again pos g) q p h f =
      let d = v.deadline r in
      let next = max (d + v.period r) u.elapsed in
      let o = target u.elapsed next in
      let new : ℕ → ℕ = upd u.deadline r next in
      let ours : new r ≢ d = λ y. omega (arith, y, upd_same u.deadline r next, pos, late) in
      let same : (y : ℕ) → Mem y (u.lists p) → eqb (new y) d ≡ eqb (v.deadline y) d
      = λ y m. ap (λ c. eqb c d) (upd_other u.deadline r next y (λ (z : y ≡ r). f (rw z at m)) ∙ ap (λ c. c y) q) in
      let kept : of_deadline new d (u.lists p) ≡ of_deadline v.deadline d (u.lists p)
      = keep_same (λ y. eqb (new y) d) (λ y. eqb (v.deadline y) d) (u.lists p) same in
      by_cases (ℕ_discrete p o)
      (λ (z : p ≡ o).
      let is : change u.lists o (put o r (u.lists o)) p ≡ u.lists p ++ r ∷ []
      = rw (← z) (change_same u.lists p (put p r (u.lists p)) ∙ put_tail p r (u.lists p) (omega (arith, h))) in
      ap (of_deadline new d) is ∙ keep_end (λ y. eqb (new y) d) (u.lists p) r (ne_eqb (new r) d ours) ∙ kept)
      (λ z. ap (of_deadline new d) (change_other u.lists o (put o r (u.lists o)) p z) ∙ kept)

-- ---- a poll of the queue

module _ {s : QueueWords} (S : Sound s) where
  -- the key of a pending record names it, and it alone, in its place
  pub names_it : {i q k r p : ℕ} → At (view s) i q → key_of (view s) i ≡ k → Names (view s) k r p → (i ≡ r) × (q ≡ p)
  names_it a e N = names_one S (rw e at (key_of_names S a)) N

  -- a whole poll, with no poll in hand
  module _ (z₀ : AtRest s) {now : ℕ} (not_back : elapsed s ≤ now) where
    -- the head of the expired stack goes first
    order_popped : {x : Told} {w : View} {r : ℕ} {l : List ℕ} → (view s).lists expired ≡ r ∷ l
        → GoesOn (view s) r 0 0 (with_lists (change (view s).lists expired l) (view s)) x w → PollOrder (view s) x w
    order_popped {x} {w} {r} {l} e G =
        let v = view s in
        let a : At v r expired = record { timed = omega arith; member = rw e (inl refl) } in
        let late : v.elapsed ≤ v.deadline r = omega (arith, (S.rule.free z₀).expired r a.member) in
        let z = goes_on_says G in
        let away : (k y d m n i p : ℕ) → Hands x k y d m n → Names v k i p → p < expired → ⊥
        = λ k y d m n i p is N h. omega (arith, (names_it a (same_key x z is).0 N).1) in
        record {
          popped = λ i j f.
              let q : r ∷ l ≡ i ∷ j = sym e ∙ f in
              let q₁ : r ≡ i = cc in
              let q₂ : l ≡ j = cc in
              let B = goes_list late G expired (omega arith)
              (λ some y. omega (arith, target_waits v.elapsed (v.deadline r + v.period r) (omega (arith, late)), y)) in
              (rw (← q₁) z, B ∙ change_same v.lists expired l ∙ q₂, goes_on_clock G);
          head = λ k y d m n i p is N h. absurd (away k y d m n i p is N (omega arith));
          equals = λ k y d m n i p is N h. absurd (away k y d m n i p is N h);
        }

    -- the stack is empty, and the wheel gives r
    module _ {r m n e : ℕ} {L : Lists} (empty : (view s).lists expired ≡ [])
        (P : Polls (view s).deadline now (view s).elapsed (view s).lists (some r) m n e L) where
      ordered : Ordered (view s).deadline (view s).lists r L
      ordered = polls_order (rule_between (S.rule.free z₀)) P

      was_there : At (view s) r ordered.place
      was_there = record { timed = omega (arith, ordered.below); member = ordered.member }

      clock_late : e ≤ (view s).deadline r
      clock_late = clock_before S (taken_from_rest s z₀ not_back) (whole_takes S z₀ (polled empty P)).1

      module _ {x : Told} {w : View} (G : GoesOn (view s) r m n (with_elapsed e (with_lists L (view s))) x w) {k y d m₁ n₁ i p : ℕ}
          (is : Hands x k y d m₁ n₁) (N : Names (view s) k i p) where
        it_is : (r ≡ i) × (ordered.place ≡ p)
        it_is = names_it was_there (same_key x (goes_on_says G) is).0 N

        order_head : p < 64 → (l : List ℕ) × ((view s).lists p ≡ i ∷ l) × (w.lists p ≡ l)
        order_head h =
            let v = view s in
            let late = clock_late in
            let b : At v r p = rw it_is.0 N.pending in
            let H = polls_head P p h b.member (λ o c. one_list S r o p c b.member) in
            let on = (S.rule.free z₀).wheel p r (omega arith) b.member in
            let still : w.lists p ≡ L p
            = goes_list late G p (omega (arith, h))
            (λ some f.
            let own = low_deadline p v.elapsed (v.deadline r) h on.place in
            let level = target_level e (v.deadline r + v.period r) (omega (arith, late, some)) (omega (arith, f, h)) in
            let next = low_deadline p e (v.deadline r + v.period r) h (f ∙ level) in
            omega (arith, own, next, H.3)) in
            rw (← it_is.0) (H.0, H.1, still ∙ H.2)

        order_equals : (q : ℕ) × (q < 64) × (of_deadline (view s).deadline d ((view s).lists p) ≡ i ∷ of_deadline w.deadline d (w.lists q))
        order_equals =
            let O = ordered in
            let T = taken_out S (taken_from_rest s z₀ not_back) (whole_takes S z₀ (polled empty P)).1 in
            let g : d ≡ (view s).deadline r = sym (same_key x (goes_on_says G) is).1 in (
              O.slot,
              O.low,
              rw (g, ← it_is.0, ← it_is.1)
                  (O.order ∙ ap (λ c. r ∷ c) (sym (goes_equals clock_late G T.deadline O.slot (omega (arith, O.low)) (T.gone r refl O.slot)))),
            )

    order_of : {x : Told} {u : View} → QueuePolls (view s) now x u → PollOrder (view s) x u
    order_of (handed (popped e) G) = order_popped e G
    order_of (handed (polled empty P) G) =
        record {
          popped = λ i j f. absurd (nil≢cons (sym empty ∙ f));
          head = λ k y d m n i p is N h. order_head empty P G is N h;
          equals = λ k y d m n i p is N h. order_equals empty P G is N;
        }
    order_of (nothing (polled empty P)) =
        record {
          popped = λ i j f. absurd (nil≢cons (sym empty ∙ f));
          head = λ k w d m n i p is N h. absurd (none_out is);
          equals = λ k w d m n i p is N h. absurd (none_out is);
        }

    pub poll_order : {a : Answer} {t : QueueWords} → PollClaim s now a t → PollOrder (view s) (told a) (view t)
    poll_order P = order_of (((P.good S).free z₀).done not_back).1
