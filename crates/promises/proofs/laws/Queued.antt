-- Two keys whose timers wait in one list with one deadline, the first before the second: no call hands out the second first (`goes_queued`), and
-- whoever is placed where an equal waits stands behind it (`placed_queued`).
use mathlib.Core.Path.{◌≡◌, refl, sym, ap, ◌∙◌, subst}
use mathlib.Core.Logic.{◌≢◌, ◌⊎◌, inl, inr, ⊎_elim, by_cases}
use mathlib.Core.Bool.{false, not, true≢false}
use mathlib.Core.List.{List, [], ◌∷◌, nil≢cons}
use mathlib.Core.Option.{Option, none, some, some-injective, some-ne-none}
use Prim.Native.Nat.{ℕ, ◌<◌, max, ◌+◌, ◌-◌}
use native.Mathlib.Decide.{ℕ_discrete}
use native.Mathlib.Omega.{arith}
use Rattle.links.specs.Lists.{nobody, Mem, without, change}
use Rattle.links.proofs.laws.Lists.{change_same, change_other, mem_app}
use Rattle.places.specs.Places.{slot_place, expired, free, put, level_at}
use Rattle.places.proofs.laws.Places.{put_tail}
use Rattle.wheel.specs.Wheel.{Lists}
use Rattle.wheel.specs.Limited.{Outcome, ended as stopped, yet}
use Rattle.wheel.specs.Moves.{gotten}
use Rattle.wheel.proofs.laws.Moves.{got_none, got_some}
use Rattle.wheel.proofs.laws.Sums.{mem_kept, put_mem}
use Rattle.times.specs.Times.{slot_of}
use Rattle.times.proofs.laws.Quotients.{slot_lt}
use Rattle.queue.specs.Told.{Told, timer, handing}
use Rattle.queue.specs.Steps.{TakesSome, popped_some, polled_some, GoesOn, once, again, ended, PollsSome, handed_some, nothing_some, not_yet}
use Rattle.records.specs.View.{View, with_lists, with_value, with_period, upd}
use Rattle.records.specs.Records.{key_of, At, Names, taken, left, target, placed, freed}
use Rattle.records.specs.Words.{QueueWords, view, Sound}
use Rattle.pausing.specs.Pausing.{PollTaken}
use Rattle.records.proofs.laws.Words.{upd_same, upd_other}
use Rattle.records.proofs.laws.Inner.{mem_other}
use Rattle.delay_queue.specs.declared.Call.{Call}
use Rattle.promises.specs.OneCall.{is_no}
use Rattle.promises.specs.KeysStay.{Aims, HandsKey}
use Rattle.promises.proofs.laws.Views.{ViewGoes, refuses, formats, inserts, resets, removes, polls, wakes, counts, clears, out_polls, freed_hand}
use Rattle.promises.proofs.laws.Polling.{target_timed, freed_beside, none_out, goes_on_says}
use Rattle.promises.proofs.laws.TakesOut.{one_list, lies_once, taken_out, got_by}
use Rattle.promises.proofs.laws.KeysStay.{key_is}
use Rattle.promises.proofs.laws.Order.{names_it}
use Rattle.promises.proofs.laws.Precedes.{Precedes, Leads, Split, Ahead, High, prec_mem, prec_left, prec_end, prec_without, gone_then, leave_first, limited_first}

-- in one list, a slot's or the expired stack, with one deadline, r before s; or, inside the drain in hand, r was moved already and s was not
abbrev Sooner : View → ℕ → ℕ → Type 0
Sooner v r s = Leads free v.deadline v.lists r s ⊎ Split v.deadline v.hand v.lists r s

-- so wait the timers of the keys j and k
pub record Queued (v : View) (j k : ℕ) : Type 0 where
  pub front : ℕ
  pub back : ℕ
  pub place : ℕ
  pub rear : ℕ
  pub front_key : Names v j front place
  pub back_key : Names v k back rear
  pub order : Sooner v front back

-- ---- one record moves

module _ {r s : ℕ} where
  -- another view with the same lists
  first_same : (v u : View) → u.deadline ≡ v.deadline → u.hand ≡ v.hand → ((p : ℕ) → p < free → u.lists p ≡ v.lists p) → Sooner v r s
      → Sooner u r s
  first_same v u d h e (inl O) =
      inl (record { place = O.place; within = O.within; order = rw (e O.place O.within) O.order; equal = rw d O.equal })
  first_same v u d h e (inr O) =
      let k = level_at v.hand - 1 in
      let timed : O.place < free = omega (arith, O.is, O.below, slot_lt (v.deadline r) k) in
      inr (record {
        high = rw h O.high;
        below = rw h O.below;
        place = O.place;
        is = rw (h, d) O.is;
        front = rw (e O.place timed) O.front;
        back = rw (h, e v.hand (omega (arith, O.below))) O.back;
        equal = rw d O.equal;
      })

  -- one list changes, and they stay in it in their order
  first_change : (v : View) (p : ℕ) (l : List ℕ) → (p < free → Precedes r s (v.lists p) → Precedes r s l) → (O : Leads free v.deadline v.lists r s)
      → Precedes r s (change v.lists p l O.place)
  first_change v p l h O =
      by_cases (ℕ_discrete O.place p)
      (λ (z : O.place ≡ p). rw (z, change_same v.lists p l) (h (rw z at O.within) (rw z at O.order)))
      (λ z. rw (change_other v.lists p l O.place z) O.order)

  placed_first : (i when : ℕ) (v : View) → r ≢ i → s ≢ i → Sooner v r s → Sooner (placed i when v) r s
  unfolding placed
  placed_first i when v a b (inl O) =
      let w = max when v.elapsed in
      let p = target v.elapsed w in
      inl (record {
        place = O.place;
        within = O.within;
        order = first_change v p (put p i (v.lists p))
            (λ h o. rw (put_tail p i (v.lists p) (omega arith)) (prec_left r s (v.lists p) (i ∷ []) o)) O;
        equal = upd_other v.deadline i w r a ∙ O.equal ∙ sym (upd_other v.deadline i w s b);
      })
  placed_first i when v a b (inr O) =
      let w = max when v.elapsed in
      let p = target v.elapsed w in
      let k = level_at v.hand - 1 in
      inr (record {
        high = O.high;
        below = O.below;
        place = O.place;
        is = O.is ∙ ap (λ (y : ℕ). slot_place k (slot_of y k)) (sym (upd_other v.deadline i w r a));
        front = mem_kept v.lists p (put p i (v.lists p)) O.place r (λ m. put_mem p i r (v.lists p) (inr m)) O.front;
        back = mem_kept v.lists p (put p i (v.lists p)) v.hand s (λ m. put_mem p i s (v.lists p) (inr m)) O.back;
        equal = upd_other v.deadline i w r a ∙ O.equal ∙ sym (upd_other v.deadline i w s b);
      })

  left_first : (p i : ℕ) (v : View) → r ≢ i → s ≢ i → Sooner v r s → Sooner (left p i v) r s
  unfolding left
  left_first p i v a b (inl O) =
      inl (record {
        place = O.place;
        within = O.within;
        order = first_change v p (without i (v.lists p)) (λ h o. prec_without r s i a b (v.lists p) o) O;
        equal = O.equal;
      })
  left_first p i v a b (inr O) =
      inr (record {
        high = O.high;
        below = O.below;
        place = O.place;
        is = O.is;
        front = mem_kept v.lists p (without i (v.lists p)) O.place r (λ m. mem_other i r (v.lists p) a m) O.front;
        back = mem_kept v.lists p (without i (v.lists p)) v.hand s (λ m. mem_other i s (v.lists p) b m) O.back;
        equal = O.equal;
      })

  freed_first : (i : ℕ) (v : View) → Sooner v r s → Sooner (freed i v) r s
  freed_first i v O = let B = freed_beside i v in first_same v (freed i v) B.deadline (freed_hand i v) B.lists O

-- the one that is placed stands behind all that lie where it comes
placed_behind : (i when : ℕ) (v : View) (r : ℕ) → r ≢ i → v.deadline r ≡ max when v.elapsed
    → Mem r (v.lists (target v.elapsed (max when v.elapsed))) → Leads free (placed i when v).deadline (placed i when v).lists r i
unfolding placed
placed_behind i when v r d e m =
    let w : ℕ = max when v.elapsed in
    let p : ℕ = target v.elapsed w in
    let timed = target_timed v.elapsed w in
    record {
      place = p;
      within = timed;
      order =
          rw (change_same v.lists p (put p i (v.lists p)), put_tail p i (v.lists p) (omega (arith, timed)))
          (prec_end r i (v.lists p) m);
      equal = upd_other v.deadline i w r d ∙ e ∙ sym (upd_same v.deadline i w);
    }

-- ---- one call

pub same_key : {v : View} {j k r s p q : ℕ} → Names v j r p → Names v k s q → r ≡ s → j ≡ k
same_key {v} M N e = key_is M ∙ ap (key_of v) e ∙ sym (key_is N)

-- the key names the record in another view too, where it has the same turn
renamed : {v u : View} {k r p q : ℕ} → Names v k r p → u.n ≡ v.n → u.turn r ≡ v.turn r → At u r q → Names u k r q
renamed N n t a = record { number = N.number; below = rw n N.below; pending = a; turn = t ∙ N.turn }

requeued : {v u : View} {j k : ℕ} (Q : Queued v j k) → u.n ≡ v.n → u.turn Q.front ≡ v.turn Q.front
    → u.turn Q.back ≡ v.turn Q.back → Sooner u Q.front Q.back → Queued u j k
requeued {v} {u} Q n f b (inl O) =
    let m = prec_mem Q.front Q.back (u.lists O.place) O.order in
    record {
      front = Q.front;
      back = Q.back;
      place = O.place;
      rear = O.place;
      front_key = renamed Q.front_key n f (record { timed = O.within; member = m.0 });
      back_key = renamed Q.back_key n b (record { timed = O.within; member = m.1 });
      order = inl O;
    }
requeued {v} {u} Q n f b (inr O) =
    let timed : O.place < free = omega (arith, O.is, O.below, slot_lt (u.deadline Q.front) (level_at u.hand - 1)) in
    record {
      front = Q.front;
      back = Q.back;
      place = O.place;
      rear = u.hand;
      front_key = renamed Q.front_key n f (record { timed = timed; member = O.front });
      back_key = renamed Q.back_key n b (record { timed = omega (arith, O.below); member = O.back });
      order = inr O;
    }

module _ {st : QueueWords} (S : Sound st) {j k : ℕ} (Q : Queued (view st) j k) where
  abbrev v : View
  v = view st

  abbrev now_first : Sooner v Q.front Q.back
  now_first = Q.order

  -- who lies elsewhere is neither
  other_front : (i p : ℕ) → p ≢ Q.place → Mem i (v.lists p) → Q.front ≢ i
  other_front i p d m e = d (one_list S i p Q.place m (rw e at Q.front_key.pending.member))

  other_back : (i p : ℕ) → p ≢ Q.rear → Mem i (v.lists p) → Q.back ≢ i
  other_back i p d m e = d (one_list S i p Q.rear m (rw e at Q.back_key.pending.member))

  -- that of k is not handed out; that of j is, or both wait on in their order
  abbrev pub Ends : Told → View → Type 0
  Ends x u = (HandsKey k x → ⊥) × (HandsKey j x ⊎ Queued u j k)

  -- another than the two goes on, freed or placed again, and both wait on
  kept_placed : (i when : ℕ) (u : View) → u.n ≡ v.n → u.turn ≡ v.turn → Sooner (placed i when u) Q.front Q.back
      → Queued (placed i when u) j k
  unfolding placed
  kept_placed i when u n t O = requeued Q n (ap (λ f. f Q.front) t) (ap (λ f. f Q.back) t) O

  kept_freed : (i : ℕ) (u : View) → u.n ≡ v.n → u.turn ≡ v.turn → Q.front ≢ i → Q.back ≢ i → Sooner u Q.front Q.back → Queued (freed i u) j k
  kept_freed i u n t f g O =
      let B = freed_beside i u in
      requeued Q (B.size ∙ n) (B.turn Q.front f ∙ ap (λ h. h Q.front) t) (B.turn Q.back g ∙ ap (λ h. h Q.back) t) (freed_first i u O)

  kept_on : {i m n : ℕ} {u : View} {x : Told} {w : View} → GoesOn v i m n u x w → u.n ≡ v.n → u.turn ≡ v.turn → Q.front ≢ i → Q.back ≢ i
      → Sooner u Q.front Q.back → Queued w j k
  kept_on {i} {u = u} (once z) n t f g O = kept_freed i u n t f g O
  kept_on {i} {u = u} (again p z) n t f g O =
      let when = v.deadline i + v.period i in
      kept_placed i when u n t (placed_first i when u f g O)
  kept_on {i} {u = u} (ended p z) n t f g O = kept_freed i u n t f g O

  -- i is handed out, which is not that of k: it is that of j, or both wait on
  out_ends : (i p : ℕ) {m n : ℕ} {u : View} {x : Told} {w : View} → At v i p → GoesOn v i m n u x w → u.n ≡ v.n → u.turn ≡ v.turn → Q.back ≢ i
      → (Q.front ≡ i) ⊎ Sooner u Q.front Q.back → Ends x w
  out_ends i p {m} {n} {u} {x} {w} a G size t back O =
      let z : handing x ≡ timer (key_of v i) (v.value i) (v.deadline i) m n = goes_on_says G in
      let gives : Q.front ≡ i → HandsKey j x
      = λ y. (_, _, _, _, z ∙ ap (λ e. timer e (v.value i) (v.deadline i) m n) (sym (key_is Q.front_key ∙ ap (key_of v) y))) in (
        λ o. back (sym (names_it S a (by x z o.4) Q.back_key).0),
        by_cases (ℕ_discrete Q.front i) (λ y. inl (gives y))
            (λ y. ⊎_elim (λ e. inl (gives e)) (λ e. inr (kept_on G size t y back e)) O),
      )
    where
      by : (x : Told) {a b c d e a' b' c' d' e' : ℕ} → handing x ≡ timer a b c d e → handing x ≡ timer a' b' c' d' e' → a ≡ a'
      by x {a = a} {b} {c} {d} {e} {a'} {b'} {c'} {d'} {e'} p q = let y : timer a b c d e ≡ timer a' b' c' d' e' = sym p ∙ q in cc

  -- on the wheel or parked, where the expired stack is empty
  on_wheel : v.lists expired ≡ [] → Leads free v.deadline v.lists Q.front Q.back → Leads expired v.deadline v.lists Q.front Q.back
  on_wheel empty O =
      let away : O.place ≢ expired = λ z. absurd (rw (z, empty) at O.order) in
      record { place = O.place; within = omega (arith, away, O.within); order = O.order; equal = O.equal }

  off_wheel : {L : Lists} → Leads expired v.deadline L Q.front Q.back → Leads free v.deadline L Q.front Q.back
  off_wheel O = record { place = O.place; within = omega (arith, O.within); order = O.order; equal = O.equal }

  -- as the call finds them
  ahead : v.lists expired ≡ [] → Ahead v.deadline (gotten st.hand) v.lists Q.front Q.back
  ahead empty =
      by_cases (ℕ_discrete st.hand nobody)
      (λ z. subst (λ (h : Option ℕ). Ahead v.deadline h v.lists Q.front Q.back) (sym (got_none st.hand z))
      (⊎_elim (on_wheel empty) (λ O. absurd (omega (arith, O.below, z))) Q.order))
      (λ d. subst (λ (h : Option ℕ). Ahead v.deadline h v.lists Q.front Q.back) (sym (got_some st.hand d))
      (⊎_elim (λ O. inl (on_wheel empty O)) inr Q.order))

  high : High (gotten st.hand)
  high =
      by_cases (ℕ_discrete st.hand nobody)
      (λ z. subst (λ (h : Option ℕ). High h) (sym (got_none st.hand z)) tt)
      (λ d. let I = S.rule.inside d in subst (λ (h : Option ℕ). High h) (sym (got_some st.hand d)) (I.high, I.below))

  -- it is not that of k that is taken out; it is that of j, or both wait on in their order
  takes_ends : {now limit m n : ℕ} {o : Outcome} {u : View} → TakesSome v now limit o m n u
      → (got_by o ≡ some Q.back → ⊥) × ((got_by o ≡ some Q.front) ⊎ Sooner u Q.front Q.back)
  takes_ends (popped_some {r = i} {l = l} e) = ⊎_elim on_expired inside Q.order
    where
      on_expired : Leads free v.deadline v.lists Q.front Q.back
          → (some i ≡ some Q.back → ⊥) × ((some i ≡ some Q.front) ⊎ Sooner (with_lists (change v.lists expired l) v) Q.front Q.back)
      on_expired O =
          let A = leave_first {b = free} expired i l (omega arith) e O in (
            λ z.
                let y : i ≡ Q.back = some-injective i Q.back z in
                gone_then Q.back free v.lists (lies_once S Q.back free) expired l (omega arith) (rw y at e) A.0.0 A.0.1 A.0.2,
            ⊎_elim (λ y. inl (ap some (sym y))) (λ y. inr (inl y)) A.1,
          )

      inside : Split v.deadline v.hand v.lists Q.front Q.back
          → (some i ≡ some Q.back → ⊥) × ((some i ≡ some Q.front) ⊎ Sooner (with_lists (change v.lists expired l) v) Q.front Q.back)
      inside O =
          let d : st.hand ≢ nobody = λ z. omega (arith, O.below, z) in
          absurd (nil≢cons (sym (S.rule.inside d).expired ∙ e))
  takes_ends (polled_some {o = stopped g} empty P) =
      let O = limited_first P high (lies_once S Q.back expired) (ahead empty) in
      (O.0, ⊎_elim inl (λ y. inr (inl (off_wheel y))) O.1)
  takes_ends (polled_some {o = yet p} empty P) =
      let O = limited_first P high (lies_once S Q.back expired) (ahead empty) in
      (O.0, ⊎_elim inl (λ y. inr (⊎_elim (λ z. inl (off_wheel z)) inr y)) O.1)

  -- nobody is taken out
  none_ends : {now limit m n : ℕ} {o : Outcome} {u : View} → PollTaken v now → TakesSome v now limit o m n u → got_by o ≡ none → Queued u j k
  none_ends h T z =
      let E = takes_ends T in
      let O = taken_out S h T in
      requeued Q O.size (ap (λ f. f Q.front) O.turn) (ap (λ f. f Q.back) O.turn)
      (⊎_elim (λ y. absurd (some-ne-none _ (sym y ∙ z))) (λ y. y) E.1)

  poll_ends : {now limit : ℕ} {x : Told} {u : View} → PollTaken v now → PollsSome v now limit x u → Ends x u
  poll_ends h (handed_some {r = i} T G) =
      let E = takes_ends T in
      let O = taken_out S h T in
      let a = O.out i refl in
      out_ends i a.0 a.1 G O.size O.turn (λ z. E.0 (ap some (sym z)))
      (⊎_elim (λ y. inl (sym (some-injective i Q.front y))) inr E.1)
  poll_ends h (nothing_some T) = (λ z. none_out z.4, inr (none_ends h T refl))
  poll_ends h (not_yet T) = (λ z. none_out z.4, inr (none_ends h T refl))

  left_same : (p i : ℕ) → ((left p i v).n ≡ v.n) × ((left p i v).turn ≡ v.turn)
  unfolding left
  left_same p i = (refl, refl)

  -- a call that neither resets, removes, clears nor formats away one of the two
  pub goes_queued : {c : Call} {x : Told} {u : View} → ViewGoes v c x u → (Aims j c → not (is_no x) ≡ false) → (Aims k c → not (is_no x) ≡ false)
      → (HandsKey j x → ⊥) → Queued u j k
  goes_queued refuses a b o = Q
  goes_queued formats a b o = absurd (true≢false (a tt))
  goes_queued (inserts {value = value} {when = when} {period = period} {r = i} {l = l} e) a b o =
      let m : Mem i (v.lists free) = rw e (inl refl) in
      let away : free ≢ Q.place = omega (arith, Q.front_key.pending.timed) in
      let away-too : free ≢ Q.rear = omega (arith, Q.back_key.pending.timed) in
      let u = with_period (upd v.period i period) (with_value (upd v.value i value) (taken l v)) in
      let O : Sooner u Q.front Q.back
      = first_same v u refl refl (λ p h. change_other v.lists free l p (omega (arith, h))) now_first in
      kept_placed i when u refl refl (placed_first i when u (other_front i free away m) (other_back i free away-too m) O)
  goes_queued (resets {when = when} {r = i} {p = p} N) a b o =
      let f : Q.front ≢ i = λ z. true≢false (a (same_key N Q.front_key (sym z))) in
      let g : Q.back ≢ i = λ z. true≢false (b (same_key N Q.back_key (sym z))) in
      let L = left_same p i in
      kept_placed i when (left p i v) L.0 L.1 (placed_first i when (left p i v) f g (left_first p i v f g now_first))
  goes_queued (removes {r = i} {p = p} N) a b o =
      let f : Q.front ≢ i = λ z. true≢false (a (same_key N Q.front_key (sym z))) in
      let g : Q.back ≢ i = λ z. true≢false (b (same_key N Q.back_key (sym z))) in
      let L = left_same p i in
      kept_freed i (left p i v) L.0 L.1 f g (left_first p i v f g now_first)
  goes_queued (polls c h P) a b o = ⊎_elim (λ z. absurd (o z)) (λ R. R) (poll_ends h P).1
  goes_queued (wakes W) a b o = Q
  goes_queued counts a b o = Q
  goes_queued (clears r) a b o = absurd (true≢false (a tt))

  -- and no call hands out that of k
  pub queued_waits : {c : Call} {x : Told} {u : View} → ViewGoes v c x u → HandsKey k x → ⊥
  queued_waits D o = let P = out_polls D o.4 in (poll_ends P.1 P.2.1).0 o

-- ---- a placing

-- the record i was placed last: it stands behind every other that lies where it came, with the deadline that it got
pub placed_queued : {j k r p q : ℕ} (i when : ℕ) (v : View) → Names (placed i when v) j r p → Names (placed i when v) k i q → r ≢ i
    → (placed i when v).deadline r ≡ max when v.elapsed → p ≡ target v.elapsed (max when v.elapsed) → Queued (placed i when v) j k
unfolding placed
placed_queued {r = r} {p} i when v N M d e here =
    let w : ℕ = max when v.elapsed in
    let L = v.lists in
    let m : Mem r (put p i (L p)) = rw (change_same L p (put p i (L p))) at (rw (← here) at N.pending.member) in
    let was : Mem r (L p)
    = ⊎_elim (λ x. x) (λ x. absurd (⊎_elim d (λ y. y) x))
    (mem_app r (L p) (i ∷ []) (rw (put_tail p i (L p) (omega (arith, N.pending.timed))) at m)) in
    let O = placed_behind i when v r d (sym (upd_other v.deadline i w r d) ∙ e) (rw here at was) in
    let both = prec_mem r i ((placed i when v).lists O.place) O.order in
    record {
      front = r;
      back = i;
      place = O.place;
      rear = O.place;
      front_key = renamed N refl refl (record { timed = O.within; member = both.0 });
      back_key = renamed M refl refl (record { timed = O.within; member = both.1 });
      order = inl O;
    }
