-- What a poll takes out, by its lists: who was pending stays pending but the one taken out, which is in no list, and nobody comes (`taken_out`). It does not
-- matter whether it came from the expired stack or from the wheel.
use mathlib.Core.Path.{◌≡◌, refl, sym, ◌∙◌, subst}
use mathlib.Core.Logic.{◌≢◌, inl, ⊎_elim, by_cases}
use mathlib.Core.List.{List, [], ◌∷◌}
use mathlib.Core.Option.{Option, none, some, some-injective, some-ne-none}
use Prim.Native.Nat.{ℕ, zero, suc, ◌≤◌, ◌<◌}
use native.Mathlib.Decide.{ℕ_discrete, dec_lt}
use native.Mathlib.Omega.{arith}
use borrow.Author.Tests.{eq-eqb, ne_eqb}
use Rattle.links.specs.Lists.{nobody, Mem, change}
use Rattle.links.proofs.laws.Lists.{Nodup, change_same, change_other}
use Rattle.places.specs.Places.{expired, free}
use Rattle.places.proofs.laws.Whole as place_laws
use Rattle.wheel.specs.Wheel.{Lists}
use Rattle.wheel.specs.Sums.{sum_of, total}
use Rattle.wheel.proofs.laws.Sums.{mem_change, mem_kept, mem_left, mem_sum, hits, lies_times, times_lies}
use Rattle.wheel.proofs.laws.Drain.{amount}
use Rattle.wheel.proofs.laws.Going.{hand_reached}
use Rattle.wheel.specs.Limited.{Outcome, ended as stopped, yet}
use Rattle.wheel.proofs.laws.Passed.{Passed, given_by, limited_passed, passed_on}
use Rattle.records.specs.View.{View}
use Rattle.records.specs.Records.{key_of, At, Names}
use Rattle.queue.specs.Steps.{TakesSome, polled_some, popped_some}
use Rattle.records.specs.Words.{QueueWords, view, Sound}
use Rattle.pausing.specs.Pausing.{PollTaken}
use Rattle.pausing.proofs.laws.Pausing.{rule_now}
use Rattle.pausing.proofs.laws.Works.{not_before, takes_some_works}

-- ---- on a sound store every record is in one list at most

-- how often it lies there
sum_none : (y : ℕ) (l : List ℕ) → (Mem y l → ⊥) → sum_of (hits y) l ≡ 0
sum_none y l out = by_cases (dec_lt 0 (sum_of (hits y) l)) (λ h. absurd (out (mem_sum y l h))) (λ h. omega arith)

sum_once : (y : ℕ) (l : List ℕ) → Nodup l → sum_of (hits y) l ≤ 1
sum_once y [] d = omega arith
sum_once y (x ∷ l) d =
    by_cases (ℕ_discrete x y)
    (λ e. rw (eq-eqb x y e) (omega (arith, sum_none y l (λ m. d.0 (rw e m)))))
    (λ n. rw (ne_eqb x y n) (omega (arith, sum_once y l d.1)))

module _ {s : QueueWords} (S : Sound s) where
  -- in two lists at once is nobody
  pub one_list : (i p q : ℕ) → Mem i ((view s).lists p) → Mem i ((view s).lists q) → p ≡ q
  one_list i p q m k = sym (place_laws.member_mark S.standing.whole.places p i m)
      ∙ place_laws.member_mark S.standing.whole.places q i k

  -- nobody lies twice in all the lists together
  pub lies_once : (y n : ℕ) → total (λ q x. hits y x) n (view s).lists ≤ 1
  unfolding total
  lies_once y zero = omega arith
  lies_once y (suc n) =
      by_cases (dec_lt 0 (total (λ q x. hits y x) n (view s).lists))
      (λ h.
      let b = times_lies n (view s).lists y h in
      omega (arith, lies_once y n, sum_none y ((view s).lists n) (λ m. omega (arith, one_list y b.0 n b.2 m))))
      (λ h. omega (arith, sum_once y ((view s).lists n) (place_laws.list_nodup S.standing.whole.places n)))

  -- the key of a pending record names it
  pub key_of_names : {r p : ℕ} → At (view s) r p → Names (view s) (key_of (view s) r) r p
  key_of_names {r} {p} a =
      let b = place_laws.member_below S.standing.whole.places p r a.member in
      record { number = omega arith; below = b; pending = a; turn = omega arith }

-- ---- what is taken out

-- who is: "not yet" takes out nobody
abbrev pub got_by : Outcome → Option ℕ
got_by (stopped got) = got
got_by (yet p) = none

-- y is not the one
abbrev pub Other : Option ℕ → ℕ → Type 0
Other none y = Unit {0}
Other (some r) y = y ≢ r

-- from v to u nobody comes, and nobody leaves but who is taken out
pub record TakenOut (v : View) (got : Option ℕ) (u : View) : Type 0 where
  pub size : u.n ≡ v.n
  pub value : u.value ≡ v.value
  pub period : u.period ≡ v.period
  pub deadline : u.deadline ≡ v.deadline
  pub turn : u.turn ≡ v.turn
  pub free : u.lists free ≡ v.lists free
  pub was : (y p : ℕ) → At u y p → (q : ℕ) × At v y q
  pub stays : (y : ℕ) → Other got y → (p : ℕ) → At v y p → (q : ℕ) × At u y q
  pub expired : (y : ℕ) → Other got y → Mem y (v.lists expired) → Mem y (u.lists expired)
  pub out : (r : ℕ) → got ≡ some r → (p : ℕ) × At v r p
  pub gone : (r : ℕ) → got ≡ some r → (q : ℕ) → Mem r (u.lists q) → ⊥

module _ {s : QueueWords} (S : Sound s) where
  abbrev v : View
  v = view s

  -- a record that leaves a list is in none
  pub moved_out : (i p : ℕ) → Mem i (v.lists p) → (l : List ℕ) → (Mem i l → ⊥) → (q : ℕ) → Mem i (change v.lists p l q) → ⊥
  moved_out i p m l out q k = ⊎_elim (λ a. out a.1) (λ a. a.0 (one_list S i q p a.1 m)) (mem_change v.lists p l q i k)

  -- a poll that is taken is not before elapsed, whatever is in hand
  pub taken_later : {now : ℕ} → PollTaken v now → v.elapsed ≤ now
  taken_later K =
      by_cases (ℕ_discrete s.hand nobody) K.later
      (λ d. let I = S.rule.inside d in omega (arith, I.late, I.due, K.same d))

  -- nothing is pending before elapsed
  pub none_before : (y p : ℕ) → At v y p → v.elapsed ≤ v.deadline y
  none_before y p a =
      by_cases (ℕ_discrete s.hand nobody)
      (λ z.
      by_cases (ℕ_discrete p expired)
      (λ e. omega (arith, (S.rule.free z).expired y (rw e at a.member)))
      (λ d. not_before (S.rule.free z) p y (omega (arith, a.timed, d)) a.member))
      (λ z.
      let I = S.rule.inside z in
      by_cases (ℕ_discrete p expired)
      (λ e. absurd (rw (e, I.expired) at a.member))
      (λ d. omega (arith, I.late, hand_reached I p y (omega (arith, a.timed, d)) a.member)))

  module _ {o : Outcome} {m : ℕ} {N : Lists} (P : Passed v.lists o m N) (empty : v.lists expired ≡ []) where
    wheel_was : (y p : ℕ) → p < free → Mem y (N p) → (q : ℕ) × At v y q
    unfolding amount
    wheel_was y p h k =
        by_cases (dec_lt p expired)
        (λ g.
        let r = times_lies expired v.lists y (omega (arith, P.kept (hits y), lies_times expired N y p g k)) in
        (r.0, record { timed = omega arith; member = r.2 }))
        (λ g. (p, record { timed = h; member = rw (P.aside p (omega arith)) at k }))

    wheel_stays : (y : ℕ) → given_by (hits y) o ≡ 0 → (p : ℕ) → At v y p → (q : ℕ) × (q < free) × Mem y (N q)
    wheel_stays y z p a =
        by_cases (ℕ_discrete p expired)
        (λ e. absurd (rw (e, empty) at a.member))
        (λ d. let b = passed_on P y z (p, omega (arith, a.timed), a.member) in (b.0, omega (arith, b.1), b.2))

  wheel_gone : {i p m : ℕ} {N : Lists} → At v i p → v.lists expired ≡ [] → Passed v.lists (stopped (some i)) m N → (q : ℕ) → Mem i (N q) → ⊥
  unfolding amount
  wheel_gone {i} {p} {N = N} a empty P q k =
      let one : hits i i ≡ 1 = rw (eq-eqb i i refl) in
      let away : p ≢ expired = λ e. absurd (rw (e, empty) at a.member) in
      by_cases (dec_lt q expired)
      (λ h. omega (arith, lies_times expired N i q h k, P.kept (hits i), lies_once S i expired))
      (λ h. omega (arith, one_list S i p q a.member (rw (P.aside q (omega arith)) at k), a.timed, away))

  not_given : (g : Option ℕ) (y : ℕ) → Other g y → given_by (hits y) (stopped g) ≡ 0
  not_given none y h = refl
  not_given (some r) y h = rw (ne_eqb r y (λ z. h (sym z)))

  wheel_out : {now limit m n : ℕ} {u : View} {N : Lists} → PollTaken v now → v.lists expired ≡ [] → (g : Option ℕ) → TakesSome v now limit (stopped g) m n u
      → Passed v.lists (stopped g) m N
      → ((r : ℕ) → g ≡ some r → (p : ℕ) × At v r p) × ((r : ℕ) → g ≡ some r → (q : ℕ) → Mem r (N q) → ⊥)
  wheel_out K empty none T P = (λ r z. absurd (some-ne-none r (sym z)), λ r z. absurd (some-ne-none r (sym z)))
  wheel_out {N = N} K empty (some i) T P =
      let w = (takes_some_works S K T).fair.0 in (
        λ r z. (w.0, subst (λ (j : ℕ). At v j w.0) (some-injective i r z) w.1),
        λ r z q k. wheel_gone w.1 empty P q (subst (λ (j : ℕ). Mem j (N q)) (sym (some-injective i r z)) k),
      )

  -- from the expired stack, from the wheel, or nobody, as "not yet" says
  pub taken_out : {now limit m n : ℕ} {o : Outcome} {u : View} → PollTaken v now → TakesSome v now limit o m n u → TakenOut v (got_by o) u
  taken_out h (popped_some {r} {l} e) =
      let m : Mem r (v.lists expired) = rw e (inl refl) in
      let d = rw e at (place_laws.list_nodup S.standing.whole.places expired) in
      let rest : (y : ℕ) → y ≢ r → Mem y (v.lists expired) → Mem y l = λ y d₁ k. ⊎_elim (λ z. absurd (d₁ z)) (λ x. x) (rw e at k) in
      record {
        size = refl;
        value = refl;
        period = refl;
        deadline = refl;
        turn = refl;
        free = change_other v.lists expired l free (omega arith);
        was = λ y p a. (p, record { timed = a.timed; member = mem_left v.lists expired r l e p y a.member });
        stays = λ y d₁ p a. (p, record { timed = a.timed; member = mem_kept v.lists expired l p y (rest y d₁) a.member });
        expired = λ y d₁ k. rw (change_same v.lists expired l) (rest y d₁ k);
        out = λ i z. (expired, record { timed = omega arith; member = rw (sym (some-injective r i z)) m });
        gone = λ i z q k. moved_out r expired m l d.0 q (rw (some-injective r i z) k);
      }
  taken_out h (polled_some {o = stopped got} empty P) =
      let W = limited_passed (rule_now S h) empty h.later (stopped got) P in
      let O = wheel_out h empty got (polled_some empty P) W in
      record {
        size = refl;
        value = refl;
        period = refl;
        deadline = refl;
        turn = refl;
        free = W.aside free (omega arith);
        was = λ y p a. wheel_was W empty y p a.timed a.member;
        stays = λ y d p a. let b = wheel_stays W empty y (not_given got y d) p a in (b.0, record { timed = b.1; member = b.2 });
        expired = λ y d k. absurd (rw empty at k);
        out = O.0;
        gone = O.1;
      }
  taken_out h (polled_some {o = yet q} empty P) =
      let W = limited_passed (rule_now S h) empty h.later (yet q) P in
      record {
        size = refl;
        value = refl;
        period = refl;
        deadline = refl;
        turn = refl;
        free = W.aside free (omega arith);
        was = λ y p a. wheel_was W empty y p a.timed a.member;
        stays = λ y d p a. let b = wheel_stays W empty y refl p a in (b.0, record { timed = b.1; member = b.2 });
        expired = λ y d k. absurd (rw empty at k);
        out = λ r z. absurd (some-ne-none r (sym z));
        gone = λ r z. absurd (some-ne-none r (sym z));
      }
