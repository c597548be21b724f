-- One call at a time: a pending record stays as it is under every call that does not aim at it (`does_stays`).
use mathlib.Core.Path.{◌≡◌, refl, sym, ap, ◌∙◌}
use mathlib.Core.Logic.{◌≢◌, inl, inr, ⊎_elim}
use mathlib.Core.Bool.{false, not, true≢false}
use mathlib.Core.List.{List, ◌∷◌}
use mathlib.Core.Option.{Option}
use Prim.Native.Nat.{ℕ, max, ◌+◌}
use native.Mathlib.Omega.{arith}
use Rattle.links.specs.Lists.{Mem, without, change}
use Rattle.links.proofs.laws.Lists.{change_other}
use Rattle.places.specs.Places.{expired, free}
use Rattle.wheel.proofs.laws.Sums.{mem_kept, put_mem}
use Rattle.queue.specs.Told.{Told, timer}
use Rattle.records.specs.View.{View, with_lists, with_value, upd, with_period}
use Rattle.records.specs.Records.{key_of, At, Names, taken, left, target, placed, freed}
use Rattle.queue.specs.Steps.{PollsSome, handed_some, nothing_some, not_yet, GoesOn, once, again, ended}
use Rattle.records.specs.Words.{QueueWords, view, Sound}
use Rattle.pausing.specs.Pausing.{PollTaken}
use Rattle.records.proofs.laws.Words.{upd_other}
use Rattle.records.proofs.laws.Inner.{mem_other}
use Rattle.delay_queue.specs.declared.Call.{Call}
use Rattle.promises.specs.OneCall.{is_no}
use Rattle.promises.proofs.laws.Views.{ViewGoes, refuses, formats, inserts, resets, removes, polls, wakes, counts, clears}
use Rattle.promises.proofs.laws.Polling.{freed_beside, goes_on_says}
use Rattle.promises.proofs.laws.TakesOut.{Other, one_list, TakenOut, taken_out}
use Rattle.promises.specs.KeysStay.{Aims, HandsKey}

-- a key is its record's number and turn
pub key_is : {v : View} {k r p : ℕ} → Names v k r p → k ≡ key_of v r
key_is {v} {k} N = omega arith

-- ---- a record that is not the one that moves

-- r stays pending in w, with its turn, value and deadline; on the expired stack if it was there
pub record Stays (v w : View) (r : ℕ) : Type 0 where
  pub n : w.n ≡ v.n
  pub turn : w.turn r ≡ v.turn r
  pub value : w.value r ≡ v.value r
  pub period : w.period r ≡ v.period r
  pub deadline : w.deadline r ≡ v.deadline r
  pub waits : (p : ℕ) → At v r p → (q : ℕ) × At w r q
  pub expired : Mem r (v.lists expired) → Mem r (w.lists expired)

stays_same : (v : View) (r : ℕ) → Stays v v r
stays_same v r = record { n = refl; turn = refl; value = refl; period = refl; deadline = refl; waits = λ p a. (p, a); expired = λ m. m }

stays_then : {u v w : View} {r : ℕ} → Stays u v r → Stays v w r → Stays u w r
stays_then A B =
    record {
      n = B.n ∙ A.n;
      turn = B.turn ∙ A.turn;
      value = B.value ∙ A.value;
      period = B.period ∙ A.period;
      deadline = B.deadline ∙ A.deadline;
      waits = λ p a. let b = A.waits p a in B.waits b.0 b.1;
      expired = λ m. B.expired (A.expired m);
    }

-- one list changes, and r stays in it
stays_lists : (v : View) (p : ℕ) (l : List ℕ) (r : ℕ) → (Mem r (v.lists p) → Mem r l) → Stays v (with_lists (change v.lists p l) v) r
stays_lists v p l r h =
    record {
      n = refl;
      turn = refl;
      value = refl;
      period = refl;
      deadline = refl;
      waits = λ q a. (q, record { timed = a.timed; member = mem_kept v.lists p l q r h a.member });
      expired = λ m. mem_kept v.lists p l expired r h m;
    }

stays_left : (p i : ℕ) (v : View) (r : ℕ) → r ≢ i → Stays v (left p i v) r
unfolding left
stays_left p i v r d = stays_lists v p (without i (v.lists p)) r (mem_other i r (v.lists p) d)

stays_freed : (i : ℕ) (v : View) (r : ℕ) → r ≢ i → Stays v (freed i v) r
stays_freed i v r d =
    let B = freed_beside i v in
    record {
      n = B.size;
      turn = B.turn r d;
      value = rw B.value;
      period = rw B.period;
      deadline = rw B.deadline;
      waits = λ q a. (q, record { timed = a.timed; member = rw (B.lists q a.timed) a.member });
      expired = λ m. rw (B.lists expired (omega arith)) m;
    }

stays_placed : (i when : ℕ) (v : View) (r : ℕ) → r ≢ i → Stays v (placed i when v) r
unfolding placed
stays_placed i when v r d =
    let w = max when v.elapsed in
    let p = target v.elapsed w in
    record {
      n = refl;
      turn = refl;
      value = refl;
      period = refl;
      deadline = upd_other v.deadline i w r d;
      waits = λ q a. (
        q,
        record {
          timed = a.timed;
          member = mem_kept v.lists p _ q r
              (λ m. put_mem p i r (v.lists p) (inr m)) a.member;
        },
      );
      expired = λ m. mem_kept v.lists p _ expired r (λ n. put_mem p i r (v.lists p) (inr n)) m;
    }

stays_taken : (v : View) {i : ℕ} {l : List ℕ} (value period : ℕ) → v.lists free ≡ i ∷ l → (r : ℕ) → r ≢ i
    → Stays v (with_period (upd v.period i period) (with_value (upd v.value i value) (taken l v))) r
stays_taken v {i} {l} value period e r d =
    record {
      n = refl;
      turn = refl;
      value = upd_other v.value i value r d;
      period = upd_other v.period i period r d;
      deadline = refl;
      waits = λ q a. (
        q,
        record {
          timed = a.timed;
          member = mem_kept v.lists free l q r
              (λ m. ⊎_elim (λ z. absurd (d z)) (λ k. k) (rw e at m)) a.member;
        },
      );
      expired = λ m. rw (change_other v.lists free l expired (omega arith)) m;
    }

stays_taken_out : {v u : View} {o : Option ℕ} → TakenOut v o u → (r : ℕ) → Other o r → Stays v u r
stays_taken_out T r d =
    record {
      n = T.size;
      turn = ap (λ f. f r) T.turn;
      value = ap (λ f. f r) T.value;
      period = ap (λ f. f r) T.period;
      deadline = ap (λ f. f r) T.deadline;
      waits = T.stays r d;
      expired = T.expired r d;
    }

-- ---- one call

module _ {s : QueueWords} (S : Sound s) {k r p : ℕ} (N : Names (view s) k r p) where
  -- another key names another record
  other_record : {key i q : ℕ} → Names (view s) key i q → key ≢ k → r ≢ i
  other_record {key} {i} M d e = d (omega (arith, ap (view s).turn e))

  not_handed : (i : ℕ) {x y m n : ℕ} → (timer (key_of (view s) i) x y m n ≡ timer k x y m n → ⊥) → r ≢ i
  not_handed i {x} {y} {m} {n} out e = out (ap (λ j. timer j x y m n) (ap (key_of (view s)) (sym e) ∙ sym (key_is N)))

  poll_stays : {now limit : ℕ} {x : Told} {w : View} → PollTaken (view s) now → PollsSome (view s) now limit x w → (HandsKey k x → ⊥)
      → Stays (view s) w r
  poll_stays h (handed_some {r = i} {u = u} T G) out =
      let d : r ≢ i = not_handed i (λ e. out (_, _, _, _, goes_on_says G ∙ e)) in
      stays_then (stays_taken_out (taken_out S h T) r d) (stays_on d G)
    where
      stays_on : {i m n : ℕ} {u : View} {x : Told} {w : View} → r ≢ i → GoesOn (view s) i m n u x w → Stays u w r
      stays_on {i} {u = u} d (once z) = stays_freed i u r d
      stays_on {i} {u = u} d (again p f) = stays_placed i ((view s).deadline i + (view s).period i) u r d
      stays_on {i} {u = u} d (ended p f) = stays_freed i u r d
  poll_stays h (nothing_some T) out = stays_taken_out (taken_out S h T) r tt
  poll_stays h (not_yet T) out = stays_taken_out (taken_out S h T) r tt

  pub does_stays : {c : Call} {x : Told} {w : View} → ViewGoes (view s) c x w → (Aims k c → not (is_no x) ≡ false) → (HandsKey k x → ⊥)
      → Stays (view s) w r
  does_stays refuses aims out = stays_same (view s) r
  does_stays formats aims out = absurd (true≢false (aims tt))
  does_stays (inserts {value} {when} {period} {r = i} {l = l} e) aims out =
      let d : r ≢ i = λ z. omega (arith, one_list S i p free (rw z at N.pending.member) (rw e (inl refl))) in
      stays_then (stays_taken (view s) value period e r d) (stays_placed i when _ r d)
  does_stays (resets {when = when} {r = i} {p = q} M) aims out =
      let d : r ≢ i = other_record M (λ z. true≢false (aims z)) in
      stays_then (stays_left q i (view s) r d) (stays_placed i when (left q i (view s)) r d)
  does_stays (removes {r = i} {p = q} M) aims out =
      let d : r ≢ i = other_record M (λ z. true≢false (aims z)) in
      stays_then (stays_left q i (view s) r d) (stays_freed i (left q i (view s)) r d)
  does_stays (polls c h Q) aims out = poll_stays h Q out
  does_stays (wakes W) aims out = stays_same (view s) r
  does_stays counts aims out = stays_same (view s) r
  does_stays (clears c) aims out = absurd (true≢false (aims tt))
