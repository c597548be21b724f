-- One call at a time, one record at a time: its turn never falls, and under one turn it goes from free to pending to nowhere, never back (`does_onward`).
use mathlib.Core.Path.{◌≡◌, refl, ap}
use mathlib.Core.Logic.{◌≢◌, ◌⊎◌, inl, inr, ⊎_elim, by_cases}
use mathlib.Core.Bool.{false, not, ◌&&◌, true≢false}
use mathlib.Core.Option.{Option}
use Prim.Native.Nat.{ℕ, ◌+◌, ◌≤◌, ◌<◌, max}
use native.Mathlib.Decide.{ℕ_discrete}
use native.Mathlib.Omega.{arith}
use borrow.Author.Tests.{eq-eqb, ne_eqb}
use Rattle.links.specs.Lists.{nobody, Mem}
use Rattle.links.proofs.laws.Lists.{change_other}
use Rattle.places.specs.Places.{free, put}
use Rattle.wheel.proofs.laws.Sums.{mem_joined, mem_left}
use Rattle.queue.specs.Told.{Told}
use Rattle.records.specs.View.{View, with_elapsed, with_value, with_hand, upd, with_period}
use Rattle.records.specs.Records.{last_turn, At, taken, left, target, placed, freed}
use Rattle.queue.proofs.laws.Polls.{left_less}
use Rattle.queue.specs.Steps.{PollsSome, handed_some, nothing_some, not_yet, Clears, begun, kept, gave, GoesOn, once, again, ended}
use Rattle.records.specs.Words.{QueueWords, view, Sound}
use Rattle.pausing.specs.Pausing.{PollTaken}
use Rattle.records.proofs.laws.Words.{upd_same, upd_other}
use Rattle.delay_queue.specs.declared.Call.{Call}
use Rattle.promises.specs.OneCall.{is_no}
use Rattle.promises.specs.Runs.{is_format}
use Rattle.promises.proofs.laws.Views.{ViewGoes, refuses, formats, inserts, resets, removes, polls, wakes, counts, clears}
use Rattle.promises.proofs.laws.TakesOut.{TakenOut, taken_out}
use Rattle.promises.specs.KeysOne.{raised}
use Rattle.promises.proofs.laws.Polling.{target_timed}

-- from v to w the turn of r does not fall; and if it stays, r is free only if it was, and pending only if it was free or pending
pub record Onward (v w : View) (r : ℕ) : Type 0 where
  pub turn : v.turn r ≤ w.turn r
  pub idle : w.turn r ≡ v.turn r → Mem r (w.lists free) → Mem r (v.lists free)
  pub waits : w.turn r ≡ v.turn r → (p : ℕ) → At w r p → Mem r (v.lists free) ⊎ ((q : ℕ) × At v r q)

pub onward_same : (v : View) (r : ℕ) → Onward v v r
onward_same v r = record { turn = omega arith; idle = λ e m. m; waits = λ e p a. inr (p, a) }

pub onward_then : {u v w : View} {r : ℕ} → Onward u v r → Onward v w r → Onward u w r
onward_then {u} {v} {w} {r} A B =
    let low : w.turn r ≡ u.turn r → w.turn r ≡ v.turn r = λ e. omega arith in
    let high : w.turn r ≡ u.turn r → v.turn r ≡ u.turn r = λ e. omega arith in
    record {
      turn = omega arith;
      idle = λ e m. A.idle (high e) (B.idle (low e) m);
      waits = λ e p a. ⊎_elim (λ m. inl (A.idle (high e) m)) (λ x. A.waits (high e) x.0 x.1) (B.waits (low e) p a);
    }

-- ---- the lists lose members, or one record is freed, or placed

less_onward : (v w : View) (r : ℕ) → w.turn r ≡ v.turn r → ((q : ℕ) → Mem r (w.lists q) → Mem r (v.lists q)) → Onward v w r
less_onward v w r t h =
    record { turn = omega arith; idle = λ z m. h free m; waits = λ z p a. inr (p, record { timed = a.timed; member = h p a.member }) }

left_onward : (p i : ℕ) (v : View) (r : ℕ) → Onward v (left p i v) r
unfolding left
left_onward p i v r = less_onward v _ r refl (λ q m. left_less p i v q r m)

-- "At turn 2^48-1 it is retired instead."
pub freed_last : (i : ℕ) (v : View) → v.turn i ≡ last_turn → freed i v ≡ v
unfolding freed
freed_last i v e = rw (eq-eqb (v.turn i) last_turn e)

pub freed_more : (i : ℕ) (v : View) → v.turn i ≢ last_turn → freed i v ≡ raised i v
unfolding freed
freed_more i v d = rw (ne_eqb (v.turn i) last_turn d)

freed_onward : (i : ℕ) (v : View) (r : ℕ) → Onward v (freed i v) r
freed_onward i v r =
    by_cases (ℕ_discrete (v.turn i) last_turn)
    (λ z. rw (freed_last i v z) (onward_same v r))
    (λ z. rw (freed_more i v z) (by_cases (ℕ_discrete r i) same other))
  where
    same : r ≡ i → Onward v (raised i v) r
    same e =
        let t : upd v.turn i (v.turn i + 1) r ≡ v.turn r + 1 = rw e (upd_same v.turn i (v.turn i + 1)) in
        record { turn = omega arith; idle = λ z m. absurd (omega arith); waits = λ z p a. absurd (omega (arith, t)) }

    other : r ≢ i → Onward v (raised i v) r
    other d =
        record {
          turn = omega (arith, upd_other v.turn i (v.turn i + 1) r d);
          idle = λ z m. ⊎_elim (λ a. absurd (d a.1)) (λ k. k) (mem_joined v.lists free i free r m);
          waits = λ z p a.
              let m = rw (change_other v.lists free (put free i (v.lists free)) p (omega arith)) at a.member in
              inr (p, record { timed = a.timed; member = m });
        }

-- a record that was free or pending is placed
placed_onward : (i when : ℕ) (v u : View) → Mem i (v.lists free) ⊎ ((q : ℕ) × At v i q) → (r : ℕ) → Onward v u r
    → Onward v (placed i when u) r
unfolding placed
placed_onward i when v u was r O =
    let p = target u.elapsed (max when u.elapsed) in
    let h : p < free = target_timed u.elapsed (max when u.elapsed) in
    record {
      turn = O.turn;
      idle = λ e m. ⊎_elim (λ a. absurd (omega (arith, a.0, h))) (O.idle e) (mem_joined u.lists p i free r m);
      waits = λ e q a.
          ⊎_elim (λ b. rw b.1 was) (λ m. O.waits e q (record { timed = a.timed; member = m }))
          (mem_joined u.lists p i q r a.member);
    }

-- ---- poll

taken_onward : {v u : View} {o : Option ℕ} → TakenOut v o u → (r : ℕ) → Onward v u r
taken_onward {v} {u} T r =
    let t : u.turn r ≡ v.turn r = ap (λ f. f r) T.turn in
    record {
      turn = omega arith;
      idle = λ z m. rw T.free at m;
      waits = λ z p a. inr (T.was r p a);
    }

module _ {s : QueueWords} (S : Sound s) where
  poll_onward : {now limit : ℕ} {x : Told} {w : View} → PollTaken (view s) now → PollsSome (view s) now limit x w → (r : ℕ) → Onward (view s) w r
  poll_onward h (handed_some {r = i} {u = u} T G) r = let O = taken_out S h T in goes_onward (O.out i refl) (taken_onward O r) G
    where
      goes_onward : {i m n : ℕ} {u : View} {x : Told} {w : View} → (q : ℕ) × At (view s) i q → Onward (view s) u r → GoesOn (view s) i m n u x w
          → Onward (view s) w r
      goes_onward {i} {u = u} a O (once z) = onward_then O (freed_onward i u r)
      goes_onward {i} {u = u} a O (again p f) = placed_onward i ((view s).deadline i + (view s).period i) (view s) u (inr a) r O
      goes_onward {i} {u = u} a O (ended p f) = onward_then O (freed_onward i u r)
  poll_onward h (nothing_some T) r = taken_onward (taken_out S h T) r
  poll_onward h (not_yet T) r = taken_onward (taken_out S h T) r

clears_onward : {v : View} {k : ℕ} {w : View} → Clears v k w → (r : ℕ) → Onward v w r
clears_onward {v} begun r = onward_same v r
clears_onward (kept c n) r = clears_onward c r
clears_onward (gave {k} {p} {u} c a) r = onward_then (clears_onward c r) (onward_then (left_onward p k u r) (freed_onward k (left p k u) r))

-- ---- any call but an accepted format

pub does_onward : {s : QueueWords} → Sound s → {c : Call} {x : Told} {w : View} → ViewGoes (view s) c x w
    → (is_format c && not (is_no x)) ≡ false → (r : ℕ)
    → Onward (view s) w r
does_onward {s} S refuses f r = onward_same (view s) r
does_onward S formats f r = absurd (true≢false f)
does_onward {s} S (inserts {value} {when} {period} {r = i} {l = l} e) f r =
    let u = with_period (upd (view s).period i period) (with_value (upd (view s).value i value) (taken l (view s))) in
    placed_onward i when (view s) u (inl (rw e (inl refl))) r
    (less_onward (view s) u r refl (λ q m. mem_left (view s).lists free i l e q r m))
does_onward {s} S (resets {when = when} {r = i} {p = p} N) f r =
    placed_onward i when (view s) (left p i (view s)) (inr (p, N.pending)) r (left_onward p i (view s) r)
does_onward {s} S (removes {r = i} {p = p} N) f r = onward_then (left_onward p i (view s) r) (freed_onward i (left p i (view s)) r)
does_onward S (polls c h Q) f r = poll_onward S h Q r
does_onward {s} S (wakes W) f r = onward_same (view s) r
does_onward {s} S counts f r = onward_same (view s) r
does_onward S (clears {w} c) f r = onward_then (clears_onward c r) (less_onward w (with_hand nobody 0 (with_elapsed 0 w)) r refl (λ q m. m))
