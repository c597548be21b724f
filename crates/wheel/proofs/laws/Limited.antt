-- Two calls with limits say what one with both limits says (`chained`), and a whole poll is one that has moves enough (`polls_limited`, `limited_polls`).
use mathlib.Core.Path.{◌≡◌, refl, sym, ap, ◌∙◌, subst}
use mathlib.Core.Logic.{◌≢◌}
use mathlib.Core.Option.{Option, none, some}
use Prim.Native.Nat.{ℕ, suc, ◌+◌, ◌-◌, ◌/◌, ◌%◌, ◌≤◌, ◌<◌}
use native.Mathlib.Omega.{arith}
use native.Mathlib.Nat.{zero-add, add_assoc}
use borrow.Author.Tests.{ne_eqb}
use Rattle.times.specs.Times.{start_at, block_end}
use Rattle.places.specs.Places.{slot_place, parking}
use Rattle.wheel.specs.Wheel.{Lists, NextList, in_slot, in_parking, Drains, drained, moved, Polls, idle, early, out, drain}
use Rattle.wheel.proofs.laws.Between.{place_level, place_slot}
use Rattle.wheel.proofs.laws.Next.{list_height}
use Rattle.wheel.specs.Limited.{Outcome, ended, yet, start, Limited, rests, waits, hands, finds, stops, moves, empties}

-- ---- the start of a list

pub start_slot_at : (e p : ℕ) → p ≢ parking → start e p ≡ start_at e (p / 64) (p % 64)
unfolding start
start_slot_at e p n = rw (ne_eqb p parking n)

pub start_parking : (e : ℕ) → start e parking ≡ block_end e
unfolding start
start_parking e = refl

pub parking_fits : (e p n : ℕ) → p ≡ parking → start e p < n → block_end e < n
parking_fits e p n z h = subst (λ (c : ℕ). c < n) (ap (start e) z ∙ start_parking e) h

pub list_begins : {e : ℕ} {L : Lists} {k p c : ℕ} → NextList e L k p c → c ≡ start e p
list_begins {e} (in_slot {k} {s} F) =
    let h : s < 64 = omega (arith, F.is) in
    let a : start_at e (slot_place k s / 64) (slot_place k s % 64) ≡ start_at e k s = rw (place_level k s h, place_slot k s h) in
    sym a ∙ sym (start_slot_at e (slot_place k s) (omega (arith, h, F.within)))
list_begins {e} (in_parking E is) = sym (start_parking e)

-- the rest of a drain in hand, and a whole poll after it
pub record Finishes (d : ℕ → ℕ) (now p e : ℕ) (L : Lists) (g : Option ℕ) (m n e' : ℕ) (N : Lists) : Type 0 where
  pub left : ℕ
  pub after : Lists
  pub moves : ℕ
  pub drains : ℕ
  pub rest : Drains d (p / 64 - 1) p L left after
  pub polls : Polls d now (start e p) after g moves drains e' N
  pub all : m ≡ left + moves
  pub one : n ≡ suc drains

-- what is left of a poll, from a look or inside a drain
abbrev pub Rest : (ℕ → ℕ) → ℕ → Option ℕ → ℕ → Lists → Option ℕ → ℕ → ℕ → ℕ → Lists → Type 0
Rest d now none e L g m n e' N = Polls d now e L g m n e' N
Rest d now (some p) e L g m n e' N = Finishes d now p e L g m n e' N

more : (b c : ℕ) → suc b + c ≡ suc (b + c)
more b c = omega arith

module _ {d : ℕ → ℕ} {now : ℕ} where
  limit_as : {h : Option ℕ} {b c e m n e' : ℕ} {L N : Lists} {o : Outcome} → b ≡ c → Limited d now h b e L o m n e' N → Limited d now h c e L o m n e' N
  limit_as {h} {b} {c} {e} {m} {n} {e'} {L} {N} {o} q r = subst (λ (x : ℕ). Limited d now h x e L o m n e' N) q r

  counts_as : {g : Option ℕ} {e m n m' n' e' : ℕ} {L N : Lists} → m ≡ m' → n ≡ n' → Polls d now e L g m n e' N → Polls d now e L g m' n' e' N
  counts_as {g} {e} {m} {n} {m'} {n'} {e'} {L} {N} p q r = subst (λ (x : ℕ). Polls d now e L g m' x e' N) q (subst (λ (x : ℕ). Polls d now e L g x n e' N) p r)

  -- ---- two calls, and one with both limits

  pub chained : {h : Option ℕ} {b c e p m n e' i j e'' : ℕ} {L M N : Lists} {o : Outcome}
      → Limited d now h b e L (yet p) m n e' M → Limited d now (some p) c e' M o i j e'' N → Limited d now h (b + c) e L o (m + i) (n + j) e'' N
  chained (finds F h r) q = finds F h (chained r q)
  chained {c = c} {i = i} {j = j} (stops is) q = rw (zero-add c, zero-add i, zero-add j) q
  chained {c = c} {i = i} (moves {b = b} {m = m} is r) q = rw (more b c, more m i) (moves is (chained r q))
  chained {j = j} (empties {n = n} is r) q = rw (more n j) (empties is (chained r q))

  -- ---- "not yet" is said after exactly as many moves as are allowed, and an answer after no more

  pub yet_all : {h : Option ℕ} {b e p m n e' : ℕ} {L M : Lists} → Limited d now h b e L (yet p) m n e' M → m ≡ b
  yet_all (finds F h r) = yet_all r
  yet_all (stops is) = refl
  yet_all (moves is r) = ap suc (yet_all r)
  yet_all (empties is r) = yet_all r

  pub ended_few : {h g : Option ℕ} {b e m n e' : ℕ} {L M : Lists} → Limited d now h b e L (ended g) m n e' M → m ≤ b
  ended_few (rests E) = omega arith
  ended_few (waits F h) = omega arith
  ended_few (hands F h is) = omega arith
  ended_few (finds F h r) = ended_few r
  ended_few (moves is r) = omega (arith, ended_few r)
  ended_few (empties is r) = ended_few r

  -- ---- a whole poll is one that has moves enough

  drains_limited : {k p b e : ℕ} {L M N : Lists} {c m n e' : ℕ} {o : Outcome} → p / 64 ≡ suc k → Drains d k p L c M
      → Limited d now none b (start e p) M o m n e' N → Limited d now (some p) (c + b) e L o (c + m) (suc n) e' N
  drains_limited {b = b} {m = m} hk (drained is) r = rw (zero-add b, zero-add m) (empties is r)
  drains_limited {k} {p} {b} {m = i} hk (moved {m = c} {x = x} is D) r =
      let z : k ≡ p / 64 - 1 = omega (arith, hk) in
      rw (more c b, more c i) (moves is (rw z at (drains_limited hk D r)))

  pub polls_limited : {g : Option ℕ} {e m n e' : ℕ} {L N : Lists} → Polls d now e L g m n e' N → (b : ℕ) → Limited d now none (m + b) e L (ended g) m n e' N
  polls_limited (idle E) b = rests E
  polls_limited (early F h) b = waits F h
  polls_limited (out F h is) b = hands F h is
  polls_limited (drain {e} {k} {p} {m = c} {moves = i} {e' = e'} {N = N} X h D r) b =
      let q = drains_limited (list_height X).0 D (rw (list_begins X) at (polls_limited r b)) in
      finds X h (limit_as (sym (add_assoc c i b)) q)

  -- ---- and the other way: an answer under a limit is the whole poll's

  pub limited_polls : {h g : Option ℕ} {b e m n e' : ℕ} {L N : Lists} → Limited d now h b e L (ended g) m n e' N
      → Rest d now h e L g m n e' N
  limited_polls (rests E) = idle E
  limited_polls (waits F h) = early F h
  limited_polls (hands F h is) = out F h is
  limited_polls (finds {e = e} {k = k} {p = p} X h r) =
      let Q = limited_polls r in
      let z : p / 64 - 1 ≡ k = omega (arith, (list_height X).0) in
      counts_as (sym Q.all) (sym Q.one) (drain X h (rw z at Q.rest) (rw (← list_begins X) at Q.polls))
  limited_polls (moves is r) =
      let Q = limited_polls r in
      record {
        left = suc Q.left;
        after = Q.after;
        moves = Q.moves;
        drains = Q.drains;
        rest = moved is Q.rest;
        polls = Q.polls;
        all = omega (arith, Q.all);
        one = Q.one;
      }
  limited_polls (empties {L = L} {m = m} {n = n} is r) =
      record { left = 0; after = L; moves = m; drains = n; rest = drained is; polls = limited_polls r; all = sym (zero-add m); one = refl }
