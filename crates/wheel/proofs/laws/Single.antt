-- A poll with a limit does one thing only, and a limit that lets it end may be any greater one.
use mathlib.Core.Path.{◌≡◌, refl, sym, ap, ◌∙◌, subst}
use mathlib.Core.List.{List, ◌∷◌, nil≢cons}
use mathlib.Core.Option.{Option, some}
use Prim.Native.Nat.{ℕ, suc, ◌+◌, ◌-◌, ◌/◌, ◌≤◌, ◌<◌}
use native.Mathlib.Omega.{arith}
use Rattle.links.specs.Lists.{change}
use Rattle.places.specs.Places.{slot_place}
use Rattle.wheel.specs.Wheel.{Lists, NextList, in_slot, arrive}
use Rattle.wheel.proofs.laws.Next.{first_one, list_one, list_not_none}
use Rattle.wheel.specs.Limited.{Outcome, ended, Limited, rests, waits, hands, finds, stops, moves, empties}

-- ---- one thing only

pub record Alike (o : Outcome) (m n e : ℕ) (L : Lists) (o' : Outcome) (m' n' e' : ℕ) (L' : Lists) : Type 0 where
  pub answer : o ≡ o'
  pub moves : m ≡ m'
  pub drains : n ≡ n'
  pub elapsed : e ≡ e'
  pub lists : L ≡ L'

alike_refl : {o : Outcome} {m n e : ℕ} {L : Lists} → Alike o m n e L o m n e L
alike_refl = record { answer = refl; moves = refl; drains = refl; elapsed = refl; lists = refl }

-- one list does not start both before now and after it
clash : {now e k p c j q b : ℕ} {L : Lists} → NextList e L k p c → NextList e L j q b → now < c → b ≤ now → ⊥
clash X Y h g = omega (arith, h, g, (list_one X Y).start)

zero_suc : {k : ℕ} → 0 ≡ suc k → ⊥
zero_suc e = omega arith

module _ {d : ℕ → ℕ} {now : ℕ} where
  pub limited_once : {h : Option ℕ} {b e : ℕ} {L : Lists} {o o' : Outcome} {m n c m' n' c' : ℕ} {N N' : Lists}
      → Limited d now h b e L o m n c N → Limited d now h b e L o' m' n' c' N' → Alike o m n c N o' m' n' c' N'
  limited_once (rests E) (rests G) = alike_refl
  limited_once (rests E) (waits X h) = absurd (list_not_none X E)
  limited_once (rests E) (hands F h i) = absurd (list_not_none (in_slot F) E)
  limited_once (rests E) (finds X h r) = absurd (list_not_none X E)
  limited_once (waits X h) (rests E) = absurd (list_not_none X E)
  limited_once (waits X h) (waits Y g) = alike_refl
  limited_once (waits X h) (hands G g i) = absurd (clash X (in_slot G) h g)
  limited_once (waits X h) (finds Y g r) = absurd (clash X Y h g)
  limited_once (hands F h i) (rests E) = absurd (list_not_none (in_slot F) E)
  limited_once (hands F h i) (waits Y g) = absurd (clash Y (in_slot F) g h)
  limited_once (hands {s = s} {x = x} {L = L} {l = l} F h i) (hands {s = t} {x = y} {l = j} G g u) =
      let q : s ≡ t = (first_one F G).1 in
      let z : x ∷ l ≡ y ∷ j = sym i ∙ ap (λ (v : ℕ). L (slot_place 0 v)) q ∙ u in
      let a : x ≡ y = cc in
      let b : l ≡ j = cc in
      record { answer = ap (λ (v : ℕ). ended (some v)) a; moves = refl; drains = refl; elapsed = refl; lists = rw (q, b) }
  limited_once (hands F h i) (finds Y g r) = absurd (zero_suc (list_one (in_slot F) Y).height)
  limited_once (finds X h r) (rests E) = absurd (list_not_none X E)
  limited_once (finds X h r) (waits Y g) = absurd (clash Y X g h)
  limited_once (finds X h r) (hands G g i) = absurd (zero_suc (list_one (in_slot G) X).height)
  limited_once {o' = o'} {m' = m'} {n' = n'} {c' = c'} {N' = N'} (finds {b = b} {e = e} {L = L} X h r) (finds Y g w) =
      limited_once r (subst (λ (p : ℕ). Limited d now (some p) b e L o' m' n' c' N') (sym (list_one X Y).place) w)
  limited_once (stops i) (stops j) = alike_refl
  limited_once (stops i) (empties j r) = absurd (nil≢cons (sym j ∙ i))
  limited_once (moves {b = b} {e = e} {p = p} {x = x} {L = L} {l = l} i r) (moves {x = y} {N = N'} {l = j} {o = o'} {m = m'} {n = n'} {e' = c'} u w) =
      let z : x ∷ l ≡ y ∷ j = sym i ∙ u in
      let a : x ≡ y = cc in
      let v : l ≡ j = cc in
      let t : Limited d now (some p) b e (arrive (p / 64 - 1) (d x) x (change L p l)) o' m' n' c' N' = rw (a, v) w in
      let S = limited_once r t in
      record { answer = S.answer; moves = ap suc S.moves; drains = S.drains; elapsed = S.elapsed; lists = S.lists }
  limited_once (moves i r) (empties j w) = absurd (nil≢cons (sym j ∙ i))
  limited_once (empties i r) (stops j) = absurd (nil≢cons (sym i ∙ j))
  limited_once (empties i r) (moves j w) = absurd (nil≢cons (sym i ∙ j))
  limited_once (empties i r) (empties j w) =
      let S = limited_once r w in
      record { answer = S.answer; moves = S.moves; drains = ap suc S.drains; elapsed = S.elapsed; lists = S.lists }

  -- a store in hand has a move before it
  pub hand_moves : {p b e m n c x : ℕ} {L N : Lists} {l : List ℕ} {g : Option ℕ} → L p ≡ x ∷ l → Limited d now (some p) b e L (ended g) m n c N → 0 < m
  hand_moves is (moves i r) = omega arith
  hand_moves is (empties i r) = absurd (nil≢cons (sym i ∙ is))

  as_limit : {h : Option ℕ} {b a e m n e' : ℕ} {L N : Lists} {o : Outcome} → b ≡ a → Limited d now h b e L o m n e' N → Limited d now h a e L o m n e' N
  as_limit {h} {b} {a} {e} {m} {n} {e'} {L} {N} {o} q r = subst (λ (x : ℕ). Limited d now h x e L o m n e' N) q r

  -- more is allowed than is needed
  pub fit : {h : Option ℕ} {b e m n c : ℕ} {L N : Lists} {g : Option ℕ} → Limited d now h b e L (ended g) m n c N → (i : ℕ)
      → Limited d now h (m + i) e L (ended g) m n c N
  fit (rests E) i = rests E
  fit (waits F h) i = waits F h
  fit (hands F h is) i = hands F h is
  fit (finds F h r) i = finds F h (fit r i)
  fit (moves {m = m} is r) i = as_limit (by m i) (moves is (fit r i))
    where
      by : (m i : ℕ) → suc (m + i) ≡ suc m + i
      by m i = omega arith
  fit (empties is r) i = empties is (fit r i)
