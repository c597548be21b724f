-- A drain, and a poll of the wheel, do one thing only: two that begin alike end alike.
use mathlib.Core.Path.{◌≡◌, refl, sym, ap, ◌∙◌}
use mathlib.Core.List.{◌∷◌, nil≢cons}
use mathlib.Core.Option.{Option, some}
use Prim.Native.Nat.{ℕ, suc, ◌≤◌, ◌<◌}
use native.Mathlib.Omega.{arith}
use Rattle.links.specs.Lists.{change}
use Rattle.places.specs.Places.{slot_place}
use Rattle.wheel.specs.Wheel.{Lists, NextList, in_slot, arrive, Drains, drained, moved, Polls, idle, early, out, drain}
use Rattle.wheel.proofs.laws.Next.{first_one, list_one, list_not_none}

zero_suc : {k : ℕ} → 0 ≡ suc k → ⊥
zero_suc e = omega arith

module _ {d : ℕ → ℕ} {k p : ℕ} where
  pub drains_one : {L M N : Lists} {m n : ℕ} → Drains d k p L m M → Drains d k p L n N → (m ≡ n) × (M ≡ N)
  drains_one (drained e) (drained f) = (refl, refl)
  drains_one (drained e) (moved f s) = absurd (nil≢cons (sym e ∙ f))
  drains_one (moved e r) (drained f) = absurd (nil≢cons (sym f ∙ e))
  drains_one (moved {L} {M} {m} {x} {l} e r) (moved {M = N} {m = n} {x = y} {l = j} f s) =
      let z : x ∷ l ≡ y ∷ j = sym e ∙ f in
      let a : x ≡ y = cc in
      let b : l ≡ j = cc in
      let t : Drains d k p (arrive k (d x) x (change L p l)) n N = rw (a, b) s in
      let q = drains_one r t in
      (ap suc q.0, q.1)

-- what a poll of the wheel ends with
pub record Same (g : Option ℕ) (m n e : ℕ) (L : Lists) (g' : Option ℕ) (m' n' e' : ℕ) (L' : Lists) : Type 0 where
  pub got : g ≡ g'
  pub moves : m ≡ m'
  pub drains : n ≡ n'
  pub elapsed : e ≡ e'
  pub lists : L ≡ L'

same_refl : {got : Option ℕ} {m n e : ℕ} {L : Lists} → Same got m n e L got m n e L
same_refl = record { got = refl; moves = refl; drains = refl; elapsed = refl; lists = refl }

-- one list does not start both before now and after it
clash : {now e k p c j q b : ℕ} {L : Lists} → NextList e L k p c → NextList e L j q b → now < c → b ≤ now → ⊥
clash X Y h g = omega (arith, h, g, (list_one X Y).start)

module _ {d : ℕ → ℕ} {now : ℕ} where
  pub polls_one : {e : ℕ} {L : Lists} {got got' : Option ℕ} {m n c m' n' c' : ℕ} {N N' : Lists}
      → Polls d now e L got m n c N → Polls d now e L got' m' n' c' N' → Same got m n c N got' m' n' c' N'
  polls_one (idle E) (idle G) = same_refl
  polls_one (idle E) (early X h) = absurd (list_not_none X E)
  polls_one (idle E) (out F h i) = absurd (list_not_none (in_slot F) E)
  polls_one (idle E) (drain X h D r) = absurd (list_not_none X E)
  polls_one (early X h) (idle E) = absurd (list_not_none X E)
  polls_one (early X h) (early Y g) = same_refl
  polls_one (early X h) (out G g i) = absurd (clash X (in_slot G) h g)
  polls_one (early X h) (drain Y g D r) = absurd (clash X Y h g)
  polls_one (out F h i) (idle E) = absurd (list_not_none (in_slot F) E)
  polls_one (out F h i) (early Y g) = absurd (clash Y (in_slot F) g h)
  polls_one (out {s = s} {x = x} {L = L} {l = l} F h i) (out {s = t} {x = y} {l = j} G g o) =
      let q : s ≡ t = (first_one F G).1 in
      let z : x ∷ l ≡ y ∷ j = sym i ∙ ap (λ (u : ℕ). L (slot_place 0 u)) q ∙ o in
      let a : x ≡ y = cc in
      let b : l ≡ j = cc in
      record { got = ap some a; moves = refl; drains = refl; elapsed = refl; lists = rw (q, b) }
  polls_one (out F h i) (drain Y g D r) = absurd (zero_suc (list_one (in_slot F) Y).height)
  polls_one (drain X h D r) (idle E) = absurd (list_not_none X E)
  polls_one (drain X h D r) (early Y g) = absurd (clash Y X g h)
  polls_one (drain X h D r) (out G g i) = absurd (zero_suc (list_one (in_slot G) X).height)
  polls_one (drain {e} {k} {p} {c} {m} {L} {M} X h D r)
      (drain {k = j} {p = t} {c = b} {m = n} {M = M'} {got = got'} {moves = o} {drains = v} {e' = c'} {N = N'} Y g E w) =
      let q = list_one X Y in
      let a : k ≡ j = omega (arith, q.height) in
      let E' : Drains d k p L n M' = rw (a, q.place) E in
      let u = drains_one D E' in
      let w' : Polls d now c M got' o v c' N' = rw (q.start, u.1) w in
      let S = polls_one r w' in
      record { got = S.got; moves = omega (arith, u.0, S.moves); drains = ap suc S.drains; elapsed = S.elapsed; lists = S.lists }
