-- A poll in hand that answers has done what a whole poll promises, over the store in hand.
use mathlib.Core.Path.{◌≡◌, refl, sym, ap, ◌∙◌, subst}
use mathlib.Core.Logic.{inl, by_cases}
use mathlib.Core.List.{List, ◌∷◌, nil≢cons}
use mathlib.Core.Option.{Option, some}
use Prim.Native.Nat.{ℕ, suc, ◌-◌, ◌*◌, ◌/◌, ◌≤◌, ◌<◌}
use native.Mathlib.Nat.{le_trans}
use native.Mathlib.Decide.{dec_lt, ℕ_discrete}
use native.Mathlib.Omega.{arith}
use Rattle.times.specs.Times.{floor}
use Rattle.times.proofs.laws.Quotients.{floor_le, floor_64}
use Rattle.links.specs.Lists.{Mem}
use Rattle.places.specs.Places.{slots, parking, expired}
use Rattle.wheel.specs.Wheel.{Lists, Drains, drained, moved}
use Rattle.wheel.proofs.laws.Drain.{Drained, drain_ends, drains_law}
use Rattle.wheel.proofs.laws.Poll.{Promise, end_drain, poll_law}
use Rattle.wheel.specs.Limited.{ended, start, Limited}
use Rattle.wheel.proofs.laws.Limited.{Finishes, limited_polls}
use Rattle.wheel.specs.Midway.{InHand}

some_moves : {d : ℕ → ℕ} {k h m x : ℕ} {L M : Lists} {l : List ℕ} → L h ≡ x ∷ l → Drains d k h L m M → 0 < m
some_moves is (drained e) = absurd (nil≢cons (sym e ∙ is))
some_moves is (moved e r) = omega arith

module _ {d : ℕ → ℕ} {now p e : ℕ} {L : Lists} (H : InHand d now p e L) where
  on_wheel : (q y : ℕ) → q < slots → Mem y (L q) → start e p ≤ d y
  on_wheel q y hq my = le_trans (H.rule.spot q y hq my).lies.start (floor_le (q / 64) (d y))

  parked : (y : ℕ) → Mem y (L parking) → start e p ≤ d y
  parked y my =
      by_cases (ℕ_discrete p parking)
      (λ (z : p ≡ parking). omega (arith, H.rule.hand y (rw z my), floor_le (suc (p / 64 - 1)) (d y)))
      (λ n. omega (arith, H.rule.parked y n my))

  -- nothing waits before the start of the list in hand
  pub hand_reached : (q y : ℕ) → q < expired → Mem y (L q) → start e p ≤ d y
  hand_reached q y hq my =
      by_cases (dec_lt q slots) (λ h. on_wheel q y h my) (λ n. let z : q ≡ parking = omega (arith, hq, n) in parked y (rw z at my))

  rest_drained : {m : ℕ} {M : Lists} → Drains d (p / 64 - 1) p L m M → Drained d e L m (start e p) M
  rest_drained {m} {M} D =
      let R = drains_law d (p / 64 - 1) p (omega (arith, H.high)) H.below D in
      let f = H.filled in
      let a : floor (suc (p / 64 - 1)) (d f.0) ≡ start e p = H.rule.hand f.0 (rw f.2 (inl refl)) in
      record {
        rule = drain_ends (R.0.rule (start e p) H.rule) R.1;
        some = some_moves f.2 D;
        fallen = R.0.fallen;
        kept = R.0.kept;
        aside = R.0.aside;
        rises = H.late;
        whole = ap (λ (z : ℕ). z / 64 * 64) (sym a) ∙ floor_64 (p / 64 - 1) (d f.0) ∙ a;
        reached = hand_reached;
      }

  -- a least due timer or none of those in hand, the rest kept, the clock of a whole poll, 01's rule again
  pub hand_ends : {b m n e' : ℕ} {g : Option ℕ} {N : Lists} → Limited d now (some p) b e L (ended g) m n e' N → Promise d now e L g m n e' N
  hand_ends {b} {m} {n} {e'} {g} {N} r =
      let Q : Finishes d now p e L g m n e' N = limited_polls r in
      let D = rest_drained Q.rest in
      let P = end_drain D (poll_law D.rule (D.aside expired (omega arith) ∙ H.expired) H.due Q.polls) in
      subst (λ (i : ℕ). Promise d now e L g m i e' N) (sym Q.one) (subst (λ (i : ℕ). Promise d now e L g i (suc Q.drains) e' N) (sym Q.all) P)
