-- The next expiration, found in the occupied rows and the head of the parking list, is what comes next of the lists whose they are.
use mathlib.Core.Path.{◌≡◌, refl, sym, ap, ◌∙◌}
use mathlib.Core.Logic.{inl}
use mathlib.Core.Bool.{false, true≢false}
use mathlib.Core.List.{List, [], ◌∷◌}
use mathlib.Core.Logic.{◌≢◌}
use Prim.Native.Nat.{ℕ, ◌+◌, ◌-◌, ◌/◌, ◌%◌, ◌≤◌, ◌<◌}
use native.Mathlib.Omega.{arith}
use Rattle.times.specs.Times.{slot_of, start_at, floor}
use Rattle.times.proofs.laws.Quotients.{slot_lt}
use Rattle.times.proofs.laws.Blocks.{next_floor}
use Rattle.row.specs.Row.{flag_at, Lowest}
use Rattle.row.proofs.laws.Rows.{flag_none}
use Rattle.links.specs.Lists.{nobody}
use Rattle.links.specs.Links.{at}
use Rattle.places.specs.Places.{slot_place, slots, level_at, slot_at}
use Rattle.wheel.specs.declared.Expiration.{Expiration}
use Rattle.std.specs.Prelude.{Option, Some, None}
use Rattle.wheel.specs.Wheel.{Lists, FirstSlot, EmptyWheel, in_slot, in_parking}
use Rattle.wheel.specs.Occupied.{filled, Occupied}
use Rattle.wheel.proofs.laws.Occupied.{flag_is, unfilled, filled_some}
use Rattle.wheel.specs.Between.{Between}
use Rattle.wheel.proofs.laws.Between.{place_level, place_slot}
use Rattle.wheel.proofs.laws.Next.{not_passed}
use Rattle.wheel.specs.Expiration.{NotPassed, Sees, NextIs, WakeIs}

pub wake_at : {e : ℕ} {L : Lists} (x : Expiration) → NextIs e L (Some x) → WakeIs e L (Some x.deadline)
wake_at x N = (x.level, slot_place x.level x.slot, N.1)

-- the rule inside a poll has it that no slot was passed
pub between_passed : {d : ℕ → ℕ} {e : ℕ} {L : Lists} {occ : List ℕ} → Between d e L → Occupied occ L → NotPassed e occ
between_passed {d} {e} {L} {occ} B R = record {
  passed = λ k s hk h. flag_is R k s hk (omega (arith, slot_lt e k))
      ∙ by k s hk h (L (slot_place k s)) refl;
}
  where
    by : (k s : ℕ) → k < 6 → s < slot_of e k → (l : List ℕ) → L (slot_place k s) ≡ l → filled l ≡ false
    by k s hk h [] q = refl
    by k s hk h (x ∷ l) q =
        let hs : s < 64 = omega (arith, slot_lt e k) in
        let p = B.spot (slot_place k s) x (omega (arith, hs)) (rw q (inl refl)) in
        let a : slot_place k s / 64 ≡ k = place_level k s hs in
        let b : slot_place k s % 64 ≡ s = place_slot k s hs in
        let n : slot_of e k ≤ slot_of (d x) k = rw a at (not_passed (slot_place k s / 64) e (d x) p.lies) in
        absurd (omega (arith, n, h, sym b ∙ p.slot ∙ ap (slot_of (d x)) a))

module _ {occ : List ℕ} {L : Lists} (R : Occupied occ L) where
  -- a row of 0 is an empty level
  none_at : (q : ℕ) → q < slots → at occ (level_at q) ≡ 0 → L q ≡ []
  none_at q h z =
      let p : slot_place (level_at q) (slot_at q) ≡ q = omega arith in
      unfilled (L q)
      (ap (λ (r : ℕ). filled (L r)) (sym p) ∙ sym (flag_is R (level_at q) (slot_at q) (omega arith) (omega arith)) ∙ ap
      (λ (x : ℕ). flag_at x (slot_at q)) z ∙ flag_none (slot_at q))

  no_slot : ((j : ℕ) → j < 6 → at occ j ≡ 0) → EmptyWheel L
  no_slot z q h = none_at q h (z (level_at q) (omega arith))

  -- no slot that elapsed has passed is occupied, so that the lowest of a row is none of them
  lowest_late : (e k s : ℕ) → k < 6 → NotPassed e occ → Lowest (flag_at (at occ k)) 64 s → slot_of e k ≤ s
  lowest_late e k s hk P F =
      let passed : s < slot_of e k → ⊥ = λ h. true≢false (sym F.marked ∙ P.passed k s hk h) in
      omega arith

  slot_found : (e k s : ℕ) → k < 6 → ((j : ℕ) → j < k → at occ j ≡ 0) → NotPassed e occ → Lowest (flag_at (at occ k)) 64 s → FirstSlot e L k s
  slot_found e k s hk z P F =
      let late = lowest_late e k s hk P F in
      let c = filled_some (L (slot_place k s)) (sym (flag_is R k s hk F.within) ∙ F.marked) in
      record {
        within = hk;
        lowest = λ q h. none_at q (omega (arith, h)) (z (level_at q) (omega (arith, h)));
        steps = s - slot_of e k;
        near = omega (arith, F.within);
        is = omega (arith, late, F.within);
        passed = λ j h.
            let t : ℕ = (slot_of e k + j) % 64 in
            unfilled (L (slot_place k t)) (sym (flag_is R k t hk (omega arith)) ∙ F.lower t (omega (arith, late, F.within, h)));
        head = c.0;
        rest = c.1;
        filled = c.2;
      }

  -- with its start, as the code tells it
  pub next_found : (e k s t : ℕ) → k < 6 → ((j : ℕ) → j < k → at occ j ≡ 0) → NotPassed e occ → Lowest (flag_at (at occ k)) 64 s
      → t ≡ start_at e k s → NextIs e L (Some (record { level = k; slot = s; deadline = t }))
  next_found e k s t hk z P F et = (F.within, rw et (in_slot (slot_found e k s hk z P F)))

-- no row has a flag: nothing, or the parking list
module _ {d : ℕ → ℕ} {e : ℕ} {occ : List ℕ} {head : ℕ} {L : Lists} (S : Sees d e occ head L) (z : (j : ℕ) → j < 6 → at occ j ≡ 0) where
  pub none_found : head ≡ nobody → NextIs e L None
  none_found h = (no_slot S.occupied z, S.none h)

  pub parking_found : head ≢ nobody → (t : ℕ) → t ≡ floor 6 (d head) → NextIs e L (Some (record { level = 6; slot = 0; deadline = t }))
  parking_found h t et = (omega arith, rw (et, next_floor e (d head) (S.block h)) (in_parking (no_slot S.occupied z) (S.some h).1))
