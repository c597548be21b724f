-- What the code asks of a place, as facts: `is_slot(place)` and `is_pending(place)`, and their negations, go one way or the other.
use mathlib.Core.Path.{◌≡◌, sym, ◌∙◌}
use mathlib.Core.Bool.{Bool, true, false, not}
use Prim.Native.Nat.{ℕ, ◌≤◌, ◌<◌}
use native.Mathlib.Omega.{arith}
use lib.Dec.{ltb}
use borrow.Author.Tests.{ltb-true, ltb-false, not-true, not-false}
use Rattle.places.specs.Places.{slot_place, slots, level_at, slot_at}

module _ {p m : ℕ} {b : Bool} (e : b ≡ ltb p m) where
  pub below : b ≡ true → p < m
  below t = ltb-true p m (sym e ∙ t)

  pub past : b ≡ false → m ≤ p
  past t = ltb-false p m (sym e ∙ t)

  pub is_below : not b ≡ false → p < m
  is_below n = below (not-false b n)

  pub not_below : not b ≡ true → m ≤ p
  not_below n = past (not-true b n)

-- a slot's level and slot
pub slot_parts : {p k s : ℕ} {b : Bool} → b ≡ ltb p slots → not b ≡ false → k ≡ level_at p → s ≡ slot_at p
    → (k < 6) × (s < 64) × (p ≡ slot_place k s)
slot_parts {p} {k} {s} {b} e n ek es =
    let h : p < slots = is_below e n in
    (omega arith, omega arith, omega arith)
