-- What is parked against what lies on the wheel, as the promises cite it: by the list that comes next, by the rule of deadlines, by the place that a
-- deadline goes to.
use mathlib.Core.Path.{◌≡◌, sym, ap, ◌∙◌, subst}
use mathlib.Core.Logic.{◌≢◌, by_cases}
use mathlib.Core.List.{[]}
use Prim.Native.Nat.{ℕ, ◌*◌, ◌<◌}
use native.Mathlib.Decide.{ℕ_discrete, dec_lt}
use native.Mathlib.Omega.{arith}
use borrow.Author.Tests.{eq-eqb, ne_eqb}
use Rattle.times.specs.Times.{floor, block, level_of}
use Rattle.times.proofs.laws.Quotients.{slot_lt}
use Rattle.times.proofs.laws.Levels.{level_is}
use Rattle.times.proofs.laws.Blocks.{next_floor, lies_ends}
use Rattle.links.specs.Lists.{Mem}
use Rattle.places.specs.Places.{slot_place, slots, parking, expired, free, level_at}
use Rattle.wheel.specs.Wheel.{Lists, place_for, Rule, NextList, in_slot, in_parking}
use Rattle.wheel.specs.Between.{Between}
use Rattle.wheel.proofs.laws.Next.{here_below, next_before}
use Rattle.records.specs.Records.{target}

-- ---- the list that comes next

-- nothing lies lower
pub list_low : {e : ℕ} {L : Lists} {k p c : ℕ} → NextList e L k p c → (q : ℕ) → q < 64 * k → L q ≡ []
list_low (in_slot F) q h = F.lowest q h
list_low (in_parking E is) q h = E q (omega arith)

-- all that lies elsewhere is later than all that lies in it, and so is where it starts
pub list_before : {d : ℕ → ℕ} {e : ℕ} {L : Lists} → Between d e L → {k p c : ℕ} → NextList e L k p c → (x : ℕ) → Mem x (L p) → (q y : ℕ)
    → q < expired → q ≢ p → Mem y (L q) → d x < floor (level_at q) (d y)
list_before {d} {e} {L} B (in_slot {k} {s} F) x mx q y hq n my =
    by_cases (dec_lt q slots)
    (λ h. next_before B F q y h my x mx n)
    (λ h.
    let z : q ≡ parking = omega (arith, hq, h) in
    let f = ap (λ (j : ℕ). floor (level_at j) (d y)) z ∙ next_floor e (d y) (B.parked y (rw z at my)) in
    let below = here_below B F in
    let l = lies_ends (level_at (slot_place k s)) e (d x) (omega (arith, below)) (B.spot (slot_place k s) x below mx).lies in
    omega (arith, f, l))
list_before B (in_parking E is) x mx q y hq n my =
    by_cases (dec_lt q slots)
    (λ h. absurd (subst (Mem y) (E q h) my))
    (λ h. absurd (n (omega (arith, hq, h))))

-- ---- the place of a deadline past elapsed

place_slot : (e w : ℕ) → place_for e w < slots
unfolding place_for
place_slot e w = omega (arith, slot_lt w (level_of e w), (level_is e w).within)

module _ (e w : ℕ) (h : e < w) where
  pub target_slot : block w ≡ block e → (target e w ≡ place_for e w) × (place_for e w < slots)
  unfolding target
  target_slot b = let n : w ≢ e = omega (arith, h) in (rw (ne_eqb w e n, eq-eqb (block w) (block e) b), place_slot e w)

  pub target_parking : block w ≢ block e → target e w ≡ parking
  unfolding target
  target_parking b = let n : w ≢ e = omega (arith, h) in rw (ne_eqb w e n, ne_eqb (block w) (block e) b)

  -- it is a slot or the parking list
  pub target_waits : target e w < expired
  target_waits =
      by_cases (ℕ_discrete (block w) (block e))
      (λ b. let t = target_slot b in omega (arith, t.0, t.1))
      (λ b. omega (arith, target_parking b))

  -- and where it is a slot, that of its level
  pub target_level : target e w < slots → target e w ≡ place_for e w
  target_level g =
      by_cases (ℕ_discrete (block w) (block e))
      (λ b. (target_slot b).0)
      (λ b. absurd (omega (arith, g, target_parking b)))

-- what is pending and not yet due lies where its deadline would go
pub rule_target : {d : ℕ → ℕ} {e : ℕ} {L : Lists} → Rule d e L → (p x : ℕ) → p < free → Mem x (L p) → e < d x → p ≡ target e (d x)
rule_target {d} {e} {L} R p x hp m later =
    by_cases (dec_lt p slots)
    (λ h. let o = R.wheel p x h m in o.place ∙ sym (target_slot e (d x) later o.near).0)
    (λ h.
    by_cases (ℕ_discrete p parking)
    (λ (z : p ≡ parking). z ∙ sym (target_parking e (d x) later (λ b. omega (arith, b, R.parked x (rw z at m)))))
    (λ n. let z : p ≡ expired = omega (arith, hp, h, n) in absurd (omega (arith, later, R.expired x (rw z at m)))))
