-- When a timer is set again, and when no more: the laws that the proof of `next_time` cites, and the two cases of its answer.
use mathlib.Core.Path.{◌≡◌, subst}
use mathlib.Core.Logic.{◌≢◌, inl, inr, ⊎_elim, by_cases}
use Prim.Native.Nat.{ℕ, ◌+◌, ◌^◌, ◌<◌}
use native.Mathlib.Decide.{dec_lt}
use native.Mathlib.Omega.{arith}
use Rattle.std.specs.Prelude.{Option, Some, None}
use Rattle.records.specs.Records.{Near, NoMore}
use Rattle.records.specs.Found.{AheadNo, AgainIs}
use Rattle.records.proofs.laws.Cases.{by_ahead}

module _ {e w : ℕ} where
  -- by the number of the refusal
  module _ {n : ℕ} (D : AheadNo e w n) where
    pub set_no_more : n ≢ 0 → NoMore e w
    set_no_more d = by_ahead e w inr (λ t. absurd (d (D.near t)))

    pub set_again : w < 2 ^ 64 → n ≡ 0 → NoMore e w → ⊥
    set_again h z = ⊎_elim (λ f. omega arith) (λ f. omega (arith, D.far f))

  -- it is one or the other
  pub by_next : {P : Type 0} → (NoMore e w → P) → ((NoMore e w → ⊥) → P) → P
  by_next f g =
      by_cases (dec_lt w (2 ^ 64))
      (λ h.
      by_ahead e w
      (λ x. f (inr x))
      (λ t. g (⊎_elim (λ x. omega arith) (λ x. omega (arith, x.1, t x.0)))))
      (λ h. f (inl (omega (arith, h))))

  -- such a deadline may be placed
  pub again_near : (NoMore e w → ⊥) → Near e w
  again_near f = by_ahead e w (λ x. absurd (f (inr x))) (λ n. n)

-- by the answer's case, a period q, which is p, after d
module _ {e : ℕ} (d : ℕ) {p q : ℕ} (is : q ≡ p) {r : Option ℕ} (A : AgainIs e (d + q) r) where
  pub again_never : r ≡ None → NoMore e (d + p)
  again_never z = subst (λ y. NoMore e (d + y)) is (subst (AgainIs e (d + q)) z A)

  pub again_at : (t : ℕ) → r ≡ Some t → (t ≡ d + p) × (NoMore e (d + p) → ⊥)
  again_at t z = subst (λ y. (t ≡ d + y) × (NoMore e (d + y) → ⊥)) is (subst (AgainIs e (d + q)) z A)
