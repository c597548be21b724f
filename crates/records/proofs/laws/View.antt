-- Two views are equal by their parts.
use mathlib.Core.Path.{◌≡◌}
use Prim.Native.Nat.{ℕ}
use Rattle.wheel.specs.Wheel.{Lists}
use Rattle.records.specs.View.{view_of}

-- two are equal by their parts
pub view_eq : {n n' e e' : ℕ} {L L' : Lists} {v v' p p' d d' t t' : ℕ → ℕ} {h u : ℕ} → n ≡ n' → e ≡ e' → L ≡ L' → v ≡ v' → p ≡ p' → d ≡ d'
    → t ≡ t' → view_of n e L v p d t h u ≡ view_of n' e' L' v' p' d' t' h u
view_eq {h = h} {u = u} a b c f k g t = λ i. view_of (a i) (b i) (c i) (f i) (k i) (g i) (t i) h u
