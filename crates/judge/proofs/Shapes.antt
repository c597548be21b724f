-- What the type of the heads says of their list: six of 64 each.
use Prim.Native.Nat.{ℕ, zero, suc, ◌<◌}
use native.Mathlib.Nat.{le_of_suc-le-suc, not-suc-le-zero}
use native.Mathlib.Omega.{arith}
use mathlib.Core.Path.{◌≡◌}
use mathlib.Core.List.{List, [], ◌∷◌}
use lib.ListN.{length, get_or}
use mir.Syntax.{w16}
use mir.Val.{Val}
use denote.Plain.{UInt}
use denote.Array.{Array, each}
use denote.Shadow.{shadow}
use Rattle.places.specs.Heads.{Shape}

wide : (xs : List (List ℕ)) (us : List Val) → shadow (each (List ℕ) (Array (UInt w16) 64).own_val xs us) → (k : ℕ) → k < length xs → length (get_or xs k []) ≡ 64
wide [] us p k h = absurd (not-suc-le-zero h)
wide (x ∷ xs) [] p k h = absurd p
wide (x ∷ xs) (u ∷ us) p zero h = p.0.1.0.1
wide (x ∷ xs) (u ∷ us) p (suc k) h = wide xs us p.1 k (le_of_suc-le-suc h)

pub shaped : (xs : List (List ℕ)) (us : List Val) → length xs ≡ 6 → shadow (each (List ℕ) (Array (UInt w16) 64).own_val xs us) → Shape xs
shaped xs us n p = record { six = n; wide = λ k h. wide xs us p k (omega (arith, n)) }
