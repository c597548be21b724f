-- Where a loop over a chunk ended and all went well, the chunk is used up.
use mathlib.Core.Path.{◌≡◌}
use mathlib.Core.Logic.{by_cases}
use mathlib.Core.Bool.{Bool, true}
use Prim.Native.Nat.{ℕ, ◌≤◌, ◌<◌}
use native.Mathlib.Decide.{dec_le}
use native.Mathlib.Omega.{arith}

pub used : {i n : ℕ} {fine : Bool} → ((i < n) × (fine ≡ true) → ⊥) → fine ≡ true → n ≤ i
used {i} {n} h e = by_cases (dec_le n i) (λ k. k) (λ k. absurd (h (omega arith, e)))
