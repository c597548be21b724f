-- What is kept where it failed, and where it went well.
use mathlib.Core.Path.{◌≡◌, refl, sym}
use mathlib.Core.Bool.{Bool, true, false, true≢false}
use mathlib.Core.List.{List}
use Prim.Native.Nat.{ℕ, ◌+◌, ◌-◌, ◌≤◌}
use native.Mathlib.Omega.{arith}
use lib.ListN.{length, take, drop, length-take, length-drop}
use Rattle.keeping.specs.Keeping.{KeepsFile}

pub keeps_none : {before n : ℕ} → KeepsFile before n false before
keeps_none = record { all = λ e. absurd (true≢false (sym e)); none = λ e. refl }

pub keeps_all : {before n after : ℕ} → after ≡ before + n → KeepsFile before n true after
keeps_all h = record { all = λ e. h; none = λ e. absurd (true≢false e) }

-- a part of what is left from i on ends within the whole
pub part_within : {i n : ℕ} (l : List ℕ) → i ≤ length l → n ≤ length (take (length l - i) (drop i l)) → i + n ≤ length l
part_within {i} l h p = omega (arith, p, length-take (length l - i) (drop i l), length-drop i l)

-- where the first n of the bytes l were to be kept
pub front_kept : {before n after : ℕ} {fine : Bool} (l : List ℕ) → KeepsFile before (length (take n l)) fine after → fine ≡ true → n ≤ length l
    → after ≡ before + n
front_kept {n = n} l K e h = omega (arith, K.all e, length-take n l)
