-- The reader's steps: what each test and each pass of its code shows.
use mathlib.Core.Path.{◌≡◌, sym, ap}
use mathlib.Core.List.{List, [], ◌∷◌, nil≢cons}
use Prim.Native.Nat.{ℕ, ◌+◌, ◌-◌, ◌≤◌, ◌<◌}
use native.Mathlib.Omega.{arith}
use lib.ListN.{length, take, drop, get_or, drop_of_length-le}
use Rattle.asking.specs.declared.Fields.{Fields}
use Rattle.asking.specs.declared.Fields.TheVariants as F
use Rattle.std.specs.Prelude.{Option, Some, None}
use Rattle.splitting.specs.Fields.{Starts, Begins}
use Rattle.splitting.proofs.laws.Fields.{from, one_alone, begins_none, starts_alone, puts, leaves}
use Rattle.decimals.specs.Text.{Decimal, Spaced}
use Rattle.asking.specs.Parts.{Holds, in_front}
use Rattle.decimals.proofs.laws.Spacing.{one_list}

-- ---- all numbers behind a space

-- one at most
pub not_one : {s : List ℕ} → ((n : ℕ) → Decimal s n → ⊥) → Holds 1 (32 ∷ s) None
unfolding Spaced
not_one b [] p = absurd (nil≢cons (sym p))
not_one b (n ∷ []) p = absurd (b n (one_alone n p))
not_one b (n ∷ m ∷ ns) p = omega arith

pub none_at_all : (k : ℕ) (s : List ℕ) → Begins s None → Holds k (32 ∷ s) None
none_at_all k s b ns p = absurd (begins_none b ns p)

-- where one is all that is looked for, a second is too many
pub too_many : {s : List ℕ} {n : ℕ} {m : List ℕ} → Starts s n m → (k : ℕ) → k < 2 → Holds k (32 ∷ s) None
too_many h k l ns p = omega (arith, not_one (λ _. starts_alone h) ns p)

-- and one more than of those behind the first
module _ (k : ℕ) {s : List ℕ} {n : ℕ} {m : List ℕ} (h : Starts s n m) (l : k ≤ 2) where
  longer : ((ns : List ℕ) → Spaced (32 ∷ m) ns → k < length ns) → Holds (k + 1) (32 ∷ s) None
  unfolding Spaced
  longer b [] p = absurd (nil≢cons (sym p))
  longer b (j ∷ ns) p = omega (arith, b ns (leaves h j ns p))

  ahead : (g : Option Fields) → Holds k (32 ∷ m) g → Holds (k + 1) (32 ∷ s) (in_front n g)
  unfolding Spaced
  ahead (Some F.Empty) p = absurd (nil≢cons (sym p))
  ahead (Some (F.One x)) p = puts h (x ∷ []) p
  ahead (Some (F.Two x y)) p = puts h (x ∷ y ∷ []) p
  ahead (Some (F.Three x y z)) p =
      longer (λ ns q. omega (arith, ap (λ (t : List ℕ). length t) (one_list (32 ∷ m) (x ∷ y ∷ z ∷ []) ns p q)))
  ahead None p = longer p

-- as the code has it, of `&s[f..]`
pub more : (k : ℕ) {s : List ℕ} {n : ℕ} (f : ℕ) → Starts s n (drop f s) → k ≤ 2 → (g r : Option Fields)
    → Holds k (32 ∷ take (length s - f) (drop f s)) g → r ≡ in_front n g → Holds (k + 1) (32 ∷ s) r
more k {s} f h l g r p e = rw e (ahead k h l g (rw (from s f) at p))

-- ---- the space in front

pub no_space : (s : List ℕ) → 0 < length s → (get_or s 0 0 ≡ 32 → ⊥) → Holds 3 s None
unfolding Spaced
no_space s h b [] p = absurd (omega (arith, ap (λ t. length t) p))
no_space s h b (n ∷ ns) p = absurd (b (ap (λ t. get_or t 0 0) p.2))

pub no_numbers : (s : List ℕ) → length s ≡ 0 → Holds 3 s (Some F.Empty)
unfolding Spaced
no_numbers s h = drop_of_length-le s {i = 0} (omega arith)
