-- A row built flag by flag, from slot 0 on.
use mathlib.Core.Path.{◌≡◌, sym, ◌∙◌}
use mathlib.Core.Logic.{◌≢◌}
use mathlib.Core.Bool.{Bool, true, false}
use Prim.Native.Nat.{ℕ, ◌+◌, ◌^◌, ◌≤◌, ◌<◌}
use native.Mathlib.Omega.{arith}
use borrow.Author.Count.{below_more}
use Rattle.row.specs.Row.{flag_at, row_of, flagged}
use Rattle.row.proofs.laws.Rows.{flag_row_lem, flag_none, row_lt, row_flags, row_ext, flagged_here, flagged_other}

-- the row has the flags of f below s, and no other
pub record HasBelow (f : ℕ → Bool) (s x : ℕ) : Type 0 where
  pub seen : (j : ℕ) → j < s → j < 64 → flag_at x j ≡ f j
  pub rest : (j : ℕ) → s ≤ j → j < 64 → flag_at x j ≡ false
  pub fits : x < 2 ^ 64

module _ {f : ℕ → Bool} where
  pub row_begun : HasBelow f 0 0
  row_begun = record { seen = λ j h. absurd (omega arith); rest = λ j h k. flag_none j; fits = omega arith }

  pub row_taken : {s x : ℕ} → HasBelow f s x → s < 64 → f s ≡ true → HasBelow f (s + 1) (row_of (flagged (flag_at x) s true))
  row_taken {s} {x} R h t =
      let was : (j : ℕ) → j < 64 → j ≢ s → flag_at (row_of (flagged (flag_at x) s true)) j ≡ flag_at x j
      = λ j k d. flag_row_lem (flagged (flag_at x) s true) 64 j k ∙ flagged_other (flag_at x) s true j d in
      record {
        seen =
            below_more _ s (λ j g k. was j k (omega arith) ∙ R.seen j g k)
            (λ k. flag_row_lem (flagged (flag_at x) s true) 64 s k ∙ flagged_here (flag_at x) s true ∙ sym t);
        rest = λ j g k. was j k (omega arith) ∙ R.rest j (omega arith) k;
        fits = row_lt (flagged (flag_at x) s true) 64;
      }

  pub row_passed : {s x : ℕ} → HasBelow f s x → f s ≡ false → HasBelow f (s + 1) x
  row_passed {s} {x} R t =
      record {
        seen = below_more _ s R.seen (λ k. R.rest s (omega arith) k ∙ sym t);
        rest = λ j g k. R.rest j (omega arith) k;
        fits = R.fits;
      }

  pub row_done : {s x : ℕ} → HasBelow f s x → 64 ≤ s → x ≡ row_of f
  row_done {s} {x} R h = sym (row_flags 64 R.fits) ∙ row_ext (flag_at x) f 64 (λ j k. R.seen j (omega arith) k)
