-- The reading of one decimal: its steps, the first digit first, and that the claim on it allows one answer.
use mathlib.Core.Path.{◌≡◌, refl, ap, ◌∙◌}
use mathlib.Core.List.{List, ◌∷◌}
use Prim.Native.Nat.{ℕ, ◌+◌, ◌-◌, ◌*◌, ◌^◌, ◌≤◌, ◌<◌}
use native.Mathlib.Nat.{one-le-pow, mul-le-mul_left}
use borrow.Author.Count.{below_more}
use native.Mathlib.Numerals.{add-one}
use native.Mathlib.Omega.{arith}
use lib.ListN.{length, drop, get_or, drop_of_length-le}
use lib.Seq.{drop-cons}
use Rattle.std.specs.Prelude.{Option, Some, None}
use Rattle.decimals.specs.Text.{worth, Decimal}
use Rattle.decimals.specs.Number.{NumberOf}
use Rattle.decimals.proofs.laws.Decimals.{shift, one_number}

-- two answers to the same bytes that both keep the claim are the same
pub number_once : (l : List ℕ) (r s : Option ℕ) → NumberOf l r → NumberOf l s → r ≡ s
number_once l (Some n) (Some m) p q = ap (λ (x : ℕ). Some x) (one_number p q)
number_once l (Some n) None p q = absurd (q n p)
number_once l None (Some m) p q = absurd (p m q)
number_once l None None p q = refl

pub drop_one : (s : List ℕ) (i : ℕ) → i < length s → drop i s ≡ get_or s i 0 ∷ drop (i + 1) s
drop_one s i h = rw (add-one, drop-cons s i 0)

-- ---- the first i bytes of s are read, as acc

pub record Front (s : List ℕ) (i acc : ℕ) : Type 0 where
  pub some : 0 < length s
  pub spare : 1 < length s → get_or s 0 0 ≡ 48 → ⊥
  pub within : i ≤ length s
  pub digits : (k : ℕ) → k < i → (48 ≤ get_or s k 0) × (get_or s k 0 ≤ 57)
  pub number : worth s ≡ acc * 10 ^ length (drop i s) + worth (drop i s)
  pub fits : acc < 2 ^ 64

pub front_none : (s : List ℕ) → 0 < length s → (1 < length s → get_or s 0 0 ≡ 48 → ⊥) → Front s 0 0
front_none s h z = record {
  some = h;
  spare = z;
  within = omega arith;
  digits = λ k l. absurd (omega arith);
  number = omega arith;
  fits = omega arith;
}

pub front_end : {s : List ℕ} {i acc : ℕ} → Front s i acc → length s ≤ i → Decimal s acc
unfolding worth
front_end {s} {i} {acc} h l =
    record {
      some = h.some;
      digits = λ k m. h.digits k (omega arith);
      spare = h.spare;
      number = h.number ∙ ap (λ t. acc * 10 ^ length t + worth t) (drop_of_length-le s l) ∙ omega arith;
      fits = h.fits;
    }

module _ {s : List ℕ} {i acc : ℕ} (h : Front s i acc) (l : i < length s) where
  abbrev b : ℕ
  b = get_or s i 0

  abbrev next : ℕ
  next = acc * 10 + (b - 48)

  step : worth s ≡ next * 10 ^ length (drop (i + 1) s) + worth (drop (i + 1) s)
  unfolding worth
  step =
      h.number
      ∙ ap (λ t. acc * 10 ^ length t + worth t) (drop_one s i l)
      ∙ shift acc (b - 48) (length (drop (i + 1) s)) (worth (drop (i + 1) s))

  pub front_more : 48 ≤ b → b ≤ 57 → next < 2 ^ 64 → Front s (i + 1) next
  front_more low high f =
      record {
        some = h.some;
        spare = h.spare;
        within = omega arith;
        digits = below_more _ i h.digits (low, high);
        number = step;
        fits = f;
      }

  -- a digit that makes the number too large, and a byte that is no digit, are in no decimal
  pub front_big : 2 ^ 64 ≤ next → (n : ℕ) → Decimal s n → ⊥
  front_big f n d =
      let p : 1 ≤ 10 ^ length (drop (i + 1) s) = one-le-pow (length (drop (i + 1) s)) 10 (omega arith) in
      omega (arith, mul-le-mul_left next p, step)

  pub front_odd : ((48 ≤ b) × (b ≤ 57) → ⊥) → (n : ℕ) → Decimal s n → ⊥
  front_odd o n d = o (omega (arith, d.digits i l), omega (arith, d.digits i l))
