-- The judge of the wheel, level by level: every list is whole, and the rows are those of the lists.
use mathlib.Core.Path.{◌≡◌, refl, sym, ap, ◌∙◌}
use mathlib.Core.Logic.{◌≢◌, by_cases}
use mathlib.Core.Bool.{Bool, true, false, true≢false}
use Prim.Native.Nat.{ℕ, ◌+◌, ◌≤◌, ◌<◌}
use native.Mathlib.Decide.{ℕ_discrete}
use native.Mathlib.Omega.{arith}
use borrow.Author.Count.{below_more}
use borrow.Author.Tests.{eq-eqb, ne_eqb}
use Rattle.contracts.specs.Tells.{Tells}
use Rattle.contracts.proofs.laws.Tells.{tells_no}
use Rattle.row.specs.Row.{row_of}
use Rattle.row.proofs.laws.Rows.{row_ext}
use Rattle.links.specs.Lists.{nobody}
use Rattle.std.specs.Prelude.{Option, Some, None}
use Rattle.places.specs.declared.Level.{Level}
use Rattle.links.specs.Links.{at}
use Rattle.places.specs.Places.{slot_place, slots}
use Rattle.places.specs.Heads.{slot_head}
use Rattle.places.proofs.laws.Heads.{slot_head_lem}
use Rattle.places.proofs.laws.Words.{judged}
use Rattle.places.specs.Judge.{from, held, WalksLevel, rest}
use Rattle.places.proofs.laws.Judge.{rest_judged, level_judged}
use Rattle.places.specs.Whole as places
use Rattle.places.proofs.laws.Whole as place_laws
use Rattle.wheel.specs.Occupied.{flags}
use Rattle.wheel.specs.Words.{WheelWords, count, lists, WheelWhole}
use Rattle.wheel.proofs.laws.Words.{head_at}
use Rattle.wheel.specs.Judged.{CanJudge}

-- a slot has a head just where its list is not empty
head_filled : (t : WheelWords) → places.Whole t.places → (k j : ℕ) → k < 6 → j < 64 → held t.places.heads k j ≡ flags (lists t) k j
head_filled t W k j hk hj =
    let p = slot_place k j in
    let h : slot_head t.places.heads k j ≡ head_at t p = slot_head_lem k j hk hj t.places.tops t.places.heads in
    by_cases (ℕ_discrete (head_at t p) nobody)
    (λ z. rw (h, eq-eqb (head_at t p) nobody z, place_laws.list_empty W p z))
    (λ z. let r = place_laws.list_cons W p z in rw (h, ne_eqb (head_at t p) nobody z, r.1))

-- the row of a whole wheel is that of its heads
pub whole_row : {t : WheelWords} → WheelWhole t → (k : ℕ) → k < 6 → at t.occupied k ≡ row_of (held t.places.heads k)
whole_row {t} W k hk =
    W.occupied.row k hk ∙ row_ext (flags (lists t) k) (held t.places.heads k) 64 (λ j hj. sym (head_filled t W.places k j hk hj))

-- and the other way: lists that the judge passes, and rows that are those of the heads
pub whole_from : {t : WheelWords} → CanJudge t → judged t.places ≡ true
    → ((k : ℕ) → k < 6 → at t.occupied k ≡ row_of (held t.places.heads k)) → WheelWhole t
whole_from {t} C e f =
    let W = place_laws.judged_whole C.few C.shape C.room e in
    record {
      places = W;
      occupied = record {
        six = C.six;
        row = λ k hk. f k hk ∙ row_ext (held t.places.heads k) (flags (lists t) k) 64 (λ j hj. head_filled t W k j hk hj);
      };
    }

-- some levels are passed
pub record JudgedSo (t : WheelWords) (level left : ℕ) : Type 0 where
  pub within : level ≤ 6
  pub goes : from t.places 0 (count t) ≡ from t.places (slot_place level 0) left
  pub occupied : (k : ℕ) → k < level → at t.occupied k ≡ row_of (held t.places.heads k)

pub judge_begun : (t : WheelWords) → JudgedSo t 0 (count t)
judge_begun t = record { within = omega arith; goes = refl; occupied = λ k h. absurd (omega arith) }

module _ {t : WheelWords} {level left : ℕ} (S : JudgedSo t level left) where
  module _ (h : level < 6) {w : Option Level} (L : WalksLevel t.places level left w) where
    -- a list is wrong
    pub judge_wrong : w ≡ None → Tells (WheelWhole t) false
    judge_wrong e =
        tells_no (λ W. true≢false (sym (place_laws.whole_judged W.places) ∙ level_judged t.places (S.goes ∙ L.wrong e)))

    module _ (l : Level) (e : w ≡ Some l) where
      -- a row is not that of the heads
      pub judge_other : l.filled ≢ at t.occupied level → Tells (WheelWhole t) false
      judge_other d = tells_no (λ W. d (L.filled l e ∙ sym (whole_row W level h)))

      pub judge_next : l.filled ≡ at t.occupied level → JudgedSo t (level + 1) l.left
      judge_next f =
          record {
            within = omega arith;
            goes = S.goes ∙ L.goes l e;
            occupied = below_more _ level S.occupied (sym f ∙ L.filled l e);
          }

  -- all levels are
  module _ (C : CanJudge t) (h : 6 ≤ level) {b : Bool} (e : b ≡ rest t.places left) where
    is_judged : b ≡ judged t.places
    is_judged =
        let z : slot_place level 0 ≡ slots = omega (arith, S.within) in
        e ∙ rest_judged t.places left (S.goes ∙ ap (λ p. from t.places p left) z)

    pub judge_end : Tells (WheelWhole t) b
    judge_end =
        record {
          yes = λ q. whole_from C (sym is_judged ∙ q) (λ k hk. S.occupied k (omega arith));
          no = λ q W. true≢false (sym (place_laws.whole_judged W.places) ∙ sym is_judged ∙ q);
        }
