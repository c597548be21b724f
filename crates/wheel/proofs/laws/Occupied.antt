-- The rows follow the lists: one slot's list changes, and its flag with it.
use mathlib.Core.Path.{◌≡◌, refl, sym, ap, ◌∙◌}
use mathlib.Core.Logic.{by_cases}
use mathlib.Core.Bool.{Bool, true, false, true≢false}
use mathlib.Core.List.{List, [], ◌∷◌}
use Prim.Native.Nat.{ℕ, ◌≤◌, ◌<◌}
use native.Mathlib.Decide.{ℕ_discrete}
use native.Mathlib.Omega.{arith}
use lib.ListN.{set, length-set}
use lib.Seq.{ext_get_or, get_or-set_same, get_or-set_other}
use Rattle.row.specs.Row.{flag_at, row_of, flagged}
use Rattle.row.proofs.laws.Rows.{flag_row_lem, row_ext, flagged_here, flagged_other}
use Rattle.links.specs.Lists.{change}
use Rattle.links.proofs.laws.Lists.{change_same, change_other}
use Rattle.links.specs.Links.{at}
use Rattle.places.specs.Places.{slot_place, slots}
use Rattle.wheel.specs.Wheel.{Lists}
use Rattle.wheel.specs.Occupied.{filled, flags, Occupied}

-- the row of level k with v as the flag of slot s, and all rows then
abbrev pub flag_row : List ℕ → ℕ → ℕ → Bool → ℕ
flag_row occ k s v = row_of (flagged (flag_at (at occ k)) s v)

abbrev pub with_flag : List ℕ → ℕ → ℕ → Bool → List ℕ
with_flag occ k s v = set occ k (flag_row occ k s v)

module _ {occ : List ℕ} {L : Lists} (R : Occupied occ L) where
  pub flag_is : (k s : ℕ) → k < 6 → s < 64 → flag_at (at occ k) s ≡ flags L k s
  flag_is k s hk hs = ap (λ (x : ℕ). flag_at x s) (R.row k hk) ∙ flag_row_lem (flags L k) 64 s hs

  -- one slot's list changes, and its flag with it
  pub occupied_flagged : (k s : ℕ) (v : Bool) (l : List ℕ) → k < 6 → s < 64 → v ≡ filled l
      → Occupied (with_flag occ k s v) (change L (slot_place k s) l)
  occupied_flagged k s v l hk hs e =
      let p : ℕ = slot_place k s in
      let same : (u : ℕ) → u < 64 → flagged (flag_at (at occ k)) s v u ≡ flags (change L p l) k u
      = λ u hu.
      by_cases (ℕ_discrete u s)
      (λ (q : u ≡ s). rw (q, change_same) (flagged_here (flag_at (at occ k)) s v ∙ e))
      (λ q.
      flagged_other (flag_at (at occ k)) s v u q ∙ flag_is k u hk hu
      ∙ ap filled (sym (change_other L p l (slot_place k u) (omega (arith, q))))) in
      record {
        six = length-set occ k (row_of (flagged (flag_at (at occ k)) s v)) ∙ R.six;
        row = λ j hj.
            by_cases (ℕ_discrete j k)
            (λ (q : j ≡ k).
            rw q (get_or-set_same occ k (row_of (flagged (flag_at (at occ k)) s v)) 0 (omega (arith, R.six))
            ∙ row_ext (flagged (flag_at (at occ k)) s v) (flags (change L p l) k) 64 same))
            (λ q.
            get_or-set_other occ k j (row_of (flagged (flag_at (at occ k)) s v)) 0 q ∙ R.row j hj
            ∙ row_ext (flags L j) (flags (change L p l) j) 64
            (λ u hu. ap filled (sym (change_other L p l (slot_place j u) (omega (arith, q, hu, hs))))));
      }

  -- a list changes, and whether it is empty does not
  pub occupied_kept : (p : ℕ) (l : List ℕ) → filled l ≡ filled (L p) → Occupied occ (change L p l)
  occupied_kept p l e =
      record {
        six = R.six;
        row = λ j hj.
            R.row j hj
            ∙ row_ext (flags L j) (flags (change L p l) j) 64
            (λ u hu.
            by_cases (ℕ_discrete (slot_place j u) p)
            (λ (q : slot_place j u ≡ p). ap (λ (z : ℕ). filled (L z)) q ∙ sym e ∙ ap filled (sym (change_same L p l)) ∙ ap
            (λ (z : ℕ). filled (change L p l z)) (sym q))
            (λ q. ap filled (sym (change_other L p l (slot_place j u) q))));
      }

  -- what is no slot has no flag
  pub occupied_aside : (p : ℕ) (l : List ℕ) → slots ≤ p → Occupied occ (change L p l)
  occupied_aside p l h =
      record {
        six = R.six;
        row = λ j hj.
            R.row j hj
            ∙ row_ext (flags L j) (flags (change L p l) j) 64
            (λ u hu. ap filled (sym (change_other L p l (slot_place j u) (omega (arith, hj, hu)))));
      }

  -- the lists fix the rows
  pub occupied_fixed : {occ' : List ℕ} → Occupied occ' L → occ' ≡ occ
  occupied_fixed {occ'} S =
      ext_get_or 0 occ' occ (S.six ∙ sym R.six) (λ k h. let hk : k < 6 = omega (arith, h, S.six) in S.row k hk ∙ sym (R.row k hk))

pub unfilled : (l : List ℕ) → filled l ≡ false → l ≡ []
unfilled [] e = refl
unfilled (x ∷ l) e = absurd (true≢false e)

pub filled_some : (l : List ℕ) → filled l ≡ true → (x : ℕ) × (k : List ℕ) × (l ≡ x ∷ k)
filled_some [] e = absurd (true≢false (sym e))
filled_some (x ∷ l) e = (x, l, refl)
