-- The judge level by level and place by place, in the words of the code's loops.
use mathlib.Core.Path.{◌≡◌, refl, sym, ap, ◌∙◌, subst}
use mathlib.Core.Logic.{◌≢◌}
use mathlib.Core.Bool.{true, false, not}
use Prim.Native.Nat.{ℕ, ◌+◌, ◌≤◌, ◌<◌}
use native.Mathlib.Omega.{arith}
use lib.Dec.{eqb}
use borrow.Author.Tests.{eq-eqb, ne_eqb}
use Rattle.row.specs.Row.{flag_at, row_of, flagged}
use Rattle.row.proofs.laws.Built.{HasBelow, row_begun, row_taken, row_passed, row_done}
use Rattle.links.specs.Lists.{nobody}
use Rattle.std.specs.Prelude.{Option, Some, None}
use Rattle.std.proofs.lemmas.Option.{none-some}
use Rattle.links.specs.Links.{at, net}
use Rattle.links.specs.Judge.{scan_list, loose_of, leaves}
use Rattle.links.proofs.laws.Judge.{judge, scan_end, wrong_left, left_inj, all_go, all_wrong, all_end}
use Rattle.places.specs.Places.{slot_place, slots, places}
use Rattle.places.specs.Heads.{slot_head}
use Rattle.places.proofs.laws.Heads.{slot_head_lem}
use Rattle.places.specs.Words.{PlaceWords, head_at, count}
use Rattle.places.proofs.laws.Words.{judged}
use Rattle.places.specs.declared.Level.{Level}
use Rattle.places.specs.Judge.{from, held, WalksLevel, rest}

-- the walk of one list
abbrev pub walked : PlaceWords → ℕ → ℕ → ℕ → Option ℕ
walked t p left h = scan_list (at t.links.nexts) (at t.links.prevs) (at t.links.marks) (count t) p left h

-- ---- place by place

module _ (t : PlaceWords) (p left : ℕ) where
  module _ (h : ℕ) (w : Option ℕ) (hp : p < places) (e : h ≡ head_at t p) (f : w ≡ walked t p left h) where
    here : walked t p left (head_at t p) ≡ w
    here = ap (walked t p left) (sym e) ∙ sym f

    pub judge_go : (m : ℕ) → w ≡ Some m → from t p left ≡ from t (p + 1) m
    unfolding from
    judge_go m k = all_go (net (head_at t) t.links) (count t) places p left m hp (here ∙ k)

    pub judge_wrong : w ≡ None → from t p left ≡ None
    unfolding from
    judge_wrong k = all_wrong (net (head_at t) t.links) (count t) places p left hp (here ∙ k)

  -- a place with no head
  pub judge_none : p < places → head_at t p ≡ nobody → from t p left ≡ from t (p + 1) left
  judge_none hp z = judge_go (head_at t p) (Some left) hp refl (sym (scan_end _ _ _ (count t) _ p left _ (head_at t p) z refl)) left refl

  pub judge_end : places ≤ p → from t p left ≡ Some left
  unfolding from
  judge_end hp = all_end (net (head_at t) t.links) (count t) places p left hp

-- ---- the slots of a level

-- some slots of level k are passed
pub record WalkedSo (t : PlaceWords) (k left₀ s left x : ℕ) : Type 0 where
  pub within : s ≤ 64
  pub goes : from t (slot_place k 0) left₀ ≡ from t (slot_place k s) left
  pub has : HasBelow (held t.heads k) s x

module _ (t : PlaceWords) (k : ℕ) (hk : k < 6) where
  pub level_begun : (left₀ : ℕ) → WalkedSo t k left₀ 0 left₀ 0
  level_begun left₀ = record { within = omega arith; goes = refl; has = row_begun }

  module _ {left₀ s left x : ℕ} (S : WalkedSo t k left₀ s left x) (hs : s < 64) where
    head_here : slot_head t.heads k s ≡ head_at t (slot_place k s)
    head_here = slot_head_lem k s hk hs t.tops t.heads

    next : slot_place k s + 1 ≡ slot_place k (s + 1)
    next = omega arith

    pub level_passed : slot_head t.heads k s ≡ nobody → WalkedSo t k left₀ (s + 1) left x
    level_passed z =
        record {
          within = omega arith;
          goes = S.goes ∙ judge_none t (slot_place k s) left (omega arith) (sym head_here ∙ z) ∙ ap (λ p. from t p left) next;
          has = row_passed S.has (ap not (eq-eqb (slot_head t.heads k s) nobody z));
        }

    module _ {w : Option ℕ} {p : ℕ} (ep : p ≡ slot_place k s) (g : w ≡ walked t p left (slot_head t.heads k s)) where
      f : w ≡ walked t (slot_place k s) left (slot_head t.heads k s)
      f = g ∙ ap (λ q. walked t q left (slot_head t.heads k s)) ep

      pub level_taken : slot_head t.heads k s ≢ nobody → (m : ℕ) → w ≡ Some m → {y : ℕ} → y ≡ row_of (flagged (flag_at x) s true)
          → WalkedSo t k left₀ (s + 1) m y
      level_taken d m e ey =
          record {
            within = omega arith;
            goes =
                S.goes ∙ judge_go t (slot_place k s) left (slot_head t.heads k s) w (omega arith) head_here f m e
                ∙ ap (λ p. from t p m) next;
            has = subst (HasBelow (held t.heads k) (s + 1)) (sym ey)
                (row_taken S.has hs (ap not (ne_eqb (slot_head t.heads k s) nobody d)));
          }

      pub level_wrong : w ≡ None → WalksLevel t k left₀ None
      level_wrong e =
          record {
            wrong = λ _. S.goes ∙ judge_wrong t (slot_place k s) left (slot_head t.heads k s) w (omega arith) head_here f e;
            goes = λ l z. absurd (none-some l z);
            filled = λ l z. absurd (none-some l z);
          }

  pub level_done : {left₀ s left x : ℕ} → WalkedSo t k left₀ s left x → 64 ≤ s
      → WalksLevel t k left₀ (Some (record { left = left; filled = x }))
  level_done {left₀} {s} {left} {x} S h =
      let e : slot_place k s ≡ slot_place (k + 1) 0 = omega arith in
      record {
        wrong = λ z. absurd (none-some _ (sym z));
        goes = λ l z. S.goes ∙ ap (λ p. from t p left) e ∙ ap (from t (slot_place (k + 1) 0)) cc;
        filled = λ l z. let f : l.filled ≡ x = cc in f ∙ row_done S.has h;
      }

-- ---- the three that are no slots

module _ (t : PlaceWords) (left₀ : ℕ) where
  pub rest_wrong : (p left : ℕ) → from t slots left₀ ≡ from t p left → from t p left ≡ None → false ≡ rest t left₀
  unfolding rest
  rest_wrong p left g e = rw (g, e)

  pub rest_end : (p left c : ℕ) → from t slots left₀ ≡ from t p left → places ≤ p → c ≡ loose_of places t.links (count t)
      → eqb left c ≡ rest t left₀
  unfolding rest
  rest_end p left c g h e = rw (g, judge_end t p left h, e)

-- ---- the judge, level by level

pub rest_judged : (t : PlaceWords) (left : ℕ) → from t 0 (count t) ≡ from t slots left → rest t left ≡ judged t
unfolding rest judged from judge
rest_judged t left g = ap (λ w. leaves w (loose_of places t.links (count t))) (sym g)

pub level_judged : (t : PlaceWords) → from t 0 (count t) ≡ None → judged t ≡ false
unfolding judged from judge
level_judged t e = ap (λ w. leaves w (loose_of places t.links (count t))) e
