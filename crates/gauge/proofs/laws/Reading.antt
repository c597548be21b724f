-- What a gauge reads: the ways of `read` and `light`, 9 exactly when a limit is bad, and each light exactly when the paper says.
use mathlib.Core.Path.{◌≡◌, refl, sym, ap, ap₂, ◌∙◌}
use mathlib.Core.Bool.{Bool, true, false, cond, not, ◌||◌, true≢false, false≢true, or-true}
use mathlib.Core.Logic.{◌⊎◌, inl, inr, ⊎_elim, ◌↔◌}
use Prim.Native.Nat.{ℕ}
use native.Mathlib.Omega.{arith}
use lib.Ieee.{Float, lt, le, is_nan}
use Rattle.gauge.specs.declared.Gauge.{Gauge}
use Rattle.gauge.specs.declared.Light.{Light}
use Rattle.gauge.specs.declared.Light.TheVariants as L
use Rattle.gauge.specs.Gauge.{nought}
use Rattle.std.specs.Prelude.{Ok, Err}
use Rattle.gauge.specs.Light.{bad_limit, light_of, Reading, reading_of}
use Rattle.gauge.specs.Exactly.{BadLimit, Limits, LightExactly}

-- ---- the ways of `light` and `read`

module _ (g : Gauge) (s l : Float) where
  pub calm_before : g.any ≡ false → L.Calm ≡ light_of g s l
  unfolding light_of
  calm_before a = simp a

  pub late_first : g.any ≡ true → le l g.worst ≡ true → L.Late g.worst ≡ light_of g s l
  unfolding light_of
  late_first a h = simp (a, h)

  pub slow_then : g.any ≡ true → le l g.worst ≡ false → le s g.smoothed ≡ true → L.Slow g.smoothed ≡ light_of g s l
  unfolding light_of
  slow_then a h k = simp (a, h, k)

  pub calm_else : g.any ≡ true → le l g.worst ≡ false → le s g.smoothed ≡ false → L.Calm ≡ light_of g s l
  unfolding light_of
  calm_else a h k = simp (a, h, k)

  pub slow_refused : bad_limit s ≡ true → Err 9 ≡ reading_of g s l
  unfolding reading_of
  slow_refused h = sym (ap (λ (b : Bool). cond (b || bad_limit l) (Err 9) (Ok (light_of g s l))) h)

  pub late_refused : bad_limit l ≡ true → Err 9 ≡ reading_of g s l
  unfolding reading_of
  late_refused h = sym (ap (λ (b : Bool). cond b (Err 9) (Ok (light_of g s l))) (ap (λ (b : Bool). bad_limit s || b) h ∙ or-true (bad_limit s)))

  pub limits_read : {x : Light} → bad_limit s ≡ false → bad_limit l ≡ false → x ≡ light_of g s l → Ok x ≡ reading_of g s l
  unfolding reading_of
  limits_read p q e =
      ap (λ (x : Light). Ok x) e
      ∙ sym (ap₂ (λ (a b : Bool). cond (a || b) (Err 9) (Ok (light_of g s l))) p q)

-- ---- bad limits

or_cases : (a b : Bool) → a || b ≡ true → (a ≡ true) ⊎ (b ≡ true)
or_cases true b h = inl refl
or_cases false b h = inr h

or_of : (a b : Bool) → (a ≡ true) ⊎ (b ≡ true) → a || b ≡ true
or_of true b c = refl
or_of false b c = ⊎_elim (λ (h : false ≡ true). absurd (false≢true h)) (λ h. h) c

pub bad_limit_lem : (x : Float) → (bad_limit x ≡ true) ↔ BadLimit x
bad_limit_lem x = (or_cases (lt x nought) (is_nan x), or_of (lt x nought) (is_nan x))

module _ (s l : Float) where
  abbrev bad : Bool
  bad = bad_limit s || bad_limit l

  is_bad : (bad ≡ true) ↔ (BadLimit s ⊎ BadLimit l)
  is_bad = (
    λ h. ⊎_elim (λ p. inl ((bad_limit_lem s).0 p)) (λ p. inr ((bad_limit_lem l).0 p)) (or_cases (bad_limit s) (bad_limit l) h),
    λ h. or_of (bad_limit s) (bad_limit l) (⊎_elim (λ p. inl ((bad_limit_lem s).1 p)) (λ p. inr ((bad_limit_lem l).1 p)) h),
  )

  none_bad : (bad ≡ false) ↔ Limits s l
  none_bad = (λ h k. true≢false (sym (is_bad.1 k) ∙ h), λ f. by bad (λ h. f (is_bad.0 h)))
    where
      by : (b : Bool) → (b ≡ true → ⊥) → b ≡ false
      by true f = absurd (f refl)
      by false f = refl

-- ---- a reading by its four tests: b, a bad limit; a, a timer was handed out; p, worst is at or over; q, smoothed is

abbrev by_tests : Bool → Bool → Bool → Bool → Float → Float → Reading
by_tests b a p q w x = cond b (Err 9) (Ok (cond (not a) L.Calm (cond p (L.Late w) (cond q (L.Slow x) L.Calm))))

apart : {A : Type 0} → ◌≡◌ {A = ℕ} 0 1 → A
apart z = absurd (omega arith)

module _ (w x : Float) where
  nine_tests : (b a p q : Bool) → by_tests b a p q w x ≡ Err 9 → b ≡ true
  nine_tests true a p q e = refl
  nine_tests false false p q e = apart cc
  nine_tests false true true q e = apart cc
  nine_tests false true false true e = apart cc
  nine_tests false true false false e = apart cc

  number_tests : {n : ℕ} (b a p q : Bool) → by_tests b a p q w x ≡ Err n → n ≡ 9
  number_tests true a p q e = cc
  number_tests false false p q e = apart cc
  number_tests false true true q e = apart cc
  number_tests false true false true e = apart cc
  number_tests false true false false e = apart cc

  late_tests : {y : Float} (b a p q : Bool) → by_tests b a p q w x ≡ Ok (L.Late y) → (b ≡ false) × (a ≡ true) × (p ≡ true) × (y ≡ w)
  late_tests true a p q e = apart cc
  late_tests false false p q e = apart cc
  late_tests false true true q e = (refl, refl, refl, cc)
  late_tests false true false true e = apart cc
  late_tests false true false false e = apart cc

  slow_tests : {y : Float} (b a p q : Bool) → by_tests b a p q w x ≡ Ok (L.Slow y)
      → (b ≡ false) × (a ≡ true) × (p ≡ false) × (q ≡ true) × (y ≡ x)
  slow_tests true a p q e = apart cc
  slow_tests false false p q e = apart cc
  slow_tests false true true q e = apart cc
  slow_tests false true false true e = (refl, refl, refl, refl, cc)
  slow_tests false true false false e = apart cc

  calm_tests : (b a p q : Bool) → by_tests b a p q w x ≡ Ok L.Calm
      → (b ≡ false) × ((a ≡ false) ⊎ ((a ≡ true) × (p ≡ false) × (q ≡ false)))
  calm_tests true a p q e = apart cc
  calm_tests false false p q e = (refl, inl refl)
  calm_tests false true true q e = apart cc
  calm_tests false true false true e = apart cc
  calm_tests false true false false e = (refl, inr (refl, refl, refl))

module _ (g : Gauge) (s l : Float) where
  abbrev tested : Reading
  tested = by_tests (bad s l) g.any (le l g.worst) (le s g.smoothed) g.worst g.smoothed

  is_tested : reading_of g s l ≡ tested
  unfolding reading_of light_of
  is_tested = refl

  -- "A limit below zero or not a number is refused with 9": 9 is given then, before any timer too, and never else
  pub nine_exactly : (reading_of g s l ≡ Err 9) ↔ (BadLimit s ⊎ BadLimit l)
  nine_exactly = (
    λ e. (is_bad s l).0 (nine_tests g.worst g.smoothed (bad s l) g.any (le l g.worst) (le s g.smoothed) (sym is_tested ∙ e)),
    λ h. ⊎_elim (λ p. sym (slow_refused g s l ((bad_limit_lem s).1 p))) (λ p. sym (late_refused g s l ((bad_limit_lem l).1 p))) h,
  )

  -- and no other number is
  pub no_other_number : {n : ℕ} → reading_of g s l ≡ Err n → n ≡ 9
  no_other_number e = number_tests g.worst g.smoothed (bad s l) g.any (le l g.worst) (le s g.smoothed) (sym is_tested ∙ e)

  at_limits : {x : Light} → Limits s l → x ≡ light_of g s l → reading_of g s l ≡ Ok x
  unfolding reading_of
  at_limits k e = ap (λ (b : Bool). cond b (Err 9) (Ok (light_of g s l))) ((none_bad s l).1 k) ∙ ap (λ (y : Light). Ok y) (sym e)

  -- late is tested before slow, and both "at or over"
  pub light_exactly : LightExactly g s l (reading_of g s l)
  light_exactly =
      record {
        late = λ x. (
          λ e. let t = late_tests g.worst g.smoothed (bad s l) g.any (le l g.worst) (le s g.smoothed) (sym is_tested ∙ e) in
              ((none_bad s l).0 t.0, t.1, t.2, t.3),
          λ h. at_limits h.0 (ap (λ (y : Float). L.Late y) h.3 ∙ late_first g s l h.1 h.2),
        );
        slow = λ x. (
          λ e. let t = slow_tests g.worst g.smoothed (bad s l) g.any (le l g.worst) (le s g.smoothed) (sym is_tested ∙ e) in
              ((none_bad s l).0 t.0, t.1, t.2, t.3, t.4),
          λ h. at_limits h.0 (ap (λ (y : Float). L.Slow y) h.4 ∙ slow_then g s l h.1 h.2 h.3),
        );
        calm = (
          λ e. let t = calm_tests g.worst g.smoothed (bad s l) g.any (le l g.worst) (le s g.smoothed) (sym is_tested ∙ e) in
              ((none_bad s l).0 t.0, t.1),
          λ h. at_limits h.0 (⊎_elim (λ a. calm_before g s l a) (λ k. calm_else g s l k.0 k.1 k.2) h.1),
        );
      }
