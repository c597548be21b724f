-- What `text` writes: where both limits are there, the gauge is read at them, and they are always taken.
use mathlib.Core.Path.{◌≡◌, refl, sym, ap, ap₂, ◌∙◌, subst}
use mathlib.Core.List.{List}
use Prim.Native.Nat.{ℕ, ◌≤◌, ◌<◌}
use native.Mathlib.Omega.{arith}
use lib.Ieee.{Float}
use lib.ListN.{length}
use Rattle.answering.specs.Text.{BadClaim}
use Rattle.gauge.specs.declared.Gauge.{Gauge}
use Rattle.gauge.specs.declared.Light.{Light}
use Rattle.std.specs.Prelude.{Ok, Err}
use Rattle.gauge.specs.Gauge.{float_of}
use Rattle.gauge.specs.Light.{light_of, Reading, reading_of}
use Rattle.gauge.specs.Bits.{bits_of}
use Rattle.gauge.proofs.laws.Reading.{limits_read}
use Rattle.gauge.proofs.laws.Latenesses.{float_limit}
use Rattle.light.specs.declared.State.{State}
use Rattle.light.specs.declared.State.TheVariants as S
use Rattle.light.specs.Light.{line_of, shown, bad}
use Rattle.writing.specs.Writing.{Wrote, Fronts}
use Rattle.light.specs.Writing.{text_of}
use Rattle.writing.proofs.laws.Writing.{wrote_front, no_room}
use Rattle.light.proofs.laws.Writing.{line_length, wrote_bad}

the_light : {a b : Light} → ◌≡◌ {A = Reading} (Ok a) (Ok b) → a ≡ b
the_light e = cc

-- where a limit is missing, or a line is bad
pub text_bad : (t : State) {o o' : List ℕ} {r : ℕ} → bad ≡ text_of t → BadClaim o 0 r o' → Fronts (text_of t) o r o'
text_bad t {o} {o'} {r} e p = subst (λ (l : List ℕ). Fronts l o r o') e (wrote_bad p)

module _ {t : State} (s l : ℕ) (g : Gauge) {x y : Float} {r : Reading} (e : t ≡ S.Both s l g) (p : x ≡ float_of s) (q : y ≡ float_of l)
    (i : r ≡ reading_of g x y) where
  shows : r ≡ Ok (light_of g (float_of s) (float_of l))
  shows =
      i
      ∙ ap₂ (λ (a b : Float). reading_of g a b) p q
      ∙ sym (limits_read g (float_of s) (float_of l) (float_limit s) (float_limit l) refl)

  -- no limit of the program's is refused
  pub no_number : {A : Type 0} {n : ℕ} → r ≡ Err n → A
  no_number h = let f = sym shows ∙ h in let z : ◌≡◌ {A = ℕ} 0 1 = cc in absurd (omega arith)

  pub text_is : (light : Light) {m n : ℕ} → r ≡ Ok light → m ≡ bits_of g.smoothed → n ≡ bits_of g.worst → line_of light m n ≡ text_of t
  unfolding shown
  text_is light h a b =
      ap₂ (λ (u v : ℕ). line_of light u v) a b
      ∙ ap (λ (u : Light). line_of u (bits_of g.smoothed) (bits_of g.worst)) (the_light (sym h ∙ shows))
      ∙ ap (λ (u : State). text_of u) (sym e)

  text_length : length (text_of t) ≡ 39
  unfolding shown
  text_length = ap (λ (u : State). length (text_of u)) e ∙ line_length (light_of g (float_of s) (float_of l)) (bits_of g.smoothed) (bits_of g.worst)

  pub text_full : {o : List ℕ} → length o < 39 → Fronts (text_of t) o 0 o
  text_full h = no_room (omega (arith, text_length))

  pub text_room : (light : Light) {m n k : ℕ} {o o' : List ℕ} → r ≡ Ok light → m ≡ bits_of g.smoothed → n ≡ bits_of g.worst
      → Wrote o 0 (line_of light m n) k o' → 39 ≤ length o
      → Fronts (text_of t) o k o'
  text_room light {m} {n} {k} {o} {o'} h a b w f =
      subst (λ (u : List ℕ). Fronts u o k o') (text_is light h a b) (wrote_front w (omega (arith, line_length light m n)))
