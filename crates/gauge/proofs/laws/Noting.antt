-- One lateness more: what `noted` is, the ways of `note_answer`, and that the claim on an answer leaves one gauge.
use mathlib.Core.Path.{◌≡◌, refl, sym, ap, ◌∙◌}
use mathlib.Core.Bool.{Bool, true, false, cond, false≢true}
use Prim.Native.Nat.{ℕ}
use lib.Ieee.{Float, lt}
use Rattle.queue.specs.Told.{Told, Handed, timer, no_timer, handing, Hands}
use Rattle.gauge.specs.declared.Gauge.{Gauge}
use Rattle.gauge.specs.Gauge.{lateness, smoother, worse, noted, AnswerClaim}

-- ---- what `noted` is

module _ (g : Gauge) (l : Float) where
  pub first_smoothed : g.any ≡ false → (noted g l).smoothed ≡ l
  unfolding noted
  first_smoothed a = ap (λ (b : Bool). cond b (smoother g.smoothed l) l) a

  pub first_worst : g.any ≡ false → (noted g l).worst ≡ l
  unfolding noted
  first_worst a = ap (λ (b : Bool). cond b (worse g.worst l) l) a

  pub next_smoothed : g.any ≡ true → (noted g l).smoothed ≡ smoother g.smoothed l
  unfolding noted
  next_smoothed a = ap (λ (b : Bool). cond b (smoother g.smoothed l) l) a

  pub next_worst : (t : Bool) → g.any ≡ true → lt g.worst l ≡ t → (noted g l).worst ≡ cond t l g.worst
  unfolding noted
  next_worst t a e = ap (λ (b : Bool). cond b (worse g.worst l) l) a ∙ ap (λ (b : Bool). cond b l g.worst) e

  pub some : (noted g l).any ≡ true
  unfolding noted
  some = refl

-- ---- answers

-- whether an answer hands out
abbrev pub is_timer : Handed → Bool
is_timer (timer k v d m n) = true
is_timer no_timer = false

abbrev pub is_out : Told → Bool
is_out x = is_timer (handing x)

not_out : (x : Told) → is_out x ≡ false → (k v d m n : ℕ) → Hands x k v d m n → ⊥
not_out x h k v d m n e = false≢true (sym h ∙ ap is_timer e)

is_out_lem : (y : Handed) → is_timer y ≡ true → (k : ℕ) × (v : ℕ) × (d : ℕ) × (m : ℕ) × (n : ℕ) × (y ≡ timer k v d m n)
is_out_lem (timer k v d m n) h = (k, v, d, m, n, refl)
is_out_lem no_timer h = absurd (false≢true h)

out_deadline : {k v d m n k' v' d' m' n' : ℕ} → timer k v d m n ≡ timer k' v' d' m' n' → d ≡ d'
out_deadline e = cc

pub noted_out : {g g' : Gauge} {now : ℕ} {x : Told} {k v d m n : ℕ} → Hands x k v d m n → g' ≡ noted g (lateness now d) → AnswerClaim g now x g'
noted_out {g} {now = now} {k = k} {v = v} {d = d} {m = m} {n = n} e q =
    record {
      handed = λ k' v' d' m' n' f. q ∙ ap (λ (y : ℕ). noted g (lateness now y)) (out_deadline (sym e ∙ f));
      otherwise = λ f. absurd (f k v d m n e);
    }

pub noted_none : {g : Gauge} {now : ℕ} {x : Told} → is_out x ≡ false → AnswerClaim g now x g
noted_none {x = x} h = record { handed = λ k v d m n e. absurd (not_out x h k v d m n e); otherwise = λ _. refl }

-- two gauges after one answer that both keep the claim are the same
pub answer_once : {g a b : Gauge} {now : ℕ} (x : Told) → AnswerClaim g now x a → AnswerClaim g now x b → a ≡ b
answer_once {g} {a} {b} {now} x p q = by (is_out x) refl
  where
    by : (t : Bool) → is_out x ≡ t → a ≡ b
    by true h = let o = is_out_lem (handing x) h in p.handed _ _ _ _ _ o.5 ∙ sym (q.handed _ _ _ _ _ o.5)
    by false h = p.otherwise (not_out x h) ∙ sym (q.otherwise (not_out x h))
