-- What is noted of six words (`notes`): the words of an answer that hands out a timer have the kind 3 or 4, and its deadline is the
-- fourth. One gauge is left (`note_once`).
use mathlib.Core.Path.{◌≡◌, refl, sym, ap, ◌∙◌, subst}
use mathlib.Core.Logic.{◌⊎◌, inl, inr, by_cases}
use mathlib.Core.List.{List, [], ◌∷◌, List-discrete}
use Prim.Native.Nat.{ℕ}
use native.Mathlib.Decide.{ℕ_discrete}
use native.Mathlib.Omega.{arith}
use lib.ListN.{length}
use lib.Ieee.{Float}
use Rattle.links.specs.Links.{at}
use Rattle.queue.specs.Told as T
use Rattle.run.specs.Groups.{answer_words}
use Rattle.gauge.specs.declared.Gauge.{Gauge}
use Rattle.gauge.specs.Gauge.{lateness, noted, AnswerClaim}
use Rattle.gauge.proofs.laws.Noting.{noted_out, answer_once}
use Rattle.words.specs.Words.{NoteClaim}
use Rattle.words.proofs.laws.Answers.{back, not_words}

-- the kind is that of an answer that hands out
abbrev pub HandsKind : ℕ → Type 0
HandsKind k = (k ≡ 3) ⊎ (k ≡ 4)

-- six words are the words that they are
six : (w : List ℕ) → length w ≡ 6 → w ≡ at w 0 ∷ at w 1 ∷ at w 2 ∷ at w 3 ∷ at w 4 ∷ at w 5 ∷ []
six [] e = absurd (omega arith)
six (a ∷ []) e = absurd (omega arith)
six (a ∷ b ∷ []) e = absurd (omega arith)
six (a ∷ b ∷ c ∷ []) e = absurd (omega arith)
six (a ∷ b ∷ c ∷ d ∷ []) e = absurd (omega arith)
six (a ∷ b ∷ c ∷ d ∷ f ∷ []) e = absurd (omega arith)
six (a ∷ b ∷ c ∷ d ∷ f ∷ g ∷ []) e = refl
six (a ∷ b ∷ c ∷ d ∷ f ∷ g ∷ h ∷ l) e = absurd (omega arith)

module _ (g : Gauge) (now : ℕ) where
  -- of the words of an answer
  words_noted : (x : T.Told) → HandsKind (at (answer_words x) 0) → AnswerClaim g now x (noted g (lateness now (at (answer_words x) 3)))
  words_noted T.ok (inl e) = absurd (omega arith)
  words_noted T.ok (inr e) = absurd (omega arith)
  words_noted (T.key k) (inl e) = absurd (omega arith)
  words_noted (T.key k) (inr e) = absurd (omega arith)
  words_noted (T.gone v d) (inl e) = absurd (omega arith)
  words_noted (T.gone v d) (inr e) = absurd (omega arith)
  words_noted (T.out k v d m n) e = noted_out {k = k} {v = v} {d = d} {m = m} {n = n} refl refl
  words_noted (T.last k v d m n) e = noted_out {k = k} {v = v} {d = d} {m = m} {n = n} refl refl
  words_noted (T.none m n) (inl e) = absurd (omega arith)
  words_noted (T.none m n) (inr e) = absurd (omega arith)
  words_noted (T.yet m n) (inl e) = absurd (omega arith)
  words_noted (T.yet m n) (inr e) = absurd (omega arith)
  words_noted (T.wake t) (inl e) = absurd (omega arith)
  words_noted (T.wake t) (inr e) = absurd (omega arith)
  words_noted T.never (inl e) = absurd (omega arith)
  words_noted T.never (inr e) = absurd (omega arith)
  words_noted (T.len n) (inl e) = absurd (omega arith)
  words_noted (T.len n) (inr e) = absurd (omega arith)
  words_noted (T.no n) (inl e) = absurd (omega arith)
  words_noted (T.no n) (inr e) = absurd (omega arith)

  -- of any six words
  module _ (w : List ℕ) (z : length w ≡ 6) where
    is_answer : HandsKind (at w 0) → (x : T.Told) × (w ≡ answer_words x)
    is_answer (inl e) = (
      T.out (at w 1) (at w 2) (at w 3) (at w 4) (at w 5),
      six w z ∙ ap (λ (k : ℕ). k ∷ at w 1 ∷ at w 2 ∷ at w 3 ∷ at w 4 ∷ at w 5 ∷ []) e,
    )
    is_answer (inr e) = (
      T.last (at w 1) (at w 2) (at w 3) (at w 4) (at w 5),
      six w z ∙ ap (λ (k : ℕ). k ∷ at w 1 ∷ at w 2 ∷ at w 3 ∷ at w 4 ∷ at w 5 ∷ []) e,
    )

    pub notes : HandsKind (at w 0) → {g' : Gauge} {l : Float} → l ≡ lateness now (at w 3) → g' ≡ noted g l → NoteClaim g now w g'
    notes k {g'} {l} q j =
        let i : g' ≡ noted g (lateness now (at w 3)) = j ∙ ap (λ (y : Float). noted g y) q in
        record {
          answered = λ x e.
              subst (λ (y : Gauge). AnswerClaim g now x y) (sym i)
              (subst (λ (v : List ℕ). HandsKind (at v 0) → AnswerClaim g now x (noted g (lateness now (at v 3)))) (sym e) (words_noted x) k);
          otherwise = λ f. let r = is_answer k in absurd (f r.0 r.1);
        }

-- ---- one outcome

-- what is noted of any words leaves one gauge
pub note_once : {g a b : Gauge} {now : ℕ} (w : List ℕ) → NoteClaim g now w a → NoteClaim g now w b → a ≡ b
note_once w A B =
    by_cases (List-discrete ℕ_discrete w (answer_words (back w)))
    (λ e. answer_once (back w) (A.answered (back w) e) (B.answered (back w) e))
    (λ f. A.otherwise (not_words w f) ∙ sym (B.otherwise (not_words w f)))
