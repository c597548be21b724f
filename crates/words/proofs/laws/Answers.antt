-- Six words tell the answer: no two answers have the same (`answer_one`), and words that are not those of `back` are no answer's (`not_words`).
use mathlib.Core.Path.{◌≡◌, refl, sym, ap, ◌∙◌}
use mathlib.Core.Bool.{cond}
use mathlib.Core.List.{List}
use Prim.Native.Nat.{ℕ}
use lib.Dec.{eqb}
use Rattle.links.specs.Links.{at}
use Rattle.queue.specs.declared.Answer.{Answer}
use Rattle.queue.specs.Told.{told}
use Rattle.queue.specs.Told as T
use Rattle.promises.proofs.laws.Once.{told_one}
use Rattle.run.specs.Groups.{answer_words}

-- what six words tell, if they are an answer's
abbrev told_in : ℕ → ℕ → ℕ → ℕ → ℕ → ℕ → T.Told
told_in k a b c d e =
    cond (eqb k 0) T.ok (cond (eqb k 1) (T.key a) (cond (eqb k 2) (T.gone a b) (cond (eqb k 3) (T.out a b c d e) (cond (eqb k 4) (T.last a b c d e)
    (cond (eqb k 5) (T.none a b) (cond (eqb k 6) (T.wake a) (cond (eqb k 7) T.never (cond (eqb k 8) (T.len a) (cond (eqb k 9) (T.no a) (T.yet a b))))))))))

abbrev pub back : List ℕ → T.Told
back w = told_in (at w 0) (at w 1) (at w 2) (at w 3) (at w 4) (at w 5)

back_words : (x : T.Told) → back (answer_words x) ≡ x
back_words T.ok = refl
back_words (T.key k) = refl
back_words (T.gone v d) = refl
back_words (T.out k v d m n) = refl
back_words (T.last k v d m n) = refl
back_words (T.none m n) = refl
back_words (T.yet m n) = refl
back_words (T.wake t) = refl
back_words T.never = refl
back_words (T.len n) = refl
back_words (T.no n) = refl

-- no two answers have the same words
pub answer_one : (a b : Answer) → answer_words (told a) ≡ answer_words (told b) → a ≡ b
answer_one a b e = told_one a b (sym (back_words (told a)) ∙ ap back e ∙ back_words (told b))

pub not_words : (w : List ℕ) → (w ≡ answer_words (back w) → ⊥) → (x : T.Told) → w ≡ answer_words x → ⊥
not_words w f x e = f (e ∙ ap answer_words (sym (ap back e ∙ back_words x)))
