-- Each claim leaves one outcome, and what is written of a log is one text.
use mathlib.Core.Path.{◌≡◌, refl, sym, ap, ◌∙◌, subst}
use mathlib.Core.Bool.{Bool, true, false}
use mathlib.Core.List.{List, [], ◌∷◌, ◌++◌}
use Prim.Native.Nat.{ℕ, ◌^◌, ◌<◌}
use lib.ListN.{length}
use Rattle.lines.specs.Running.{Chunk}
use Rattle.lines.proofs.laws.Running.{chunk_once as once-a-chunk}
use Rattle.decimals.specs.Text.{bytes}
use Rattle.decimals.proofs.laws.Decimals.{one_decimal}
use Rattle.writing.specs.Writing.{Fronts}
use Rattle.writing.proofs.laws.Writing.{front_once}
use Rattle.inspector.specs.declared.State.{State}
use Rattle.inspector.specs.declared.State.TheVariants as S
use Rattle.inspector.specs.Words.{Words, words, Inspected}
use Rattle.inspector.specs.Verdict.{VerdictClaim}
use Rattle.inspector.proofs.laws.Once.{inspect_once}
use Rattle.inspect.specs.Text.{LineOf, TextClaim, SaidClaim}

-- `take_chunk`
pub chunk_once : {got : List ℕ} {i k x y : ℕ} {line l m : List ℕ} {w a b : Words} → Chunk Inspected got i line k w l x a
    → Chunk Inspected got i line k w m y b
    → (l ≡ m) × (x ≡ y) × (a ≡ b)
chunk_once c d = once-a-chunk one c d
  where
    one : (l : List ℕ) (w a b : Words) → Inspected l w a → Inspected l w b → a ≡ b
    one l w a b p q =
        let e = inspect_once w.state w.keys w.deadlines l p q in
        λ i. words (e.0 i) (e.1 i) (e.2 i)

-- `text`

line_once : (t : State) (l m : List ℕ) → LineOf t l → LineOf t m → l ≡ m
line_once (S.Good n clock k) l m p q = p ∙ sym q
line_once (S.Bad n) l m p q = p.2 ∙ ap (λ (d : List ℕ). bytes "bad " ++ (d ++ 10 ∷ [])) (one_decimal p.1 q.1) ∙ sym q.2

pub text_once : (t : State) {o : List ℕ} {r s : ℕ} {p q : List ℕ} → TextClaim t o r p → TextClaim t o s q → (r ≡ s) × (p ≡ q)
text_once t {o} {r} {p = p} a b =
    let e = line_once t a.0 b.0 a.1 b.1 in
    front_once (subst (λ (l : List ℕ). Fronts l o r p) e a.2) b.2

-- `said`
pub said_once : (ended : Bool) (t : State) {o : List ℕ} {r s : ℕ} {p q : List ℕ} → SaidClaim ended t o r p → SaidClaim ended t o s q → (r ≡ s) × (p ≡ q)
said_once true t a b = text_once t (a.whole refl) (b.whole refl)
said_once false t a b = let x = a.broken refl in let y = b.broken refl in (x.0 ∙ sym y.0, x.1 ∙ sym y.1)

-- of a log one line is written
pub verdict_once : (ls : List (List ℕ)) (t u : State) (l m : List ℕ) → length ls < 2 ^ 64 → VerdictClaim ls t → VerdictClaim ls u → LineOf t l
    → LineOf u m → l ≡ m
verdict_once ls (S.Good a b c) (S.Good x y z) l m h p q f g = f ∙ sym g
verdict_once ls (S.Good a b c) (S.Bad n) l m h p q f g = absurd (q.ok.1 (p.ok.0 tt))
verdict_once ls (S.Bad n) (S.Good x y z) l m h p q f g = absurd (p.ok.1 (q.ok.0 tt))
verdict_once ls (S.Bad n) (S.Bad k) l m h p q f g = line_once (S.Bad n) l m f (subst (λ (t : State). LineOf t m) (sym ((p.bad h k).1 ((q.bad h k).0 refl))) g)
