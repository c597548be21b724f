-- Each claim leaves one outcome.
use mathlib.Core.Path.{◌≡◌, refl, sym, ap, ◌∙◌}
use mathlib.Core.Logic.{by_cases}
use mathlib.Core.List.{List, ◌∷◌, List-discrete}
use Prim.Native.Nat.{ℕ}
use native.Mathlib.Decide.{ℕ_discrete}
use Rattle.lines.specs.Running.{Chunk}
use Rattle.lines.proofs.laws.Running.{chunk_once as once-a-chunk}
use Rattle.std.specs.Prelude.{Option, Some, None}
use Rattle.decimals.proofs.laws.Decimals.{one_number}
use Rattle.light.specs.declared.State.{State}
use Rattle.light.specs.Light.{Amounts, Writes}
use Rattle.light.specs.Steps.{AmountOf, next, Stepped}

pub amount_once : (l : List ℕ) (r s : Option ℕ) → AmountOf l r → AmountOf l s → r ≡ s
amount_once l (Some n) (Some m) p q = ap (λ (x : ℕ). Some x) (one_number p.0 q.0)
amount_once l (Some n) None p q = absurd (q n p.0 p.1)
amount_once l None (Some m) p q = absurd (p m q.0 q.1)
amount_once l None None p q = refl

pub step_once : {l : List ℕ} {t a b : State} → Stepped l t a → Stepped l t b → a ≡ b
step_once {l} {t} p q = p.then ∙ ap (λ (r : Option ℕ). next r t) (amount_once l p.says q.says p.is q.is) ∙ sym q.then

-- `take_chunk`
pub chunk_once : {got : List ℕ} {i k x y : ℕ} {line l m : List ℕ} {t a b : State} → Chunk Stepped got i line k t l x a
    → Chunk Stepped got i line k t m y b
    → (l ≡ m) × (x ≡ y) × (a ≡ b)
chunk_once c d = once-a-chunk (λ l t a b. step_once) c d

-- a whole run: there is no third text
pub writes_once : {ls : List (List ℕ)} {t u : List ℕ} → Writes ls t → Writes ls u → t ≡ u
writes_once {ls} {t} {u} a b =
    by_cases (List-discrete ℕ_discrete t u) (λ e. e)
    (λ f.
    let none : (s l : ℕ) (ns : List ℕ) → Amounts ls (s ∷ l ∷ ns) → ⊥ = λ s l ns m. f (a.right s l ns m ∙ sym (b.right s l ns m)) in
    a.bad none ∙ sym (b.bad none))
