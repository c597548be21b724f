-- The claim of a line leaves no choice.
use mathlib.Core.Path.{◌≡◌, sym, ap, ◌∙◌, subst}
use mathlib.Core.Bool.{Bool}
use mathlib.Core.List.{List, List-discrete}
use Prim.Native.Nat.{ℕ}
use native.Mathlib.Decide.{ℕ_discrete}
use Rattle.links.specs.Links.{links}
use Rattle.places.specs.Words.{place_words}
use Rattle.wheel.specs.Words.{wheel_words}
use Rattle.queue.specs.declared.Answer.{Answer}
use Rattle.records.specs.Words.{QueueWords, queue_words}
use Rattle.promises.proofs.laws.OneCall.{call_once}
use Rattle.std.specs.Prelude.{Option}
use Rattle.delay_queue.specs.declared.Call.{Call}
use Rattle.answering.specs.Text.{WriteClaim}
use Rattle.answering.proofs.laws.Answering.{write_once}
use Rattle.bench.specs.Line.{LineClaim}
use Rattle.bench.specs.Parts.{Heard, asks, bad}
use Rattle.bench.proofs.laws.Hearing.{as_heard}

-- r is what the line asks
heard_once : {limits : Bool} {l o o' o'' : List ℕ} {s s' s'' : QueueWords} {at end end'' : ℕ} (r : Option Call) → Heard limits l r
    → LineClaim limits l s o at s' o' end → LineClaim limits l s o at s'' o'' end''
    → (s' ≡ s'') × (end ≡ end'') × (o' ≡ o'')
heard_once {o = o} {o' = o'} {s = s} {s' = s'} {s'' = s''} {at = at} {end = end} r (asks {c = c} h) A B =
    let x = A.asks c h in
    let y = B.asks c h in
    let e = call_once c s x.answer y.answer s' s'' x.done y.done in
    let w : WriteClaim y.answer o at end o' = subst (λ (a : Answer). WriteClaim a o at end o') e.0 x.written in
    let f = write_once w y.written in
    (e.1, f.0, f.1)
heard_once r (bad n) A B =
    let x = A.bad n in
    let y = B.bad n in
    let f = write_once x.1 y.1 in
    (x.0 ∙ sym y.0, f.0, f.1)

-- two stores are the same where everything that can be tested follows from it
pub same_store : (s t : QueueWords) → ((P : Type 0) → Dec P → (s ≡ t → P) → P) → s ≡ t
same_store s t f =
    let number : (g : QueueWords → ℕ) → g s ≡ g t = λ g. f (g s ≡ g t) (ℕ_discrete (g s) (g t)) (λ e. ap g e) in
    let list : (g : QueueWords → List ℕ) → g s ≡ g t = λ g. f (g s ≡ g t) (List-discrete ℕ_discrete (g s) (g t)) (λ e. ap g e) in
    let n = number (λ x. x.wheel.places.tops.n) in
    let expired = number (λ x. x.wheel.places.tops.expired) in
    let free = number (λ x. x.wheel.places.tops.free) in
    let parking = number (λ x. x.wheel.places.tops.parking) in
    let heads : s.wheel.places.heads ≡ t.wheel.places.heads =
    f (s.wheel.places.heads ≡ t.wheel.places.heads) (List-discrete (List-discrete ℕ_discrete) s.wheel.places.heads t.wheel.places.heads)
    (λ e. ap (λ (x : QueueWords). x.wheel.places.heads) e)
    in
    let nexts = list (λ x. x.wheel.places.links.nexts) in
    let prevs = list (λ x. x.wheel.places.links.prevs) in
    let marks = list (λ x. x.wheel.places.links.marks) in
    let elapsed = number (λ x. x.wheel.elapsed) in
    let occupied = list (λ x. x.wheel.occupied) in
    let values = list (λ x. x.values) in
    let deadlines = list (λ x. x.deadlines) in
    let turns = list (λ x. x.turns) in
    let hand = number (λ x. x.hand) in
    let until = number (λ x. x.until) in
    λ i.
    queue_words
    (wheel_words (elapsed i) (occupied i)
    (place_words (record { n = n i; expired = expired i; free = free i; parking = parking i }) (heads i) (links (nexts i) (prevs i) (marks i))))
    (values i)
    (deadlines i)
    (turns i)
    (hand i)
    (until i)

-- two results for one line that both keep the claim are the same: what is left of the store, what is written, and where it ends
pub line_once : {limits : Bool} {l o o' o'' : List ℕ} {s s' s'' : QueueWords} {at end end'' : ℕ} → LineClaim limits l s o at s' o' end
    → LineClaim limits l s o at s'' o'' end''
    → (s' ≡ s'') × (end ≡ end'') × (o' ≡ o'')
line_once {limits} {l} {o} {o'} {o''} {s} {s'} {s''} {at} {end} {end''} A B = (
  same_store s' s'' (λ P d f. as_heard limits l d (λ r H. f (heard_once r H A B).0)),
  as_heard limits l (ℕ_discrete end end'') (λ r H. (heard_once r H A B).1),
  as_heard limits l (List-discrete ℕ_discrete o' o'') (λ r H. (heard_once r H A B).2),
)
