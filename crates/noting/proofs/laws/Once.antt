-- The claims of this crate leave no choice.
use mathlib.Core.Path.{◌≡◌, refl, sym, ap, ap₂, ◌∙◌, subst}
use mathlib.Core.Bool.{Bool, true, false, true≢false, false≢true}
use mathlib.Core.List.{List, ◌++◌}
use Prim.Native.Nat.{ℕ}
use native.Mathlib.Omega.{arith}
use lib.ListN.{take, drop, take-append-drop}
use Rattle.queue.specs.declared.Answer.{Answer}
use Rattle.queue.specs.Told.{told}
use Rattle.records.specs.Words.{QueueWords}
use Rattle.answering.specs.Text.{WriteClaim}
use Rattle.answering.proofs.laws.Answering.{write_once}
use Rattle.writing.specs.Writing.{Wrote}
use Rattle.lines.proofs.laws.Once.{take_once}
use Rattle.entries.specs.declared.Step.{Step}
use Rattle.journal.specs.Journal.{written}
use Rattle.journal.proofs.laws.Once.{acts_once}
use Rattle.noting.specs.Line.{Desk, desk, Does, does, LineClaim, step, bad, NoteClaim, done, full, LastClaim, none, some}
use Rattle.noting.specs.Feed.{Stand, stand, NextLine, answered, goes_on, FeedClaim, stops, lines_on}
use Rattle.noting.proofs.laws.Means.{one_step}

-- ---- a line

wrote_once : {o : List ℕ} {at : ℕ} {s : List ℕ} {m n : ℕ} {p q : List ℕ} → Wrote o at s m p → Wrote o at s n q → (m ≡ n) × (p ≡ q)
wrote_once {o} {m = m} {n} {p} {q} v w =
    let e : m ≡ n = v.end ∙ sym w.end in
    let rest : drop m p ≡ drop n q = v.rest ∙ ap (λ (k : ℕ). drop k o) e ∙ sym w.rest in
    (e, sym (take-append-drop m p) ∙ ap₂ (λ (x y : List ℕ). x ++ y) (v.text ∙ sym w.text) rest ∙ take-append-drop n q)

same_desk : {p q : Bool} {s t : QueueWords} {m n : List ℕ} {i j : ℕ} {o r : List ℕ} {d e : ℕ} → p ≡ q → s ≡ t → m ≡ n → i ≡ j → o ≡ r → d ≡ e
    → desk p s m i o d ≡ desk q t n j r e
same_desk a b c d e f = λ i. desk (a i) (b i) (c i) (d i) (e i) (f i)

does_once : {x : Step} {a b c : Desk} → Does x a b → Does x a c → b ≡ c
does_once {x} {a} (does {y = y} A u F) (does {y = z} {n = n} {k = k} {o = o} {e = e} B W G) =
    let r = acts_once A B in
    let back : z ≡ y = sym r.0 in
    let v = wrote_once u (subst (λ (t : Answer). Wrote a.notes a.noted (written x (told t)) k n) back W) in
    let w = write_once F (subst (λ (t : Answer). WriteClaim t a.out a.at e o) back G) in
    same_desk r.1 r.2 v.1 v.0 w.1 w.0

-- two outcomes of one line that both keep the claim are the same
pub line_once : {l : List ℕ} {a b c : Desk} → LineClaim l a b → LineClaim l a c → b ≡ c
line_once {a = a} {c = c} (step m A) (step n B) = does_once A (subst (λ (x : Step). Does x a c) (one_step n m) B)
line_once (step m A) (bad f B) = absurd (f _ m)
line_once (bad f A) (step n B) = absurd (f _ n)
line_once (bad f A) (bad g B) = let r = write_once A B in same_desk refl refl refl refl r.1 r.0

-- and whether it was done
pub note_once : {l : List ℕ} {a b c : Desk} {d e : Bool} → NoteClaim l a d b → NoteClaim l a e c → (d ≡ e) × (b ≡ c)
note_once (done r A) (done s B) = (refl, line_once A B)
note_once (done r A) (full f) = absurd (f r)
note_once (full f) (done r B) = absurd (f r)
note_once (full f) (full g) = (refl, refl)

pub last_once : {l : List ℕ} {a b c : Desk} {d e : Bool} → LastClaim l a d b → LastClaim l a e c → (d ≡ e) × (b ≡ c)
last_once (none h) (none k) = (refl, refl)
last_once (none h) (some k B) = absurd (omega arith)
last_once (some h A) (none k) = absurd (omega arith)
last_once (some h A) (some k B) = note_once A B

-- ---- `answer_lines`

same_stand : {i j k l : ℕ} {p q : List ℕ} {d e : Desk} → i ≡ j → p ≡ q → k ≡ l → d ≡ e → stand i p k d ≡ stand j q l e
same_stand a b c d = λ i. stand (a i) (b i) (c i) (d i)

next_once : {got : List ℕ} {a b c : Stand} → NextLine got a b → NextLine got a c → b ≡ c
next_once {a = a} (answered {d = d} T C) (answered {k = k} {l = l} U D) =
    let t = take_once true true T U in
    let line = ap₂ (λ (x : ℕ) (y : List ℕ). take x y) t.1 t.3 in
    let E : LineClaim (take k l) a.desk d = subst (λ (x : List ℕ). LineClaim x a.desk d) line C in
    same_stand t.0 t.3 refl (line_once E D)
next_once (answered T C) (goes_on U) = absurd (true≢false (take_once true false T U).2)
next_once (goes_on T) (answered U C) = absurd (false≢true (take_once false true T U).2)
next_once (goes_on T) (goes_on U) = let t = take_once false false T U in same_stand t.0 t.3 t.1 refl

pub feed_once : {got : List ℕ} {a b c : Stand} → FeedClaim got a b → FeedClaim got a c → b ≡ c
feed_once (stops h) (stops k) = refl
feed_once (stops h) (lines_on g t f) = absurd (h g)
feed_once (lines_on g t f) (stops h) = absurd (h g)
feed_once {got} {c = c} (lines_on g t f) (lines_on k u e) = feed_once f (subst (λ (x : Stand). FeedClaim got x c) (sym (next_once t u)) e)
