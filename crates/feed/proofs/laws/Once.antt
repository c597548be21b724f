-- The claims of this crate leave no choice, and neither do the answers to lines.
use mathlib.Core.Path.{◌≡◌, refl, sym, ap₂, ◌∙◌, subst}
use mathlib.Core.Bool.{Bool, true, false, true≢false, false≢true}
use mathlib.Core.Logic.{by_cases}
use mathlib.Core.List.{List, ◌++◌, List-discrete}
use Prim.Native.Nat.{ℕ}
use native.Mathlib.Decide.{ℕ_discrete, dec_lt}
use native.Mathlib.Omega.{arith}
use lib.ListN.{length, take}
use Rattle.queue.specs.declared.Answer.{Answer}
use Rattle.records.specs.Words.{QueueWords}
use Rattle.promises.proofs.laws.OneCall.{call_once}
use Rattle.std.specs.Prelude.{Option}
use Rattle.delay_queue.specs.declared.Call.{Call}
use Rattle.answering.specs.Text.{Written, word, shown, ending}
use Rattle.answering.proofs.laws.Answering.{one_written}
use Rattle.bench.specs.Line.{LineClaim}
use Rattle.bench.specs.Parts.{Heard, asks, bad}
use Rattle.bench.proofs.laws.Hearing.{as_heard}
use Rattle.bench.proofs.laws.Once.{same_store, line_once}
use Rattle.lines.proofs.laws.Once.{take_once}
use Rattle.feed.specs.Replies.{ReplyTo, Replies, none, reply}
use Rattle.feed.specs.Feed.{Stand, stand, NextLine, answered, goes_on, FeedClaim, stops, lines_on, LastClaim}

-- ---- `answer_lines`

same_stand : {i j k l : ℕ} {p q : List ℕ} {w x : QueueWords} {o r : List ℕ} {d e : ℕ} → i ≡ j → p ≡ q → k ≡ l → w ≡ x → o ≡ r → d ≡ e
    → stand i p k w o d ≡ stand j q l x r e
same_stand a b c d e f = λ i. stand (a i) (b i) (c i) (d i) (e i) (f i)

next_once : {limits : Bool} {got : List ℕ} {a b c : Stand} → NextLine limits got a b → NextLine limits got a c → b ≡ c
next_once {limits = limits} {a = a} (answered {i = i} {k = k} {l = l} {w = w} {o = o} {e = e} T C) (answered {k = k'} {l = l'} U D) =
    let t = take_once true true T U in
    let E : LineClaim limits (take k' l') a.store a.out a.at w o e =
    subst (λ (x : List ℕ). LineClaim limits x a.store a.out a.at w o e) (ap₂ (λ (x : ℕ) (y : List ℕ). take x y) t.1 t.3) C
    in
    let r = line_once E D in
    same_stand t.0 t.3 refl r.0 r.2 r.1
next_once (answered T C) (goes_on U) = absurd (true≢false (take_once true false T U).2)
next_once (goes_on T) (answered U C) = absurd (false≢true (take_once false true T U).2)
next_once (goes_on T) (goes_on U) = let t = take_once false false T U in same_stand t.0 t.3 t.1 refl refl refl

-- two outcomes that both keep the claim are the same
pub feed_once : {limits : Bool} {got : List ℕ} {a b c : Stand} → FeedClaim limits got a b → FeedClaim limits got a c → b ≡ c
feed_once (stops h) (stops k) = refl
feed_once (stops h) (lines_on g t f) = absurd (h g)
feed_once (lines_on g t f) (stops h) = absurd (h g)
feed_once {limits} {got} {c = c} (lines_on g t f) (lines_on {b = b} k u e) =
    feed_once f (subst (λ (x : Stand). FeedClaim limits got x c) (sym (next_once t u)) e)

-- ---- `answer_last`

pub last_once : {limits : Bool} {l o o' o'' : List ℕ} {w w' w'' : QueueWords} {end end'' : ℕ} → LastClaim limits l w o w' o' end
    → LastClaim limits l w o w'' o'' end''
    → (w' ≡ w'') × (end ≡ end'') × (o' ≡ o'')
last_once {l = l} a b =
    by_cases (dec_lt 0 (length l)) (λ h. line_once (a.some h) (b.some h))
    (λ h.
    let x = a.none (omega arith) in
    let y = b.none (omega arith) in
    (x.0 ∙ sym y.0, x.2 ∙ sym y.2, x.1 ∙ sym y.1))

-- ---- answers to lines

heard_reply : {limits : Bool} {l : List ℕ} {w w' w'' : QueueWords} {t u : List ℕ} (r : Option Call) → Heard limits l r → ReplyTo limits l w t w'
    → ReplyTo limits l w u w''
    → (t ≡ u) × (w' ≡ w'')
heard_reply {w = w} {w' = w'} {w'' = w''} {t = t} r (asks {c = c} h) a b =
    let x = a.asks c h in
    let y = b.asks c h in
    let e = call_once c w x.answer y.answer w' w'' x.done y.done in
    let z : Written (word y.answer) (shown y.answer) (ending y.answer) t =
    subst (λ (q : Answer). Written (word q) (shown q) (ending q) t) e.0 x.written
    in
    (one_written z y.written, e.1)
heard_reply r (bad n) a b = (one_written (a.bad n).1 (b.bad n).1, (a.bad n).0 ∙ sym (b.bad n).0)

reply_once : {limits : Bool} {l : List ℕ} {w w' w'' : QueueWords} {t u : List ℕ} → ReplyTo limits l w t w' → ReplyTo limits l w u w''
    → (t ≡ u) × (w' ≡ w'')
reply_once {limits} {l} {w' = w'} {w'' = w''} {t = t} {u = u} a b = (
  as_heard limits l (List-discrete ℕ_discrete t u) (λ r H. (heard_reply r H a b).0),
  same_store w' w'' (λ P d f. as_heard limits l d (λ r H. f (heard_reply r H a b).1)),
)

-- what is written to an input's lines, and what is left of the store
pub replies_once : {limits : Bool} {ls : List (List ℕ)} {w w' w'' : QueueWords} {t u : List ℕ} → Replies limits ls w t w' → Replies limits ls w u w''
    → (t ≡ u) × (w' ≡ w'')
replies_once none none = (refl, refl)
replies_once {limits = limits} {w'' = w''} (reply {ls = ls} x a) (reply {u = v} y b) =
    let e = reply_once x y in
    let f = replies_once a (subst (λ (q : QueueWords). Replies limits ls q v w'') (sym e.1) b) in
    (ap₂ (λ (p q : List ℕ). p ++ q) e.0 f.0, f.1)
