-- The program's whole run: what it writes is the answers to the lines of what it read, one a line and in their order, however the input was
-- cut into chunks.
use mathlib.Core.Path.{◌≡◌, refl, sym, ap, ◌∙◌, subst}
use mathlib.Core.Bool.{Bool, true, true≢false}
use mathlib.Core.List.{List, [], ◌∷◌, ◌++◌, append-nil, append_assoc}
use Prim.Native.Nat.{ℕ, ◌+◌, ◌≤◌, ◌<◌}
use native.Mathlib.Omega.{arith}
use lib.ListN.{length, take, drop, drop_of_length-le}
use lib.Seq.{take_all}
use Rattle.records.specs.Words.{QueueWords}
use Rattle.bench.specs.Line.{Asks}
use Rattle.lines.specs.Lines.{lines_from, lines_of, firsts, last, joined}
use Rattle.lines.specs.Running.{Along, none as no_line, more, Passes, Closes, ProgramRan}
use Rattle.lines.proofs.laws.Lines.{whole_line, input_ends}
use Rattle.lines.proofs.laws.Passed.{passed_none, passed_more, passed_line, passed_end}
use Rattle.lines.proofs.laws.Running.{passes_more, ran_all}
use Rattle.feed.specs.Replies.{ReplyTo, Replies, none, reply}
use Rattle.feed.specs.Feed.{Stand, CanGoOn, NextLine, answered, goes_on, FeedClaim, stops, lines_on, LastClaim, answer_room}
use Rattle.feed.specs.Serving.{LineAnswered, Feeds, Fed, call, used, none as nothing, Serving}
use Rattle.feed.proofs.laws.Wrote.{between, replied, reply_whole, reply_forth, reply_size}

-- ---- step behind step

pub replies_more : {limits : Bool} {ls ms : List (List ℕ)} {s s₁ s' : QueueWords} {t u : List ℕ} → Replies limits ls s t s₁ → Replies limits ms s₁ u s'
    → Replies limits (ls ++ ms) s (t ++ u) s'
replies_more none b = b
replies_more {limits = limits} {ms = ms} {s = s} {s' = s'} {u = u} (reply {l = l} {ls = ls} {t = t} {u = v} x a) b =
    subst (λ (y : List ℕ). Replies limits (l ∷ ls ++ ms) s y s') (sym (append_assoc t v u)) (reply x (replies_more a b))

one_reply : {limits : Bool} {l : List ℕ} {s s' : QueueWords} {t : List ℕ} → ReplyTo limits l s t s' → Replies limits (l ∷ []) s t s'
one_reply {limits} {l} {s} {s'} {t} x = subst (λ (y : List ℕ). Replies limits (l ∷ []) s y s') (append-nil t) (reply x none)

feeds_none : {limits : Bool} {m : ℕ} {k s : List ℕ} {w : QueueWords} → Feeds limits m k s w [] k s w
feeds_none = record { lines = []; passed = passed_none; replies = none }

feeds_more : {limits : Bool} {m : ℕ} {k s k₁ s₁ k₂ s₂ : List ℕ} {w w₁ w₂ : QueueWords} {t u : List ℕ} → Feeds limits m k s w t k₁ s₁ w₁
    → Feeds limits m k₁ s₁ w₁ u k₂ s₂ w₂
    → Feeds limits m k s w (t ++ u) k₂ s₂ w₂
feeds_more a b =
    record { lines = a.lines ++ b.lines; passed = passed_more a.passed b.passed; replies = replies_more a.replies b.replies }

-- ---- a call of `answer_lines`

-- from a to b the lines that ended were answered with text, which stands in the output behind what stood there
pub record Answers (limits : Bool) (m : ℕ) (got : List ℕ) (a b : Stand) : Type 0 where
  pub text : List ℕ
  pub feeds : Feeds limits m (take a.kept a.line) (drop a.next got) a.store text (take b.kept b.line) (drop b.next got) b.store
  pub written : take b.at b.out ≡ take a.at a.out ++ text

-- one step answers one line at most
record NextLineTells (limits : Bool) (got : List ℕ) (a b : Stand) : Type 0 where
  answers : Answers limits (length a.line) got a b
  size : length b.line ≡ length a.line
  one : length answers.feeds.lines ≤ 1

module _ {limits : Bool} {got : List ℕ} where
  next_tells : {a b : Stand} → 0 < length a.line → a.at + answer_room ≤ length a.out → NextLine limits got a b → NextLineTells limits got a b
  next_tells {a} some h (answered {k = k} {l = l} {o = o} {e = e} T C) =
      record {
        answers = record {
          text = between o a.at e;
          feeds = record { lines = take k l ∷ []; passed = passed_line some T; replies = one_reply (replied h C) };
          written = reply_whole h C;
        };
        size = T.size;
        one = omega arith;
      }
  next_tells {a} some h (goes_on T) =
      record {
        answers = record {
          text = [];
          feeds = record { lines = []; passed = passed_end some T; replies = none };
          written = sym (append-nil (take a.at a.out));
        };
        size = T.size;
        one = omega arith;
      }

  answers_more : {m : ℕ} {a b c : Stand} → Answers limits m got a b → Answers limits m got b c → Answers limits m got a c
  answers_more {a = a} x y =
      record {
        text = x.text ++ y.text;
        feeds = feeds_more x.feeds y.feeds;
        written = y.written
            ∙ ap (λ (t : List ℕ). t ++ y.text) x.written
            ∙ append_assoc (take a.at a.out) x.text y.text;
      }

  -- no line is passed over, and none is answered twice
  pub feed_answers : {a b : Stand} → 0 < length a.line → FeedClaim limits got a b → Answers limits (length a.line) got a b
  feed_answers {a} some (stops h) =
      record { text = []; feeds = feeds_none; written = sym (append-nil (take a.at a.out)) }
  feed_answers {a} some (lines_on {b = b} {c = c} g t f) =
      let x = next_tells some g.1 t in
      answers_more x.answers (subst (λ (m : ℕ). Answers limits m got b c) x.size (feed_answers (omega (arith, x.size)) f))

  no_second : {a b : Stand} → a.at ≡ 0 → length a.out ≡ answer_room → CanGoOn got a → NextLine limits got a b → CanGoOn got b → ⊥
  no_second z r g (answered T C) k = omega (arith, reply_forth g.1 C, reply_size g.1 C, k.1)
  no_second z r g (goes_on T) k = omega (arith, (T.unfinished refl).0, k.0)

  -- with room for one answer alone, no more than one line is answered
  pub one_answer : {a b : Stand} → 0 < length a.line → a.at ≡ 0 → length a.out ≡ answer_room → FeedClaim limits got a b
      → (x : Answers limits (length a.line) got a b) × (length x.feeds.lines ≤ 1)
  one_answer {a} some z r (stops h) = (
    record {
      text = [];
      feeds = record { lines = []; passed = passed_none; replies = none };
      written = sym (append-nil (take a.at a.out));
    },
    omega arith,
  )
  one_answer some z r (lines_on g t (stops h)) = let x = next_tells some g.1 t in (x.answers, x.one)
  one_answer some z r (lines_on g t (lines_on k u f)) = absurd (no_second z r g t k)

-- ---- calls, each of whose answers are written before the next

replies_along : {limits : Bool} {ls : List (List ℕ)} {w w' : QueueWords} {t : List ℕ} → Replies limits ls w t w' → Along (LineAnswered limits) ls w w'
replies_along none = no_line
replies_along (reply {t = t} x a) = more (record { text = t; reply = x }) (replies_along a)

-- a call more, from where the calls before it came to
pub calls_more : {limits : Bool} {m : ℕ} {k s : List ℕ} {w : QueueWords} {got : List ℕ} {a b : Stand} → 0 < m → length a.line ≡ m
    → Passes (LineAnswered limits) m k s w (take a.kept a.line) (drop a.next got) a.store → FeedClaim limits got a b
    → Passes (LineAnswered limits) m k s w (take b.kept b.line) (drop b.next got) b.store
calls_more {limits = limits} {got = got} {a = a} {b = b} h e P F =
    let x = subst (λ (m : ℕ). Answers limits m got a b) e (feed_answers (omega arith) F) in
    passes_more P (record { lines = x.feeds.lines; passed = x.feeds.passed; along = replies_along x.feeds.replies })

-- the chunk is used up
pub calls_used : {limits : Bool} {m : ℕ} {k s k' : List ℕ} {w w' : QueueWords} (got : List ℕ) {i : ℕ} → length got ≤ i
    → Passes (LineAnswered limits) m k s w k' (drop i got) w'
    → Passes (LineAnswered limits) m k s w k' [] w'
calls_used {limits} {m} {k} {s} {k'} {w} {w'} got h P =
    subst (λ (x : List ℕ). Passes (LineAnswered limits) m k s w k' x w') (drop_of_length-le got h) P

-- a call at the front of the output: what stands there from its front to where the answers end is what the lines were answered with
pub call_feeds : {limits : Bool} {got : List ℕ} {a b : Stand} → 0 < length a.line → a.at ≡ 0 → FeedClaim limits got a b
    → Feeds limits (length a.line) (take a.kept a.line) (drop a.next got) a.store (take b.at b.out) (take b.kept b.line)
    (drop b.next got)
    b.store
call_feeds {limits} {got} {a} {b} some z F =
    let x = feed_answers some F in
    let e : x.text ≡ take b.at b.out = sym (x.written ∙ ap (λ (i : ℕ). take i a.out ++ x.text) z) in
    subst (λ (t : List ℕ).
    Feeds limits (length a.line) (take a.kept a.line) (drop a.next got) a.store t (take b.kept b.line) (drop b.next got) b.store)
    e
    x.feeds

-- and the end of the input
pub last_replies : {limits : Bool} (l : List ℕ) {o o' : List ℕ} {w w' : QueueWords} {e : ℕ} → answer_room ≤ length o → LastClaim limits l w o w' o' e
    → Replies limits (last l) w (take e o') w'
last_replies {limits = limits} [] {o' = o'} {w = w} {w' = w'} h C =
    let x = C.none (omega arith) in
    subst (λ (i : ℕ). Replies limits [] w (take i o') w') (sym x.2) (subst (λ (y : QueueWords). Replies limits [] w [] y) (sym x.0) none)
last_replies {limits = limits} (b ∷ l) {o' = o'} {w = w} {w' = w'} h C =
    let c = C.some (omega arith) in
    subst (λ (t : List ℕ). Replies limits ((b ∷ l) ∷ []) w t w') (sym (reply_whole h c)) (one_reply (replied h c))

-- ---- the run: what was read so far is answered, of which no more than an unfinished line is kept

pub so_far : {limits : Bool} {m : ℕ} {k k' : List ℕ} {cs : List (List ℕ)} {w w' : QueueWords} {v : List ℕ} → Fed limits m k cs w v k' w'
    → Feeds limits m k (joined cs) w v k' [] w'
so_far {limits} {m} (call {s = s} {s₁ = s₁} {cs = cs} f r) = feeds_more (behind (joined cs) f) (so_far r)
  where
    behind : {k k₁ s s₁ : List ℕ} {w w₁ : QueueWords} {u : List ℕ} (t : List ℕ) → Feeds limits m k s w u k₁ s₁ w₁
        → Feeds limits m k (s ++ t) w u k₁ (s₁ ++ t) w₁
    behind {k} {k₁} {s} {s₁} t f =
        record {
          lines = f.lines;
          passed = record {
            first = λ x.
                ap (λ (y : List ℕ). firsts m (lines_from k y)) (append_assoc s t x)
                ∙ f.passed.first (t ++ x)
                ∙ ap (λ (y : List ℕ). f.lines ++ firsts m (lines_from k₁ y)) (sym (append_assoc s₁ t x));
          };
          replies = f.replies;
        }
so_far (used r) = so_far r
so_far nothing = feeds_none

-- ---- 81 bytes are enough to see of a line

-- a line over 80 bytes says no call, and neither does its front
first_81 : {limits : Bool} {l : List ℕ} {w w' : QueueWords} {t : List ℕ} → ReplyTo limits (take 81 l) w t w' → ReplyTo limits l w t w'
first_81 {limits} {l} R =
    record {
      asks = λ c x. R.asks c (subst (λ (y : List ℕ). Asks limits y c) (sym (take_all 81 l (omega (arith, x.says.short)))) x);
      bad = λ f. R.bad (λ c y. f c (subst (λ (z : List ℕ). Asks limits z c) (whole_line 81 l (omega (arith, y.says.short))) y));
    }

all_81 : {limits : Bool} (ls : List (List ℕ)) {w w' : QueueWords} {t : List ℕ} → Replies limits (firsts 81 ls) w t w' → Replies limits ls w t w'
all_81 [] none = none
all_81 (l ∷ ls) (reply x a) = reply (first_81 x) (all_81 ls a)

-- what `finish` of a program does: the last line is answered where there is room
pub closes_last : {limits : Bool} (l : List ℕ) {o o' : List ℕ} {w w' : QueueWords} {e : ℕ} {t : Bool} → t ≡ true → answer_room ≤ length o
    → LastClaim limits l w o w' o' e
    → Closes (LineAnswered limits) l w t w'
closes_last l i h C =
    record { closed = λ f. replies_along (last_replies l h C); broken = λ f. absurd (true≢false (sym i ∙ f)) }

-- "A program reads lines and answers each with one": with 81 bytes of room for a line, what is written is the answers to the lines of the input
pub all_answered : {limits : Bool} {cs : List (List ℕ)} {w w' : QueueWords} {v : List ℕ} → Serving limits 81 cs w v w'
    → Replies limits (lines_of (joined cs)) w v w'
all_answered {limits} {cs} {w} {w'} {v} S =
    let f = so_far S.fed in
    let e : firsts 81 (lines_of (joined cs)) ≡ f.lines ++ last S.kept =
    ap (λ (x : List ℕ). firsts 81 (lines_of x)) (sym (append-nil (joined cs)))
    ∙ f.passed.first []
    ∙ ap (λ (x : List (List ℕ)). f.lines ++ x) (input_ends 81 (omega arith) S.kept S.short)
    in
    let r = replies_more f.replies S.ended in
    all_81 (lines_of (joined cs))
    (subst (λ (t : List ℕ). Replies limits (firsts 81 (lines_of (joined cs))) w t w') (sym S.all)
    (subst (λ (ls : List (List ℕ)). Replies limits ls w (S.first ++ S.then) w') (sym e) r))

along_replies : {limits : Bool} {ls : List (List ℕ)} {w w' : QueueWords} → Along (LineAnswered limits) ls w w' → (v : List ℕ) × Replies limits ls w v w'
along_replies no_line = ([], none)
along_replies (more x r) = let y = along_replies r in (x.text ++ y.0, reply x.reply y.1)

-- the same of what a program's loop claims: where the input has ended, all of it was answered, whatever chunks it came in
pub ran_answers : {limits : Bool} {w w' : QueueWords} {n : ℕ} → ProgramRan (LineAnswered limits) 81 [] w n true w'
    → (cs : List (List ℕ)) × (v : List ℕ) × (length (joined cs) ≡ n) × Replies limits (lines_of (joined cs)) w v w'
ran_answers R =
    let x = ran_all (omega arith) R in
    let y = along_replies x.2 in
    (x.0, y.0, x.1, all_81 (lines_of (joined x.0)) y.1)
