-- What stands in the two slices after lines: their answers, and what they write to the journal, which is the journal of their steps.
use mathlib.Core.Path.{◌≡◌, refl, sym, ap, ap₂, ◌∙◌, subst}
use mathlib.Core.List.{List, [], ◌∷◌, ◌++◌, map, append-nil, append_assoc}
use Prim.Native.Nat.{ℕ, ◌+◌, ◌<◌}
use native.Mathlib.Omega.{arith}
use lib.ListN.{length, take, drop, length-append}
use Rattle.queue.specs.declared.Answer.{Answer}
use Rattle.queue.specs.Told.{told}
use Rattle.answering.specs.Text.{word, shown, ending, Written}
use Rattle.answering.proofs.laws.Answering.{at_most_114, one_written}
use Rattle.lines.specs.Lines.{firsts}
use Rattle.lines.specs.Passed.{Passed}
use Rattle.lines.proofs.laws.Passed.{passed_none, passed_more, passed_line, passed_end}
use Rattle.feed.proofs.laws.Wrote.{put_wrote, some_bytes, bad_4}
use Rattle.entries.specs.declared.Step.{Step}
use Rattle.journal.specs.Journal.{Acts, written, Noted, Journals, rest, next}
use Rattle.journal.proofs.laws.Once.{acts_once}
use Rattle.noting.specs.Means.{Meant, none as nothing-meant, step as also-step, passed}
use Rattle.noting.specs.Line.{Desk, DeskRoom, does, LineClaim, step as did, bad as was-bad}
use Rattle.noting.specs.Feed.{Stand, NextLine, answered, goes_on, FeedClaim, stops, lines_on}
use Rattle.noting.specs.Replies.{Held, held, ReplyTo, step, bad, Replies, none, reply}
use Rattle.noting.proofs.laws.Means.{one_step, step_fits, first_means, first_bad}

-- ---- lines behind lines

pub replies_more : {ls ms : List (List ℕ)} {a b c : Held} {t u j k : List ℕ} → Replies ls a t j b → Replies ms b u k c
    → Replies (ls ++ ms) a (t ++ u) (j ++ k) c
replies_more none r = r
replies_more {ms = ms} {a = a} {c = c} {u = u} {k = k} (reply {l = l} {ls = ls} {t = t} {u = v} {j = j} {k = i} x q) r =
    subst (λ (y : List ℕ). Replies (l ∷ ls ++ ms) a y ((j ++ i) ++ k) c) (sym (append_assoc t v u))
    (subst (λ (y : List ℕ). Replies (l ∷ ls ++ ms) a (t ++ (v ++ u)) y c) (sym (append_assoc j i k)) (reply x (replies_more q r)))

pub one_reply : {l : List ℕ} {a b : Held} {t j : List ℕ} → ReplyTo l a t j b → Replies (l ∷ []) a t j b
one_reply {l} {a} {b} {t} {j} x =
    subst (λ (y : List ℕ). Replies (l ∷ []) a y j b) (append-nil t)
    (subst (λ (y : List ℕ). Replies (l ∷ []) a (t ++ []) y b) (append-nil j) (reply x none))

-- ---- one line in the two slices

-- where the journal has z bytes before what is noted
abbrev pub held_at : ℕ → Desk → Held
held_at z a = held a.patch a.store z

-- behind what stood there before stand the answers t and the bytes j
pub record Adds (a b : Desk) (t j : List ℕ) : Type 0 where
  pub answers : take b.at b.out ≡ take a.at a.out ++ t
  pub notes : take b.noted b.notes ≡ take a.noted a.notes ++ j

pub record LineTells (l : List ℕ) (z : ℕ) (a b : Desk) : Type 0 where
  pub text : List ℕ
  pub bytes : List ℕ
  pub reply : ReplyTo l (held_at z a) text bytes (held_at (z + length bytes) b)
  pub adds : Adds a b text bytes

pub line_tells : {l : List ℕ} {a b : Desk} (z : ℕ) → DeskRoom a → LineClaim l a b → LineTells l z a b
line_tells {a = a} z r (did {x = x} m (does {y = y} A W C)) =
    let p = put_wrote C (some_bytes C.written) (at_most_114 y C.written) r.1 in
    record {
      text = C.line;
      bytes = written x (told y);
      reply = step m A C.written;
      adds = record { answers = p.whole ∙ ap (λ (t : List ℕ). take a.at a.out ++ t) p.text; notes = W.text };
    }
line_tells {l} {a} z r (was-bad f C) =
    let p = put_wrote C (some_bytes C.written) (bad_4 C.written) r.1 in
    let e : z ≡ z + 0 = omega arith in
    record {
      text = C.line;
      bytes = [];
      reply = subst (λ (n : ℕ). ReplyTo l (held_at z a) C.line [] (held_at n a)) e (bad f C.written);
      adds = record {
        answers = p.whole ∙ ap (λ (t : List ℕ). take a.at a.out ++ t) p.text;
        notes = sym (append-nil (take a.noted a.notes));
      };
    }

-- ---- a call of `answer_lines`

-- from a to b the lines that ended were answered with text and wrote bytes, and both stand in the slices
pub record Answers (m z : ℕ) (got : List ℕ) (a b : Stand) : Type 0 where
  pub lines : List (List ℕ)
  pub text : List ℕ
  pub bytes : List ℕ
  pub passed : Passed m (take a.kept a.line) (drop a.next got) lines (take b.kept b.line) (drop b.next got)
  pub replies : Replies lines (held_at z a.desk) text bytes (held_at (z + length bytes) b.desk)
  pub adds : Adds a.desk b.desk text bytes

module _ {got : List ℕ} where
  stays : {m z : ℕ} {a b : Stand} → b.desk ≡ a.desk
      → Passed m (take a.kept a.line) (drop a.next got) [] (take b.kept b.line) (drop b.next got)
      → Answers m z got a b
  stays {z = z} {a} {b} e p =
      let h : held a.desk.patch a.desk.store z ≡ held_at (z + 0) b.desk =
      ap₂ (λ (d : Desk) (n : ℕ). held_at n d) (sym e) (omega arith)
      in
      record {
        lines = [];
        text = [];
        bytes = [];
        passed = p;
        replies = subst (λ (x : Held). Replies [] (held_at z a.desk) [] [] x) h none;
        adds = record {
          answers = ap (λ (d : Desk). take d.at d.out) e ∙ sym (append-nil (take a.desk.at a.desk.out));
          notes = ap (λ (d : Desk). take d.noted d.notes) e ∙ sym (append-nil (take a.desk.noted a.desk.notes));
        };
      }

  next_answers : {a b : Stand} (z : ℕ) → 0 < length a.line → DeskRoom a.desk → NextLine got a b → Answers (length a.line) z got a b
  next_answers z some r (answered {k = k} {l = l} T C) =
      let x = line_tells z r C in
      record {
        lines = take k l ∷ [];
        text = x.text;
        bytes = x.bytes;
        passed = passed_line some T;
        replies = one_reply x.reply;
        adds = x.adds;
      }
  next_answers z some r (goes_on T) = stays refl (passed_end some T)

  next_size : {a b : Stand} → NextLine got a b → length b.line ≡ length a.line
  next_size (answered T C) = T.size
  next_size (goes_on T) = T.size

  answers_more : {m z : ℕ} {a b c : Stand} (x : Answers m z got a b) → Answers m (z + length x.bytes) got b c → Answers m z got a c
  answers_more {m} {z} {a} {b} {c} x y =
      let n : z + length x.bytes + length y.bytes ≡ z + length (x.bytes ++ y.bytes) = omega (arith, length-append x.bytes y.bytes) in
      record {
        lines = x.lines ++ y.lines;
        text = x.text ++ y.text;
        bytes = x.bytes ++ y.bytes;
        passed = passed_more x.passed y.passed;
        replies = subst (λ (k : ℕ). Replies (x.lines ++ y.lines) (held_at z a.desk) (x.text ++ y.text) (x.bytes ++ y.bytes) (held_at k c.desk)) n
            (replies_more x.replies y.replies);
        adds = record {
          answers = y.adds.answers
              ∙ ap (λ (t : List ℕ). t ++ y.text) x.adds.answers
              ∙ append_assoc (take a.desk.at a.desk.out) x.text y.text;
          notes = y.adds.notes
              ∙ ap (λ (t : List ℕ). t ++ y.bytes) x.adds.notes
              ∙ append_assoc (take a.desk.noted a.desk.notes) x.bytes y.bytes;
        };
      }

  -- no line is passed over, and none is done twice
  pub feed_answers : {a b : Stand} (z : ℕ) → 0 < length a.line → FeedClaim got a b → Answers (length a.line) z got a b
  feed_answers z some (stops h) = stays refl passed_none
  feed_answers {b = c} z some (lines_on {b = b} g t f) =
      let x = next_answers z some g.1 t in
      let e = next_size t in
      let n = z + length x.bytes in
      answers_more x (subst (λ (m : ℕ). Answers m n got b c) e (feed_answers n (omega (arith, e)) f))

  -- a call from the front of both: what stands there is the answers to the lines, and what they write to the journal
  pub call_replies : {a b : Stand} (z : ℕ) → 0 < length a.line → a.desk.at ≡ 0 → a.desk.noted ≡ 0 → FeedClaim got a b
      → (ls : List (List ℕ))
      × Passed (length a.line) (take a.kept a.line) (drop a.next got) ls (take b.kept b.line) (drop b.next got)
      × Replies ls (held_at z a.desk) (take b.desk.at b.desk.out) (take b.desk.noted b.desk.notes)
      (held_at (z + length (take b.desk.noted b.desk.notes)) b.desk)
  call_replies {a} {b} z some h k F =
      let x = feed_answers z some F in
      let d = b.desk in
      let answered = take d.at d.out in
      let noted = take d.noted d.notes in
      let t : x.text ≡ answered = sym (x.adds.answers ∙ ap (λ (i : ℕ). take i a.desk.out ++ x.text) h) in
      let j : x.bytes ≡ noted = sym (x.adds.notes ∙ ap (λ (i : ℕ). take i a.desk.notes ++ x.bytes) k) in
      let r : Replies x.lines (held_at z a.desk) x.text noted (held_at (z + length noted) d) =
      subst (λ (u : List ℕ). Replies x.lines (held_at z a.desk) x.text u (held_at (z + length u) d)) j x.replies
      in
      (x.lines, x.passed, subst (λ (u : List ℕ). Replies x.lines (held_at z a.desk) u noted (held_at (z + length noted) d)) t r)

-- ---- the journal of lines

-- J is the journal of the steps that the lines say, bad lines left out, and makes the journal of a that of b
pub record Journaled (ls : List (List ℕ)) (a : Held) (J : List ℕ) (b : Held) : Type 0 where
  pub noted : List Noted
  pub meant : Meant ls (map (λ (x : Noted). x.step) noted)
  pub journals : Journals a.patch a.store noted J b.patch b.store
  pub size : b.size ≡ a.size + length J

pub noted_journals : {ls : List (List ℕ)} {a b : Held} {t J : List ℕ} → Replies ls a t J b → Journaled ls a J b
noted_journals none = record { noted = []; meant = nothing-meant; journals = rest; size = omega arith }
noted_journals {a = a} (reply {k = k} (step {x = x} {y = y} m A W) r) =
    let q = noted_journals r in
    record {
      noted = record { step = x; answer = y } ∷ q.noted;
      meant = also-step m q.meant;
      journals = next (step_fits m) A q.journals;
      size = omega (arith, q.size, length-append (written x (told y)) k);
    }
noted_journals (reply (bad f W) r) =
    let q = noted_journals r in
    record { noted = q.noted; meant = passed f q.meant; journals = q.journals; size = q.size }

-- ---- one outcome

reply_once : {l : List ℕ} {a b c : Held} {t u j k : List ℕ} → ReplyTo l a t j b → ReplyTo l a u k c → (t ≡ u) × (j ≡ k) × (b ≡ c)
reply_once {a = a} {t = t} (step {x = x} {y = y} {p = p} {s = s} m A W) (step {x = x'} {y = z} {p = q} {s = r} n B W') =
    let e : x' ≡ x = one_step n m in
    let f = acts_once A (subst (λ (i : Step). Acts a.patch a.store i z q r) e B) in
    let w : Written (word z) (shown z) (ending z) t = subst (λ (i : Answer). Written (word i) (shown i) (ending i) t) f.0 W in
    let j : written x (told y) ≡ written x' (told z) = ap₂ (λ (i : Step) (v : Answer). written i (told v)) (sym e) f.0 in
    (one_written w W', j, λ i. held (f.1 i) (f.2 i) (a.size + length (j i)))
reply_once (step m A W) (bad f W') = absurd (f _ m)
reply_once (bad f W) (step m A W') = absurd (f _ m)
reply_once (bad f W) (bad g W') = (one_written W W', refl, refl)

-- what lines are answered with, what they write to the journal and what is left
pub replies_once : {ls : List (List ℕ)} {a b c : Held} {t u j k : List ℕ} → Replies ls a t j b → Replies ls a u k c → (t ≡ u) × (j ≡ k) × (b ≡ c)
replies_once none none = (refl, refl, refl)
replies_once {c = c} (reply {ls = ls} x q) (reply {u = u} {k = k} y r) =
    let e = reply_once x y in
    let f = replies_once q (subst (λ (h : Held). Replies ls h u k c) (sym e.2) r) in
    (ap₂ (λ (p q : List ℕ). p ++ q) e.0 f.0, ap₂ (λ (p q : List ℕ). p ++ q) e.1 f.1, f.2)

-- ---- 81 bytes are enough to see of a line

first_81 : {l : List ℕ} {a b : Held} {t j : List ℕ} → ReplyTo (take 81 l) a t j b → ReplyTo l a t j b
first_81 (step m A W) = step (first_means m) A W
first_81 (bad f W) = bad (first_bad f) W

pub all_81 : (ls : List (List ℕ)) {a b : Held} {t j : List ℕ} → Replies (firsts 81 ls) a t j b → Replies ls a t j b
all_81 [] none = none
all_81 (l ∷ ls) (reply x r) = reply (first_81 x) (all_81 ls r)
