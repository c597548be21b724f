-- A program's run over this crate: call by call, the last line, and that all of its input was done and what was written is its journal.
use mathlib.Core.Path.{◌≡◌, sym, ap, ◌∙◌, subst}
use mathlib.Core.Bool.{Bool, true}
use mathlib.Core.List.{List, [], ◌++◌}
use Prim.Native.Nat.{ℕ, ◌+◌, ◌≤◌, ◌<◌}
use native.Mathlib.Omega.{arith}
use lib.ListN.{length, take, drop, drop_of_length-le}
use lib.Seq.{length-take-le}
use Rattle.lines.specs.Lines.{lines_of, joined}
use Rattle.lines.specs.Passed.{Passed}
use Rattle.lines.specs.Running.{Along, none, more, Passes, Closes, ProgramRan}
use Rattle.lines.proofs.laws.Running.{passes_more, ran_all, closes_line, closes_none}
use Rattle.noting.specs.Line.{Desk, DeskRoom, done, full, LastClaim, none as no_last, some as some-last}
use Rattle.noting.specs.Feed.{Stand, FeedClaim}
use Rattle.noting.specs.Replies.{Held, Replies, none as no-reply, reply, LineAnswered}
use Rattle.noting.proofs.laws.NextLines.{feed_room, line_room}
use Rattle.noting.proofs.laws.Replies.{held_at, Adds, feed_answers, line_tells, Journaled, noted_journals, all_81}

replies_along : {ls : List (List ℕ)} {a b : Held} {t j : List ℕ} → Replies ls a t j b → Along LineAnswered ls a b
replies_along no-reply = none
replies_along (reply {t = t} {j = j} x r) = more (record { text = t; bytes = j; reply = x }) (replies_along r)

-- how many bytes were noted from the front on
added : {a b : Desk} {t j : List ℕ} → Adds a b t j → a.noted ≡ 0 → b.noted ≤ length b.notes → length j ≡ b.noted
added {a} {b} {j = j} A z h =
    let e : take b.noted b.notes ≡ j = A.notes ∙ ap (λ (i : ℕ). take i a.notes ++ j) z in
    ap (λ (l : List ℕ). length l) (sym e) ∙ length-take-le b.noted b.notes h

-- a call more, from where the calls before it came to, when the journal had z bytes; it has y where what is noted is kept
pub calls_more : {m : ℕ} {k s : List ℕ} {w : Held} {got : List ℕ} {a b : Stand} (z : ℕ) {y : ℕ} → 0 < m → length a.line ≡ m → a.desk.noted ≡ 0
    → a.desk.at ≡ 0 → Passes LineAnswered m k s w (take a.kept a.line) (drop a.next got) (held_at z a.desk) → FeedClaim got a b
    → y ≡ z + b.desk.noted
    → Passes LineAnswered m k s w (take b.kept b.line) (drop b.next got) (held_at y b.desk)
calls_more {m} {got = got} {a} {b} z {y} some e f g P F h =
    let x = feed_answers z (omega arith) F in
    let n : z + length x.bytes ≡ y = omega (arith, added x.adds f (feed_room F (omega arith, omega arith)).0, h) in
    let q = subst (λ (i : ℕ). Along LineAnswered x.lines (held_at z a.desk) (held_at i b.desk)) n (replies_along x.replies) in
    let from = take a.kept a.line in
    let to = take b.kept b.line in
    let p = subst (λ (i : ℕ). Passed i from (drop a.next got) x.lines to (drop b.next got)) e x.passed in
    passes_more P (record { lines = x.lines; passed = p; along = q })

-- the chunk is used up
pub calls_used : {m : ℕ} {k s k' : List ℕ} {w w' : Held} (got : List ℕ) {i : ℕ} → length got ≤ i → Passes LineAnswered m k s w k' (drop i got) w'
    → Passes LineAnswered m k s w k' [] w'
calls_used {m} {k} {s} {k'} {w} {w'} got h P = subst (λ (x : List ℕ). Passes LineAnswered m k s w k' x w') (drop_of_length-le got h) P

-- the end of the input: what was kept is the last line, if it is anything, and there is room
pub closes_last : (l : List ℕ) {a b : Desk} {d t : Bool} (z : ℕ) {y : ℕ} → t ≡ true → a.noted ≡ 0 → DeskRoom a → LastClaim l a d b
    → y ≡ z + b.noted
    → Closes LineAnswered l (held_at z a) t (held_at y b)
closes_last l {a} {t = t} z {y} e f r (no_last h) k =
    let n : z ≡ y = omega arith in
    subst (λ (i : ℕ). Closes LineAnswered l (held_at z a) t (held_at i a)) n (closes_none l h)
closes_last l {a} {b} {t = t} z {y} e f r (some-last h (done q C)) k =
    let x = line_tells z q C in
    let n : z + length x.bytes ≡ y = omega (arith, added x.adds f (line_room q C).0) in
    subst (λ (i : ℕ). Closes LineAnswered l (held_at z a) t (held_at i b)) n
    (closes_line l e h (record { text = x.text; bytes = x.bytes; reply = x.reply }))
closes_last l z e f r (some-last h (full g)) k = absurd (g r)

along_replies : {ls : List (List ℕ)} {a b : Held} → Along LineAnswered ls a b → (t : List ℕ) × (j : List ℕ) × Replies ls a t j b
along_replies none = ([], [], no-reply)
along_replies (more x r) = let y = along_replies r in (x.text ++ y.0, x.bytes ++ y.1, reply x.reply y.2)

-- what a program's loop claims says: where the input has ended, all of it was done, whatever chunks it came in
pub ran_replies : {a b : Held} {n : ℕ} → ProgramRan LineAnswered 81 [] a n true b
    → (cs : List (List ℕ)) × (t : List ℕ) × (J : List ℕ) × (length (joined cs) ≡ n) × Replies (lines_of (joined cs)) a t J b
ran_replies R =
    let x = ran_all (omega arith) R in
    let y = along_replies x.2 in
    (x.0, y.0, y.1, x.1, all_81 (lines_of (joined x.0)) y.2)

-- and what it has written to the journal is the journal of the steps of its lines, as long as it has grown
pub ran_journals : {a b : Held} {n : ℕ} → ProgramRan LineAnswered 81 [] a n true b
    → (cs : List (List ℕ)) × (J : List ℕ) × (length (joined cs) ≡ n) × Journaled (lines_of (joined cs)) a J b
ran_journals R = let x = ran_replies R in (x.0, x.2, x.3, noted_journals x.4)
