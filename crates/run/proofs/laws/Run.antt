-- What `answer_all` cites: nothing is answered yet (`answered_none`), one command more is (`answered_more`), and why it stops.
use mathlib.Core.Path.{◌≡◌, refl, sym, ap, ap₂, ◌∙◌, subst}
use mathlib.Core.Bool.{Bool}
use mathlib.Core.List.{List, [], ◌∷◌, ◌++◌, append_assoc, append-nil}
use Prim.Native.Nat.{ℕ, suc, ◌+◌, ◌*◌, ◌/◌, ◌≤◌, ◌<◌}
use native.Mathlib.Omega.{arith}
use lib.ListN.{length, get_or, take, drop, length-append, take-append-drop}
use lib.Seq.{take_at, drop-append-add, drop-drop, drop-cons}
use Rattle.places.specs.declared.Tops.{Tops}
use Rattle.queue.specs.declared.Answer.{Answer}
use Rattle.queue.specs.Told.{told}
use Rattle.records.specs.Words.{QueueWords}
use Rattle.records.proofs.laws.Lent.{place_words_of, stacked_same}
use Rattle.delay_queue.specs.declared.Call.{Call}
use Rattle.delay_queue.specs.Claims.{CallClaim}
use Rattle.promises.specs.Runs.{Asked, Runs, rest, next}
use Rattle.std.specs.Prelude.{Option, Some, None}
use Rattle.run.specs.declared.Why.{Why}
use Rattle.run.specs.declared.Why.TheVariants as W
use Rattle.run.specs.Groups.{command_words, answer_words, GroupIs, Written}
use Rattle.run.specs.Run.{Knows, commands_of, answers_of, CommandsDone, RunClaim}
use Rattle.run.proofs.laws.Groups.{words_length, answer_length}

-- ---- one call behind the others

runs_more : {s t u : QueueWords} {l : List Asked} (x : Asked) → Runs s l t → CallClaim x.call t x.answer u → Runs s (l ++ x ∷ []) u
runs_more x rest A = next A rest
runs_more x (next B R) A = next B (runs_more x R A)

commands_more : (l : List Asked) (x : Asked) → commands_of (l ++ x ∷ []) ≡ commands_of l ++ command_words x.call
commands_more [] x = append-nil (command_words x.call)
commands_more (y ∷ l) x =
    ap (λ (m : List ℕ). command_words y.call ++ m) (commands_more l x)
    ∙ sym (append_assoc (command_words y.call) (commands_of l) (command_words x.call))

answers_more : (l : List Asked) (x : Asked) → answers_of (l ++ x ∷ []) ≡ answers_of l ++ answer_words (told x.answer)
answers_more [] x = append-nil (answer_words (told x.answer))
answers_more (y ∷ l) x =
    ap (λ (m : List ℕ). answer_words (told y.answer) ++ m) (answers_more l x)
    ∙ sym (append_assoc (answer_words (told y.answer)) (answers_of l) (answer_words (told x.answer)))

pub commands_length : (l : List Asked) → length (commands_of l) ≡ 4 * length l
commands_length [] = refl
commands_length (x ∷ l) =
    let e = length-append (command_words x.call) (commands_of l) in
    omega (arith, e, words_length x.call, commands_length l)

pub answers_length : (l : List Asked) → length (answers_of l) ≡ 6 * length l
answers_length [] = refl
answers_length (x ∷ l) =
    let e = length-append (answer_words (told x.answer)) (answers_of l) in
    omega (arith, e, answer_length (told x.answer), answers_length l)

-- ---- four words

abbrev pub four_at : List ℕ → ℕ → List ℕ
four_at cs k = get_or cs k 0 ∷ get_or cs (k + 1) 0 ∷ get_or cs (k + 2) 0 ∷ get_or cs (k + 3) 0 ∷ []

from_here : (cs : List ℕ) (k j : ℕ) → j ≡ suc k → k < length cs → drop k cs ≡ get_or cs k 0 ∷ drop j cs
from_here cs k j e h = drop-cons cs k 0 h ∙ ap (λ (i : ℕ). get_or cs k 0 ∷ drop i cs) (sym e)

four_words : (cs : List ℕ) (k : ℕ) → k + 4 ≤ length cs → four_at cs k ≡ take 4 (drop k cs)
four_words cs k h =
    let a = from_here cs k (k + 1) (omega arith) (omega (arith, h)) in
    let b = from_here cs (k + 1) (k + 2) (omega arith) (omega (arith, h)) in
    let c = from_here cs (k + 2) (k + 3) (omega arith) (omega (arith, h)) in
    let d = from_here cs (k + 3) (k + 4) (omega arith) (omega (arith, h)) in
    rw (a, b, c, d) refl

-- ---- the loop

pub answered_none : {s : QueueWords} {cs out : List ℕ} → CommandsDone s cs out 0 s out
answered_none = record { calls = []; many = refl; runs = rest; read = refl; wrote = refl; room = omega arith }

-- the words from 4 i on are those of c, and what is behind
read_more : (cs : List ℕ) (i : ℕ) (c : Call) → take 4 (drop (4 * i) cs) ≡ command_words c
    → drop (4 * i) cs ≡ command_words c ++ drop (4 * (i + 1)) cs
read_more cs i c e =
    let n : 4 * i + 4 ≡ 4 * (i + 1) = omega arith in
    sym (take-append-drop 4 (drop (4 * i) cs)) ∙ ap₂ (λ (l m : List ℕ). l ++ m) e (drop-drop 4 (4 * i) cs ∙ ap (λ (j : ℕ). drop j cs) n)

module _ {s t : QueueWords} {cs out out₁ : List ℕ} {i : ℕ} (A : CommandsDone s cs out i t out₁) where
  written_length : length (answers_of A.calls) ≡ 6 * i
  written_length = answers_length A.calls ∙ ap (λ (n : ℕ). 6 * n) A.many

  front : take (6 * i) out₁ ≡ answers_of A.calls
  front = ap (λ (l : List ℕ). take (6 * i) l) A.wrote ∙ take_at (answers_of A.calls) (drop (6 * i) out) (6 * i) written_length

  behind : drop (6 * i + 6) out₁ ≡ drop (6 * (i + 1)) out
  behind =
      let n : 6 * i + 6 ≡ 6 * (i + 1) = omega arith in
      ap (λ (l : List ℕ). drop (6 * i + 6) l) A.wrote
      ∙ ap (λ (j : ℕ). drop (j + 6) (answers_of A.calls ++ drop (6 * i) out)) (sym written_length)
      ∙ drop-append-add (answers_of A.calls) (drop (6 * i) out) 6
      ∙ drop-drop 6 (6 * i) out
      ∙ ap (λ (j : ℕ). drop j out) n

  -- the next command is done and answered
  pub answered_next : {u : QueueWords} {out₂ : List ℕ} (c : Call) (a : Answer) → take 4 (drop (4 * i) cs) ≡ command_words c → CallClaim c t a u
      → Written (6 * i) (answer_words (told a)) out₁ out₂ → 6 * i + 6 ≤ length out → CommandsDone s cs out (i + 1) u out₂
  unfolding Written
  answered_next c a e C W h =
      let x : Asked = record { call = c; answer = a } in
      let l = A.calls in
      record {
        calls = l ++ x ∷ [];
        many = length-append l (x ∷ []) ∙ ap (λ (n : ℕ). n + 1) A.many;
        runs = runs_more x A.runs C;
        read = A.read
            ∙ ap (λ (m : List ℕ). commands_of l ++ m) (read_more cs i c e)
            ∙ sym (append_assoc (commands_of l) (command_words c) (drop (4 * (i + 1)) cs))
            ∙ ap (λ (m : List ℕ). m ++ drop (4 * (i + 1)) cs) (sym (commands_more l x));
        wrote = W
            ∙ ap₂ (λ (m n : List ℕ). m ++ answer_words (told a) ++ n) front behind
            ∙ ap (λ (m : List ℕ). m ++ drop (6 * (i + 1)) out) (sym (answers_more l x));
        room = omega (arith, h);
      }

  -- as the loop knows it
  pub answered_more : {u : QueueWords} {out₂ : List ℕ} {c : Call} {a : Answer} {b : Bool} {r : Option Call} → 4 * i + 4 ≤ length cs
      → GroupIs (four_at cs (4 * i)) r → r ≡ Some c → Knows c t a u b → Written (6 * i) (answer_words (told a)) out₁ out₂ → 6 * i + 6 ≤ length out
      → CommandsDone s cs out (i + 1) u out₂
  answered_more {c = c} {a = a} four I g K W h = answered_next c a (sym (four_words cs (4 * i) four) ∙ I.asks c g) K.does W h

-- ---- why it stops

module _ {s t : QueueWords} {cs out out₁ : List ℕ} {i : ℕ} (A : CommandsDone s cs out i t out₁) where
  -- no four words are left
  pub stops_short : {many : ℕ} → many ≡ length cs / 4 → many ≤ i → RunClaim s cs out i W.NoWords t out₁
  stops_short m h = record { answered = A; stops = omega (arith, m, h) }

  module _ {r : Option Call} (four : 4 * i + 4 ≤ length cs) (I : GroupIs (four_at cs (4 * i)) r) where
    -- the next four are no command
    pub stops_there : r ≡ None → RunClaim s cs out i W.NoCommand t out₁
    stops_there g = record { answered = A; stops = (four, λ c e. I.not g c (four_words cs (4 * i) four ∙ e)) }

    -- they are one, and there is no room for six
    pub stops_full : {c : Call} → r ≡ Some c → length out < 6 * i + 6 → RunClaim s cs out i W.NoRoom t out₁
    stops_full {c} g h = record { answered = A; stops = (h, (c, sym (four_words cs (4 * i) four) ∙ I.asks c g)) }

-- ---- stacks that are lent

pub run_lent : {s s' : QueueWords} {cs out out' : List ℕ} {n : ℕ} {why : Why} {st : Tops} → st ≡ s.wheel.places.tops
    → RunClaim (place_words_of st s) cs out n why s' out' → RunClaim s cs out n why s' out'
run_lent {s' = s'} {cs} {out} {out'} {n} {why} q R = subst (λ s. RunClaim s cs out n why s' out') (stacked_same q) R
