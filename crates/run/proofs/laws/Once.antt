-- A run is what its calls are one by one (`run_same`). Its claim leaves no choice, whatever it is lent (`run_once`), and can be met (`run_met`): by
-- `call_once` and `call_met` of each call, and because four words are those of one call at most.
use mathlib.Core.Path.{◌≡◌, refl, sym, ap, ap₂, ◌∙◌, subst}
use mathlib.Core.Logic.{by_cases}
use mathlib.Core.List.{List, [], ◌∷◌, ◌++◌, append_assoc, append-nil, List-discrete}
use Prim.Native.Nat.{ℕ, zero, suc, ◌+◌, ◌*◌, ◌≤◌, ◌<◌}
use native.Mathlib.Decide.{ℕ_discrete, dec_lt}
use native.Mathlib.Omega.{arith}
use lib.ListN.{length, take, drop, length-append, take-append-drop}
use lib.Seq.{drop-drop}
use Rattle.queue.specs.declared.Answer.{Answer}
use Rattle.queue.specs.Told.{told}
use Rattle.records.specs.Words.{QueueWords}
use Rattle.delay_queue.specs.declared.Call.{Call}
use Rattle.delay_queue.specs.Claims.{CallClaim}
use Rattle.promises.specs.Runs.{Asked, Runs, rest, next}
use Rattle.promises.proofs.laws.OneCall.{call_once, call_met}
use Rattle.run.specs.declared.Why.{Why}
use Rattle.run.specs.declared.Why.TheVariants as W
use Rattle.run.specs.Groups.{command_words, answer_words, Written}
use Rattle.run.specs.Run.{commands_of, answers_of, CommandsDone, next_four, StopsAt, RunClaim}
use Rattle.run.proofs.laws.Groups.{back, words_four, words_length, words_behind, words_one, words_is}
use Rattle.run.proofs.laws.Run.{answered_none, answered_next, commands_length}
use Rattle.run.proofs.laws.Ends.{goes_on, one_reason, run_all}

-- ---- as many commands are answered

-- the words from 4 n on are a command, where there are more than n
command_at : (l : List Asked) (p : List ℕ) (n : ℕ) → n < length l → (c : Call) × (take 4 (drop (4 * n) (commands_of l ++ p)) ≡ command_words c)
command_at [] p n h = absurd (omega arith)
command_at (x ∷ l) p zero h =
    (x.call, ap (λ (m : List ℕ). take 4 m) (append_assoc (command_words x.call) (commands_of l) p) ∙ words_four x.call (commands_of l ++ p))
command_at (x ∷ l) p (suc n) h =
    let r = command_at l p n (omega arith) in
    let w = command_words x.call ++ commands_of l ++ p in
    let k : 4 * suc n ≡ 4 + 4 * n = omega arith in
    let e : drop (4 * suc n) w ≡ drop (4 * n) (commands_of l ++ p)
    = ap (λ (j : ℕ). drop j w) k
    ∙ sym (drop-drop (4 * n) 4 w)
    ∙ ap (λ (m : List ℕ). drop (4 * n) (drop 4 m)) (append_assoc (command_words x.call) (commands_of l) p)
    ∙ ap (λ (m : List ℕ). drop (4 * n) m) (words_behind x.call (commands_of l ++ p)) in
    (r.0, ap (λ (m : List ℕ). take 4 m) e ∙ r.1)

module _ {s t u : QueueWords} {cs out p q : List ℕ} {m n : ℕ} {y z : Why} where
  not_fewer : RunClaim s cs out m y t p → RunClaim s cs out n z u q → m < n → ⊥
  not_fewer A B h =
      let b = B.answered in
      let r = command_at b.calls (drop (4 * n) cs) m (omega (arith, h, b.many)) in
      let e : next_four cs m ≡ command_words r.0 = ap (λ (l : List ℕ). next_four l m) b.read ∙ r.1 in
      goes_on cs m out y r.0 e (omega (arith, h, b.room)) A.stops

-- ---- and they are the same, and answered the same

same_calls : {s t u : QueueWords} {l m : List Asked} (p q : List ℕ) → Runs s l t → Runs s m u → length l ≡ length m → commands_of l ++ p ≡ commands_of m ++ q
    → (l ≡ m) × (t ≡ u)
same_calls p q rest rest e w = (refl, refl)
same_calls p q rest (next B R) e w = absurd (omega arith)
same_calls p q (next A R) rest e w = absurd (omega arith)
same_calls {u = u} p q (next {s} {t} {u = t₁} {x = x} {l = l} A R) (next {t = t₂} {x = y} {l = m} B Q) e w =
    let a = command_words x.call in
    let b = command_words y.call in
    let v : a ++ (commands_of l ++ p) ≡ b ++ (commands_of m ++ q) = sym (append_assoc a (commands_of l) p) ∙ w ∙ append_assoc b (commands_of m) q in
    let c : x.call ≡ y.call = words_one x.call y.call (commands_of l ++ p) (commands_of m ++ q) v in
    let d : commands_of l ++ p ≡ commands_of m ++ q
    = sym (words_behind x.call (commands_of l ++ p)) ∙ ap (λ (k : List ℕ). drop 4 k) v ∙ words_behind y.call (commands_of m ++ q) in
    let A' : CallClaim y.call s x.answer t = subst (λ (k : Call). CallClaim k s x.answer t) c A in
    let o = call_once y.call s x.answer y.answer t t₂ A' B in
    let r = same_calls p q R (subst (λ (z : QueueWords). Runs z m u) (sym o.1) Q) (omega arith) d in
    let same : x ≡ y = λ i. record { call = c i; answer = o.0 i } in
    (ap₂ (λ (z : Asked) (k : List Asked). z ∷ k) same r.0, r.1)

-- "with answers the same as one by one": whoever makes the calls of the commands that were answered one by one is left with the same store, and their
-- answers are those that were written
pub run_same : {s t u : QueueWords} {cs out o : List ℕ} {n : ℕ} {why : Why} {l : List Asked} → RunClaim s cs out n why t o → Runs s l u
    → commands_of l ≡ take (4 * n) cs → (u ≡ t) × (answers_of l ++ drop (6 * n) out ≡ o)
run_same {cs = cs} {out} {n = n} {l = l} A R w =
    let a = A.answered in
    let b = drop (4 * n) cs in
    let e : commands_of l ++ b ≡ commands_of a.calls ++ b = ap (λ (k : List ℕ). k ++ b) w ∙ take-append-drop (4 * n) cs ∙ a.read in
    let k : length l ≡ length a.calls
    = omega (
      arith,
      commands_length l,
      commands_length a.calls,
      length-append (commands_of l) b,
      length-append (commands_of a.calls) b,
      ap (λ (m : List ℕ). length m) e,
    ) in
    let r = same_calls b b R a.runs k e in
    (r.1, ap (λ (m : List Asked). answers_of m ++ drop (6 * n) out) r.0 ∙ sym a.wrote)

-- two outcomes that both keep the claim are the same
pub run_once : {s t u : QueueWords} {cs out p q : List ℕ} {m n : ℕ} {y z : Why} → RunClaim s cs out m y t p → RunClaim s cs out n z u q
    → (m ≡ n) × (y ≡ z) × (t ≡ u) × (p ≡ q)
run_once {cs = cs} {out} {m = m} {n} {y} {z} A B =
    let a = A.answered in
    let b = B.answered in
    let e : m ≡ n
    = by_cases (dec_lt m n) (λ h. absurd (not_fewer A B h)) (λ h. by_cases (dec_lt n m) (λ k. absurd (not_fewer B A k)) (λ k. omega arith)) in
    let w = one_reason cs out n y z (subst (λ (k : ℕ). StopsAt cs out k y) e A.stops) B.stops in
    let r = same_calls (drop (4 * m) cs) (drop (4 * n) cs) a.runs b.runs (a.many ∙ e ∙ sym b.many) (sym a.read ∙ b.read) in
    (e, w, r.1, a.wrote ∙ ap₂ (λ (l : List Asked) (k : ℕ). answers_of l ++ drop (6 * k) out) r.0 e ∙ sym b.wrote)

-- ---- such an outcome there is

abbrev Outcome : QueueWords → List ℕ → List ℕ → Type 0
Outcome s cs out = (n : ℕ) × (why : Why) × (t : QueueWords) × (o : List ℕ) × RunClaim s cs out n why t o

module _ {s t : QueueWords} {cs out o : List ℕ} {i : ℕ} (A : CommandsDone s cs out i t o) where
  stopped : (why : Why) → StopsAt cs out i why → Outcome s cs out
  stopped why S = (i, why, t, o, record { answered = A; stops = S })

  -- one command more, with the answer that its claim has
  one_more : (c : Call) → next_four cs i ≡ command_words c → 6 * i + 6 ≤ length out → (u : QueueWords) × (o' : List ℕ) × CommandsDone s cs out (i + 1) u o'
  unfolding Written
  one_more c e h =
      let m = call_met c t in
      (m.1, take (6 * i) o ++ answer_words (told m.0) ++ drop (6 * i + 6) o, answered_next A c m.0 e m.2 refl h)

  -- it stops here, or the next command is answered
  step : (((u : QueueWords) × (o' : List ℕ) × CommandsDone s cs out (i + 1) u o') → 6 * i + 6 ≤ length out → Outcome s cs out) → Outcome s cs out
  step f =
      let g = next_four cs i in
      by_cases (dec_lt (length cs) (4 * i + 4))
      (λ h. stopped W.NoWords h)
      (λ h.
      by_cases (List-discrete ℕ_discrete g (command_words (back g)))
      (λ e.
      by_cases (dec_lt (length out) (6 * i + 6))
      (λ k. stopped W.NoRoom (k, (back g, e)))
      (λ k. f (one_more (back g) e (omega arith)) (omega arith)))
      (λ d. stopped W.NoCommand (omega arith, λ c e. d (e ∙ ap command_words (sym (words_is c e))))))

from : (k : ℕ) {s t : QueueWords} {cs out o : List ℕ} {i : ℕ} → CommandsDone s cs out i t o → length out ≤ 6 * (i + k) → Outcome s cs out
from zero A f = step A (λ r h. absurd (omega (arith, f, h)))
from (suc k) A f = step A (λ r h. from k r.2 (omega (arith, f)))

-- whatever is lent
pub run_met : (s : QueueWords) (cs out : List ℕ)
    → (n : ℕ) × (why : Why) × (t : QueueWords) × (o : List ℕ) × RunClaim s cs out n why t o
run_met s cs out = from (length out) answered_none (omega arith)

-- a run of one command is its call, with the words of its answer at the front
pub one_run : {s t : QueueWords} {out o : List ℕ} {n : ℕ} {why : Why} (c : Call) → RunClaim s (command_words c) out n why t o → 6 ≤ length out
    → (a : Answer) × CallClaim c s a t × (o ≡ answer_words (told a) ++ drop 6 out)
one_run {s} {t} {out} {o} {n} {why} c A h =
    let m = call_met c s in
    let x : Asked = record { call = c; answer = m.0 } in
    let R : Runs s (x ∷ []) m.1 = next m.2 rest in
    let e = words_length c in
    let four : take 4 (command_words c) ≡ command_words c
    = ap (λ (l : List ℕ). take 4 l) (sym (append-nil (command_words c))) ∙ words_four c [] in
    let q = run_all A (λ i k. let z : i ≡ 0 = omega (arith, e, k) in (c, ap (λ (j : ℕ). next_four (command_words c) j) z ∙ four)) (omega (arith, e, h)) in
    let k : n ≡ 1 = omega (arith, q.0, e) in
    let w : commands_of (x ∷ []) ≡ take (4 * n) (command_words c)
    = append-nil (command_words c) ∙ sym four ∙ ap (λ (j : ℕ). take (4 * j) (command_words c)) (sym k) in
    let u = run_same A R w in
    let front = ap₂ (λ (p q : List ℕ). p ++ q) (append-nil (answer_words (told m.0))) (ap (λ (j : ℕ). drop (6 * j) out) k) in
    (m.0, subst (λ (z : QueueWords). CallClaim c s m.0 z) u.0 m.2, sym u.1 ∙ front)
