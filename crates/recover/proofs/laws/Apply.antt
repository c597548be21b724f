-- What is applied leaves one outcome, and there is one; chunk by chunk it is what the joined bytes make; and of what replay keeps it makes the store found.
use mathlib.Core.Path.{◌≡◌, refl, sym, ap, ◌∙◌, subst}
use mathlib.Core.Bool.{Bool}
use mathlib.Core.List.{List, [], ◌++◌, append_assoc, append-nil}
use Prim.Native.Nat.{ℕ, zero, suc, ◌+◌, ◌≤◌, ◌<◌}
use native.Mathlib.Omega.{arith}
use lib.ListN.{length, take, drop, length-drop}
use lib.Seq.{take-add, drop-drop, drop-append_seam, length-take-le}
use Rattle.std.proofs.Common.{Result, Ok, Err}
use Rattle.queue.specs.declared.Answer.{Answer}
use Rattle.records.specs.Words.{QueueWords}
use Rattle.promises.proofs.laws.OneCall.{call_once, call_met}
use Rattle.entries.specs.declared.Step.{Step}
use Rattle.entries.specs.declared.Step.TheVariants as S
use Rattle.entries.specs.declared.Ending.{Ending}
use Rattle.entries.specs.Reading as read
use Rattle.entries.proofs.laws.Reading.{next_cut}
use Rattle.entries.proofs.laws.Inverse.{next_size}
use Rattle.entries.proofs.laws.More.{next_more}
use Rattle.journal.specs.Journal.{Acts, asks}
use Rattle.journal.specs.Journal as J
use Rattle.recover.specs.Replay.{Found, size, Replays, stops, gets, inside, outside, ReplayClaim}
use Rattle.recover.specs.Apply.{Makes, asked, opened, closed, Applies, ends, step}
use Rattle.recover.proofs.laws.Once.{same_step, not_both}

-- ---- one outcome, and there is one

makes_once : {x : Step} {s t u : QueueWords} → Makes x s t → Makes x s u → t ≡ u
makes_once {s = s} {t} {u} (asked {c = c} a A) (asked b B) = (call_once c s a b t u A B).1
makes_once opened opened = refl
makes_once closed closed = refl

makes_met : (x : Step) (s : QueueWords) → (t : QueueWords) × Makes x s t
makes_met (S.Asks c) s = let m = call_met c s in (m.1, asked m.0 m.2)
makes_met S.Open s = (s, opened)
makes_met S.Close s = (s, closed)

pub applies_once : {l : List ℕ} {s t u : QueueWords} {m n : ℕ} → Applies l s m t → Applies l s n u → (m ≡ n) × (t ≡ u)
applies_once (ends h) (ends k) = (refl, refl)
applies_once (ends h) (step k M B) = absurd (not_both k h)
applies_once (step h N A) (ends k) = absurd (not_both h k)
applies_once {l} {s} {u = u} (step {x = x} h N A) (step {s₁ = v} {x = y} {n = n} k M B) =
    let e : y ≡ x = same_step k h in
    let M' : Makes x s v = subst (λ (w : Step). Makes w s v) e M in
    let B' : Applies (drop (size x) l) v n u = subst (λ (w : Step). Applies (drop (size w) l) v n u) e B in
    let o = applies_once A (subst (λ (w : QueueWords). Applies (drop (size x) l) w n u) (makes_once M' N) B') in
    (ap (λ (i : ℕ). size x + i) o.0 ∙ ap (λ (w : Step). size w + n) (sym e), o.1)

met : (k : ℕ) (l : List ℕ) → length l ≤ k → (s : QueueWords) → (n : ℕ) × (t : QueueWords) × Applies l s n t
met zero l h s = (0, s, ends (sym (next_cut l 0 (omega arith))))
met (suc k) l h s = by (λ (m : List ℕ) g r. met k m g r) (read.next l) refl
  where
    by : ((m : List ℕ) → length m ≤ k → (r : QueueWords) → (n : ℕ) × (t : QueueWords) × Applies m r n t) → (n : Result Step Ending) → read.next l ≡ n
        → (n : ℕ) × (t : QueueWords) × Applies l s n t
    by rec (Err e) q = (0, s, ends q)
    by rec (Ok x) q =
        let n = next_size l q in
        let m = makes_met x s in
        let r = rec (drop (size x) l) (omega (arith, n.0, length-drop (size x) l)) m.0 in
        (size x + r.0, r.1, step q m.1 r.2)

pub applies_met : (l : List ℕ) (s : QueueWords) → (n : ℕ) × (t : QueueWords) × Applies l s n t
applies_met l s = met (length l) l (omega arith) s

-- ---- chunk by chunk

pub applies_within : {l : List ℕ} {s t : QueueWords} {n : ℕ} → Applies l s n t → n ≤ length l
applies_within (ends h) = omega arith
applies_within {l} (step {x = x} h M A) = omega (arith, applies_within A, (next_size l h).1, length-drop (size x) l)

-- a step in front of what is applied
one_more : (c : List ℕ) {r : List ℕ} {s s₁ t : QueueWords} {x : Step} {n : ℕ} → read.next c ≡ Ok x → Makes x s s₁ → Applies r s₁ n t
    → Applies (take (size x) c ++ r) s (size x + n) t
one_more c {r} {s₁ = s₁} {t} {x} {n} h M A =
    let k = next_size c h in
    let f : drop (size x) (take (size x) c ++ r) ≡ r =
    ap (λ (j : ℕ). drop j (take (size x) c ++ r)) (sym (length-take-le (size x) c k.1)) ∙ drop-append_seam (take (size x) c) r
    in
    step (next_more c r h) M (subst (λ (m : List ℕ). Applies m s₁ n t) (sym f) A)

-- a part of a chunk that begins with a step
split_at : (k u : ℕ) (c d : List ℕ) → take (k + u) c ++ d ≡ take k c ++ (take u (drop k c) ++ d)
split_at k u c d = ap (λ (m : List ℕ). m ++ d) (take-add k u c) ∙ append_assoc (take k c) (take u (drop k c)) d

-- what was used of a chunk, and the next chunk behind it, are applied as one
pub applies_on : {c d : List ℕ} {s t w : QueueWords} {u v : ℕ} → Applies c s u t → Applies d t v w → Applies (take u c ++ d) s (u + v) w
applies_on {d = d} {s} {w = w} {v = v} (ends h) B = let e : v ≡ 0 + v = omega arith in subst (λ (i : ℕ). Applies d s i w) e B
applies_on {c} {d} {s} {w = w} {v = v} (step {x = x} {n = n} h M A) B =
    let e : size x + (n + v) ≡ size x + n + v = omega arith in
    subst (λ (z : List ℕ × ℕ). Applies z.0 s z.1 w) (λ i. (sym (split_at (size x) n c d) i, e i)) (one_more c h M (applies_on A B))

-- ---- of what replay keeps

acts_makes : {x : Step} {p p' : Bool} {s t : QueueWords} {a : Answer} → Acts p s x a p' t → Makes x s t
acts_makes {a = a} (asks A) = asked a A
acts_makes (J.opened f) = opened
acts_makes (J.open_twice f) = opened
acts_makes (J.closed f) = closed
acts_makes (J.not_open f) = closed

pub nothing_left : {s : QueueWords} → Applies [] s 0 s
nothing_left = ends (sym (next_cut [] 0 (omega arith)))

-- one step more, and one alone
front : (l : List ℕ) {s s₁ t : QueueWords} {x : Step} {v : ℕ} → read.next l ≡ Ok x → Makes x s s₁ → Applies (take v (drop (size x) l)) s₁ v t
    → Applies (take (size x + v) l) s (size x + v) t
front l {s} {t = t} {x} {v} h M A = subst (λ (m : List ℕ). Applies m s (size x + v) t) (sym (take-add (size x) v l)) (one_more l h M A)

alone : (l : List ℕ) {s s₁ : QueueWords} {x : Step} → read.next l ≡ Ok x → Makes x s s₁ → Applies (take (size x) l) s (size x) s₁
alone l {s} {s₁} {x} h M =
    let e : size x + 0 ≡ size x = omega arith in
    subst (λ (z : List ℕ × ℕ). Applies z.0 s z.1 s₁) (λ i. (append-nil (take (size x) l) i, e i)) (one_more l h M nothing_left)

-- nothing more is kept, or the steps up to there lead to the store found
data KeptUpTo (l : List ℕ) (at : ℕ) (s : QueueWords) (kept : ℕ) (t : QueueWords) (f : Found) : Type 0 where
  same : f.kept ≡ kept → f.store ≡ t → KeptUpTo l at s kept t f
  more : (u : ℕ) → f.kept ≡ at + u → Applies (take u l) s u f.store → KeptUpTo l at s kept t f

inside_kept : {l : List ℕ} {at : ℕ} {s s₁ : QueueWords} {kept : ℕ} {t : QueueWords} {f : Found} {x : Step} → read.next l ≡ Ok x → Makes x s s₁
    → KeptUpTo (drop (size x) l) (at + size x) s₁ kept t f → KeptUpTo l at s kept t f
inside_kept h M (same e g) = same e g
inside_kept {l} {at} {x = x} h M (more v e A) = more (size x + v) (omega (arith, e)) (front l h M A)

outside_kept : {l : List ℕ} {at : ℕ} {s s₁ : QueueWords} {kept : ℕ} {t : QueueWords} {f : Found} {x : Step} → read.next l ≡ Ok x → Makes x s s₁
    → KeptUpTo (drop (size x) l) (at + size x) s₁ (at + size x) s₁ f → KeptUpTo l at s kept t f
outside_kept {l} {s = s} {x = x} h M (same e g) = more (size x) e (subst (λ (w : QueueWords). Applies (take (size x) l) s (size x) w) (sym g) (alone l h M))
outside_kept {l} {at} {x = x} h M (more v e A) = more (size x + v) (omega (arith, e)) (front l h M A)

replays_kept : {l : List ℕ} {at : ℕ} {p : Bool} {s : QueueWords} {kept : ℕ} {t : QueueWords} {f : Found} → Replays l at p s kept t f
    → KeptUpTo l at s kept t f
replays_kept (stops h) = same refl refl
replays_kept (gets h A q u) = same refl refl
replays_kept (inside h A u R) = inside_kept h (acts_makes A) (replays_kept R)
replays_kept (outside h A u R) = outside_kept h (acts_makes A) (replays_kept R)

-- the steps of what is kept make the store found
pub replay_applies : {l : List ℕ} {s : QueueWords} {f : Found} → ReplayClaim l s f → Applies (take f.kept l) s f.kept f.store
replay_applies {l} {s} {f} C = by (replays_kept C)
  where
    by : KeptUpTo l 0 s 0 s f → Applies (take f.kept l) s f.kept f.store
    by (same e g) = subst (λ (z : ℕ × QueueWords). Applies (take z.0 l) s z.0 z.1) (λ i. (sym e i, sym g i)) nothing_left
    by (more u e A) = let g : u ≡ f.kept = omega (arith, e) in subst (λ (n : ℕ). Applies (take n l) s n f.store) g A

-- ---- the loop

-- what the bytes from `used` on make of s', all of them make of s
pub record Applying (l : List ℕ) (s s' : QueueWords) (used : ℕ) : Type 0 where
  pub then : (n : ℕ) (t : QueueWords) → Applies (drop used l) s' n t → Applies l s (used + n) t
  pub within : used ≤ length l

pub apply_start : (l : List ℕ) (s : QueueWords) → Applying l s s 0
apply_start l s = record { then = λ n t A. let e : n ≡ 0 + n = omega arith in subst (λ (i : ℕ). Applies l s i t) e A; within = omega arith }

module _ {l : List ℕ} {s s' : QueueWords} {used : ℕ} (I : Applying l s s' used) where
  pub apply_pass : {s'' : QueueWords} {x : Step} {k : ℕ} → read.next (drop used l) ≡ Ok x → Makes x s' s'' → k ≡ size x → Applying l s s'' (used + k)
  apply_pass {s''} {x} e M q =
      let n = next_size (drop used l) e in
      subst (λ (k : ℕ). Applying l s s'' (used + k)) (sym q)
      (record {
        then = λ m t A.
            subst (λ (i : ℕ). Applies l s i t) (omega arith)
            (I.then (size x + m) t (step e M (subst (λ (d : List ℕ). Applies d s'' m t) (sym (drop-drop (size x) used l)) A)));
        within = omega (arith, n.1, length-drop used l, I.within);
      })

  pub apply_ends : {e : Ending} → read.next (drop used l) ≡ Err e → Applies l s used s'
  apply_ends e = subst (λ (i : ℕ). Applies l s i s') (omega arith) (I.then 0 s' (ends e))

-- a step goes forth, and stays within
pub step_forth : (l : List ℕ) (at : ℕ) {x : Step} {k : ℕ} → read.next (drop at l) ≡ Ok x → k ≡ size x → (at < at + k) × (at + k ≤ length l)
step_forth l at e q = let n = next_size (drop at l) e in (omega (arith, n.0), omega (arith, n.0, n.1, length-drop at l))
