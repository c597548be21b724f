-- The claim of `replay` leaves one outcome, whatever the bytes and the store, and there is one.
use mathlib.Core.Path.{◌≡◌, refl, sym, ap, ◌∙◌, subst}
use mathlib.Core.Bool.{Bool, true, false, true≢false, false≢true}
use mathlib.Core.List.{List}
use Prim.Native.Nat.{ℕ, zero, suc, ◌+◌, ◌≤◌}
use native.Mathlib.Omega.{arith}
use lib.ListN.{length, drop, length-drop}
use Rattle.std.proofs.Common.{Result, Ok, Err}
use Rattle.queue.specs.declared.Answer.{Answer}
use Rattle.queue.specs.Told.{told}
use Rattle.queue.specs.Told as T
use Rattle.records.specs.Words.{QueueWords}
use Rattle.entries.specs.declared.Step.{Step}
use Rattle.entries.specs.declared.Ending.{Ending}
use Rattle.entries.specs.declared.Ending.TheVariants as E
use Rattle.entries.specs.Reading as read
use Rattle.entries.proofs.laws.Reading.{next_cut}
use Rattle.entries.proofs.laws.Inverse.{next_size}
use Rattle.journal.specs.Journal.{Acts, unwritten}
use Rattle.journal.proofs.laws.Once.{acts_once, acts_met, unwritten_no}
use Rattle.recover.specs.Replay.{Found, found, size, Replays, stops, gets, inside, outside, ReplayClaim}

-- ---- one outcome

pub same_step : {n : Result Step Ending} {x y : Step} → n ≡ Ok x → n ≡ Ok y → x ≡ y
same_step p q = let e = sym p ∙ q in cc

pub same_end : {n : Result Step Ending} {d e : Ending} → n ≡ Err d → n ≡ Err e → d ≡ e
same_end p q = let e = sym p ∙ q in cc

pub not_both : {n : Result Step Ending} {x : Step} {e : Ending} → n ≡ Ok x → n ≡ Err e → ⊥
not_both p q = let e = sym p ∙ q in let z : ◌≡◌ {A = ℕ} 0 1 = cc in omega arith

-- the same bytes ask the same step, and it does the same
record Same (x y : Step) (a b : Answer) (q r : Bool) (t u : QueueWords) : Type 0 where
  step : y ≡ x
  answer : b ≡ a
  patch : r ≡ q
  store : u ≡ t

same : {n : Result Step Ending} {p q r : Bool} {s t u : QueueWords} {x y : Step} {a b : Answer} → n ≡ Ok x → n ≡ Ok y → Acts p s x a q t
    → Acts p s y b r u → Same x y a b q r t u
same {p = p} {r = r} {s} {u = u} {b = b} h k A B =
    let e = same_step k h in
    let o = acts_once (subst (λ (z : Step). Acts p s z b r u) e B) A in
    record { step = e; answer = o.0; patch = o.1; store = o.2 }

pub once : {l : List ℕ} {at : ℕ} {p : Bool} {s : QueueWords} {kept : ℕ} {t : QueueWords} {f g : Found} → Replays l at p s kept t f
    → Replays l at p s kept t g → f ≡ g
once {at = at} {kept = kept} {t} (stops h) (stops k) = ap (λ (e : Ending). found kept at e t) (same_end h k)
once (stops h) (gets k B q v) = absurd (not_both k h)
once (stops h) (inside k B v S) = absurd (not_both k h)
once (stops h) (outside k B v S) = absurd (not_both k h)
once (gets h A q u) (stops k) = absurd (not_both h k)
once {at = at} {kept = kept} {t} (gets {n = m} h A q u) (gets {n = n} k B r v) =
    let S = same h k A B in
    let e : T.no m ≡ T.no n = sym q ∙ ap told (sym S.answer) ∙ r in
    let z : m ≡ n = cc in
    ap (λ (i : ℕ). found kept at (E.Gets i) t) z
once (gets h A q u) (inside k B v S) = absurd (true≢false (sym u ∙ ap (λ (z : Answer). unwritten (told z)) (sym (same h k A B).answer) ∙ v))
once (gets h A q u) (outside k B v S) = absurd (true≢false (sym u ∙ ap (λ (z : Answer). unwritten (told z)) (sym (same h k A B).answer) ∙ v))
once (inside h A u R) (stops k) = absurd (not_both h k)
once (inside h A u R) (gets k B r v) = absurd (false≢true (sym u ∙ ap (λ (z : Answer). unwritten (told z)) (sym (same h k A B).answer) ∙ v))
once {l} {at} {kept = kept} {t} {f} {g} (inside h A u R) (inside k B v S) =
    let e = same h k A B in
    once R (subst (λ (z : Step × QueueWords). Replays (drop (size z.0) l) (at + size z.0) true z.1 kept t g) (λ i. (e.step i, e.store i)) S)
once (inside h A u R) (outside k B v S) = absurd (true≢false (sym (same h k A B).patch))
once (outside h A u R) (stops k) = absurd (not_both h k)
once (outside h A u R) (gets k B r v) = absurd (false≢true (sym u ∙ ap (λ (z : Answer). unwritten (told z)) (sym (same h k A B).answer) ∙ v))
once (outside h A u R) (inside k B v S) = absurd (false≢true (sym (same h k A B).patch))
once {l} {at} {f = f} {g} (outside h A u R) (outside k B v S) =
    let e = same h k A B in
    once R
    (subst (λ (z : Step × QueueWords). Replays (drop (size z.0) l) (at + size z.0) false z.1 (at + size z.0) z.1 g)
    (λ i. (e.step i, e.store i)) S)

-- two outcomes that both keep the claim are the same: the length kept, where reading stopped and why, and every word of the store
pub replay_once : (l : List ℕ) (s : QueueWords) {f g : Found} → ReplayClaim l s f → ReplayClaim l s g → f ≡ g
replay_once l s R S = once R S

-- ---- and there is one

-- of the bytes l, whatever was before them
abbrev pub Met : List ℕ → Type 0
Met l = (at : ℕ) (p : Bool) (s : QueueWords) (kept : ℕ) (t : QueueWords) → (f : Found) × Replays l at p s kept t f

met : (k : ℕ) (l : List ℕ) → length l ≤ k → Met l
met zero l h at p s kept t = (found kept at E.Cut t, stops (sym (next_cut l 0 (omega arith))))
met (suc k) l h at p s kept t = by (λ (m : List ℕ) g. met k m g) (read.next l) refl
  where
    with_step : ((m : List ℕ) → length m ≤ k → Met m) → (x : Step) → read.next l ≡ Ok x → (a : Answer) (q : Bool) (u : QueueWords) → Acts p s x a q u
        → (b : Bool) → unwritten (told a) ≡ b → (f : Found) × Replays l at p s kept t f
    with_step rec x e a q u A true z = let r = unwritten_no (told a) z in (found kept at (E.Gets r.0) t, gets e A r.1 z)
    with_step rec x e a true u A false z =
        let n = next_size l e in
        let r = rec (drop (size x) l) (omega (arith, n.0, length-drop (size x) l)) (at + size x) true u kept t in
        (r.0, inside e A z r.1)
    with_step rec x e a false u A false z =
        let n = next_size l e in
        let r = rec (drop (size x) l) (omega (arith, n.0, length-drop (size x) l)) (at + size x) false u (at + size x) u in
        (r.0, outside e A z r.1)

    by : ((m : List ℕ) → length m ≤ k → Met m) → (n : Result Step Ending) → read.next l ≡ n → (f : Found) × Replays l at p s kept t f
    by rec (Err e) q = (found kept at e t, stops q)
    by rec (Ok x) q = let m = acts_met x p s in with_step rec x q m.0 m.1 m.2 m.3 (unwritten (told m.0)) refl

pub replays_met : (l : List ℕ) → Met l
replays_met l = met (length l) l (omega arith)

-- any bytes whatever are replayed
pub replay_met : (l : List ℕ) (s : QueueWords) → (f : Found) × ReplayClaim l s f
replay_met l s = replays_met l 0 false s 0 s
