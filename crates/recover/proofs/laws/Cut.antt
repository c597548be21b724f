-- The journal of a run, cut anywhere: what replay finds in it. Every written step is read back (`step_back`), and what is left of one is a cut (`step_cut`).
use mathlib.Core.Path.{◌≡◌, refl, sym, ap, ◌∙◌, subst}
use mathlib.Core.Logic.{by_cases}
use mathlib.Core.Bool.{Bool, true, false, cond, true≢false}
use mathlib.Core.List.{List, [], ◌∷◌, ◌++◌, append_assoc, append-nil}
use Prim.Native.Nat.{ℕ, ◌+◌, ◌<◌}
use native.Mathlib.Decide.{dec_lt}
use native.Mathlib.Omega.{arith}
use lib.ListN.{length, take, length-append}
use lib.Seq.{drop-append_seam}
use Rattle.std.proofs.Common.{Err}
use Rattle.queue.specs.declared.Answer.{Answer}
use Rattle.queue.specs.Told.{told}
use Rattle.records.specs.Words.{QueueWords}
use Rattle.entries.specs.declared.Step.{Step}
use Rattle.entries.specs.declared.Ending.TheVariants as E
use Rattle.entries.specs.Entries.{step_bytes, Fit}
use Rattle.entries.specs.Reading as read
use Rattle.entries.proofs.laws.Reading.{next_cut}
use Rattle.entries.proofs.laws.Steps.{step_back, step_cut}
use Rattle.journal.specs.Journal.{Acts, unwritten, written, Noted, Journals}
use Rattle.journal.specs.Journal as J
use Rattle.journal.proofs.laws.Once.{unwritten_same, no_bytes_same}
use Rattle.recover.specs.Replay.{Found, found, size, Replays, stops, inside, outside, ReplayClaim}
use Rattle.entries.specs.declared.Step.TheVariants as S
use Rattle.recover.specs.Cut.{NoClose, Unclosed, none_open, not_closed, Part, nothing, part}

-- ---- one step

none_empty : (l : List ℕ) → (0 < length l → ⊥) → l ≡ []
none_empty [] h = refl
none_empty (b ∷ l) h = absurd (h (omega arith))

-- a step is written, or it changes nothing
module _ {p q : Bool} {s t : QueueWords} {x : Step} {a : Answer} (A : Acts p s x a q t) where
  pub data Writes : Type 0 where
    bytes : unwritten (told a) ≡ false → 0 < length (step_bytes x) → written x (told a) ≡ step_bytes x → Writes
    none : written x (told a) ≡ [] → q ≡ p → t ≡ s → Writes

  pub writes : Writes
  unfolding written
  writes = by (unwritten (told a)) refl
    where
      by : (b : Bool) → unwritten (told a) ≡ b → Writes
      by true e = let r = unwritten_same A e in none (rw e refl) r.0 r.1
      by false e =
          by_cases (dec_lt 0 (length (step_bytes x)))
          (λ h. bytes e h (rw e refl))
          (λ h. let z = none_empty (step_bytes x) h in let r = no_bytes_same A z in none (rw e z) r.0 r.1)

-- ---- a step in front of what is replayed

-- outside a patch all is kept
abbrev KeptOutside : Bool → ℕ → QueueWords → ℕ → QueueWords → Type 0
KeptOutside p at s kept t = p ≡ false → (kept ≡ at) × (t ≡ s)

module _ {p q : Bool} {s u : QueueWords} {x : Step} {a : Answer} (A : Acts p s x a q u) (fit : Fit x) {l : List ℕ} {at kept : ℕ}
    {t : QueueWords} {f : Found} where
  -- one that is not written
  skipped : written x (told a) ≡ [] → q ≡ p → u ≡ s → Replays l (at + length (written x (told a))) q u kept t f
      → Replays (written x (told a) ++ l) at p s kept t f
  skipped w e g R =
      let n : at + length (written x (told a)) ≡ at = omega (arith, ap (λ (m : List ℕ). length m) w) in
      subst (λ (m : List ℕ). Replays (m ++ l) at p s kept t f) (sym w)
      (subst (λ (z : ℕ × Bool × QueueWords). Replays l z.0 z.1 z.2 kept t f) (λ i. (n i, e i, g i)) R)

  -- one that is written, and leaves a patch open
  wrote_inside : unwritten (told a) ≡ false → 0 < length (step_bytes x) → written x (told a) ≡ step_bytes x → q ≡ true
      → Replays l (at + length (written x (told a))) q u kept t f → Replays (written x (told a) ++ l) at p s kept t f
  wrote_inside n h w o R =
      let B : Acts p s x a true u = subst (λ (b : Bool). Acts p s x a b u) o A in
      let S : Replays l (at + size x) true u kept t f =
      subst (λ (z : Bool × List ℕ). Replays l (at + length z.1) z.0 u kept t f) (λ i. (o i, w i)) R
      in
      subst (λ (m : List ℕ). Replays (m ++ l) at p s kept t f) (sym w)
      (inside (step_back x l fit h) B n (subst (λ (m : List ℕ). Replays m (at + size x) true u kept t f) (sym (drop-append_seam (step_bytes x) l)) S))

  -- and one that does not
  wrote_outside : unwritten (told a) ≡ false → 0 < length (step_bytes x) → written x (told a) ≡ step_bytes x → q ≡ false
      → Replays l (at + length (written x (told a))) q u (at + length (written x (told a))) u f → Replays (written x (told a) ++ l) at p s kept t f
  wrote_outside n h w o R =
      let B : Acts p s x a false u = subst (λ (b : Bool). Acts p s x a b u) o A in
      let S : Replays l (at + size x) false u (at + size x) u f =
      subst (λ (z : Bool × List ℕ). Replays l (at + length z.1) z.0 u (at + length z.1) u f) (λ i. (o i, w i)) R
      in
      subst (λ (m : List ℕ). Replays (m ++ l) at p s kept t f) (sym w)
      (outside (step_back x l fit h) B n
      (subst (λ (m : List ℕ). Replays m (at + size x) false u (at + size x) u f) (sym (drop-append_seam (step_bytes x) l)) S))

  step_inside : q ≡ true → Replays l (at + length (written x (told a))) q u kept t f → Replays (written x (told a) ++ l) at p s kept t f
  step_inside o R = by (writes A)
    where
      by : Writes A → Replays (written x (told a) ++ l) at p s kept t f
      by (none w e g) = skipped w e g R
      by (bytes n h w) = wrote_inside n h w o R

  step_outside : q ≡ false → KeptOutside p at s kept t → Replays l (at + length (written x (told a))) q u (at + length (written x (told a))) u f
      → Replays (written x (told a) ++ l) at p s kept t f
  step_outside o K R = by (writes A)
    where
      by : Writes A → Replays (written x (told a) ++ l) at p s kept t f
      by (none w e g) =
          let k = K (sym e ∙ o) in
          let n : at + length (written x (told a)) ≡ at = omega (arith, ap (λ (m : List ℕ). length m) w) in
          skipped w e g
          (subst (λ (z : ℕ × QueueWords). Replays l (at + length (written x (told a))) q u z.0 z.1 f)
          (λ i. ((n ∙ sym k.0) i, (g ∙ sym k.1) i)) R)
      by (bytes n h w) = wrote_outside n h w o R

-- whatever was kept before, the step is read, and what is found behind it is found
pub step_front : {p q : Bool} {s u : QueueWords} {x : Step} {a : Answer} → Acts p s x a q u → Fit x → (l : List ℕ) (at kept : ℕ) (t : QueueWords)
    {P : Found → Type 0}
    → ((k : ℕ) (v : QueueWords) → (f : Found) × Replays l (at + length (written x (told a))) q u k v f × P f)
    → (f : Found) × Replays (written x (told a) ++ l) at p s kept t f × P f
step_front {p} {q} {s} {u} {x} {a} A fit l at kept t {P} rec = by (writes A)
  where
    on : (b : Bool) → q ≡ b → unwritten (told a) ≡ false → 0 < length (step_bytes x) → written x (told a) ≡ step_bytes x
        → (f : Found) × Replays (written x (told a) ++ l) at p s kept t f × P f
    on true o n h w = let r = rec kept t in (r.0, wrote_inside A fit n h w o r.1, r.2)
    on false o n h w = let r = rec (at + length (written x (told a))) u in (r.0, wrote_outside A fit n h w o r.1, r.2)

    by : Writes A → (f : Found) × Replays (written x (told a) ++ l) at p s kept t f × P f
    by (none w e g) = let r = rec kept t in (r.0, skipped A fit w e g r.1, r.2)
    by (bytes n h w) = on q refl n h w

-- ---- a run in front of it

-- after each step of the run a patch is open
abbrev Inside : {p q : Bool} {s t : QueueWords} {l : List Noted} {K : List ℕ} → Journals p s l K q t → Type 0
Inside J.rest = Unit {0}
Inside (J.next {p₁ = p₁} f A R) = (p₁ ≡ true) × Inside R

stays_open : {x : Step} {q : Bool} {s t : QueueWords} {a : Answer} → Acts true s x a q t → (x ≡ S.Close → ⊥) → q ≡ true
stays_open (J.asks A) n = refl
stays_open (J.open_twice f) n = refl
stays_open (J.closed f) n = absurd (n refl)

no_close_inside : {p q : Bool} {s u : QueueWords} {l : List Noted} {K : List ℕ} (R : Journals p s l K q u) → p ≡ true → NoClose l → Inside R
no_close_inside J.rest e n = tt
no_close_inside (J.next {p} {p₁} {s = s} {s₁} {x = x} f A R) e n =
    let o : p₁ ≡ true = stays_open (subst (λ (b : Bool). Acts b s x.step x.answer p₁ s₁) e A) n.0 in
    (o, no_close_inside R o n.1)

opens_so : {p q : Bool} {s t : QueueWords} {a : Answer} → Acts p s S.Open a q t → q ≡ true
opens_so (J.opened f) = refl
opens_so (J.open_twice f) = refl

unclosed_inside : {p q : Bool} {s u : QueueWords} {l : List Noted} {K : List ℕ} (R : Journals p s l K q u) → Unclosed l → Inside R
unclosed_inside J.rest none_open = tt
unclosed_inside (J.next {p} {p₁} {s = s} {s₁} {x = x} f A R) (not_closed e n) =
    let o : p₁ ≡ true = opens_so (subst (λ (y : Step). Acts p s y x.answer p₁ s₁) e A) in
    (o, no_close_inside R o n)

further : (at : ℕ) (k l : List ℕ) → at + length (k ++ l) ≡ at + length k + length l
further at k l = omega (arith, length-append k l)

-- steps of a patch that stays open: nothing more is kept
run_inside : {p q : Bool} {s u : QueueWords} {l : List Noted} {K : List ℕ} (R : Journals p s l K q u) → Inside R → (m : List ℕ) (at kept : ℕ)
    (t : QueueWords) (f : Found) → Replays m (at + length K) q u kept t f → Replays (K ++ m) at p s kept t f
run_inside {p} {s = s} J.rest i m at kept t f r =
    let e : at + 0 ≡ at = omega arith in subst (λ (n : ℕ). Replays m n p s kept t f) e r
run_inside {q = q} {s} {u} (J.next {p₁ = p₁} {s₁ = s₁} {x = x} {J = K} g A R) i m at kept t f r =
    let W = written x.step (told x.answer) in
    let r' = subst (λ (n : ℕ). Replays m n q u kept t f) (further at W K) r in
    rw (append_assoc W K m) (step_inside A g i.0 (run_inside R i.1 m (at + length W) kept t f r'))

-- a run that ends with no patch open: all of it is kept
pub run_outside : {p q : Bool} {s u : QueueWords} {l : List Noted} {K : List ℕ} → Journals p s l K q u → q ≡ false → (m : List ℕ) (at kept : ℕ) (t : QueueWords)
    (f : Found) → KeptOutside p at s kept t → Replays m (at + length K) q u (at + length K) u f → Replays (K ++ m) at p s kept t f
run_outside {p} {s = s} J.rest o m at kept t f k r =
    let e : at + 0 ≡ at = omega arith in
    let h = k o in
    subst (λ (z : ℕ × ℕ × QueueWords). Replays m z.0 p s z.1 z.2 f) (λ i. (e i, (e ∙ sym h.0) i, sym h.1 i)) r
run_outside {p} {q} {s} {u} (J.next {p₁ = p₁} {s₁ = s₁} {x = x} {J = K} g A R) o m at kept t f k r =
    let W = written x.step (told x.answer) in
    let r' = subst (λ (n : ℕ). Replays m n q u n u f) (further at W K) r in
    let on : (kept' : ℕ) (t' : QueueWords) → KeptOutside p₁ (at + length W) s₁ kept' t' → Replays (K ++ m) (at + length W) p₁ s₁ kept' t' f =
    λ kept' t' k'. run_outside R o m (at + length W) kept' t' f k' r'
    in
    rw (append_assoc W K m) (by A g on p₁ refl)
  where
    by : Acts p s x.step x.answer p₁ s₁ → Fit x.step
        → ((kept' : ℕ) (t' : QueueWords) → KeptOutside p₁ (at + length (written x.step (told x.answer))) s₁ kept' t'
        → Replays (K ++ m) (at + length (written x.step (told x.answer))) p₁ s₁ kept' t' f)
        → (b : Bool) → p₁ ≡ b → Replays (written x.step (told x.answer) ++ (K ++ m)) at p s kept t f
    by B h on true e = step_inside B h e (on kept t (λ z. absurd (true≢false (sym e ∙ z))))
    by B h on false e = step_outside B h e k (on (at + length (written x.step (told x.answer))) s₁ (λ z. (refl, refl)))

-- ---- the promises

part_ends : {l : List ℕ} → Part l → read.next l ≡ Err E.Cut
unfolding written
part_ends nothing = sym (next_cut [] 0 (omega arith))
part_ends (part x k f h) = by (unwritten (told x.answer)) refl
  where
    W : List ℕ
    W = written x.step (told x.answer)

    by : (b : Bool) → unwritten (told x.answer) ≡ b → read.next (take k W) ≡ Err E.Cut
    by true e = absurd (omega (arith, h, ap (λ (c : Bool). length (cond c [] (step_bytes x.step))) e))
    by false e =
        let w : W ≡ step_bytes x.step = ap (λ (c : Bool). cond c [] (step_bytes x.step)) e in
        rw w (step_cut x.step k f (omega (arith, h, ap (λ (m : List ℕ). length m) w)))

-- "Cut the file at any byte: replay .. gives the store after all calls wholly written and not in an unclosed patch, and the length kept": the calls of a run
-- that ends with no patch open, then those of a patch that is not closed, then what is left of one more
pub cut_kept : {s t u : QueueWords} {q : Bool} {calls lost : List Noted} {K L P : List ℕ} → Journals false s calls K false t
    → Journals false t lost L q u → Unclosed lost → Part P
    → ReplayClaim (K ++ (L ++ P)) s (found (length K) (length K + length L) E.Cut t)
cut_kept {s} {t} {K = K} {L} {P} R S c p =
    run_outside R refl (L ++ P) 0 0 s _ (λ z. (refl, refl))
    (subst (λ (n : ℕ). Replays (L ++ P) n false t n t (found (length K) (length K + length L) E.Cut t)) (omega arith)
    (run_inside S (unclosed_inside S c) P (length K) (length K) t _ (stops (part_ends p))))

-- a journal that is not cut, and whose patches are closed, is kept whole
pub whole_kept : {s t : QueueWords} {calls : List Noted} {K : List ℕ} → Journals false s calls K false t
    → ReplayClaim K s (found (length K) (length K) E.Cut t)
whole_kept {s} {t} {calls} {K} R =
    let n : length K + 0 ≡ length K = omega arith in
    subst (λ (z : List ℕ × ℕ). ReplayClaim z.0 s (found (length K) z.1 E.Cut t)) (λ i. (append-nil K i, n i)) (cut_kept R J.rest none_open nothing)
