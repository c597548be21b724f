-- Every cut of every journal: which calls of the run are kept, and that replay finds them.
use mathlib.Core.Path.{◌≡◌, refl, sym, ap, ◌∙◌, subst}
use mathlib.Core.Logic.{by_cases}
use mathlib.Core.Bool.{Bool, true, false}
use mathlib.Core.List.{List, [], ◌∷◌, ◌++◌, append_assoc}
use Prim.Native.Nat.{ℕ, ◌+◌, ◌-◌, ◌<◌}
use native.Mathlib.Decide.{dec_lt}
use native.Mathlib.Omega.{arith}
use lib.ListN.{length, take}
use lib.Seq.{take-append-le, take-append-add, length-take-le, take-nil}
use Rattle.queue.specs.Told.{told}
use Rattle.records.specs.Words.{QueueWords}
use Rattle.entries.specs.declared.Ending.TheVariants as E
use Rattle.entries.specs.Entries.{Fit}
use Rattle.journal.specs.Journal.{Acts, written, Noted, Journals}
use Rattle.journal.specs.Journal as J
use Rattle.recover.specs.Replay.{found, ReplayClaim}
use Rattle.recover.specs.Cut.{none_open, Part, nothing, part, CutOf}
use Rattle.recover.proofs.laws.Cut.{cut_kept}
use Rattle.recover.proofs.laws.Recovers.{Reading, add_inside, add_outside}

module _ {s₀ : QueueWords} {run : List Noted} {B : List ℕ} where
  -- nothing more is whole
  ends : {c : List Noted} {l : List ℕ} {at : ℕ} {p : Bool} {s : QueueWords} {kept : ℕ} {t : QueueWords} → Reading B s₀ c l at p s kept t → (others : List Noted)
      → run ≡ c ++ others
      → Part l → ((x : Noted) (m : List Noted) → others ≡ x ∷ m → length l < length (written x.step (told x.answer))) → CutOf s₀ run B
  ends {c} {l} {p = p} {s} {t = t} I others e P n =
      record {
        calls = I.calls;
        lost = I.lost;
        others = others;
        whole = e ∙ ap (λ (d : List Noted). d ++ others) (sym I.so_far) ∙ append_assoc I.calls I.lost others;
        store = t;
        journal = I.journal;
        keeps = I.keeps;
        unclosed = I.unclosed;
        patch = p;
        reached = s;
        lost_bytes = I.lost_bytes;
        loses = I.loses;
        part = l;
        is_part = P;
        split = I.split;
        not_whole = n;
      }

  -- a call is whole: what is left of the run, of the bytes and of the claim is smaller
  cut_run : {p q : Bool} {s u : QueueWords} {l : List Noted} {K : List ℕ} → Journals p s l K q u → (c : List Noted) (k at kept : ℕ) (t : QueueWords)
      → Reading B s₀ c (take k K) at p s kept t → run ≡ c ++ l → CutOf s₀ run B
  cut_run J.rest c k at kept t I e =
      ends I [] e (subst Part (sym (take-nil k)) nothing) (λ x m g. let n : ◌≡◌ {A = ℕ} 0 1 = cc in absurd (omega arith))
  cut_run {p} {s = s} (J.next {p₁ = p₁} {s₁ = s₁} {x = x} {l} {J = K} f A R) c k at kept t I e =
      by_cases (dec_lt k (length W))
      (λ (h : k < length W).
      let z : take k (W ++ K) ≡ take k W = take-append-le k W K (omega arith) in
      let n : length (take k W) ≡ k = length-take-le k W (omega arith) in
      ends I (x ∷ l) e (subst Part (sym z) (part x k f h)) (λ y m g. short y h z n (same_head g)))
      (λ h.
      let i : k ≡ length W + (k - length W) = omega arith in
      let z : take k (W ++ K) ≡ W ++ take (k - length W) K = ap (λ (j : ℕ). take j (W ++ K)) i ∙ take-append-add W K (k - length W) in
      by (subst (λ (m : List ℕ). Reading B s₀ c m at p s kept t) z I) A f
      (λ kept' t' I'. cut_run R (c ++ x ∷ []) (k - length W) (at + length W) kept' t' I' (e ∙ sym (append_assoc c (x ∷ []) l))) p₁ refl)
    where
      W : List ℕ
      W = written x.step (told x.answer)

      same_head : {y : Noted} {m : List Noted} → x ∷ l ≡ y ∷ m → x ≡ y
      same_head g = cc

      short : (y : Noted) → k < length W → take k (W ++ K) ≡ take k W → length (take k W) ≡ k → x ≡ y
          → length (take k (W ++ K)) < length (written y.step (told y.answer))
      short y h z n g =
          let a : length (take k (W ++ K)) < length W = omega (arith, ap (λ (m : List ℕ). length m) z) in
          subst (λ (w : Noted). length (take k (W ++ K)) < length (written w.step (told w.answer))) g a

      by : Reading B s₀ c (W ++ take (k - length W) K) at p s kept t → Acts p s x.step x.answer p₁ s₁ → Fit x.step
          → ((kept' : ℕ) (t' : QueueWords) → Reading B s₀ (c ++ x ∷ []) (take (k - length W) K) (at + length W) p₁ s₁ kept' t' → CutOf s₀ run B)
          → (b : Bool) → p₁ ≡ b → CutOf s₀ run B
      by I' B' g on true o =
          on kept t
          (subst (λ (b : Bool). Reading B s₀ (c ++ x ∷ []) (take (k - length W) K) (at + length W) b s₁ kept t) (sym o)
          (add_inside I' g (subst (λ (b : Bool). Acts p s x.step x.answer b s₁) o B')))
      by I' B' g on false o =
          on (at + length W) s₁
          (subst (λ (b : Bool). Reading B s₀ (c ++ x ∷ []) (take (k - length W) K) (at + length W) b s₁ (at + length W) s₁) (sym o)
          (add_outside I' g (subst (λ (b : Bool). Acts p s x.step x.answer b s₁) o B')))

-- ---- the promises

-- every cut of the journal of any run: which calls are kept
pub any_cut : {s t : QueueWords} {q : Bool} {run : List Noted} {K : List ℕ} → Journals false s run K q t → (k : ℕ) → CutOf s run (take k K)
any_cut {s} {K = K} R k =
    cut_run R [] k 0 0 s
    (record {
      calls = [];
      journal = [];
      keeps = J.rest;
      length_kept = refl;
      lost = [];
      unclosed = none_open;
      shut = λ e. refl;
      unshut = λ e. refl;
      lost_bytes = [];
      loses = J.rest;
      length_at = refl;
      so_far = refl;
      split = refl;
    })
    refl

-- "Cut the file at any byte": and that replay finds them, "and the length kept"
pub cut_replays : {s : QueueWords} {run : List Noted} {l : List ℕ} (C : CutOf s run l)
    → ReplayClaim l s (found (length C.journal) (length C.journal + length C.lost_bytes) E.Cut C.store)
cut_replays {s} C =
    subst (λ (m : List ℕ). ReplayClaim m s (found (length C.journal) (length C.journal + length C.lost_bytes) E.Cut C.store)) (sym C.split)
    (cut_kept C.keeps C.loses C.unclosed C.is_part)
