-- Each function of the face leaves one outcome: six words are those of one answer, and the claim of a call leaves one.
use mathlib.Core.Path.{◌≡◌, sym, ap, ◌∙◌, subst}
use mathlib.Core.List.{List, []}
use mathlib.Core.Bool.{Bool, true}
use Prim.Native.Nat.{ℕ}
use lib.Ieee.{Float}
use Rattle.queue.specs.declared.Answer.{Answer}
use Rattle.queue.specs.Told.{told}
use Rattle.records.specs.Words.{QueueWords}
use Rattle.delay_queue.specs.declared.Call.{Call}
use Rattle.delay_queue.specs.Claims.{CallClaim}
use Rattle.promises.proofs.laws.OneCall.{call_once}
use Rattle.run.specs.declared.Why.{Why}
use Rattle.run.specs.Groups.{answer_words}
use Rattle.run.specs.Run.{RunClaim}
use Rattle.run.proofs.laws.Once.{run_once}
use Rattle.run.proofs.laws.Groups.{words_is}
use Rattle.writing.specs.Writing.{Wrote}
use Rattle.writing.proofs.laws.Writing.{wrote_once}
use Rattle.entries.specs.Writing.{blank}
use Rattle.entries.specs.declared.Step.{Step}
use Rattle.entries.specs.declared.Step.TheVariants as S
use Rattle.entries.specs.declared.Ending.{Ending}
use Rattle.journal.proofs.laws.Once.{act_once}
use Rattle.recover.specs.Replay.{Found, found, without_store, ReplayClaim}
use Rattle.recover.proofs.laws.Once.{replay_once}
use Rattle.gauge.specs.declared.Gauge.{Gauge}
use Rattle.tick.specs.Claims.{ReadClaim, TickPollClaim, TickSomeClaim}
use Rattle.tick.proofs.laws.Once.{read_once, tick_poll_once, tick_some_once}
use Rattle.inspector.specs.declared.State.{State}
use Rattle.inspector.specs.Words.{InspectClaim}
use Rattle.inspector.proofs.laws.Once.{inspect_once}
use Rattle.words.specs.Words.{why_word, ending_words, FlagKept, gauge_of, NoteClaim, state_words}
use Rattle.words.proofs.laws.Flags.{flag_one}
use Rattle.words.proofs.laws.Gauge.{note_once}
use Rattle.ngawdrelo.specs.Face.{Says, Told, Faced, ActsInto, ActsOn, asks, none, Patches}

-- ---- one outcome

same_words : {C D : Answer → Type 0} {w v : List ℕ} (A : Told C w) (B : Told D v) → A.what ≡ B.what → w ≡ v
same_words A B e = A.is ∙ ap (λ (a : Answer). answer_words (told a)) e ∙ sym B.is

-- where the claim leaves one answer
pub told_once : {C : Answer → Type 0} {w v : List ℕ} → ((a b : Answer) → C a → C b → a ≡ b) → Told C w → Told C v → w ≡ v
told_once f A B = same_words A B (f A.what B.what A.holds B.holds)

-- the words of any call, and the store that it leaves
pub faced_once : (c : Call) (s : QueueWords) {t u : QueueWords} {w v : List ℕ} → Faced (CallClaim c s) w t → Faced (CallClaim c s) v u → (w ≡ v) × (t ≡ u)
faced_once c s {t} {u} A B =
    let r = call_once c s A.what B.what t u A.holds B.holds in
    (same_words A B r.0, r.1)

-- of a run: how many were answered and why no more were, the store and the answers
pub ran_once : {s t u : QueueWords} {cs out p q : List ℕ} {m n y z : ℕ} → Says why_word y (λ (w : Why). RunClaim s cs out m w t p)
    → Says why_word z (λ (w : Why). RunClaim s cs out n w u q) → (m ≡ n) × (y ≡ z) × (t ≡ u) × (p ≡ q)
ran_once A B = let r = run_once A.holds B.holds in (r.0, A.is ∙ ap why_word r.1 ∙ sym B.is, r.2, r.3)

-- the bytes stand at the front of one room
into_once : {x : Step} {o p q : Bool} {s t u : QueueWords} {a b : Answer} {m n : ℕ} {k l : List ℕ} → ActsInto o s x a p t m k
    → ActsInto o s x b q u n l → (a ≡ b) × (p ≡ q) × (t ≡ u) × (m ≡ n) × (k ≡ l)
into_once {m = m} {k = k} A B =
    let r = act_once A.acts B.acts in
    let w = wrote_once (subst (λ (z : List ℕ). Wrote blank 0 z m k) r.3 A.stands) B.stands in
    (r.0, r.1, r.2, w.0, w.1)

-- a call through the journal, or words that are none: the words, the store and the bytes
pub acts_once : {g : List ℕ} {s t u : QueueWords} {w v : List ℕ} {m n : ℕ} {k l : List ℕ} → ActsOn g s w t m k → ActsOn g s v u n l
    → (w ≡ v) × (t ≡ u) × (m ≡ n) × (k ≡ l)
acts_once {s = s} {t} {u} {m = m} {n} {k} {l} (asks c e A) (asks d f B) =
    let q : c ≡ d = sym (words_is c e) ∙ words_is d f in
    let A' : ActsInto true s (S.Asks d) A.what true t m k = subst (λ (x : Call). ActsInto true s (S.Asks x) A.what true t m k) q (A.holds true) in
    let r = into_once A' (B.holds true) in
    (same_words A B r.0, r.2, r.3, r.4)
acts_once (asks c e A) (none f q z W) = absurd (f c e)
acts_once (none f q z W) (asks c e A) = absurd (f c e)
acts_once (none f q z W) (none h r y U) = let x = wrote_once W U in (q ∙ sym r, z ∙ sym y, x.0, x.1)

-- recovery: what is found, the store in it, and why reading stopped
pub recovered_once : {b : List ℕ} {s t u : QueueWords} {k l m n : ℕ} {w v : List ℕ} → Says ending_words w (λ (e : Ending). ReplayClaim b s (found k m e t))
    → Says ending_words v (λ (e : Ending). ReplayClaim b s (found l n e u)) → (w ≡ v) × (k ≡ l) × (m ≡ n) × (t ≡ u)
recovered_once {b} {s} A B =
    let r = replay_once b s A.holds B.holds in (
      A.is ∙ ap (λ (f : Found). ending_words f.ending) r ∙ sym B.is,
      ap (λ (f : Found). f.kept) r,
      ap (λ (f : Found). f.at) r,
      ap (λ (f : Found). f.store) r,
    )

-- the patch: the words, the flag's word and the bytes
pub patches_once : {x : Step} (n : ℕ) {m k : ℕ} {w v : List ℕ} {i j : ℕ} {b c : List ℕ} → Patches x n m w i b → Patches x n k v j c
    → (w ≡ v) × (m ≡ k) × (i ≡ j) × (b ≡ c)
patches_once n A B =
    let s = without_store [] [] [] [] [] [] in
    let r = into_once (A.acts.holds s) (B.acts.holds s) in
    (same_words A.acts B.acts r.0, flag_one n A.word B.word r.1, r.3, r.4)

-- the gauge: its numbers and its flag's word
pub noted_once : {g : Gauge} {now : ℕ} {w : List ℕ} {x y x' y' : Float} (n : ℕ) {m k : ℕ} → NoteClaim g now w (gauge_of x y m) × FlagKept n m
    → NoteClaim g now w (gauge_of x' y' k) × FlagKept n k → (x ≡ x') × (y ≡ y') × (m ≡ k)
noted_once {w = w} n A B =
    let e = note_once w A.0 B.0 in
    (ap (λ (h : Gauge). h.smoothed) e, ap (λ (h : Gauge). h.worst) e, flag_one n A.1 B.1 (ap (λ (h : Gauge). h.any) e))

-- the tick: the words, the time and the store
pub read_told_once : {time tick x y : ℕ} {w v : List ℕ} → Told (λ (a : Answer). ReadClaim time tick a x) w
    → Told (λ (a : Answer). ReadClaim time tick a y) v → (w ≡ v) × (x ≡ y)
read_told_once A B = let r = read_once A.holds B.holds in (same_words A B r.0, r.1)

module _ {time tick : ℕ} {s t u : QueueWords} {x y : ℕ} {w v : List ℕ} where
  pub ticked_once : Faced (λ (a : Answer) (z : QueueWords). TickPollClaim time s tick a x z) w t
      → Faced (λ (a : Answer) (z : QueueWords). TickPollClaim time s tick a y z) v u → (w ≡ v) × (x ≡ y) × (t ≡ u)
  ticked_once A B = let r = tick_poll_once A.holds B.holds in (same_words A B r.0, r.1, r.2)

  pub ticked_some_once : {limit : ℕ} → Faced (λ (a : Answer) (z : QueueWords). TickSomeClaim time s tick limit a x z) w t
      → Faced (λ (a : Answer) (z : QueueWords). TickSomeClaim time s tick limit a y z) v u → (w ≡ v) × (x ≡ y) × (t ≡ u)
  ticked_some_once A B = let r = tick_some_once A.holds B.holds in (same_words A B r.0, r.1, r.2)

-- the inspector
pub inspected_once : (t : State) (ks ds l : List ℕ) {w v k d k' d' : List ℕ} → Says state_words w (λ (a : State). InspectClaim t ks ds l a k d)
    → Says state_words v (λ (a : State). InspectClaim t ks ds l a k' d') → (w ≡ v) × (k ≡ k') × (d ≡ d')
inspected_once t ks ds l A B =
    let r = inspect_once t ks ds l A.holds B.holds in
    (A.is ∙ ap state_words r.0 ∙ sym B.is, r.1, r.2)
