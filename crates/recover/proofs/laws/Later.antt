-- What follows for the calls of a journal: the last is written before its answer is given, a patch is kept whole or not at all, a second cut is a cut, and no key
-- is given twice over the calls that are kept and those after them.
use mathlib.Core.Path.{◌≡◌, refl, sym, ap, ◌∙◌, subst}
use mathlib.Core.Bool.{Bool, false}
use mathlib.Core.List.{List, [], ◌∷◌, ◌++◌, append_assoc, append-nil}
use Prim.Native.Nat.{ℕ, ◌≤◌}
use lib.ListN.{take}
use Rattle.queue.specs.declared.Answer.{Answer}
use Rattle.queue.specs.Told.{told}
use Rattle.records.specs.Words.{QueueWords, Sound}
use Rattle.delay_queue.specs.declared.Call.{Call}
use Rattle.promises.specs.Runs.{Asked, Runs, rest, next, NoFormat}
use Rattle.promises.specs.Outs.{keys}
use Rattle.promises.proofs.laws.Outs.{keys_once}
use Rattle.entries.specs.declared.Step.TheVariants as S
use Rattle.entries.specs.Reading.{Bytes}
use Rattle.journal.specs.Journal.{Acts, asks, written, Noted, Journals}
use Rattle.journal.specs.Journal as J
use Rattle.recover.specs.Replay.{Found, ReplayClaim}
use Rattle.recover.specs.Cut.{calls_in, CutOf, Last}
use Rattle.recover.proofs.laws.Recovers.{goes_on}
use Rattle.recover.proofs.laws.AnyCut.{any_cut}
use Rattle.recover.proofs.laws.Keys.{journals_run}

-- ---- "Write each call .. before its answer is given"

-- the journal of a run whose last answer is not yet given ends with the bytes of that step, if it is one that is written
pub written_before : {p q : Bool} {s t : QueueWords} (l : List Noted) (x : Noted) {K : List ℕ} → Journals p s (l ++ x ∷ []) K q t → Last p s l x K q t
written_before {p} {s = s} [] x (J.next f A J.rest) =
    record { journal = []; patch = p; store = s; runs = J.rest; acts = A; ends = append-nil (written x.step (told x.answer)) }
written_before {p} (y ∷ l) x (J.next {p₁ = p₁} {J = K} f A R) =
    let r = written_before {p = p₁} l x R in
    let W = written y.step (told y.answer) in
    record {
      journal = W ++ r.journal;
      patch = r.patch;
      store = r.store;
      runs = J.next f A r.runs;
      acts = r.acts;
      ends = ap (λ (m : List ℕ). W ++ m) r.ends ∙ sym (append_assoc W r.journal (written x.step (told x.answer)));
    }

-- ---- patches

-- no call closes a patch, a format neither
pub call_leaves_open : {p q : Bool} {s t : QueueWords} {c : Call} {a : Answer} → Acts p s (S.Asks c) a q t → q ≡ p
call_leaves_open (asks A) = refl

-- ---- behind what is kept

-- "from which writing goes on": what later steps write behind it, cut again anywhere, is the journal of the calls kept and of those steps, cut
pub second_cut : (l : List ℕ) (s : QueueWords) {f : Found} → Bytes l → ReplayClaim l s f → {later : List Noted} {K : List ℕ} {p : Bool} {u : QueueWords}
    → Journals false f.store later K p u → (k : ℕ)
    → (calls : List Noted) × CutOf s (calls ++ later) (take k (take f.kept l ++ K))
second_cut l s {f} b C S k = let g = goes_on l s b C S in (g.0, any_cut g.2 k)

run_split : {s u : QueueWords} (l : List Asked) {m : List Asked} → Runs s (l ++ m) u → (t : QueueWords) × Runs s l t × Runs t m u
run_split {s} [] R = (s, rest, R)
run_split (x ∷ l) (next A R) = let r = run_split l R in (r.0, next A r.1, r.2)

-- "Never twice" of the calls that replay keeps and of later ones: from any store that is sound on, up to the next accepted format
pub keys_kept : (l : List ℕ) (s : QueueWords) {f : Found} → Bytes l → ReplayClaim l s f → {later : List Noted} {K : List ℕ} {p : Bool} {u : QueueWords}
    → Journals false f.store later K p u
    → (calls : List Noted) × Journals false s calls (take f.kept l) false f.store
    × ((front back : List Asked) → calls_in (calls ++ later) ≡ front ++ back
    → (t : QueueWords) × Runs s front t × (Sound t → NoFormat back → (k : ℕ) → keys k back ≤ 1))
keys_kept l s {f} b C {later} {u = u} S =
    let g = goes_on l s b C S in (
      g.0,
      g.1,
      λ front back e.
          let r = run_split front (subst (λ (m : List Asked). Runs s m u) e (journals_run g.2)) in
          (r.0, r.1, λ h n k. keys_once k h r.2 n),
    )
