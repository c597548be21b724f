-- A poll in hand survives a cut, in its own slices and in others: its two words are found as they were (`replay_once`), so later calls go on with it.
use mathlib.Core.Path.{◌≡◌, sym, ap, ◌∙◌}
use mathlib.Core.Bool.{false}
use mathlib.Core.List.{List, ◌++◌}
use Prim.Native.Nat.{ℕ}
use lib.ListN.{length}
use Rattle.records.specs.Words.{QueueWords, Sound, slices}
use Rattle.promises.specs.Alike.{up_to, Matched, neither, alike}
use Rattle.journal.specs.Journal.{Noted, Journals}
use Rattle.journal.specs.Journal as J
use Rattle.recover.specs.Replay.{Found, ReplayClaim}
use Rattle.recover.specs.Cut.{none_open, Part, RoomFor}
use Rattle.recover.proofs.laws.Once.{replay_once}
use Rattle.recover.proofs.laws.Cut.{cut_kept}
use Rattle.recover.proofs.laws.Elsewhere.{elsewhere}

-- the journal of a run that ends with no patch open, and behind it what a cut leaves of one step more: replay finds the store after that run, every word of it
pub hand_survives : {s t : QueueWords} {run : List Noted} {K P : List ℕ} {f : Found} → Journals false s run K false t → Part P → ReplayClaim (K ++ P) s f
    → (f.kept ≡ length K) × (f.store ≡ t)
hand_survives {s} {K = K} {P} R p C =
    let e = replay_once (K ++ P) s C (cut_kept R J.rest none_open p) in
    (ap (λ (g : Found). g.kept) e, ap (λ (g : Found). g.store) e)

hand_alike : {s u : QueueWords} → Sound s → Matched s u → (u.hand ≡ s.hand) × (u.until ≡ s.until)
unfolding up_to
hand_alike S (neither f g) = absurd (f S)
hand_alike S (alike A) = (sym (ap (λ (q : QueueWords). q.hand) A.same), sym (ap (λ (q : QueueWords). q.until) A.same))

-- 02 [10]: "The store remembers the drain in hand and its now": so does the one that is replayed in other slices, long enough for every format that is written
pub hand_elsewhere : {s t u : QueueWords} {run : List Noted} {K P : List ℕ} {f : Found} → Journals false s run K false t → Sound t → Matched s u
    → RoomFor (slices u) run → Part P → ReplayClaim (K ++ P) u f
    → (f.kept ≡ length K) × (f.store.hand ≡ t.hand) × (f.store.until ≡ t.until)
hand_elsewhere R S M room p C =
    let E = elsewhere R M room in
    let H = hand_survives E.runs p C in
    let A = hand_alike S E.matched in
    (H.0, ap (λ (q : QueueWords). q.hand) H.1 ∙ A.0, ap (λ (q : QueueWords). q.until) H.1 ∙ A.1)
