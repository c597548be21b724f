-- What replay keeps is as long as it can be, and no damage is named exactly where the bytes are a journal and what is left of one more step.
use mathlib.Core.Path.{◌≡◌, refl, sym, ap, ◌∙◌, subst}
use mathlib.Core.Bool.{Bool, false}
use mathlib.Core.List.{List, ◌++◌, append_assoc}
use Prim.Native.Nat.{ℕ, ◌+◌, ◌≤◌}
use native.Mathlib.Omega.{arith}
use lib.ListN.{length, take, drop, take-append-drop}
use lib.Seq.{length-take-le}
use Rattle.std.proofs.Common.{Err}
use Rattle.queue.specs.Told.{told}
use Rattle.records.specs.Words.{QueueWords}
use Rattle.entries.specs.declared.Ending.{Ending}
use Rattle.entries.specs.declared.Ending.TheVariants as E
use Rattle.entries.specs.Reading as read
use Rattle.entries.specs.Reading.{Bytes}
use Rattle.entries.proofs.laws.Inverse.{cut_is}
use Rattle.entries.proofs.laws.More.{cut_when}
use Rattle.journal.specs.Journal.{Acts, written, Noted, Journals}
use Rattle.journal.specs.Journal as J
use Rattle.journal.proofs.laws.Once.{journals_more}
use Rattle.recover.specs.Replay.{Found, found, Replays, stops, gets, inside, outside, ReplayClaim}
use Rattle.recover.specs.Cut.{Stops, no_step, refused, Undamaged}
use Rattle.recover.proofs.laws.Once.{replay_once, replays_met}
use Rattle.recover.proofs.laws.Cut.{run_outside, step_front}
use Rattle.recover.proofs.laws.Recovers.{replay_recovers}

-- ---- the longest

-- what was kept stays kept
keeps_kept : {l : List ℕ} {at : ℕ} {p : Bool} {s : QueueWords} {kept : ℕ} {t : QueueWords} {f : Found} → Replays l at p s kept t f → kept ≤ at
    → kept ≤ f.kept
keeps_kept (stops h) k = omega arith
keeps_kept (gets h A q u) k = omega arith
keeps_kept (inside h A u R) k = keeps_kept R (omega arith)
keeps_kept (outside h A u R) k = omega (arith, keeps_kept R (omega arith))

-- "the length kept": any front of the bytes that is the journal of a run with no patch open is kept
pub kept_longest : {l : List ℕ} {s : QueueWords} {f : Found} → ReplayClaim l s f → (k : ℕ) → k ≤ length l → {calls : List Noted} {t : QueueWords}
    → Journals false s calls (take k l) false t
    → k ≤ f.kept
kept_longest {l} {s} {f} C k h {t = t} R =
    let n : length (take k l) ≡ k = length-take-le k l h in
    let m = replays_met (drop k l) (0 + length (take k l)) false t (0 + length (take k l)) t in
    let D : ReplayClaim l s m.0 =
    subst (λ (x : List ℕ). ReplayClaim x s m.0) (take-append-drop k l) (run_outside R refl (drop k l) 0 0 s m.0 (λ z. (refl, refl)) m.1)
    in
    let e : m.0.kept ≡ f.kept = ap (λ (g : Found). g.kept) (replay_once l s D C) in
    omega (arith, keeps_kept m.1 (omega arith))

-- ---- no damage

-- a run, and behind it bytes of which nothing more is read: that is why reading stops
run_ends : {p q : Bool} {s u : QueueWords} {l : List Noted} {K : List ℕ} → Journals p s l K q u → (m : List ℕ) {e : Ending} → read.next m ≡ Err e
    → (at kept : ℕ) (t : QueueWords) → (f : Found) × Replays (K ++ m) at p s kept t f × (f.ending ≡ e)
run_ends J.rest m {e} h at kept t = (found kept at e t, stops h, refl)
run_ends {p} {s = s} (J.next {x = x} {J = K} g A R) m h at kept t =
    let W = written x.step (told x.answer) in
    let r = step_front A g (K ++ m) at kept t (λ k v. run_ends R m h (at + length W) k v) in
    (r.0, rw (append_assoc W K m) r.1, r.2)

stops_cut : {p : Bool} {t : QueueWords} {m : List ℕ} {d : Ending} → Stops p t m d → d ≡ E.Cut → read.next m ≡ Err E.Cut
stops_cut (no_step h) e = h ∙ ap (λ (d : Ending). Err d) e
stops_cut (refused h A q u) e = let z : ◌≡◌ {A = ℕ} 0 1 = cc in absurd (omega arith)

-- no damage is named: the bytes are a journal and what is left of one more step
pub cut_undamaged : (l : List ℕ) (s : QueueWords) {f : Found} → Bytes l → ReplayClaim l s f → f.ending ≡ E.Cut → Undamaged s l
cut_undamaged l s {f} b C e =
    let R = replay_recovers l s b C in
    record {
      run = R.calls ++ R.lost;
      journal = R.journal ++ R.lost_bytes;
      patch = R.patch;
      store = R.reached;
      runs = journals_more R.keeps R.loses;
      part = R.behind;
      cut = cut_is R.behind (stops_cut R.stops e);
      split = R.split ∙ sym (append_assoc R.journal R.lost_bytes R.behind);
    }

-- and of such bytes none is
pub undamaged_cut : (l : List ℕ) (s : QueueWords) {f : Found} → ReplayClaim l s f → Undamaged s l → f.ending ≡ E.Cut
undamaged_cut l s {f} C U =
    let r = run_ends U.runs U.part (cut_when U.part U.cut) 0 0 s in
    let D : ReplayClaim l s r.0 = subst (λ (x : List ℕ). ReplayClaim x s r.0) (sym U.split) r.1 in
    ap (λ (g : Found). g.ending) (replay_once l s C D) ∙ r.2
