-- What the program writes behind a journal that was replayed, cut at any byte, is replayed as the journal of one run: the calls kept before
-- and those of its lines.
use mathlib.Core.Bool.{false}
use mathlib.Core.List.{List, ◌++◌}
use Prim.Native.Nat.{ℕ, ◌+◌}
use lib.ListN.{length, take}
use Rattle.records.specs.Words.{QueueWords}
use Rattle.entries.specs.declared.Ending.TheVariants as E
use Rattle.entries.specs.Reading.{Bytes}
use Rattle.journal.specs.Journal.{Noted}
use Rattle.recover.specs.Replay.{Found, found, ReplayClaim}
use Rattle.recover.specs.Cut.{CutOf}
use Rattle.recover.proofs.laws.Recovers.{goes_on}
use Rattle.recover.proofs.laws.AnyCut.{any_cut, cut_replays}
use Rattle.noting.specs.Replies.{Held, held, Replies}
use Rattle.noting.proofs.laws.Replies.{noted_journals}

-- l was in the file, of which replay found f, from the words s; then lines were answered with t, and wrote J
pub lines_recovered : (l : List ℕ) (s : QueueWords) {f : Found} → Bytes l → ReplayClaim l s f → {ls : List (List ℕ)} {t J : List ℕ} {b : Held}
    → Replies ls (held false f.store f.kept) t J b → (k : ℕ)
    → (run : List Noted) × (C : CutOf s run (take k (take f.kept l ++ J)))
    × ReplayClaim (take k (take f.kept l ++ J)) s (found (length C.journal) (length C.journal + length C.lost_bytes) E.Cut C.store)
lines_recovered l s {f} h C r k =
    let q = noted_journals r in
    let g = goes_on l s h C q.journals in
    let cut = any_cut g.2 k in
    (g.0 ++ q.noted, cut, cut_replays cut)
