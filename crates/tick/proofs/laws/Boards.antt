-- Whatever a board does, from whatever time and store, there is a run of it.
use Rattle.std.proofs.Common.{◌≡◌, ℕ, List, [], ◌∷◌, refl, ap}
use Rattle.records.specs.Words.{QueueWords}
use Rattle.tick.specs.Boards.{Deed, Did, did, Boards, rest, next, deeds}
use Rattle.tick.proofs.laws.Once.{deed_met}

pub boards_met : (qs : List Deed) (time : ℕ) (s : QueueWords) → (l : List Did) × (u : QueueWords) × Boards time s l u × (deeds l ≡ qs)
boards_met [] time s = ([], s, rest, refl)
boards_met (q ∷ qs) time s =
    let m = deed_met q time s in
    let r = boards_met qs m.1 m.2 in
    (did q m.0 m.1 ∷ r.0, r.1, next m.3 r.2, ap (λ k. q ∷ k) r.3)
