-- `poll_expiration` meets its contract: what the drain says from here it says from the start with the moves so far (`step_more`), until the limit is used
-- up (`step_full`) or nobody is left (`step_done`).
use Prim.Native.Nat.{◌-◌}
use Rattle.links.specs.Links.{at}
use Rattle.places.specs.Places.{slot_place}
use Rattle.wheel.specs.Words.{words}
use Rattle.wheel.proofs.laws.Moves.{DrainedSo}
use Rattle.wheel.proofs.poll_expiration.Given as goal

abbrev pub invariant-loop-left : goal.invariant-loop-left
invariant-loop-left l =
    DrainedSo (at l.deadlines) (words l.elapsed l.initial.occupied l.initial.tops l.initial.heads l.initial.nexts l.initial.prevs l.initial.marks)
    (l.level - 1) (slot_place l.level l.slot) l.limit l.left (words l.elapsed l.occupied l.tops l.heads l.nexts l.prevs l.marks)

abbrev pub decreases-loop-left : goal.decreases-loop-left
decreases-loop-left l =
    l.left
