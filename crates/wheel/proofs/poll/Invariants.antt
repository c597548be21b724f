-- `poll` meets its contract: what the poll says from here it says from the start with the counts so far (`next_drained`, and a law for each way
-- out).
use Rattle.links.specs.Links.{at}
use Rattle.wheel.specs.Words.{words, lists}
use Rattle.wheel.specs.Drain.{heights}
use Rattle.wheel.proofs.laws.Moves.{PolledSo}
use Rattle.wheel.proofs.poll.Given as goal

abbrev pub invariant-loop-expiration : goal.invariant-loop-expiration
invariant-loop-expiration l =
    PolledSo (at l.deadlines) l.time l.limit l.hand (words l.elapsed l.initial.occupied l.initial.tops l.initial.heads l.initial.nexts l.initial.prevs l.initial.marks)
    l.place l.left l.moves l.drains (words l.e l.occupied l.tops l.heads l.nexts l.prevs l.marks)

abbrev pub decreases-loop-expiration : goal.decreases-loop-expiration
decreases-loop-expiration l =
    heights (lists (words l.e l.occupied l.tops l.heads l.nexts l.prevs l.marks))
