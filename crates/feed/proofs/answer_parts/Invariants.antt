-- `answer_parts` meets its claim: what comes of where it stands comes of where it began (`Reaches`), a line more does not change that
-- (`reaches_more`), and it stops where it does not go on.
use Prim.Native.Nat.{◌-◌}
use lib.ListN.{length}
use Rattle.contracts.specs.Tells.{Tells}
use Rattle.records.specs.Words.{parts, holding, Sound}
use Rattle.feed.specs.Feed.{stand}
use Rattle.feed.proofs.laws.NextLines.{Reaches}
use Rattle.feed.proofs.answer_parts.Given as goal

abbrev pub invariant-loop-line : goal.invariant-loop-line
invariant-loop-line l =
    Reaches l.limits l.got (stand l.from l.initial.line l.n (holding l.hand l.until (parts l.elapsed l.initial.occupied l.initial.tops l.initial.heads l.initial.values l.initial.deadlines l.initial.nexts l.initial.prevs l.initial.turns l.initial.marks)) l.initial.out 0)
    (stand l.fed.next l.line l.fed.kept (holding l.fed.hand l.fed.until (parts l.fed.elapsed l.occupied l.tops l.heads l.values l.deadlines l.nexts l.prevs l.turns l.marks)) l.out l.fed.at)
    × Tells (Sound (holding l.fed.hand l.fed.until (parts l.fed.elapsed l.occupied l.tops l.heads l.values l.deadlines l.nexts l.prevs l.turns l.marks))) l.fed.sound

abbrev pub decreases-loop-line : goal.decreases-loop-line
decreases-loop-line l =
    length l.got - l.fed.next
