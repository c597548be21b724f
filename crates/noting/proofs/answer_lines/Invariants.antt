-- `answer_lines` meets its claim: what comes of where it stands comes of where it began (`Reaches`), a line more does not change that
-- (`reaches_more`), and it stops where it does not go on.
use Prim.Native.Nat.{◌-◌}
use lib.ListN.{length}
use Rattle.records.specs.Words.{words}
use Rattle.noting.specs.Line.{desk}
use Rattle.noting.specs.Feed.{stand}
use Rattle.noting.proofs.laws.NextLines.{Reaches}
use Rattle.noting.proofs.answer_lines.Given as goal

abbrev pub invariant-loop-line : goal.invariant-loop-line
invariant-loop-line l =
    Reaches l.got
    (stand l.from l.initial.line l.n (desk l.initial.after.patch (words l.initial.after.state l.initial.after.heads.heads l.initial.values l.initial.deadlines l.initial.nexts l.initial.prevs l.initial.turns l.initial.marks) l.initial.notes 0 l.initial.out 0))
    (stand l.i l.line l.k (desk l.after.patch (words l.after.state l.after.heads.heads l.values l.deadlines l.nexts l.prevs l.turns l.marks) l.notes l.after.noted l.out l.after.at))

abbrev pub decreases-loop-line : goal.decreases-loop-line
decreases-loop-line l =
    length l.got - l.i
