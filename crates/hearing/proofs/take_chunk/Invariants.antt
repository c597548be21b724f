-- what comes of where it stands comes of where it began
use Rattle.std.proofs.Common.{◌-◌, length}
use Rattle.lines.proofs.laws.Running.{Reaches}
use Rattle.hearing.proofs.take_chunk.Given as goal

abbrev pub invariant-loop-i : goal.invariant-loop-i
invariant-loop-i g l = Reaches g.H.Hears.Step l.got l.initial.line l.n l.initial.hears l.line l.i l.k l.hears

abbrev pub decreases-loop-i : goal.decreases-loop-i
decreases-loop-i g l = length l.got - l.i
