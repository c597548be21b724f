-- call by call what is read is answered
use Rattle.std.proofs.Common.{◌≡◌, ◌-◌, length, take, drop}
use Rattle.records.specs.Words.{words}
use Rattle.lines.specs.Running.{Passes}
use Rattle.feed.specs.Serving.{LineAnswered}
use Rattle.serve.proofs.answer.Given as goal

abbrev pub invariant-loop-i : goal.invariant-loop-i
invariant-loop-i l =
    record {
      size : length l.out ≡ 4096;
      passes : Passes (LineAnswered l.program.limits) (length l.initial.line) (take l.initial.run.kept l.initial.line) l.got
          (words l.initial.run.state l.initial.run.heads.heads l.initial.values l.initial.deadlines l.initial.nexts l.initial.prevs l.initial.turns l.initial.marks)
          (take l.run.kept l.line)
          (drop l.i l.got)
          (words l.run.state l.run.heads.heads l.values l.deadlines l.nexts l.prevs l.turns l.marks);
    }

abbrev pub decreases-loop-i : goal.decreases-loop-i
decreases-loop-i l = length l.got - l.i
