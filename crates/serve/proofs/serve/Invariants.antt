-- what each read gave is answered
use Rattle.std.proofs.Common.{◌≡◌, ◌-◌, length, take}
use Rattle.records.specs.Words.{words}
use Rattle.lines.specs.Running.{Reads}
use Rattle.feed.specs.Serving.{LineAnswered}
use Rattle.serve.proofs.serve.Given as goal

abbrev pub invariant-loop-bytes : goal.invariant-loop-bytes
invariant-loop-bytes l =
    record {
      size : length l.line ≡ 81;
      reads : Reads (LineAnswered l.program.limits) (length l.initial.line) (take l.initial.run.kept l.initial.line)
          (words l.initial.run.state l.initial.run.heads.heads l.initial.values l.initial.deadlines l.initial.nexts l.initial.prevs l.initial.turns l.initial.marks)
          l.bytes
          (take l.run.kept l.line)
          (words l.run.state l.run.heads.heads l.values l.deadlines l.nexts l.prevs l.turns l.marks);
    }

abbrev pub decreases-loop-bytes : goal.decreases-loop-bytes
decreases-loop-bytes l = 9223372036854775808 - l.bytes
