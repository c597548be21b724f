-- what each read gave is done, kept and answered
use Rattle.std.proofs.Common.{◌-◌, ◌≤◌, length, take}
use Rattle.records.specs.Words.{words}
use Rattle.lines.specs.Running.{Reads}
use Rattle.noting.specs.Replies.{held, LineAnswered}
use Rattle.journaled.proofs.serve.Given as goal

abbrev pub invariant-loop-bytes : goal.invariant-loop-bytes
invariant-loop-bytes l =
    record {
      kept : l.run.kept ≤ 81;
      reads : Reads LineAnswered (length l.initial.line) (take l.initial.run.kept l.initial.line)
          (held l.initial.run.patch
          (words l.initial.run.state l.initial.run.heads.heads l.initial.values l.initial.deadlines l.initial.nexts l.initial.prevs l.initial.turns l.initial.marks)
          l.initial.run.file.length)
          l.bytes
          (take l.run.kept l.line)
          (held l.run.patch (words l.run.state l.run.heads.heads l.values l.deadlines l.nexts l.prevs l.turns l.marks) l.run.file.length);
    }

abbrev pub decreases-loop-bytes : goal.decreases-loop-bytes
decreases-loop-bytes l = 9223372036854775808 - l.bytes
