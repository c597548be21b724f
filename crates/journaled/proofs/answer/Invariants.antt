-- where all went well, call by call what is read is done and kept
use Rattle.std.proofs.Common.{◌≡◌, true, ◌-◌, ◌≤◌, length, take, drop}
use Rattle.records.specs.Words.{words}
use Rattle.lines.specs.Running.{Passes}
use Rattle.noting.specs.Replies.{held, LineAnswered}
use Rattle.journaled.proofs.answer.Given as goal

abbrev pub invariant-loop-fine : goal.invariant-loop-fine
invariant-loop-fine l =
    record {
      kept : l.n ≤ 81;
      passes : l.fine ≡ true →
          Passes LineAnswered (length l.initial.line) (take l.initial.n l.initial.line) l.got
          (held l.initial.patch
          (words l.initial.state l.initial.heads.heads l.initial.values l.initial.deadlines l.initial.nexts l.initial.prevs l.initial.turns l.initial.marks)
          l.initial.file.length)
          (take l.n l.line)
          (drop l.i l.got)
          (held l.patch (words l.state l.heads.heads l.values l.deadlines l.nexts l.prevs l.turns l.marks) l.file.length);
    }

abbrev pub decreases-loop-fine : goal.decreases-loop-fine
decreases-loop-fine l = length l.got - l.i
