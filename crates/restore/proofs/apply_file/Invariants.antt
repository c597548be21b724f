-- each chunk is applied behind the one before it
use Rattle.std.proofs.Common.{◌-◌, ◌≤◌}
use Rattle.records.specs.Words.{words}
use Rattle.restore.proofs.laws.Restore.{Applying}
use Rattle.restore.proofs.apply_file.Given as goal

abbrev pub invariant-loop-at : goal.invariant-loop-at
invariant-loop-at l =
    record {
      applying : Applying l.at
          (words l.initial.state l.initial.heads.heads l.initial.values l.initial.deadlines l.initial.nexts l.initial.prevs l.initial.turns l.initial.marks)
          (words l.state l.heads.heads l.values l.deadlines l.nexts l.prevs l.turns l.marks);
      most : l.at ≤ l.kept;
    }

abbrev pub decreases-loop-at : goal.decreases-loop-at
decreases-loop-at l = l.kept - l.at
