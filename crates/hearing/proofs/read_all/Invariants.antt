-- what a read gave is taken, and what is kept lies within the room of a line
use Rattle.std.proofs.Common.{◌≡◌, [], ◌-◌, ◌≤◌, ◌^◌, length, take}
use Rattle.lines.specs.Running.{Reads}
use Rattle.hearing.proofs.read_all.Given as goal

abbrev pub invariant-loop-bytes : goal.invariant-loop-bytes
invariant-loop-bytes g l =
    record {
      size : length l.line ≡ 81;
      kept : l.n ≤ length l.line;
      reads : Reads g.H.Hears.Step 81 [] l.initial.hears l.bytes (take l.n l.line) l.hears;
    }

abbrev pub decreases-loop-bytes : goal.decreases-loop-bytes
decreases-loop-bytes g l = 2 ^ 63 - l.bytes
