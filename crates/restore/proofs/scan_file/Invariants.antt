-- each chunk is scanned from where the scan stands
use Rattle.std.proofs.Common.{◌-◌, ◌^◌, ◌<◌}
use Rattle.records.specs.Slices.{slices_of}
use Rattle.restore.proofs.laws.Restore.{Scanning}
use Rattle.restore.proofs.scan_file.Given as goal

abbrev pub invariant-loop-buf : goal.invariant-loop-buf
invariant-loop-buf l =
    record { place : l.at < 2 ^ 64; scanning : Scanning (slices_of l.values l.deadlines l.nexts l.prevs l.turns l.marks) l.at l.seen }

abbrev pub decreases-loop-buf : goal.decreases-loop-buf
decreases-loop-buf l = 2 ^ 64 - l.at
