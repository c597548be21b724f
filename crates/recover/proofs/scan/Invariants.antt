-- `scan` meets its claim: one pass reads one step (`scan_goes`), and it stops where there is none or one gets 1, 2 or 13 (`scan_ends`).
use Prim.Native.Nat.{◌-◌, ◌+◌}
use lib.ListN.{length}
use Rattle.records.specs.Slices.{slices_of}
use Rattle.recover.proofs.laws.Scan.{Scanning}
use Rattle.recover.proofs.scan.Given as goal

abbrev pub invariant-loop-ending : goal.invariant-loop-ending
invariant-loop-ending l =
    Scanning (slices_of l.values l.deadlines l.nexts l.prevs l.turns l.marks) l.bytes l.seen l.now

abbrev pub decreases-loop-ending : goal.decreases-loop-ending
decreases-loop-ending l =
    l.seen.at + length l.bytes - l.now.at
