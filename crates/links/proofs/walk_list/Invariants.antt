-- `walk_list` meets its contract: what a scan from here says is what it says from the head (`scan_start`, `scan_go`, and a law for each way out).
use mathlib.Core.Path.{◌≡◌}
use Prim.Native.Nat.{◌<◌}
use Rattle.links.specs.Links.{at}
use Rattle.links.specs.Judge.{scan, scan_list}
use Rattle.links.proofs.walk_list.Given as goal

abbrev pub invariant-loop-item : goal.invariant-loop-item
invariant-loop-item l =
    (l.item < 65536)
    × (scan (at l.nexts) (at l.prevs) (at l.marks) l.n l.tail l.place l.left l.prev l.item ≡ scan_list (at l.nexts) (at l.prevs) (at l.marks) l.n l.place l.room l.head)

abbrev pub decreases-loop-item : goal.decreases-loop-item
decreases-loop-item l =
    l.left
