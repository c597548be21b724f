-- `count_loose` meets its contract: the count is that of the records passed (`loose_more`, `loose_same`).
use mathlib.Core.Path.{◌≡◌}
use Prim.Native.Nat.{◌≤◌}
use Rattle.links.specs.Links.{at}
use Rattle.links.specs.Judge.{loose_in}
use Rattle.links.proofs.count_loose.Given as goal

abbrev pub invariant-loop-i : goal.invariant-loop-i
invariant-loop-i l =
    (l.count ≤ l.i) × (l.count ≡ loose_in l.places (at l.nexts) (at l.prevs) (at l.marks) l.i)
