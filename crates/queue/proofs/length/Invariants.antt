-- `length` meets its contract: the count is that of the records passed (`pending_more`, `pending_same`).
use mathlib.Core.Path.{◌≡◌}
use Prim.Native.Nat.{◌≤◌}
use Rattle.links.specs.Links.{at}
use Rattle.queue.specs.Inner.{pending_in}
use Rattle.queue.proofs.length.Given as goal

abbrev pub invariant-loop-i : goal.invariant-loop-i
invariant-loop-i l =
    (l.count ≤ l.i) × (l.count ≡ pending_in (at l.marks) l.i)
