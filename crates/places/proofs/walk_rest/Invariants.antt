-- `walk_rest` meets its contract: what the walk of the places finds from here is what it finds from the first that is no slot (`judge_go`, and a
-- law for each way out).
use mathlib.Core.Path.{◌≡◌}
use Prim.Native.Nat.{◌≤◌}
use Rattle.places.specs.Places.{slots, places}
use Rattle.places.specs.Words.{words}
use Rattle.places.specs.Judge.{from}
use Rattle.places.proofs.walk_rest.Given as goal

abbrev pub invariant-loop-place : goal.invariant-loop-place
invariant-loop-place l =
    (l.place ≤ places) × (from (words l.tops l.heads l.nexts l.prevs l.marks) slots l.room ≡ from (words l.tops l.heads l.nexts l.prevs l.marks) l.place l.left)
