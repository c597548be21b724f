-- `format` meets its contract: after i steps i records are chained (`fill_step`), and the last has nobody after it (`fill_done`).
use Rattle.places.proofs.laws.Format.{Filling}
use Rattle.places.proofs.format.Given as goal

abbrev pub invariant-loop-i : goal.invariant-loop-i
invariant-loop-i l =
    Filling l.n l.initial.nexts l.initial.prevs l.initial.marks l.i l.prev l.nexts l.prevs l.marks
