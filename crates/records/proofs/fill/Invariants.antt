-- `fill` meets its contract: the words passed are x (`fill_next`).
use Rattle.records.proofs.laws.Format.{FilledSo}
use Rattle.records.proofs.fill.Given as goal

abbrev pub invariant-loop-i : goal.invariant-loop-i
invariant-loop-i l =
    FilledSo l.n l.x l.initial.words l.i l.words
