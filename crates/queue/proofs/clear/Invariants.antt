-- `clear` meets its contract: the records passed are done (`clear_step`), and then all are (`clear_done`).
use mathlib.Core.Path.{◌≡◌}
use Rattle.records.specs.Words.{parts, count}
use Rattle.queue.proofs.laws.Polls.{ClearedSo}
use Rattle.queue.proofs.clear.Given as goal

abbrev pub invariant-loop-i : goal.invariant-loop-i
invariant-loop-i l =
    (l.n ≡ count (parts l.elapsed l.initial.occupied l.initial.tops l.initial.heads l.values l.deadlines l.initial.nexts l.initial.prevs l.initial.turns l.initial.marks))
    × ClearedSo (parts l.elapsed l.initial.occupied l.initial.tops l.initial.heads l.values l.deadlines l.initial.nexts l.initial.prevs l.initial.turns l.initial.marks)
    l.i (parts l.elapsed l.occupied l.tops l.heads l.values l.deadlines l.nexts l.prevs l.turns l.marks)
