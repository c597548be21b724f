-- `answer_all` meets its claim: every step answers one command more (`answered_more`), and it stops for one of three reasons (`stops_short` ..).
use Rattle.contracts.specs.Tells.{Tells}
use Rattle.records.specs.Words.{parts, holding, Sound}
use Rattle.run.specs.Run.{CommandsDone}
use Rattle.run.proofs.answer_all.Given as goal

abbrev pub invariant-loop-i : goal.invariant-loop-i
invariant-loop-i l =
    CommandsDone (holding l.hand l.until (parts l.elapsed l.initial.occupied l.initial.tops l.initial.heads l.initial.values l.initial.deadlines l.initial.nexts l.initial.prevs l.initial.turns l.initial.marks)) l.commands l.initial.answers l.i
    (holding l.h l.u (parts l.e l.occupied l.tops l.heads l.values l.deadlines l.nexts l.prevs l.turns l.marks)) l.answers
    × Tells (Sound (holding l.h l.u (parts l.e l.occupied l.tops l.heads l.values l.deadlines l.nexts l.prevs l.turns l.marks))) l.fine
