-- `records_agree` meets its contract: the records passed agree, and one that does not ends it.
use Rattle.judge.specs.Judge.{RecordsAgree}
use Rattle.judge.proofs.records_agree.Given as goal

abbrev pub invariant-loop-i : goal.invariant-loop-i
invariant-loop-i l =
    RecordsAgree l.low l.hand l.clock l.i l.deadlines l.turns l.marks
