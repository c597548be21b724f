-- `is_whole` meets its contract: the levels passed are walked and have their rows (`judge_next`), or a list is wrong (`judge_wrong`), or a row is not
-- that of the heads (`judge_other`); all passed, the rest decides (`judge_end`).
use Rattle.wheel.specs.Words.{words}
use Rattle.wheel.proofs.laws.Judged.{JudgedSo}
use Rattle.wheel.proofs.is_whole.Given as goal

abbrev pub invariant-loop-level : goal.invariant-loop-level
invariant-loop-level l =
    JudgedSo (words l.elapsed l.occupied l.tops l.heads l.nexts l.prevs l.marks) l.level l.left
