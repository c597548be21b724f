-- `walk_level` meets its contract: the slots passed are walked and have their flags (`level_passed`, `level_taken`), or a list is wrong (`level_wrong`).
use Rattle.places.specs.Words.{words}
use Rattle.places.proofs.laws.Judge.{WalkedSo}
use Rattle.places.proofs.walk_level.Given as goal

abbrev pub invariant-loop-slot : goal.invariant-loop-slot
invariant-loop-slot l =
    WalkedSo (words l.tops l.heads l.nexts l.prevs l.marks) l.level l.room l.slot l.left l.filled
