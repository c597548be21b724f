-- `take_line` meets its claim: every step takes one byte (`so_more`), and what is taken so far is a part of the line (`So`), to its
-- newline (`to_newline`) or to the end of the chunk (`to_end`).
use Rattle.lines.proofs.laws.Parts.{So}
use Rattle.lines.proofs.take_line.Given as goal

abbrev pub invariant-loop-i : goal.invariant-loop-i
invariant-loop-i l =
    So l.got l.from l.initial.line l.n l.line l.i l.k
