-- `numbers_before` writes numbers, the last first: `one_more` adds a number with its space to those that are there.
use Prim.Native.Nat.{◌*◌, ◌≤◌}
use Rattle.answering.specs.Parts.{Before}
use Rattle.answering.proofs.laws.Writing.{Later}
use Rattle.answering.proofs.numbers_before.Given as goal

abbrev pub invariant-loop-i : goal.invariant-loop-i
invariant-loop-i l =
    (21 * l.i ≤ l.e) × Before (Later l.numbers l.i) l.initial.buf l.end l.e l.buf
