-- `decimal_before` writes a decimal, the last digit first: the invariant is `Tail`, kept by `tail_more`, and `tail_end` makes the decimal.
use Rattle.answering.specs.Parts.{Before}
use Rattle.decimals.proofs.laws.Decimals.{Tail}
use Rattle.answering.proofs.decimal_before.Given as goal

abbrev pub invariant-loop-m : goal.invariant-loop-m
invariant-loop-m l =
    Before (λ t. Tail l.n l.m t) l.initial.buf l.end l.i l.buf

abbrev pub decreases-loop-m : goal.decreases-loop-m
decreases-loop-m l =
    l.m
