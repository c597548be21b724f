-- `number` reads a decimal: the invariant is `Front`, kept by `front_more`; `front_end` makes the decimal, and `front_odd` and
-- `front_big` say why there is none.
use Rattle.decimals.proofs.laws.Number.{Front}
use Rattle.decimals.proofs.number.Given as goal

abbrev pub invariant-loop-b : goal.invariant-loop-b
invariant-loop-b l =
    Front l.s l.b-index l.acc
