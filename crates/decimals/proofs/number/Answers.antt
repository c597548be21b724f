-- `number` reads a decimal: the invariant is `Front`, kept by `front_more`; `front_end` makes the decimal, and `front_odd` and
-- `front_big` say why there is none.
use native.Mathlib.Omega.{arith}
use Rattle.decimals.proofs.laws.Number.{front_more, front_end, front_big}
use Rattle.decimals.proofs.number.Goals as goal

pub returns-in_err-checked_mul : goal.returns-in_err-checked_mul
returns-in_err-checked_mul c =
    rw c.from_residual.ensures (front_big c.loop-b.invariant c.loop-b-test.true (omega (arith, c.in_err-checked_mul.ensures)))

pub returns-in_err-acc : goal.returns-in_err-acc
returns-in_err-acc c =
    rw c.from_residual-in_err-acc.ensures
    (front_big c.loop-b.invariant c.loop-b-test.true (omega (arith, c.in_err-acc.ensures, c.in_ok-checked_mul.ensures)))

pub loop-b-preserved : goal.loop-b-preserved
loop-b-preserved c =
    let e = c.in_ok-acc.ensures in
    let m = c.in_ok-checked_mul.ensures in
    rw (e.1, m.1)
    (front_more c.loop-b.invariant c.loop-b-test.true (omega arith) (omega arith) (omega arith))

pub returns : goal.returns
returns c =
    front_end c.loop-b.invariant c.loop-b-test.false
