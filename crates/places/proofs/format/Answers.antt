-- `format` meets its contract: after i steps i records are chained (`fill_step`), and the last has nobody after it (`fill_done`).
use native.Mathlib.Omega.{arith}
use Rattle.places.proofs.laws.Format.{fill_none, fill_step, fill_last, fill_done}
use Rattle.places.proofs.format.Goals as goal

pub loop-i-init : goal.loop-i-init
loop-i-init c =
    fill_none _ _ _ _

pub loop-i-preserved : goal.loop-i-preserved
loop-i-preserved c =
    fill_step _ _ _ _ _ _ _ _ _ c.loop-i-test.true c.loop-i.invariant

pub overflow_cast-nexts : goal.overflow_cast-nexts
overflow_cast-nexts c =
    omega (arith, fill_last _ _ _ _ _ _ _ _ _ c.loop-i.invariant c.requires.0 c.loop-i-test.false)

pub offset_bounds-nexts-prev : goal.offset_bounds-nexts-prev
offset_bounds-nexts-prev c =
    omega (arith, fill_last _ _ _ _ _ _ _ _ _ c.loop-i.invariant c.requires.0 c.loop-i-test.false)

pub bounds-nexts-prev : goal.bounds-nexts-prev
bounds-nexts-prev c =
    omega (arith, fill_last _ _ _ _ _ _ _ _ _ c.loop-i.invariant c.requires.0 c.loop-i-test.false)

pub returns : goal.returns
returns c =
    fill_done _ _ _ _ _ _ _ _ _ c.loop-i.invariant c.requires.0 c.loop-i-test.false
