-- `close` moves one word up a step (`close_step`).
use mathlib.Core.Path.{◌≡◌}
use Prim.Native.Nat.{◌-◌}
use native.Mathlib.Omega.{arith}
use Rattle.inspector.proofs.laws.Closing.{close_none, close_step}
use Rattle.inspector.proofs.close.Goals as goal

pub loop-j-init : goal.loop-j-init
loop-j-init c =
    close_none c.args.words.now c.args.i

pub loop-j-preserved : goal.loop-j-preserved
loop-j-preserved c =
    close_step _ _ _ c.loop-j.auto.j (omega (arith, c.loop-j-test.true, c.requires)) c.loop-j.invariant

pub returns : goal.returns
returns c =
    let e : c.args.n - 1 ≡ c.loop-j.j = omega (arith, c.requires, c.loop-j.auto.j-end, c.loop-j-test.false) in
    rw e c.loop-j.invariant
