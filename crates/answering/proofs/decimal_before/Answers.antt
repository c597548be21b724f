-- `decimal_before` writes a decimal, the last digit first: the invariant is `Tail`, kept by `tail_more`, and `tail_end` makes the decimal.
use mathlib.Core.List.{List, []}
use mathlib.Core.Path.{refl}
use Prim.Native.Nat.{ℕ, ◌^◌, ◌≤◌, ◌<◌}
use native.Mathlib.Omega.{arith}
use lib.ListN.{length}
use Rattle.decimals.proofs.laws.Decimals.{Tail, tail_none, tail_more, tail_short, tail_end}
use Rattle.answering.specs.Parts.{Before}
use Rattle.answering.proofs.laws.Writing.{push}
use Rattle.answering.proofs.decimal_before.Goals as goal

-- there is room for one digit more
room : {n m : ℕ} {o b : List ℕ} {end i : ℕ} → n < 2 ^ 64 → (20 ≤ end) × (end ≤ length o) → Before (λ t. Tail n m t) o end i b → (0 < i) × (i ≤ length o)
room f p b =
    let t = tail_short f b.is in
    (omega (arith, b.start), omega (arith, b.start))

pub loop-m-init : goal.loop-m-init
loop-m-init c =
    record { text = []; is = tail_none _; start = omega arith; from = refl }

pub overflow_sub-i : goal.overflow_sub-i
overflow_sub-i c =
    (room c.ranges.n.fits c.requires c.loop-m.invariant).0

pub returns-then-m-eq0 : goal.returns-then-m-eq0
returns-then-m-eq0 c =
    let r = room c.ranges.n.fits c.requires c.loop-m.invariant in
    push _ _ _ (λ t h. tail_end h c.ranges.n.fits c.if-m-eq0.true) c.loop-m.invariant r.0 (omega (arith, r.1, c.loop-m.auto.buf))

pub loop-m-preserved : goal.loop-m-preserved
loop-m-preserved c =
    let r = room c.ranges.n.fits c.requires c.loop-m.invariant in
    push _ _ _ (λ t h. tail_more h (omega arith)) c.loop-m.invariant r.0 (omega (arith, r.1, c.loop-m.auto.buf))
