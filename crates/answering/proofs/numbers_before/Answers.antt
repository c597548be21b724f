-- `numbers_before` writes numbers, the last first: `one_more` adds a number with its space to those that are there.
use mathlib.Core.Path.{◌≡◌}
use mathlib.Core.List.{List}
use Prim.Native.Nat.{ℕ, ◌+◌, ◌-◌, ◌*◌, ◌≤◌, ◌<◌}
use native.Mathlib.Omega.{arith}
use lib.ListN.{length, get_or}
use Rattle.decimals.specs.Text.{Decimal}
use Rattle.decimals.proofs.laws.Decimals.{at_most_20}
use Rattle.answering.specs.Parts.{Before}
use Rattle.answering.proofs.laws.Writing.{Later, none_yet, one_more}
use Rattle.answering.proofs.numbers_before.Goals as goal

-- the digits leave room for their space and for the numbers before them
room : (ns : List ℕ) {o b b' : List ℕ} {end e i d : ℕ} → (21 * length ns ≤ end) × (end ≤ length o) → 0 < i → i ≤ length ns
    → (21 * i ≤ e) × Before (Later ns i) o end e b → length b ≡ length o
    → Before (λ l. Decimal l (get_or ns (i - 1) 0)) b e d b' → length b' ≡ length b
    → (21 * (i - 1) + 1 ≤ d) × (d ≤ length b') × (0 < d)
room ns p h n i l d k =
    let a = at_most_20 d.text d.is in
    let s = d.start in
    let t = i.1.start in
    (omega arith, omega arith, omega arith)

pub loop-i-init : goal.loop-i-init
loop-i-init c =
    (c.requires.0, none_yet c.args.buf.now c.args.numbers.now c.args.end)

pub overflow_sub-e : goal.overflow_sub-e
overflow_sub-e c =
    (room _ c.requires c.loop-i-test.true c.loop-i.auto.i c.loop-i.invariant c.loop-i.auto.buf c.decimal_before-e.ensures c.decimal_before-e.auto.buf).2

pub loop-i-preserved : goal.loop-i-preserved
loop-i-preserved c =
    let r =
    room _ c.requires c.loop-i-test.true c.loop-i.auto.i c.loop-i.invariant c.loop-i.auto.buf c.decimal_before-e.ensures c.decimal_before-e.auto.buf
    in (
      omega (arith, r.0),
      one_more _ c.loop-i.i c.loop-i-test.true c.loop-i.auto.i c.loop-i.invariant.1 c.decimal_before-e.ensures r.2 r.1,
    )
