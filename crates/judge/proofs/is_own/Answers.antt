-- `is_own` meets its contract: a block's start is a multiple of every width (`own_block`), and at the top level nothing else is (`own_top`).
use native.Mathlib.Omega.{arith}
use Prim.Native.Nat.{◌+◌}
use Rattle.times.proofs.laws.Widths.{width_pos}
use Rattle.contracts.proofs.laws.Tells.{tells_no}
use Rattle.judge.proofs.laws.Judge.{own_block, own_told, own_top}
use Rattle.judge.proofs.is_own.Goals as goal

pub returns-then-elapsed-eq0-2 : goal.returns-then-elapsed-eq0-2
returns-then-elapsed-eq0-2 c =
    tells_no (λ o. omega (arith, c.if-elapsed-eq0-2.true, (o.1 c.if-elapsed-eq0.true).0))

pub returns-then-elapsed-eq0 : goal.returns-then-elapsed-eq0
returns-then-elapsed-eq0 c =
    own_block c.requires c.if-elapsed-eq0.true c.if-elapsed-eq0-2.false

pub returns-then-above-eq-NUM_LEVELS : goal.returns-then-above-eq-NUM_LEVELS
returns-then-above-eq-NUM_LEVELS c =
    tells_no (own_top _ (omega arith) c.if-above-eq-NUM_LEVELS.true c.if-elapsed-eq0.false)

pub slot_range-requires : goal.slot_range-requires
slot_range-requires c =
    omega (arith, c.requires, c.if-above-eq-NUM_LEVELS.false)

pub returns : goal.returns
returns c =
    own_told _ (omega arith) c.if-elapsed-eq0.false c.slot_range.ensures

pub nonzero_rem-result : goal.nonzero_rem-result
nonzero_rem-result c =
    omega (arith, c.slot_range.ensures, width_pos (c.args.level + 1))
