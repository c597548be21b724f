-- `records_agree` meets its contract: the records passed agree, and one that does not ends it.
use native.Mathlib.Omega.{arith}
use Rattle.contracts.proofs.laws.Tells.{tells_yes, tells_no}
use Rattle.judge.proofs.laws.Judge.{record_next}
use Rattle.judge.proofs.records_agree.Goals as goal

pub loop-i-init : goal.loop-i-init
loop-i-init c =
    λ i h. absurd (omega arith)

pub returns-then-not-record_agrees : goal.returns-then-not-record_agrees
returns-then-not-record_agrees c =
    tells_no (λ R. c.record_agrees.ensures.no c.if-not-record_agrees.true (R _ c.loop-i-test.true))

pub loop-i-preserved : goal.loop-i-preserved
loop-i-preserved c =
    record_next c.args.deadlines.now c.args.turns.now c.args.marks.now c.loop-i.invariant
    (c.record_agrees.ensures.yes c.if-not-record_agrees.false)

pub returns : goal.returns
returns c =
    tells_yes (λ i h. c.loop-i.invariant i (omega (arith, h)))
