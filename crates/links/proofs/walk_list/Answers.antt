-- `walk_list` meets its contract: what a scan from here says is what it says from the head (`scan_start`, `scan_go`, and a law for each way out).
use mathlib.Core.Path.{refl, sym, ◌∙◌}
use native.Mathlib.Omega.{arith}
use Rattle.links.proofs.laws.Judge.{scan_start, scan_end, scan_tail, scan_full, scan_far, scan_mark, scan_prev, scan_go}
use Rattle.links.proofs.walk_list.Goals as goal

pub returns-then-head-eq-NOBODY : goal.returns-then-head-eq-NOBODY
returns-then-head-eq-NOBODY c =
    sym (scan_end _ _ _ _ _ _ _ _ _ c.if-head-eq-NOBODY.true refl)

pub returns-then-n-head : goal.returns-then-n-head
returns-then-n-head c =
    sym (scan_far _ _ _ _ _ _ _ _ _ c.if-head-eq-NOBODY.false c.if-n-head.true)

pub loop-item-init : goal.loop-item-init
loop-item-init c =
    (omega arith, scan_start _ _ _ _ _ _ _ c.if-head-eq-NOBODY.false)

pub returns-then-left-eq0 : goal.returns-then-left-eq0
returns-then-left-eq0 c =
    sym (scan_full _ _ _ _ _ _ _ _ _ c.loop-item-test.true c.if-left-eq0.true) ∙ c.loop-item.invariant.1

pub returns-then-n-item : goal.returns-then-n-item
returns-then-n-item c =
    sym (scan_far _ _ _ _ _ _ _ _ _ c.loop-item-test.true c.if-n-item.true) ∙ c.loop-item.invariant.1

pub returns-then-marks-k : goal.returns-then-marks-k
returns-then-marks-k c =
    sym (scan_mark _ _ _ _ _ _ _ _ _ c.loop-item-test.true c.if-marks-k.true) ∙ c.loop-item.invariant.1

pub returns-then-prevs-k : goal.returns-then-prevs-k
returns-then-prevs-k c =
    sym (scan_prev _ _ _ _ _ _ _ _ _ c.loop-item-test.true c.if-prevs-k.true) ∙ c.loop-item.invariant.1

pub loop-item-preserved : goal.loop-item-preserved
loop-item-preserved c = (
  omega (arith, c.shared_slice_known-in-loop-item-3-1.given c.loop-item.item),
  sym (scan_go _ _ _ _ _ _ _ _ _ c.loop-item-test.true (omega arith) (omega arith) c.if-marks-k.false c.if-prevs-k.false)
      ∙ c.loop-item.invariant.1,
)

pub returns-then-prev-tail : goal.returns-then-prev-tail
returns-then-prev-tail c =
    sym (scan_tail _ _ _ _ _ _ _ _ _ c.loop-item-test.false c.if-prev-tail.true) ∙ c.loop-item.invariant.1

pub returns : goal.returns
returns c =
    sym (scan_end _ _ _ _ _ _ _ _ _ c.loop-item-test.false c.if-prev-tail.false) ∙ c.loop-item.invariant.1
