-- `walk_rest` meets its contract: what the walk of the places finds from here is what it finds from the first that is no slot (`judge_go`, and a
-- law for each way out).
use mathlib.Core.Path.{refl, ◌∙◌}
use native.Mathlib.Omega.{arith}
use Rattle.places.proofs.laws.Judge.{judge_go, judge_wrong, rest_wrong, rest_end}
use Rattle.places.proofs.walk_rest.Goals as goal

pub loop-place-init : goal.loop-place-init
loop-place-init c =
    (omega arith, refl)

pub returns-in_default : goal.returns-in_default
returns-in_default c =
    rest_wrong _ _ _ _ c.loop-place.invariant.1
    (judge_wrong _ _ _ _ _ c.loop-place-test.true c.head_of-head.ensures c.walk_list.ensures c.in_default.is)

pub loop-place-preserved : goal.loop-place-preserved
loop-place-preserved c =
    let e = judge_go _ _ _ _ _ c.loop-place-test.true c.head_of-head.ensures c.walk_list.ensures _ c.in-Some.is in
    (omega arith, c.loop-place.invariant.1 ∙ e)

pub returns : goal.returns
returns c =
    rest_end _ _ _ _ _ c.loop-place.invariant.1 c.loop-place-test.false c.count_loose.ensures
