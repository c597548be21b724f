-- `walk_level` meets its contract: the slots passed are walked and have their flags (`level_passed`, `level_taken`), or a list is wrong (`level_wrong`).
use mathlib.Core.Path.{sym, ◌∙◌, subst}
use native.Mathlib.Omega.{arith}
use Rattle.places.proofs.laws.Judge.{WalkedSo, level_begun, level_passed, level_taken, level_wrong, level_done}
use Rattle.places.proofs.walk_level.Goals as goal
use Rattle.places.proofs.walk_level.Goals.{else-head, then-head+in_ok-left}

pub loop-slot-init : goal.loop-slot-init
loop-slot-init c =
    level_begun _ _ (omega arith) _

pub returns-in_err-left : goal.returns-in_err-left
returns-in_err-left c =
    rw c.from_residual.ensures
    (level_wrong _ _ (omega arith) c.loop-slot.invariant c.loop-slot-test.true c.slot_place-place.ensures c.walk_list.ensures c.in_err-left.was)

pub loop-slot-preserved : goal.loop-slot-preserved
loop-slot-preserved c =
    let S = c.loop-slot.invariant in
    let h = c.loop-slot-test.true in
    elim c.if-head.branch [
      | then-head+in_ok-left w ↦
          subst (λ l. WalkedSo _ _ _ _ l _) (sym w.left-is)
          (level_taken _ _ (omega arith) S h w.slot_place-place.ensures w.walk_list.ensures w.if-head.true _ w.in_ok-left.was
          (w.filled-is ∙ w.set-filled.ensures))
      | else-head w ↦ rw (w.left-is, w.filled-is) (level_passed _ _ (omega arith) S h w.if-head.false)
    ]

pub returns : goal.returns
returns c =
    level_done _ _ (omega arith) c.loop-slot.invariant c.loop-slot-test.false
