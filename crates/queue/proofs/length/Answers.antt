-- `length` meets its contract: the count is that of the records passed (`pending_more`, `pending_same`).
use mathlib.Core.Path.{◌≡◌, sym, ap, ◌∙◌}
use Prim.Native.Nat.{ℕ, ◌+◌}
use native.Mathlib.Omega.{arith}
use Rattle.queue.specs.Inner.{pending_in}
use Rattle.queue.proofs.laws.Polls.{pending_zero, pending_more, pending_same}
use Rattle.queue.proofs.length.Goals as goal
use Rattle.queue.proofs.length.Goals.{else-is_pending, then-is_pending}

pub loop-i-init : goal.loop-i-init
loop-i-init c =
    (omega arith, sym (pending_zero _))

pub overflow_add-count : goal.overflow_add-count
overflow_add-count c =
    omega (arith, c.loop-i.invariant.0)

pub loop-i-preserved : goal.loop-i-preserved
loop-i-preserved c =
    let e = sym c.is_pending.ensures in
    elim c.if-is_pending.branch [
      | then-is_pending w ↦ (omega arith, w.count-is ∙ ap (λ (x : ℕ). x + 1) c.loop-i.invariant.1 ∙ sym (pending_more _ _ (e ∙ w.if-is_pending.true)))
      | else-is_pending w ↦ (omega arith, w.count-is ∙ c.loop-i.invariant.1 ∙ sym (pending_same _ _ (e ∙ w.if-is_pending.false)))
    ]

pub returns : goal.returns
returns c =
    let e : c.loop-i.i ≡ c.args.n = omega arith in
    c.loop-i.invariant.1 ∙ ap (pending_in _) e
