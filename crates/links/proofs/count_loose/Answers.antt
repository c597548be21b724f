-- `count_loose` meets its contract: the count is that of the records passed (`loose_more`, `loose_same`).
use mathlib.Core.Path.{◌≡◌, sym, ap, ◌∙◌}
use Prim.Native.Nat.{ℕ, ◌+◌}
use native.Mathlib.Omega.{arith}
use Rattle.links.specs.Judge.{loose_in}
use Rattle.links.proofs.laws.Judge.{loose_zero, loose_more, loose_same}
use Rattle.links.proofs.count_loose.Goals as goal
use Rattle.links.proofs.count_loose.Goals.{else-is_loose, then-is_loose}

pub loop-i-init : goal.loop-i-init
loop-i-init c =
    (omega arith, sym (loose_zero _ _ _ _))

pub overflow_add-count : goal.overflow_add-count
overflow_add-count c =
    omega (arith, c.loop-i.invariant.0)

pub loop-i-preserved : goal.loop-i-preserved
loop-i-preserved c =
    elim c.if-is_loose.branch [
      | then-is_loose w ↦ (
        omega arith,
        w.count-is ∙ ap (λ (x : ℕ). x + 1) c.loop-i.invariant.1
            ∙ sym (loose_more _ _ _ _ _ (sym c.is_loose.ensures ∙ w.if-is_loose.true)),
      )
      | else-is_loose w ↦ (omega arith, w.count-is ∙ c.loop-i.invariant.1 ∙ sym (loose_same _ _ _ _ _ (sym c.is_loose.ensures ∙ w.if-is_loose.false)))
    ]

pub returns : goal.returns
returns c =
    let e : c.loop-i.i ≡ c.args.n = omega arith in
    c.loop-i.invariant.1 ∙ ap (loose_in _ _ _ _) e
