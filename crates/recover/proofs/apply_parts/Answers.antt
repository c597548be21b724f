-- `apply_parts` meets its claim: one pass asks one step (`apply_pass`), and it ends where there is none (`apply_ends`).
use mathlib.Core.Path.{sym, ◌∙◌}
use native.Mathlib.Omega.{arith}
use Rattle.recover.proofs.laws.Apply.{apply_start, apply_pass, apply_ends, step_forth}
use Rattle.recover.proofs.apply_parts.Goals as goal

pub loop-step-init : goal.loop-step-init
loop-step-init c =
    (apply_start _ _, c.requires)

pub returns : goal.returns
returns c =
    apply_ends c.loop-step.invariant.0 (sym c.in_default.ensures)

pub one-r-requires : goal.one-r-requires
one-r-requires c =
    c.loop-step.invariant.1

pub overflow_add-used : goal.overflow_add-used
overflow_add-used c =
    let f = step_forth _ c.loop-step.used (sym c.read_step.ensures ∙ c.in-Ok.is) c.size_of-used.ensures in
    omega (arith, f.1, c.well_formed)

pub loop-step-smaller : goal.loop-step-smaller
loop-step-smaller c =
    let f = step_forth _ c.loop-step.used (sym c.read_step.ensures ∙ c.in-Ok.is) c.size_of-used.ensures in
    omega (arith, f.0, f.1)

pub loop-step-preserved : goal.loop-step-preserved
loop-step-preserved c =
    let I = c.loop-step.invariant in
    (apply_pass I.0 (sym c.read_step.ensures ∙ c.in-Ok.is) c.one-r.ensures.makes c.size_of-used.ensures, c.one-r.ensures.tells)
