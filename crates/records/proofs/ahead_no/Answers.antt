-- `ahead_no` meets its contract: `too_far` tells.
use mathlib.Core.Path.{sym, ◌∙◌}
use Rattle.records.proofs.laws.Found.{no_far, no_near}
use Rattle.records.proofs.ahead_no.Goals as goal

pub returns-then-too_far : goal.returns-then-too_far
returns-then-too_far c =
    no_far _ _ (sym c.if-too_far.true ∙ c.too_far.ensures)

pub returns : goal.returns
returns c =
    no_near _ _ (sym c.if-too_far.false ∙ c.too_far.ensures)
