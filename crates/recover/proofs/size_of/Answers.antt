-- `size_of`: an insert by its period, and any other step by what it is not (`size_entry`, `size_patch`).
use mathlib.Core.Path.{ap, ◌∙◌}
use Rattle.entries.specs.declared.Step.TheVariants as S
use Rattle.recover.proofs.laws.Parts.{size_as, size_patch, size_entry, size_insert, size_repeat}
use Rattle.recover.proofs.size_of.Goals as goal

pub returns-in_default : goal.returns-in_default
returns-in_default c =
    size_patch _ c.in_default.not-Asks

pub returns-then-period-eq0 : goal.returns-then-period-eq0
returns-then-period-eq0 c =
    size_as (c.in-Asks.is ∙ ap S.Asks c.in-Insert.is) (size_insert _ _ _ c.if-period-eq0.true)

pub returns-else-period-eq0 : goal.returns-else-period-eq0
returns-else-period-eq0 c =
    size_as (c.in-Asks.is ∙ ap S.Asks c.in-Insert.is) (size_repeat _ _ _ c.if-period-eq0.false)

pub returns-in_default-call : goal.returns-in_default-call
returns-in_default-call c =
    let d = c.in_default-call in size_as c.in-Asks.is (size_entry _ d.not-Insert d.not-Wake d.not-Length)
