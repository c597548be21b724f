-- `number_of`: by the step.
use mathlib.Core.Path.{ap, ◌∙◌}
use Rattle.entries.specs.declared.Step.TheVariants as S
use Rattle.recover.specs.Scan.{formats}
use Rattle.recover.proofs.laws.Known.{number_as, no_format, number_call, number_open, number_close}
use Rattle.recover.proofs.number_of.Goals as goal

pub returns-in-Format : goal.returns-in-Format
returns-in-Format c =
    number_as (c.in-Asks.is ∙ ap S.Asks c.in-Format.is) (formats c.format_number.ensures)

pub returns-in_default : goal.returns-in_default
returns-in_default c =
    number_as c.in-Asks.is (number_call _ (no_format _ c.in_default.not-Format) c.then_some.ensures)

pub returns-in-Open : goal.returns-in-Open
returns-in-Open c =
    number_as c.in-Open.is (number_open _ c.then_some-in-Open.ensures)

pub returns-in-Close : goal.returns-in-Close
returns-in-Close c =
    number_as c.in-Close.is (number_close _ c.then_some-in-Close.ensures)
