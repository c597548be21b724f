-- `times::slot_range` meets its contract: the const row holds the widths (`widths_are`).
use borrow.Author.Rules.{rules}
use Rattle.times.proofs.laws.Widths.{widths_are}
use Rattle.times.proofs.slot_range.Statement.{statement}
use Rattle.times.proofs.slot_range.Tie as tie

returns : tie.Need-returns
returns c = widths_are c.args.level c.requires

pub slot_range_spec : {M : Type 1} → statement M
slot_range_spec = tie.close (tie.spec (λ c. search rules) (λ c. search rules) returns)
