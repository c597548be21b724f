-- `row::set` meets its contract: an or with the slot's bit sets its flag alone (`or_sets`).
use mathlib.Core.Path.{ap, ◌∙◌}
use lib.Bits.{bit_or}
use borrow.Author.Rules.{rules}
use Rattle.row.proofs.laws.Code.{or_sets}
use Rattle.row.proofs.set.Statement.{statement}
use Rattle.row.proofs.set.Tie as tie

returns : tie.Need-returns
returns c = ap (bit_or c.before.args.occupied) c.occupied_bit.ensures ∙ or_sets _ _ c.before.ranges.occupied.fits c.before.requires

pub set_spec : {M : Type 1} → statement M
set_spec = tie.close (tie.spec (λ c κs. search rules) returns)
