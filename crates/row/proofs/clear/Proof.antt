-- `row::clear` meets its contract: an exclusive or with the slot's bit, where it is set, clears its flag alone (`xor_clears`).
use mathlib.Core.Path.{ap, ◌∙◌}
use lib.Bits.{bit_xor}
use borrow.Author.Rules.{rules}
use Rattle.row.proofs.laws.Code.{xor_clears}
use Rattle.row.proofs.clear.Statement.{statement}
use Rattle.row.proofs.clear.Tie as tie

returns : tie.Need-returns
returns c =
    ap (bit_xor c.before.args.occupied) c.occupied_bit.ensures
    ∙ xor_clears _ _ c.before.ranges.occupied.fits c.before.requires.0 c.before.requires.1

pub clear_spec : {M : Type 1} → statement M
clear_spec = tie.close (tie.spec (λ c κs. search rules) returns)
