-- `row::occupied_bit` meets its contract: 1 shifted by less than the width is a power of two (`one_shl`).
use borrow.Author.Rules.{rules}
use Rattle.row.proofs.laws.Code.{one_shl}
use Rattle.row.proofs.occupied_bit.Statement.{statement}
use Rattle.row.proofs.occupied_bit.Tie as tie

returns : tie.Need-returns
returns c = one_shl c.args.slot c.requires

pub occupied_bit_spec : {M : Type 1} → statement M
occupied_bit_spec = tie.close (tie.spec (λ c. search rules) returns)
