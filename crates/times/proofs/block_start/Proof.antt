-- `times::block_start` meets its contract: a block is as wide as a slot of a seventh level would be.
use borrow.Author.Rules.{rules}
use mathlib.Core.Path.{refl}
use Rattle.times.specs.Times.{width, floor}
use Rattle.times.proofs.block_start.Statement.{statement}
use Rattle.times.proofs.block_start.Tie as tie

returns : tie.Need-returns
unfolding floor width
returns c = refl

pub block_start_spec : {M : Type 1} → statement M
block_start_spec = tie.close (tie.spec (λ c. search rules) returns)
