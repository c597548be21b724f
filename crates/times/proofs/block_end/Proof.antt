-- `times::block_end` meets its contract: the quotient and one more, times the block, within a u64 as it asks.
use borrow.Author.Rules.{rules}
use mathlib.Core.Path.{refl}
use Rattle.times.specs.Times.{block_end}
use Rattle.times.proofs.block_end.Statement.{statement}
use Rattle.times.proofs.block_end.Tie as tie

mul-result : tie.Need-overflow_mul-result
unfolding block_end
mul-result c = record { fits = c.requires }

returns : tie.Need-returns
unfolding block_end
returns c = refl

pub block_end_spec : {M : Type 1} → statement M
block_end_spec = tie.close (tie.spec (λ c. search rules) mul-result returns)
