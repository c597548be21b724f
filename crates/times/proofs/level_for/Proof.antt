-- `times::level_for` meets its contract: within a block the leading zeros give the level (`zeros_level`).
use native.Mathlib.Omega.{arith}
use Rattle.times.proofs.laws.Levels.{zeros_le, zeros_level}
use Rattle.times.proofs.level_for.Statement.{statement}
use Rattle.times.proofs.level_for.Tie as tie

cast-leading-zeros : tie.Need-overflow_cast-leading_zeros
cast-leading-zeros c = omega (arith, zeros_le c.args.elapsed c.args.when c.requires)

sub-significant : tie.Need-overflow_sub-significant
sub-significant c = omega (arith, zeros_le c.args.elapsed c.args.when c.requires)

returns : tie.Need-returns
returns c = zeros_level c.args.elapsed c.args.when c.requires

pub level_for_spec : {M : Type 1} → statement M
level_for_spec = tie.close (tie.spec cast-leading-zeros sub-significant returns)
