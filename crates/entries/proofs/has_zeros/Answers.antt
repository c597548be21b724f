-- `has_zeros`: the 12 bits, then the fields.
use borrow.Author.Tests.{eq-eqb, ne_eqb}
use Rattle.entries.specs.Reading.{zeros}
use Rattle.entries.proofs.has_zeros.Goals as goal

pub returns-then-e-eq0 : goal.returns-then-e-eq0
unfolding zeros
returns-then-e-eq0 c =
    simp (eq-eqb c.args.e.spare 0 c.if-e-eq0.true) c.has_field_zeros.ensures

pub returns-else-e-eq0 : goal.returns-else-e-eq0
unfolding zeros
returns-else-e-eq0 c =
    simp (ne_eqb c.args.e.spare 0 c.if-e-eq0.false)
