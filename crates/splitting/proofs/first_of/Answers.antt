-- `first_of` finds the first number behind a space, or says that none is first (`first_bad`).
use Rattle.splitting.proofs.laws.Fields.{first_bad}
use Rattle.splitting.proofs.first_of.Goals as goal

pub returns-in_err-a : goal.returns-in_err-a
returns-in_err-a c =
    rw c.from_residual.ensures (first_bad _ _ c.field_end-e.ensures (rw c.in_err-a.was at c.number.ensures))
