-- `fields_behind` reads the first field (`first_of`), and behind a space a second: one law for each way out.
use Rattle.splitting.proofs.laws.Fields.{the_one}
use Rattle.inspector.proofs.laws.Reading.{no_first, then_second}
use Rattle.inspector.proofs.fields_behind.Goals as goal

pub returns-in_err-a : goal.returns-in_err-a
returns-in_err-a c =
    rw c.from_residual.ensures (no_first c.in_err-a.ensures)

pub returns-in-Only : goal.returns-in-Only
returns-in-Only c =
    the_one (rw c.in-Only.is at c.in_ok-a.ensures)

pub returns-in-Then : goal.returns-in-Then
returns-in-Then c =
    then_second c.in-Then.f (rw c.in-Then.is at c.in_ok-a.ensures).1 c.second.result c.second.ensures
