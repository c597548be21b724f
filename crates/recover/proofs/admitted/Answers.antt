-- `admitted`: there is no step, it has a number, or none.
use mathlib.Core.Path.{sym}
use Rattle.std.proofs.lemmas.Result.{err_from_is_err_and}
use Rattle.recover.specs.Scan.{no_step, refused, step}
use Rattle.recover.proofs.admitted.Goals as goal

pub returns-in_err-step : goal.returns-in_err-step
returns-in_err-step c =
    let p = err_from_is_err_and c.from_residual.result c.from_residual.ensures.1 in
    rw (p.1, p.2) (no_step (sym c.in_err-step.ensures))

pub returns-in-Some : goal.returns-in-Some
returns-in-Some c =
    refused (sym c.in_ok-step.ensures) c.in-Some.ensures

pub returns-in-None : goal.returns-in-None
returns-in-None c =
    step (sym c.in_ok-step.ensures) c.in-None.ensures
