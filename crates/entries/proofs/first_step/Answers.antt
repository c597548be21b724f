-- `first_step`: fewer than 18 bytes are a cut (`next_cut`); else the entry shows damage by itself (`next_spoilt`), or none (`next_fine`).
use Rattle.std.proofs.lemmas.Result.{err_from_is_err_and}
use Rattle.entries.proofs.laws.Reading.{next_cut, next_spoilt, next_fine}
use Rattle.entries.proofs.first_step.Goals as goal

pub returns-in_default : goal.returns-in_default
returns-in_default c =
    next_cut c.args.bytes.now 0 c.in_default.ensures

pub returns-in_err-check : goal.returns-in_err-check
returns-in_err-check c =
    let p = err_from_is_err_and c.from_residual.result c.from_residual.ensures.1 in
    rw (p.1, p.2) (next_spoilt _ _ _ c.in-Some.ensures c.in_err-check.ensures)

pub returns : goal.returns
returns c =
    next_fine _ _ _ c.in-Some.ensures c.in_ok-check.ensures c.step_of.ensures
