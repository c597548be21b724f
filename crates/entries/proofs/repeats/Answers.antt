-- `repeats`: fewer than 18 bytes are a cut (`pair_cut`); else the entry shows damage by itself (`pair_spoilt`), or none (`pair_fine`).
use Rattle.std.proofs.lemmas.Result.{err_from_is_err_and}
use Rattle.entries.proofs.laws.Reading.{pair_cut, pair_spoilt, pair_fine}
use Rattle.entries.proofs.repeats.Goals as goal

pub returns-in_default : goal.returns-in_default
returns-in_default c =
    pair_cut c.args.e c.args.behind.now 0 c.in_default.ensures

pub returns-in_err-check : goal.returns-in_err-check
returns-in_err-check c =
    let p = err_from_is_err_and c.from_residual.result c.from_residual.ensures.1 in
    rw (p.1, p.2) (pair_spoilt _ _ _ c.in-Some.ensures c.args.e c.in_err-check.ensures)

pub returns : goal.returns
returns c =
    pair_fine _ _ _ c.in-Some.ensures c.args.e c.in_ok-check.ensures c.pair.ensures
