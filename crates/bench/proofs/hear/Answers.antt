-- `hear` finds what the line asks: what was read, where its letter is known (`heard`), and else nothing (`heard_none`, `heard_not`).
use Rattle.bench.proofs.laws.Hearing.{heard, heard_none, heard_not}
use Rattle.bench.proofs.hear.Goals as goal

pub returns-in_err-call : goal.returns-in_err-call
returns-in_err-call c =
    rw c.from_residual.ensures (heard_none c.in_err-call.ensures)

pub returns-then-is_known : goal.returns-then-is_known
returns-then-is_known c =
    heard c.in_ok-call.ensures (c.is_known.ensures.yes c.if-is_known.true)

pub returns : goal.returns
returns c =
    heard_not c.in_ok-call.ensures (c.is_known.ensures.no c.if-is_known.false)
