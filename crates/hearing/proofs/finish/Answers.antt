-- nothing is kept (`closes_none`), or what is kept is a line (`closes_line`)
use Rattle.std.proofs.Common.{arith, ◌∙◌, sym}
use Rattle.lines.proofs.laws.Running.{closes_line, closes_none}
use Rattle.hearing.proofs.finish.Goals as goal

pub returns-then-line-eq0 : goal.returns-then-line-eq0
returns-then-line-eq0 g c = closes_none _ c.if-line-eq0.true

pub returns : goal.returns
returns g c = closes_line _ (sym c.at_end.ensures ∙ c.if-not-at_end.false) (omega arith) c.hear.ensures
