-- what is written lies within what is lent (`last_room`), and where the input has ended the last line is done, since there is room (`closes_last`)
use Rattle.std.proofs.Common.{arith, ◌∙◌, refl, sym, take}
use Rattle.lines.proofs.laws.Running.{breaks_off}
use Rattle.noting.proofs.laws.NextLines.{last_room}
use Rattle.noting.proofs.laws.Running.{closes_last}
use Rattle.journaled.proofs.finish.Goals as goal

pub returns-then-not-at_end : goal.returns-then-not-at_end
returns-then-not-at_end c = λ e. breaks_off (sym c.at_end.ensures ∙ c.if-not-at_end.true)

pub settle-k-requires : goal.settle-k-requires
settle-k-requires c =
    let w = last_room c.answer_last-r.ensures (omega arith, omega arith) in (omega (arith, w.0), omega (arith, w.1))

pub returns : goal.returns
returns c =
    λ e.
    let ended = sym c.at_end.ensures ∙ c.if-not-at_end.false in
    closes_last (take c.args.run.kept c.args.line.now) c.args.run.file.length ended refl (omega arith, omega arith) c.answer_last-r.ensures
    (c.settle-k.ensures e)
