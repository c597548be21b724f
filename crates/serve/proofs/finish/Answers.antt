-- where the input has ended the last line is answered, since there is room (`closes_last`)
use Rattle.std.proofs.Common.{arith, ◌∙◌, sym, take}
use Rattle.feed.proofs.laws.Serving.{closes_last}
use Rattle.serve.proofs.finish.Goals as goal

pub returns : goal.returns
returns c =
    closes_last (take c.args.run.now.kept c.args.line.now) (sym c.at_end.ensures ∙ c.if-not-at_end.false) (omega arith) c.answer_last-r.ensures
