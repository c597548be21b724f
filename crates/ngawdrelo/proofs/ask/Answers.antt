-- `ask` meets its claim: a call is a run of one command (`run_faced`).
use borrow.Author.Rules.{rules}
use Rattle.ngawdrelo.proofs.laws.Face.{run_faced}
use Rattle.ngawdrelo.proofs.ask.Goals as goal

pub returns : goal.returns
returns c =
    run_faced c.args.call c.command_of-command.ensures (search rules) c.answer_all-said.ensures.run
