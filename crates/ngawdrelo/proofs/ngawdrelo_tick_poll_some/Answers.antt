-- `ngawdrelo_tick_poll_some` meets its claim: the call that is asked is a poll with a limit (`polled_some`).
use borrow.Author.Rules.{rules}
use Rattle.ngawdrelo.proofs.laws.Face.{said, polled_some}
use Rattle.ngawdrelo.proofs.ngawdrelo_tick_poll_some.Goals as goal

pub returns : goal.returns
returns c =
    let F = c.ask_at.ensures in
    said F.what F.is (polled_some (λ n k m. search rules) F.holds)
