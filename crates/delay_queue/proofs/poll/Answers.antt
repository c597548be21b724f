-- `poll` meets its claim: it is `poll_some` with a limit past all heights (`whole_claim`).
use Rattle.delay_queue.proofs.laws.Back.{whole_claim}
use Rattle.delay_queue.proofs.poll.Goals as goal

pub returns : goal.returns
returns c =
    whole_claim c.poll_some.ensures
