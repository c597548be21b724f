-- `poll_idx` meets its contract: the expired stack has a first (`of_expired`), or the wheel answers (`of_wheel`).
use Rattle.queue.specs.Inner.{of_expired, of_wheel}
use Rattle.queue.proofs.laws.Polls.{wheel_can}
use Rattle.queue.proofs.poll_idx.Goals as goal

pub returns-then-first : goal.returns-then-first
returns-then-first c =
    of_expired c.pop-first.ensures c.if-first.true

pub poll-requires : goal.poll-requires
poll-requires c =
    wheel_can c.requires c.pop-first.ensures c.if-first.false

pub returns : goal.returns
returns c =
    of_wheel c.pop-first.ensures c.if-first.false c.poll.ensures
