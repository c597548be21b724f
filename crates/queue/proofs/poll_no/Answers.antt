-- `poll_no` meets its contract, case by case.
use Rattle.queue.proofs.laws.Polls.{no_other, no_same, no_back, no_none}
use Rattle.queue.proofs.poll_no.Goals as goal

pub returns-then-time-until : goal.returns-then-time-until
returns-then-time-until c =
    no_other c.if-hand-ne-NOBODY.true c.if-time-until.true

pub returns-then-hand-ne-NOBODY : goal.returns-then-hand-ne-NOBODY
returns-then-hand-ne-NOBODY c =
    no_same c.if-hand-ne-NOBODY.true c.if-time-until.false

pub returns-then-time-elapsed : goal.returns-then-time-elapsed
returns-then-time-elapsed c =
    no_back c.if-hand-ne-NOBODY.false c.if-time-elapsed.true

pub returns : goal.returns
returns c =
    no_none c.if-hand-ne-NOBODY.false c.if-time-elapsed.false
