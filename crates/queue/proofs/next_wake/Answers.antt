-- `next_wake` meets its contract: a timer has expired (`wake_now`), or none has, and then by the case of the wheel's answer (`wake_at`, `wake_never`).
use Rattle.queue.proofs.laws.Polls.{wake_now, wake_at, wake_never}
use Rattle.queue.proofs.next_wake.Goals as goal

pub returns-then-expired-ne-NOBODY : goal.returns-then-expired-ne-NOBODY
returns-then-expired-ne-NOBODY c =
    λ v S. wake_now v S c.if-expired-ne-NOBODY.true

pub returns-in-Some : goal.returns-in-Some
returns-in-Some c =
    λ v S. wake_at v S c.if-expired-ne-NOBODY.false (c.poll_at.ensures v.lists S.wheel) c.in-Some.is

pub returns-in-None : goal.returns-in-None
returns-in-None c =
    λ v S. wake_never v S c.if-expired-ne-NOBODY.false (c.poll_at.ensures v.lists S.wheel) c.in-None.is
