-- `deadline_no` meets its contract: a deadline below elapsed is too old or taken, of any other `ahead_no` tells (`no_recent`).
use native.Mathlib.Omega.{arith}
use Rattle.records.proofs.laws.Found.{no_recent}
use Rattle.records.proofs.deadline_no.Goals as goal

pub returns : goal.returns
returns c =
    no_recent _ _ (λ o. omega (arith, c.if-when-elapsed.false, o)) c.ahead_no.ensures
