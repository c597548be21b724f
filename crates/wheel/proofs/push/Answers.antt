-- `push` meets its contract: one list changes that has no flag (`push_aside`).
use Rattle.wheel.proofs.laws.Words.{push_asks, push_aside}
use Rattle.wheel.proofs.push.Goals as goal

pub push-requires : goal.push-requires
push-requires c =
    push_asks c.requires

pub returns : goal.returns
returns c =
    push_aside c.requires c.push.ensures
