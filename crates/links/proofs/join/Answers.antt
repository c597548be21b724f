-- `join` meets its contract, store by store (`join_is`).
use Rattle.links.proofs.laws.Links.{join_is}
use Rattle.links.proofs.join.Goals as goal

pub returns : goal.returns
returns c =
    join_is _ _ _ _ c.enter.ensures.prevs_value c.enter.ensures.marks_value
