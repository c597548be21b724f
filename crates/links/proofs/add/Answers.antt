-- `add` meets its contract, store by store (`add_is`); the head by the test.
use Rattle.links.specs.Links.{head_with}
use Rattle.links.proofs.laws.Links.{add_is}
use Rattle.links.proofs.add.Goals as goal

pub put-requires : goal.put-requires
put-requires c =
    rw c.tail_or.ensures c.requires.last

pub returns : goal.returns
unfolding head_with
returns c =
    record { value = c.choose.ensures; marks_value = add_is _ _ _ _ _ c.tail_or.ensures c.put.ensures c.enter.ensures.prevs_value c.enter.ensures.marks_value }
