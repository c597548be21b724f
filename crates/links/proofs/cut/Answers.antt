-- `cut` meets its contract, store by store (`cut_is`).
use Rattle.links.specs.Links.{head_after}
use Rattle.links.proofs.laws.Links.{cut_is, cut_asks}
use Rattle.links.proofs.cut.Goals as goal

pub put-requires : goal.put-requires
put-requires c =
    rw c.choose.ensures c.requires.link

pub put-requires-2 : goal.put-requires-2
put-requires-2 c =
    cut_asks c.requires c.choose-first.ensures c.choose-2.ensures

pub returns : goal.returns
unfolding head_after
returns c =
    record { value = c.choose-first.ensures; marks_value = cut_is _ _ _ c.choose-first.ensures c.choose.ensures c.choose-2.ensures c.put.ensures c.put-2.ensures }
