-- `remove` meets its contract, store by store (`remove_is`).
use Rattle.places.proofs.laws.Words.{remove_is}
use Rattle.places.proofs.remove.Goals as goal

pub cut-left-requires : goal.cut-left-requires
cut-left-requires c =
    rw c.head_of-head.ensures c.requires.1

pub returns : goal.returns
returns c =
    remove_is _ _ _ _ c.head_of-head.ensures c.cut-left.ensures.value c.set_head.ensures.tops_value c.set_head.ensures.heads_value c.cut-left.ensures.marks_value
