-- `pop` meets its contract: from an empty list nobody leaves (`pop_none`), else the head does (`pop_some`).
use Rattle.places.proofs.laws.Words.{pop_none, pop_some, pop_asks}
use Rattle.places.proofs.pop.Goals as goal

pub returns-then-item : goal.returns-then-item
returns-then-item c =
    record { value = c.head_of-item.ensures; marks_value = pop_none _ _ _ c.head_of-item.ensures c.if-item.true }

pub remove-requires : goal.remove-requires
remove-requires c =
    pop_asks _ _ _ c.head_of-item.ensures c.requires c.if-item.false

pub returns : goal.returns
returns c =
    record { value = c.head_of-item.ensures; marks_value = pop_some _ _ _ c.head_of-item.ensures c.if-item.false c.remove.ensures }
