-- `push` meets its contract, store by store: at the free list `push_head_is`, elsewhere `push_tail_is`.
use Rattle.places.proofs.laws.Words.{push_head_is, push_tail_is}
use Rattle.places.proofs.push.Goals as goal

pub join-requires : goal.join-requires
join-requires c =
    rw c.head_of-head.ensures c.requires.1

pub returns-then-place-eq-FREE : goal.returns-then-place-eq-FREE
returns-then-place-eq-FREE c =
    push_head_is _ _ _ _ c.if-place-eq-FREE.true c.head_of-head.ensures c.set_head.ensures.tops_value c.set_head.ensures.heads_value c.join.ensures

pub add-first-requires : goal.add-first-requires
add-first-requires c =
    rw c.head_of-head.ensures c.requires.1

pub returns : goal.returns
returns c =
    push_tail_is _ _ _ _ _ c.if-place-eq-FREE.false c.head_of-head.ensures c.add-first.ensures.value c.set_head-2.ensures.tops_value c.set_head-2.ensures.heads_value
    c.add-first.ensures.marks_value
