-- `insert` meets its claim: the judge's answer decides, and on a sound store it is what `queue::insert` does.
use Rattle.records.specs.Words.{Sound}
use Rattle.records.proofs.laws.Lent.{lent_as}
use Rattle.queue.specs.Calls.{InsertOn}
use Rattle.delay_queue.proofs.laws.Back.{back, sent_away, parted, taken_insert}
use Rattle.refusals.proofs.laws.Numbers.{number_some, refused, taken_none}
use Rattle.delay_queue.specs.Free.{FreeNo}
use Rattle.delay_queue.proofs.insert.Goals as goal

pub returns-in-Err : goal.returns-in-Err
returns-in-Err c =
    sent_away _ _ _ _ _ _ (refused (FreeNo _) c.free_no-free.ensures c.in-Err.is) (number_some _) c.refused.ensures

pub insert-answer-requires : goal.insert-answer-requires
insert-answer-requires c =
    lent_as Sound c.tops_in-tops.ensures
    (parted (c.free_no-free.ensures.taken (taken_none c.in_default.is)))

pub returns : goal.returns
returns c =
    taken_insert (c.free_no-free.ensures.taken (taken_none c.in_default.is)) c.tops_in-tops.ensures
    (back _ _ _ _ _ _ c.packed.ensures (InsertOn _ _ _ _) c.insert-answer.ensures)
