-- `next_wake` meets its claim: the judge's answer decides, and on a sound store it is what `queue::next_wake` answers.
use mathlib.Core.Path.{refl}
use Rattle.delay_queue.proofs.laws.Back.{no_free, taken_alone, can_look, wake_done}
use Rattle.refusals.proofs.laws.Numbers.{number_some, refused, taken_none}
use Rattle.delay_queue.specs.Free.{FreeNo}
use Rattle.delay_queue.proofs.next_wake.Goals as goal

pub returns-in-Err : goal.returns-in-Err
returns-in-Err c =
    rw c.number.ensures (no_free (refused (FreeNo _) c.free_no-free.ensures c.in-Err.is) (number_some _))

pub next_wake-requires : goal.next_wake-requires
next_wake-requires c =
    can_look (c.free_no-free.ensures.taken (taken_none c.in_default.is))

pub returns : goal.returns
returns c =
    let F = c.free_no-free.ensures.taken (taken_none c.in_default.is) in
    taken_alone F (wake_done refl refl F c.next_wake.ensures)
