-- `poll` meets its contract: it is refused (`poll_refused`), has not ended (`poll_yet`), or has, and somebody is handed out (`poll_handed`) or nobody
-- (`poll_none`).
use mathlib.Core.Path.{refl}
use Rattle.queue.proofs.laws.Polls.{poll_refused, poll_can, poll_yet, poll_none, poll_loose, poll_handed}
use Rattle.refusals.proofs.laws.Numbers.{number_some, refused, taken_none}
use Rattle.queue.specs.Inner.{PollNo}
use Rattle.queue.proofs.poll.Goals as goal

pub returns-in-Err : goal.returns-in-Err
returns-in-Err c =
    rw c.number.ensures (poll_refused c.requires _ _ (refused (PollNo _ _ _ _) c.poll_no.ensures c.in-Err.is) (number_some _))

pub poll_idx-due-requires : goal.poll_idx-due-requires
poll_idx-due-requires c =
    poll_can c.requires _ 0 c.poll_no.ensures (taken_none c.in_default.is)

pub returns-then-place : goal.returns-then-place
returns-then-place c =
    poll_yet c.requires _ _ c.poll_no.ensures (taken_none c.in_default.is) c.poll_idx-due.ensures c.if-place.true

pub returns-then-item : goal.returns-then-item
returns-then-item c =
    poll_none c.requires _ _ c.poll_no.ensures (taken_none c.in_default.is) c.poll_idx-due.ensures c.if-place.false c.if-item.true

pub hand_out-answer-requires : goal.hand_out-answer-requires
hand_out-answer-requires c =
    let p = poll_loose c.requires _ _ c.poll_no.ensures (taken_none c.in_default.is) c.poll_idx-due.ensures c.if-place.false c.if-item.false in
    record { sound_but = p.0; loose_at = p.1 }

pub returns : goal.returns
returns c =
    poll_handed c.requires _ _ c.poll_no.ensures (taken_none c.in_default.is) c.poll_idx-due.ensures c.if-place.false c.if-item.false
    refl refl c.hand_out-answer.ensures
