-- `on_sound` meets the claim of each call: on a sound store it is what the function of `queue` does (`taken_up`), or 12 while a poll is in hand (`held_up`).
use mathlib.Core.Path.{refl, ap, ◌∙◌}
use Rattle.queue.specs.Inner.{pending_in}
use Rattle.records.proofs.laws.Inner.{standing_hold}
use Rattle.delay_queue.proofs.laws.Back.{by_call, taken_up, taken_insert, taken_reset, taken_remove, taken_alone, parted, whole_claim}
use Rattle.delay_queue.proofs.laws.Back.{can_look, wake_done, length_done}
use Rattle.run.proofs.laws.Known.{held_up, at_rest}
use Rattle.run.proofs.on_sound.Goals as goal

pub returns-then-must_wait : goal.returns-then-must_wait
returns-then-must_wait c =
    held_up c.args.call c.requires (c.must_wait.ensures.yes c.if-must_wait.true)

pub clear-answer-requires : goal.clear-answer-requires
clear-answer-requires c =
    standing_hold c.requires.standing _ _

pub insert-answer-requires : goal.insert-answer-requires
insert-answer-requires c =
    let S = c.requires in
    let z = at_rest c.must_wait.ensures c.if-must_wait.false c.in-Insert.is tt in
    parted (S, z)

pub reset-answer-requires : goal.reset-answer-requires
reset-answer-requires c =
    let S = c.requires in
    let z = at_rest c.must_wait.ensures c.if-must_wait.false c.in-Reset.is tt in
    parted (S, z)

pub remove-answer-requires : goal.remove-answer-requires
remove-answer-requires c =
    let S = c.requires in
    let z = at_rest c.must_wait.ensures c.if-must_wait.false c.in-Remove.is tt in
    parted (S, z)

pub next_wake-answer-requires : goal.next_wake-answer-requires
next_wake-answer-requires c =
    let S = c.requires in
    let z = at_rest c.must_wait.ensures c.if-must_wait.false c.in-Wake.is tt in
    rw c.first_parked-parked.ensures (can_look (S, z))

pub returns-in-Format : goal.returns-in-Format
returns-in-Format c =
    by_call _ _ _ c.in-Format.is c.formats.ensures

pub returns-in-Poll : goal.returns-in-Poll
returns-in-Poll c =
    by_call _ _ _ c.in-Poll.is (whole_claim (taken_up c.requires c.poll.ensures))

pub returns-in-PollSome : goal.returns-in-PollSome
returns-in-PollSome c =
    by_call _ _ _ c.in-PollSome.is (taken_up c.requires c.poll-in-PollSome.ensures)

pub returns-in-Length : goal.returns-in-Length
returns-in-Length c =
    let S = c.requires in
    by_call _ _ _ c.in-Length.is (taken_up S (length_done S (c.length-n.ensures ∙ ap (pending_in _) c.count_of.ensures)), refl)

pub returns-in-Clear : goal.returns-in-Clear
returns-in-Clear c =
    by_call _ _ _ c.in-Clear.is (taken_up c.requires (c.clear-answer.ensures _ _))

pub returns-in-Insert : goal.returns-in-Insert
returns-in-Insert c =
    let S = c.requires in
    let z = at_rest c.must_wait.ensures c.if-must_wait.false c.in-Insert.is tt in
    by_call _ _ _ c.in-Insert.is (taken_insert (S, z) refl c.insert-answer.ensures)

pub returns-in-Reset : goal.returns-in-Reset
returns-in-Reset c =
    let S = c.requires in
    let z = at_rest c.must_wait.ensures c.if-must_wait.false c.in-Reset.is tt in
    by_call _ _ _ c.in-Reset.is (taken_reset (S, z) refl c.reset-answer.ensures)

pub returns-in-Remove : goal.returns-in-Remove
returns-in-Remove c =
    let S = c.requires in
    let z = at_rest c.must_wait.ensures c.if-must_wait.false c.in-Remove.is tt in
    by_call _ _ _ c.in-Remove.is (taken_remove (S, z) refl c.remove-answer.ensures)

pub returns-in-Wake : goal.returns-in-Wake
returns-in-Wake c =
    let S = c.requires in
    let z = at_rest c.must_wait.ensures c.if-must_wait.false c.in-Wake.is tt in
    by_call _ _ _ c.in-Wake.is (
      taken_alone (S, z) (wake_done c.first_expired-expired.ensures c.first_parked-parked.ensures (S, z) c.next_wake-answer.ensures),
      refl,
    )
