-- `poll_some` meets its claim: the judge's answer decides, and on a sound store it is what `queue::poll` does.
use Rattle.std.proofs.lemmas.Bool.{not_from_true, not_from_false}
use Rattle.records.specs.Words.{Sound}
use Rattle.records.proofs.laws.Lent.{lent_as}
use Rattle.queue.specs.Calls.{PollsOn}
use Rattle.delay_queue.proofs.laws.Back.{back, sent_back, is_sound, taken_poll}
use Rattle.delay_queue.proofs.poll_some.Goals as goal

pub returns-then-not-is_sound : goal.returns-then-not-is_sound
returns-then-not-is_sound c =
    sent_back _ _ _ _ _ _ c.is_sound.ensures (not_from_false _ c.if-not-is_sound.true) c.refused.ensures

pub poll-out-requires : goal.poll-out-requires
poll-out-requires c =
    lent_as Sound c.tops_in-tops.ensures
    (is_sound c.is_sound.ensures (not_from_true _ c.if-not-is_sound.false))

pub returns : goal.returns
returns c =
    taken_poll (is_sound c.is_sound.ensures (not_from_true _ c.if-not-is_sound.false)) c.tops_in-tops.ensures
    (back _ _ _ _ _ _ c.packed.ensures (PollsOn _ _ _) c.poll-out.ensures)
