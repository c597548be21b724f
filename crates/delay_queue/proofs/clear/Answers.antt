-- `clear` meets its claim: the judge's answer decides, and on a sound store it is what `queue::clear` does.
use Rattle.std.proofs.lemmas.Bool.{not_from_true, not_from_false}
use Rattle.links.specs.Lists.{nobody}
use Rattle.records.specs.Words.{Standing}
use Rattle.records.proofs.laws.Lent.{lent_as}
use Rattle.queue.specs.Calls.{ClearOn}
use Rattle.records.proofs.laws.Inner.{standing_hold}
use Rattle.delay_queue.proofs.laws.Back.{back, sent_back, is_sound, taken_clear}
use Rattle.delay_queue.proofs.clear.Goals as goal

pub returns-then-not-is_sound : goal.returns-then-not-is_sound
returns-then-not-is_sound c =
    sent_back _ _ _ _ _ _ c.is_sound.ensures (not_from_false _ c.if-not-is_sound.true) c.refused.ensures

pub clear-answer-requires : goal.clear-answer-requires
clear-answer-requires c =
    lent_as Standing c.tops_in-tops.ensures
    (standing_hold (is_sound c.is_sound.ensures (not_from_true _ c.if-not-is_sound.false)).standing nobody 0)

pub returns : goal.returns
returns c =
    taken_clear (is_sound c.is_sound.ensures (not_from_true _ c.if-not-is_sound.false)) c.tops_in-tops.ensures
    (back _ _ _ _ _ _ c.packed.ensures (ClearOn _) (c.clear-answer.ensures _ _))
