-- `length` meets its claim: the judge's answer decides, and the count is that of the pending (`pending_is`).
use Rattle.std.proofs.lemmas.Bool.{not_from_true, not_from_false}
use Rattle.delay_queue.proofs.laws.Back.{no_answer, is_sound, taken_up, marks_long, length_done}
use Rattle.delay_queue.proofs.length.Goals as goal

pub returns-then-not-is_sound : goal.returns-then-not-is_sound
returns-then-not-is_sound c =
    no_answer c.is_sound.ensures (not_from_false _ c.if-not-is_sound.true)

pub length-n-requires : goal.length-n-requires
length-n-requires c =
    marks_long (is_sound c.is_sound.ensures (not_from_true _ c.if-not-is_sound.false))

pub returns : goal.returns
returns c =
    let S = is_sound c.is_sound.ensures (not_from_true _ c.if-not-is_sound.false) in taken_up S (length_done S c.length-n.ensures)
