-- `free_no` meets its contract: 2, then 12.
use Rattle.std.proofs.lemmas.Bool.{not_from_true, not_from_false}
use Rattle.delay_queue.proofs.laws.Back.{free_bad, free_held, free_none}
use Rattle.delay_queue.proofs.free_no.Goals as goal

pub returns-then-not-is_sound : goal.returns-then-not-is_sound
returns-then-not-is_sound c =
    free_bad c.is_sound.ensures (not_from_false _ c.if-not-is_sound.true)

pub returns-then-state-ne-NOBODY : goal.returns-then-state-ne-NOBODY
returns-then-state-ne-NOBODY c =
    free_held c.is_sound.ensures (not_from_true _ c.if-not-is_sound.false) c.if-state-ne-NOBODY.true

pub returns : goal.returns
returns c =
    free_none c.is_sound.ensures (not_from_true _ c.if-not-is_sound.false) c.if-state-ne-NOBODY.false
