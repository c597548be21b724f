-- `apply` meets its claim: judged once, and then `apply_parts`.
use Rattle.delay_queue.proofs.laws.Back.{tells_lent}
use Rattle.recover.proofs.laws.Parts.{applies_heads}
use Rattle.recover.proofs.apply.Goals as goal

pub apply_parts-r-requires : goal.apply_parts-r-requires
apply_parts-r-requires c =
    tells_lent c.tops_in-tops.ensures c.is_sound-sound.ensures

pub returns : goal.returns
returns c =
    rw (c.heads_of-h.ensures, c.wheel_of-behind.ensures)
    (applies_heads _ _ _ _ _ _ _ c.tops_in-tops.ensures c.heads_in-here.ensures c.apply_parts-r.ensures)
