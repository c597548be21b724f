-- `answer_lines` meets its claim: judged once, and then `answer_parts`.
use Rattle.delay_queue.proofs.laws.Back.{tells_lent}
use Rattle.feed.proofs.laws.NextLines.{feed_heads}
use Rattle.feed.proofs.answer_lines.Goals as goal

pub answer_parts-r-requires : goal.answer_parts-r-requires
answer_parts-r-requires c =
    tells_lent c.tops_in-tops.ensures c.is_sound-sound.ensures

pub returns : goal.returns
returns c =
    rw (c.heads_of.ensures, c.wheel_of.ensures)
    (feed_heads _ _ _ _ _ _ _ c.tops_in-tops.ensures c.heads_in-here.ensures c.answer_parts-r.ensures)
