-- `run` meets its claim: judged once, and then `answer_all`.
use Rattle.delay_queue.proofs.laws.Back.{tells_lent}
use Rattle.run.proofs.laws.Run.{run_lent}
use Rattle.run.proofs.run.Goals as goal

pub answer_all-went-requires : goal.answer_all-went-requires
answer_all-went-requires c =
    tells_lent c.tops_in-tops.ensures c.is_sound-sound.ensures

pub returns : goal.returns
returns c =
    rw (c.heads_of-h.ensures, c.wheel_of-after.ensures) (run_lent c.tops_in-tops.ensures c.answer_all-went.ensures.run)
