-- `no_heads`: nobody everywhere.
use Rattle.recover.specs.Replay.{no_heads}
use Rattle.recover.proofs.no_heads.Goals as goal

pub returns : goal.returns
unfolding no_heads
returns c =
    c.heads_of.ensures
