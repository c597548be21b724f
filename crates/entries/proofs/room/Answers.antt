-- `room` is all zeros.
use mathlib.Core.Path.{refl}
use Rattle.entries.specs.Writing.{blank}
use Rattle.entries.proofs.room.Goals as goal

pub returns : goal.returns
unfolding blank
returns c =
    refl
