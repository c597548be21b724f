-- `wheel_of` meets its contract: `tops_of` says what the top are.
use Rattle.records.proofs.wheel_of.Goals as goal

pub returns : goal.returns
returns c =
    rw c.tops_of.ensures
