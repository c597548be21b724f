-- `read_step`: from behind the end on there is nothing (`next_cut`).
use native.Mathlib.Omega.{arith}
use Rattle.entries.proofs.laws.Reading.{next_cut}
use Rattle.entries.proofs.read_step.Goals as goal

pub returns-then-bytes-at : goal.returns-then-bytes-at
returns-then-bytes-at c =
    let a = c.args in next_cut a.bytes.now a.at (omega arith)
