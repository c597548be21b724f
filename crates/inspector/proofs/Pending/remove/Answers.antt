-- `remove` closes the gap at the key's place: one law of `Taking` for each way out.
use native.Mathlib.Omega.{arith}
use Rattle.inspector.proofs.laws.Taking.{remove_free, remove_done}
use Rattle.inspector.proofs.Pending.remove.Goals as goal

pub returns-in_err-at : goal.returns-in_err-at
returns-in_err-at c =
    rw c.from_residual.ensures (remove_free _ _ _ _ c.requires _ _ c.in_err-at.ensures (omega arith))

pub returns : goal.returns
returns c =
    remove_done _ _ _ _ c.requires _ _ c.in_ok-at.ensures.1 c.in_ok-at.ensures.0 c.close.ensures c.close-2.ensures
