-- `reset` stores at the key's place: one law of `Taking` for each way out.
use native.Mathlib.Omega.{arith}
use Rattle.inspector.proofs.laws.Taking.{reset_free, reset_done}
use Rattle.inspector.proofs.Pending.reset.Goals as goal

pub returns-in_err-i : goal.returns-in_err-i
returns-in_err-i c =
    rw c.from_residual.ensures (reset_free _ _ _ _ c.requires _ _ c.in_err-i.ensures _ _ (omega arith))

pub returns : goal.returns
returns c =
    reset_done _ _ _ _ c.requires _ _ c.in_ok-i.ensures.1 _ _ c.in_ok-i.ensures.0 _ c.max.ensures
