-- `hand_out` is right where the key is pending and due, and nothing is due before it: one law of `Taking` for each way out.
use native.Mathlib.Omega.{arith}
use Rattle.inspector.proofs.laws.Taking.{out_free, out_early, out_other, out_done}
use Rattle.inspector.proofs.Pending.hand_out.Goals as goal

pub returns-in_err-i : goal.returns-in_err-i
returns-in_err-i c =
    rw c.from_residual.ensures (out_free _ _ _ _ c.requires _ _ c.in_err-i.ensures _ (omega arith))

pub returns-then-time-d : goal.returns-then-time-d
returns-then-time-d c =
    out_early _ _ _ _ c.requires _ _ c.in_ok-i.ensures.1 _ c.in_ok-i.ensures.0 c.if-time-d.true

pub returns-then-not-none_before : goal.returns-then-not-none_before
returns-then-not-none_before c =
    out_other _ _ _ _ c.requires _ _ c.in_ok-i.ensures.1 _ c.in_ok-i.ensures.0 (c.none_before.ensures.no c.if-not-none_before.true)

pub returns : goal.returns
returns c =
    out_done _ _ _ _ c.requires _ _ c.in_ok-i.ensures.1 c.in_ok-i.ensures.0 c.close.ensures c.close-2.ensures _ c.if-time-d.false
    (c.none_before.ensures.yes c.if-not-none_before.false)
