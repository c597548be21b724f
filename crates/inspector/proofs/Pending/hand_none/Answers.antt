-- `hand_none` is right where nothing is due: `none_due` and `none_done`.
use Rattle.inspector.proofs.laws.Taking.{none_due, none_done}
use Rattle.inspector.proofs.Pending.hand_none.Goals as goal

pub returns-then-not-none_due : goal.returns-then-not-none_due
returns-then-not-none_due c =
    none_due _ _ _ _ c.requires _ _ (c.none_due.ensures.no c.if-not-none_due.true)

pub returns : goal.returns
returns c =
    none_done _ _ _ _ c.requires _ _ (c.none_due.ensures.yes c.if-not-none_due.false) _ c.max.ensures
