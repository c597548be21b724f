-- `insert` finds no place for the key, and stores behind the others: one law of `Taking` for each way out.
use native.Mathlib.Omega.{arith}
use Rattle.inspector.proofs.laws.Taking.{is_placed, is_free, insert_pending, insert_full, insert_done}
use Rattle.inspector.proofs.Pending.insert.Goals as goal

pub returns-then-is_some : goal.returns-then-is_some
returns-then-is_some c =
    let p = is_placed c.place.result c.place.ensures c.if-is_some.ensures in
    insert_pending _ _ _ _ c.requires _ _ p.2 _ _ p.1

pub returns-then-self : goal.returns-then-self
returns-then-self c =
    insert_full _ _ _ _ c.requires _ _ (is_free c.place.result c.place.ensures c.if-is_some.ensures) _ _ (omega arith) c.if-self.true

pub returns : goal.returns
returns c =
    insert_done _ _ _ _ c.requires _ _ (is_free c.place.result c.place.ensures c.if-is_some.ensures) _ _ (omega arith) c.if-self.false _ c.max.ensures
