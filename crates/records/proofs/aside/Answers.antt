-- `aside` meets its contract: the expired stack (`aside_now`) or the parking list (`aside_later`).
use mathlib.Core.Path.{sym}
use native.Mathlib.Omega.{arith}
use Rattle.records.proofs.laws.Inner.{aside_now, aside_later}
use Rattle.records.proofs.aside.Goals as goal

pub returns-then-when-elapsed : goal.returns-then-when-elapsed
returns-then-when-elapsed c =
    (sym (aside_now _ _ c.if-when-elapsed.true), omega arith, omega arith)

pub returns : goal.returns
returns c =
    (sym (aside_later _ _ c.if-when-elapsed.false c.requires), omega arith, omega arith)
