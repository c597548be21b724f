-- `text` writes `ok` where there is room (`ok_room`, `ok_full`).
use native.Mathlib.Omega.{arith}
use Rattle.inspect.proofs.laws.Writing.{ok_full, ok_room}
use Rattle.inspect.proofs.text.Goals as goal

pub returns-then-out-lt3 : goal.returns-then-out-lt3
returns-then-out-lt3 c =
    ok_full _ _ _ c.in_default.is c.if-out-lt3.true

pub returns-in_default : goal.returns-in_default
returns-in_default c =
    ok_room _ _ _ c.in_default.is (omega (arith, c.if-out-lt3.false)) c.push.ensures
