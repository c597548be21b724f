-- `is_byte` tells whether a line is that byte: it has one, and that is it (`one_byte`).
use mathlib.Core.Path.{ap}
use mathlib.Core.List.{List}
use Prim.Native.Nat.{ℕ}
use lib.ListN.{length, get_or}
use Rattle.contracts.proofs.laws.Tells.{tells_no, tells_eq, tells_by}
use Rattle.noting.proofs.laws.Means.{one_byte, its_byte}
use Rattle.noting.proofs.is_byte.Goals as goal

pub returns-then-line-ne1 : goal.returns-then-line-ne1
returns-then-line-ne1 c =
    tells_no (λ h. c.if-line-ne1.true (ap (λ (l : List ℕ). length l) h))

pub returns : goal.returns
returns c =
    let args = c.args in
    tells_by (tells_eq (get_or args.line.now 0 0) args.b) (one_byte _ c.if-line-ne1.false) its_byte
