-- the bytes so far are written
use Rattle.std.proofs.Common.{take}
use Rattle.pen.specs.Pen.{Wrote}
use Rattle.pen.proofs.Page.bytes.Given as goal

abbrev pub invariant-loop-b : goal.invariant-loop-b
invariant-loop-b l = Wrote l.initial.self (take l.b-index l.text) l.self
