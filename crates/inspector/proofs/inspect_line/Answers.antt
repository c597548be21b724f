-- `inspect_line` keeps its claim: the line is read, and what it says is taken (`line_unsaid`, `line_on`, `line_off`).
use native.Mathlib.Omega.{arith}
use Rattle.inspector.proofs.laws.Inspecting.{inspect_good, line_unsaid, line_on, line_off}
use Rattle.inspector.proofs.inspect_line.Goals as goal

pub returns-in_default-read_line : goal.returns-in_default-read_line
returns-in_default-read_line c =
    inspect_good _ _ _ c.in-Good.is (line_unsaid _ _ c.read_line.ensures c.saturating_add-number.ensures c.in_default-read_line.is)

pub returns-in-Some-take : goal.returns-in-Some-take
returns-in-Some-take c =
    inspect_good _ _ _ c.in-Good.is
    (line_on _ _ c.read_line.ensures c.saturating_add-number.ensures _ c.in-Some.is (omega (arith, c.min.ensures, c.min-room.ensures))
    c.min-2.ensures c.take.ensures _ c.in-Some-take.is)

pub returns-in-None : goal.returns-in-None
returns-in-None c =
    inspect_good _ _ _ c.in-Good.is
    (line_off _ _ c.read_line.ensures c.saturating_add-number.ensures _ c.in-Some.is (omega (arith, c.min.ensures, c.min-room.ensures))
    c.min-2.ensures c.take.ensures c.in-None.is)
