-- `format_number`: 1 where N is out of range or a slice is too short.
use mathlib.Core.Path.{ap}
use mathlib.Core.Bool.{not}
use Rattle.recover.proofs.laws.Parts.{not_none, not_many, no_room, fits_so}
use Rattle.recover.proofs.format_number.Goals as goal
use Rattle.recover.proofs.format_number.Goals.{then-n-eq0-via-then-n-eq0, then-n-eq0-via-else-n-eq0+then-n}

pub returns-then-n-eq0 : goal.returns-then-n-eq0
returns-then-n-eq0 c =
    elim c.then-n-eq0.branch [
      | then-n-eq0-via-then-n-eq0 w ↦ not_none w.if-n-eq0.true
      | then-n-eq0-via-else-n-eq0+then-n w ↦ not_many w.if-n.true
    ]

pub returns-then-not-has_room : goal.returns-then-not-has_room
returns-then-not-has_room c =
    no_room c.has_room.ensures (ap not c.if-not-has_room.true)

pub returns : goal.returns
returns c =
    fits_so c.if-n-eq0.false c.if-n.false c.has_room.ensures (ap not c.if-not-has_room.false)
