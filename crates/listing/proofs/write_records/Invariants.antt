-- the page stays over its room
use Rattle.pen.specs.Pen.{SameRoom}
use Rattle.listing.proofs.write_records.Given as goal

abbrev pub invariant-loop-i : goal.invariant-loop-i
invariant-loop-i l = SameRoom l.initial.page l.page
