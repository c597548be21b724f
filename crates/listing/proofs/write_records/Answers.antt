-- a line more (`same_more`)
use Rattle.pen.proofs.Texts.{same_more}
use Rattle.listing.proofs.write_records.Goals as goal

pub returns : goal.returns
returns c = same_more c.loop-i.invariant c.write_run-2.ensures
