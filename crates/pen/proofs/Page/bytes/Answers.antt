-- a byte more (`wrote_more`)
use Rattle.std.proofs.Common.{arith, ℕ}
use Rattle.std.proofs.lemmas.List.{take_more}
use Rattle.pen.proofs.Texts.{wrote_more}
use Rattle.pen.proofs.Page.bytes.Goals as goal

pub loop-b-preserved : goal.loop-b-preserved
loop-b-preserved c =
    rw (take_more {X = ℕ} c.args.text.now c.loop-b.b-index 0 (omega arith)) (wrote_more c.loop-b.invariant c.byte.ensures)
