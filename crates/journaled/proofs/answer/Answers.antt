-- A call goes forth, since it has room (`feed_forth`), and call by call all of the chunk is done and kept (`calls_more`, `calls_used`).
use Rattle.std.proofs.Common.{arith, refl}
use Rattle.lines.proofs.laws.Running.{passes_none}
use Rattle.noting.proofs.laws.NextLines.{feed_forth, feed_fits, feed_room}
use Rattle.noting.proofs.laws.Running.{calls_more, calls_used}
use Rattle.journaled.proofs.laws.Used.{used}
use Rattle.journaled.proofs.answer.Goals as goal

pub loop-fine-init : goal.loop-fine-init
loop-fine-init c = record { kept = omega arith; passes = λ e. passes_none }

pub settle-k-requires : goal.settle-k-requires
settle-k-requires c =
    let w = feed_room c.answer_lines-r.ensures (omega arith, omega arith) in (omega (arith, w.0), omega (arith, w.1))

pub loop-fine-smaller : goal.loop-fine-smaller
loop-fine-smaller c =
    let g = (c.goes.ensures.yes c.loop-fine-test.true).0 in
    omega (arith, g, feed_forth c.answer_lines-r.ensures (g, (omega arith, omega arith)))

pub loop-fine-preserved : goal.loop-fine-preserved
loop-fine-preserved c =
    let I = c.loop-fine.invariant in
    let A = c.answer_lines-r in
    let g = c.goes.ensures.yes c.loop-fine-test.true in
    let fits = feed_fits A.ensures (omega arith) in
    record {
      kept = omega (arith, fits);
      passes = λ e. calls_more _ (omega arith) (omega arith) refl refl (I.passes g.1) A.ensures (c.settle-k.ensures e);
    }

pub returns : goal.returns
returns c =
    let I = c.loop-fine.invariant in
    record {
      kept_bound_2 = I.kept;
      passes = λ e. calls_used _ (used (c.goes.ensures.no c.loop-fine-test.false) e) (I.passes e);
    }
