-- `next_line` meets its claim: a line has ended and is done (`next_ended`), or the chunk has ended (`next_kept`).
use native.Mathlib.Omega.{arith}
use lib.ListN.{length-take}
use Rattle.noting.proofs.laws.NextLines.{next_ended, next_kept}
use Rattle.noting.proofs.next_line.Goals as goal

pub slice_bounds-do_line-end-then-t : goal.slice_bounds-do_line-end-then-t
slice_bounds-do_line-end-then-t c =
    let T = c.take_line-t.ensures in simp length-take (omega (arith, T.fits, T.size))

pub returns-then-t : goal.returns-then-t
returns-then-t c =
    next_ended c.take_line-t.ensures c.if-t.true c.do_line-after.ensures

pub returns : goal.returns
returns c =
    next_kept c.take_line-t.ensures c.if-t.false
