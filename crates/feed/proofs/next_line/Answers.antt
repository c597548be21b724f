-- `next_line` meets its claim: a line has ended and is answered (`next_ended`), or the chunk has ended (`next_kept`).
use native.Mathlib.Omega.{arith}
use lib.ListN.{length-take}
use Rattle.feed.proofs.laws.NextLines.{next_ended, next_kept}
use Rattle.feed.proofs.next_line.Goals as goal

pub slice_bounds-answer_known-end-then-t : goal.slice_bounds-answer_known-end-then-t
slice_bounds-answer_known-end-then-t c =
    let T = c.take_line-t in
    simp length-take (omega (arith, T.ensures.fits, T.ensures.size))

pub answer_known-done-requires : goal.answer_known-done-requires
answer_known-done-requires c =
    c.requires

pub returns-then-t : goal.returns-then-t
returns-then-t c =
    let K = c.answer_known-done.ensures in
    record { does = next_ended c.take_line-t.ensures c.if-t.true K.line; tells = K.tells }

pub returns : goal.returns
returns c =
    record { does = next_kept c.take_line-t.ensures c.if-t.false; tells = c.requires }
