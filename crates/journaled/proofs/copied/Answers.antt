-- every step copies a byte at least, and no file has one from 2^63 on (`chunk_within`)
use Rattle.std.proofs.Common.{arith}
use Rattle.restore.proofs.laws.Restore.{chunk_within}
use Rattle.journaled.proofs.copied.Goals as goal

pub overflow_add-at : goal.overflow_add-at
overflow_add-at c =
    let b = c.more_from-got.ensures in
    let w = chunk_within c.loop-buf.invariant c.count-k.ensures (omega (arith, b.0.0)) b.1 in omega (arith, w)

pub loop-buf-preserved : goal.loop-buf-preserved
loop-buf-preserved c =
    let b = c.more_from-got.ensures in
    let w = chunk_within c.loop-buf.invariant c.count-k.ensures (omega (arith, b.0.0)) b.1 in omega (arith, w)
