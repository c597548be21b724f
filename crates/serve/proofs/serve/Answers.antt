-- what a read gave is answered (`reads_more`), and at the end of the input what is kept (`ran`)
use Rattle.std.proofs.Common.{arith, ◌≡◌, ◌≤◌, ◌<◌, ℕ, List, length, take, length-take}
use Rattle.lines.proofs.laws.Running.{reads_none, reads_more, ran, breaks_off}
use Rattle.serve.proofs.serve.Goals as goal

-- the bytes of a chunk are as many as were counted
counted : {k n : ℕ} (xs : List ℕ) → k ≡ n → n ≤ length xs → k ≡ length (take k xs)
counted {k} xs e h = simp length-take (omega arith)

pub loop-bytes-init : goal.loop-bytes-init
loop-bytes-init c = record { size = omega arith; reads = reads_none }

pub loop-bytes-preserved : goal.loop-bytes-preserved
loop-bytes-preserved c =
    let size = counted c.more-got.new.buf c.count-k.ensures c.more-got.ensures.0 in
    record { size = omega arith; reads = reads_more c.loop-bytes.invariant.reads c.answer.ensures (omega arith) size }

pub returns-then-not-run : goal.returns-then-not-run
returns-then-not-run c =
    let size = counted c.more-got.new.buf c.count-k.ensures c.more-got.ensures.0 in
    let some : 0 < c.more-got.result.bytes = omega (arith, c.count-k.ensures, c.if-k-eq0.false) in
    let short : length (take c.answer.new.run.kept c.answer.new.line) ≤ length c.args.line.now = simp length-take (omega arith) in
    ran (reads_more c.loop-bytes.invariant.reads c.answer.ensures (omega arith) size) short (breaks_off (c.more-got.result.apart some))
