-- what a read gave is taken (`reads_more`), and what is kept lies within the room of a line (`chunk_fits`)
use Rattle.std.proofs.Common.{arith, ◌≡◌, ◌≤◌, ℕ, List, refl, ◌∙◌, length, take, length-take}
use Rattle.lines.proofs.laws.Running.{reads_none, reads_more, chunk_fits, chunk_size, chunk_passes}
use Rattle.hearing.proofs.read_all.Goals as goal

-- the bytes of a chunk are as many as were counted
counted : {k n : ℕ} (xs : List ℕ) → k ≡ n → n ≤ length xs → k ≡ length (take k xs)
counted {k} xs e h = simp length-take (omega arith)

pub loop-bytes-init : goal.loop-bytes-init
loop-bytes-init g c = record { size = refl; kept = omega arith; reads = reads_none }

pub loop-bytes-preserved : goal.loop-bytes-preserved
loop-bytes-preserved g c =
    let I = c.loop-bytes.invariant in
    let C = c.take_chunk-n.ensures in
    let size = counted c.more-got.new.buf c.count-k.ensures c.more-got.ensures.0 in
    record { size = chunk_size C ∙ I.size; kept = chunk_fits C I.kept; reads = reads_more I.reads (chunk_passes 81 I.size (omega arith) C) refl size }
