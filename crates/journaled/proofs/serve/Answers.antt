-- what a read gave is done, kept and answered (`reads_more`), and at the end of the input what is left of a line (`ran`)
use Rattle.std.proofs.Common.{arith, ◌≡◌, ◌≤◌, ◌∙◌, ℕ, List, length, take, length-take, sym}
use mathlib.Core.Bool.{false≢true}
use Rattle.lines.proofs.laws.Running.{reads_none, reads_more, ran, breaks_off}
use Rattle.journaled.proofs.serve.Goals as goal

-- the bytes of a chunk are as many as were counted
counted : {k n : ℕ} (xs : List ℕ) → k ≡ n → n ≤ length xs → k ≡ length (take k xs)
counted {k} xs e h = simp length-take (omega arith)

-- what is kept of a line has room in it
short : {k : ℕ} (xs : List ℕ) → k ≤ 81 → length xs ≡ 81 → {m : ℕ} → m ≡ 81 → length (take k xs) ≤ m
short {k} xs h e f = simp length-take (omega arith)

pub loop-bytes-init : goal.loop-bytes-init
loop-bytes-init c = record { kept = omega arith; reads = reads_none }

pub loop-bytes-preserved : goal.loop-bytes-preserved
loop-bytes-preserved c =
    let I = c.loop-bytes.invariant in
    let A = c.answer-run.ensures in
    let size = counted c.more-got.new.buf c.count-k.ensures c.more-got.ensures.0 in
    record { kept = A.kept_bound_2; reads = reads_more I.reads (A.passes c.if-not-run.false) c.loop-bytes.auto.line size }

pub returns-then-k-eq0 : goal.returns-then-k-eq0
returns-then-k-eq0 c =
    let I = c.loop-bytes.invariant in
    λ e. ran I.reads (short c.loop-bytes.line I.kept (omega arith) (omega arith)) (c.finish-end.ensures e)

pub returns-then-not-run : goal.returns-then-not-run
returns-then-not-run c = λ e. absurd (false≢true (sym c.if-not-run.true ∙ e))

pub returns : goal.returns
returns c =
    let I = c.loop-bytes.invariant in
    λ e. ran I.reads (short c.loop-bytes.line I.kept (omega arith) (omega arith)) (breaks_off c.nothing.ensures)
