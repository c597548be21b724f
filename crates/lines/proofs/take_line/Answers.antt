-- `take_line` meets its claim: every step takes one byte (`so_more`), and what is taken so far is a part of the line (`So`), to its
-- newline (`to_newline`) or to the end of the chunk (`to_end`).
use mathlib.Core.Path.{◌≡◌}
use mathlib.Core.Bool.{true, false, true≢false, false≢true}
use native.Mathlib.Omega.{arith}
use lib.ListN.{length, get_or}
use Rattle.lines.proofs.laws.Parts.{KeepsByte, so_none, so_more, byte_kept, byte_lost, to_newline, to_end}
use Rattle.lines.proofs.take_line.Goals as goal
use Rattle.lines.proofs.take_line.Goals.{then-k-line, else-k-line}

pub loop-i-init : goal.loop-i-init
loop-i-init c =
    so_none _ _ _ _ c.min-k.ensures

pub returns-then-b-eq10 : goal.returns-then-b-eq10
returns-then-b-eq10 c =
    let S = c.loop-i.invariant in
    let h = c.loop-i-test.true in
    record {
      whole = λ t. to_newline S h c.if-b-eq10.true;
      unfinished = λ (t : true ≡ false). absurd (true≢false t);
      within = omega arith;
      fits = S.fits;
      size = S.size;
      rest = S.rest;
    }

pub loop-i-preserved : goal.loop-i-preserved
loop-i-preserved c =
    let S = c.loop-i.invariant in
    let line = c.loop-i.line in
    let k = c.loop-i.k in
    let args = c.args in
    let b = get_or args.got.now c.loop-i.i 0 in
    let m = length args.line.now in
    let K : KeepsByte m line k b c.if-k-line.line c.if-k-line.k =
    elim c.if-k-line.branch [
      | then-k-line w ↦ byte_kept line k b S.size w.if-k-line.true w.line-is w.k-is
      | else-k-line w ↦ byte_lost line k b S.size w.if-k-line.false S.fits w.line-is w.k-is
    ]
    in
    so_more S c.loop-i-test.true c.if-b-eq10.false K

pub returns : goal.returns
returns c =
    let S = c.loop-i.invariant in
    record {
      whole = λ (t : false ≡ true). absurd (false≢true t);
      unfinished = λ t. (omega arith, to_end S c.loop-i-test.false);
      within = omega arith;
      fits = S.fits;
      size = S.size;
      rest = S.rest;
    }
