-- `scan` meets its claim: one pass reads one step (`scan_goes`), and it stops where there is none or one gets 1, 2 or 13 (`scan_ends`).
use mathlib.Core.Path.{sym, ap, ◌∙◌}
use native.Mathlib.Omega.{arith}
use Rattle.recover.specs.declared.Seen.{Seen}
use Rattle.recover.specs.Scan.{CanBe}
use Rattle.recover.proofs.laws.Scan.{scan_ends, scan_room, scan_goes, behind_at, can}
use Rattle.recover.proofs.scan.Goals as goal

pub returns-in-Err : goal.returns-in-Err
returns-in-Err c =
    let C : CanBe c.args.bytes.now c.args.seen = can (sym c.is_cut.ensures ∙ c.if-not-is_cut.false) (omega arith) (omega arith) in
    record { reads = λ _. scan_ends _ _ _ _ c.loop-ending.invariant c.in-Err.ensures; stays = λ f. absurd (f C) }

pub behind-now-requires : goal.behind-now-requires
behind-now-requires c =
    let n = scan_room _ _ _ _ c.loop-ending.invariant c.in-Ok.ensures in
    let I = c.loop-ending.invariant in
    (omega (arith, n.1), omega (arith, n.0, n.1, I.few))

pub loop-ending-smaller : goal.loop-ending-smaller
loop-ending-smaller c =
    let n = scan_room _ _ _ _ c.loop-ending.invariant c.in-Ok.ensures in
    omega (arith, n.0, n.1, ap (λ (s : Seen). s.at) c.behind-now.ensures, behind_at c.in-Ok.step c.loop-ending.now)

pub loop-ending-preserved : goal.loop-ending-preserved
loop-ending-preserved c =
    rw c.behind-now.ensures (scan_goes _ _ _ _ c.loop-ending.invariant c.in-Ok.ensures)
