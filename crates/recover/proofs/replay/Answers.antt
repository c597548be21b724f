-- `replay` meets its claim: all bytes are scanned (`all_scanned`), and what is kept of them is applied to no store (`replayed`).
use mathlib.Core.Path.{sym}
use native.Mathlib.Omega.{arith}
use lib.Seq.{length-take-le}
use Rattle.recover.proofs.laws.Parts.{all_scanned, kept_within, replayed}
use Rattle.recover.proofs.replay.Goals as goal

pub slice_bounds-apply-end : goal.slice_bounds-apply-end
slice_bounds-apply-end c =
    sym (length-take-le _ _ (kept_within (all_scanned c.unread-start.ensures (omega arith) c.scan-s.ensures)))

pub returns : goal.returns
returns c =
    replayed _ _ _ _ _ _ _ c.no_store-none.ensures c.no_heads-heads.ensures (all_scanned c.unread-start.ensures (omega arith) c.scan-s.ensures) c.apply-r.ensures
