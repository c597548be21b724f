-- `ngawdrelo_recover` meets its claim: all bytes are scanned, and what is kept of them is applied to no store (`replayed`).
use mathlib.Core.Path.{refl, sym}
use native.Mathlib.Omega.{arith}
use lib.Seq.{length-take-le}
use Rattle.contracts.proofs.laws.Tells.{tells_no}
use Rattle.recover.specs.Replay.{no_wheel, no_heads}
use Rattle.recover.proofs.laws.Parts.{all_scanned, kept_within, replayed}
use Rattle.ngawdrelo.proofs.laws.Face.{no_records}
use Rattle.ngawdrelo.proofs.ngawdrelo_recover.Goals as goal

pub slice_bounds-apply_parts-end : goal.slice_bounds-apply_parts-end
slice_bounds-apply_parts-end c =
    sym (length-take-le _ _ (kept_within (all_scanned c.unread-start.ensures (omega arith) c.scan-seen.ensures)))

pub apply_parts-went-requires : goal.apply_parts-went-requires
apply_parts-went-requires c =
    tells_no (no_records refl)

pub returns : goal.returns
unfolding no_heads
returns c =
    record {
      what = c.scan-seen.result.ending;
      is = c.ending_of.ensures;
      holds = replayed no_wheel _ _ _ _ _ _
          (record { elapsed = refl; occupied = refl; records = refl; expired = refl; free = refl; parking = refl; hand = refl; until = refl })
          refl (all_scanned c.unread-start.ensures (omega arith) c.scan-seen.ensures) c.apply_parts-went.ensures;
    }
