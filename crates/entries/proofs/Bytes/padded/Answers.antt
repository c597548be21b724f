-- `padded`: the room, of which the bytes stand in front (`held_wrote`).
use mathlib.Core.Path.{sym}
use Rattle.entries.proofs.laws.Room.{held_wrote}
use Rattle.entries.proofs.Bytes.padded.Goals as goal

pub returns : goal.returns
returns c =
    held_wrote (sym c.self.view_is) c.self.invariant
