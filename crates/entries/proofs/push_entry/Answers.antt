-- `push_entry` writes three numbers (`entry_wrote`), as the library gives their bytes.
use mathlib.Core.Path.{refl, ◌∙◌}
use native.Mathlib.Omega.{arith}
use Rattle.entries.proofs.laws.Writing.{wrote_as, be_head, be_bytes, entry_wrote}
use Rattle.entries.proofs.push_entry.Goals as goal

pub returns : goal.returns
returns c =
    entry_wrote _ _ _
    (wrote_as refl (c.to_be_bytes.ensures ∙ be_head c.args.kind (omega (arith, c.from-head.ensures))) c.push-i.ensures)
    (wrote_as refl (c.to_be_bytes-2.ensures ∙ be_bytes c.args.a) c.push-j.ensures)
    (wrote_as refl (c.to_be_bytes-3.ensures ∙ be_bytes c.args.b) c.push.ensures)
