-- `note`: no bytes for a step that is not written, else its own.
use mathlib.Core.Path.{sym, ◌∙◌}
use Rattle.journal.proofs.laws.Once.{note_none, note_some}
use Rattle.journal.proofs.note.Goals as goal

pub returns-then-is_unwritten : goal.returns-then-is_unwritten
returns-then-is_unwritten c =
    let a = c.args in
    note_none a.step a.answer (sym c.is_unwritten.ensures ∙ c.if-is_unwritten.true) c.no_bytes.ensures

pub returns : goal.returns
returns c =
    let a = c.args in
    note_some a.step a.answer (sym c.is_unwritten.ensures ∙ c.if-is_unwritten.false) c.bytes_of.ensures
