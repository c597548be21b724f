-- `ngawdrelo_gauge_note` meets its claim: that of `note_words`, where the gauge is kept (`note_kept`).
use mathlib.Core.Path.{sym}
use Rattle.ngawdrelo.proofs.laws.Face.{note_kept}
use Rattle.ngawdrelo.proofs.ngawdrelo_gauge_note.Goals as goal

pub returns : goal.returns
returns c =
    note_kept _ c.note_words-r.result c.flag_word.ensures (rw (sym c.gauge_in.ensures) c.note_words-r.ensures)
