-- `note_answer` notes what is handed out (`noted_out`).
use mathlib.Core.Path.{ap, ◌∙◌}
use lib.Ieee.{Float}
use Rattle.queue.specs.declared.Answer.{Answer}
use Rattle.queue.specs.Told.{told, handing}
use Rattle.gauge.specs.Gauge.{noted}
use Rattle.gauge.proofs.laws.Noting.{noted_out}
use Rattle.gauge.proofs.note_answer.Goals as goal

pub returns-in-Out : goal.returns-in-Out
returns-in-Out c =
    let g = c.args.g in
    noted_out (ap (λ (a : Answer). handing (told a)) c.in-Out.is)
    (c.note.ensures ∙ ap (λ (l : Float). noted g l) c.lateness_of.ensures)

pub returns-in-Last : goal.returns-in-Last
returns-in-Last c =
    let g = c.args.g in
    noted_out (ap (λ (a : Answer). handing (told a)) c.in-Last.is)
    (c.note-in-Last.ensures ∙ ap (λ (l : Float). noted g l) c.lateness_of-in-Last.ensures)
