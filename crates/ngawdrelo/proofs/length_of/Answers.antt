-- `length_of` meets its claim: the judge decides, and the count is that of the pending.
use mathlib.Core.Bool.{not}
use mathlib.Core.Path.{ap, ◌∙◌}
use Rattle.queue.specs.Inner.{pending_in}
use Rattle.delay_queue.proofs.laws.Back.{no_answer, is_sound, taken_up, marks_long, length_done}
use Rattle.ngawdrelo.proofs.length_of.Goals as goal

pub returns-then-not-judged : goal.returns-then-not-judged
returns-then-not-judged c =
    no_answer c.judged.ensures (ap not c.if-not-judged.true)

pub length-n-requires : goal.length-n-requires
length-n-requires c =
    rw c.count_of.ensures (marks_long (is_sound c.judged.ensures (ap not c.if-not-judged.false)))

pub returns : goal.returns
returns c =
    let S = is_sound c.judged.ensures (ap not c.if-not-judged.false) in
    taken_up S (length_done S (c.length-n.ensures ∙ ap (pending_in _) c.count_of.ensures))
