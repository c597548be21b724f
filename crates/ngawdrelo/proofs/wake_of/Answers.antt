-- `wake_of` meets its claim: the judge decides, and on a sound store it is what `queue::next_wake` answers.
use mathlib.Core.Bool.{not}
use mathlib.Core.Path.{ap}
use native.Mathlib.Omega.{arith}
use Rattle.delay_queue.proofs.laws.Back.{no_answer, is_sound, no_free, free_held, can_look, taken_alone, wake_done}
use Rattle.ngawdrelo.proofs.wake_of.Goals as goal

pub returns-then-not-judged : goal.returns-then-not-judged
returns-then-not-judged c =
    no_answer c.judged.ensures (ap not c.if-not-judged.true)

pub returns-then-hand-ne-NOBODY : goal.returns-then-hand-ne-NOBODY
returns-then-hand-ne-NOBODY c =
    no_free (free_held c.judged.ensures (ap not c.if-not-judged.false) c.if-hand-ne-NOBODY.true) (λ z. absurd (omega arith))

pub next_wake-requires : goal.next_wake-requires
next_wake-requires c =
    rw c.first_parked-parked.ensures (can_look (is_sound c.judged.ensures (ap not c.if-not-judged.false), c.if-hand-ne-NOBODY.false))

pub returns : goal.returns
returns c =
    let S = is_sound c.judged.ensures (ap not c.if-not-judged.false) in
    taken_alone (S, c.if-hand-ne-NOBODY.false)
    (wake_done c.first_expired-expired.ensures c.first_parked-parked.ensures (S, c.if-hand-ne-NOBODY.false) c.next_wake.ensures)
