-- `next_list` meets its contract: the list of the place in hand, and with none in hand what `next_expiration` finds.
use Rattle.wheel.proofs.next_list.Goals as goal

pub next_expiration-requires : goal.next_expiration-requires
next_expiration-requires c =
    c.requires.free c.if-hand-eq-NOBODY.true

pub returns-then-hand-eq-NOBODY : goal.returns-then-hand-eq-NOBODY
returns-then-hand-eq-NOBODY c =
    record { free = λ z. c.next_expiration.ensures; held = λ z. absurd (z c.if-hand-eq-NOBODY.true) }

pub list_start-deadline-requires : goal.list_start-deadline-requires
list_start-deadline-requires c =
    c.requires.held c.if-hand-eq-NOBODY.false

pub returns : goal.returns
returns c =
    record { free = λ z. absurd (c.if-hand-eq-NOBODY.false z); held = λ z. (c.level_of-level.ensures, c.slot_of-slot.ensures, c.list_start-deadline.ensures) }
