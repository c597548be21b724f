-- `record_agrees` meets its contract: by the turn, and then by the place that the mark tells.
use native.Mathlib.Omega.{arith}
use Rattle.places.proofs.laws.Asked.{below, past}
use Rattle.contracts.proofs.laws.Tells.{tells_no}
use Rattle.judge.proofs.laws.Judge.{record_slot, record_parked, record_expired, record_retired, record_aside}
use Rattle.judge.proofs.record_agrees.Goals as goal

pub returns-then-turn-eq0 : goal.returns-then-turn-eq0
returns-then-turn-eq0 c =
    tells_no (λ R. omega (arith, R.some))

pub returns-then-turn-gt-LAST_TURN : goal.returns-then-turn-gt-LAST_TURN
returns-then-turn-gt-LAST_TURN c =
    tells_no (λ R. omega (arith, R.last))

pub returns-then-is_slot : goal.returns-then-is_slot
returns-then-is_slot c =
    record_slot c.if-turn-eq0.false c.if-turn-gt-LAST_TURN.false (below c.is_slot.ensures c.if-is_slot.true) c.is_place.ensures

pub returns-then-mark-eq-PARKING : goal.returns-then-mark-eq-PARKING
returns-then-mark-eq-PARKING c =
    record_parked c.if-turn-eq0.false c.if-turn-gt-LAST_TURN.false c.if-mark-eq-PARKING.true c.is_parked.ensures

pub returns-then-mark-eq-EXPIRED : goal.returns-then-mark-eq-EXPIRED
returns-then-mark-eq-EXPIRED c =
    record_expired c.if-turn-eq0.false c.if-turn-gt-LAST_TURN.false c.if-mark-eq-EXPIRED.true

pub returns-then-mark-eq-RETIRED : goal.returns-then-mark-eq-RETIRED
returns-then-mark-eq-RETIRED c =
    record_retired c.if-turn-eq0.false c.if-turn-gt-LAST_TURN.false c.if-mark-eq-RETIRED.true

pub returns : goal.returns
returns c =
    record_aside c.if-turn-eq0.false c.if-turn-gt-LAST_TURN.false (past c.is_slot.ensures c.if-is_slot.false)
    c.if-mark-eq-PARKING.false c.if-mark-eq-EXPIRED.false c.if-mark-eq-RETIRED.false
