-- `is_parked` meets its contract, by the list in hand.
use mathlib.Core.Path.{sym, subst}
use Rattle.contracts.specs.Tells.{Tells}
use Rattle.judge.proofs.laws.Judge.{parked_hand, parked_aside}
use Rattle.judge.proofs.is_parked.Goals as goal

pub returns-then-hand-eq-PARKING : goal.returns-then-hand-eq-PARKING
returns-then-hand-eq-PARKING c =
    subst (Tells _) (sym c.same_block.ensures) (parked_hand c.if-hand-eq-PARKING.true)

pub returns : goal.returns
returns c =
    subst (Tells _) (sym c.next_block.ensures) (parked_aside c.if-hand-eq-PARKING.false)
