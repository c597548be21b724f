-- `leave` meets its contract: retired (`freed_last`) or free (`freed_given`).
use Rattle.records.proofs.laws.Inner.{free_push, freed_last, freed_given}
use Rattle.records.proofs.leave.Goals as goal

pub returns-then-turn-eq-LAST_TURN : goal.returns-then-turn-eq-LAST_TURN
returns-then-turn-eq-LAST_TURN c =
    freed_last c.requires c.if-turn-eq-LAST_TURN.true

pub push-requires : goal.push-requires
push-requires c =
    free_push c.requires

pub returns : goal.returns
returns c =
    freed_given c.requires c.if-turn-eq-LAST_TURN.false c.push.ensures
