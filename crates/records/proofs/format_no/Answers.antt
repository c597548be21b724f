-- `format_no` meets its contract, test by test.
use native.Mathlib.Omega.{arith}
use Rattle.records.proofs.laws.Format.{no_one, no_eight, no_none}
use Rattle.records.proofs.format_no.Goals as goal

pub returns-then-n-eq0 : goal.returns-then-n-eq0
returns-then-n-eq0 c =
    no_one (λ F. omega (arith, F.some))

pub returns-then-n : goal.returns-then-n
returns-then-n c =
    no_one (λ F. omega (arith, F.few))

pub returns-then-not-has_room : goal.returns-then-not-has_room
returns-then-not-has_room c =
    no_one (λ F. c.has_room.ensures.no c.if-not-has_room.true F.room)

pub returns-then-turn-eq0 : goal.returns-then-turn-eq0
returns-then-turn-eq0 c =
    no_eight (record { some = omega arith; few = omega arith; room = c.has_room.ensures.yes c.if-not-has_room.false })
    (λ T. omega (arith, T.some))

pub returns-then-turn-gt-LAST_TURN : goal.returns-then-turn-gt-LAST_TURN
returns-then-turn-gt-LAST_TURN c =
    no_eight (record {
      some = omega arith;
      few = omega arith;
      room = c.has_room.ensures.yes c.if-not-has_room.false;
    })
    (λ T. omega (arith, T.last))

pub returns : goal.returns
returns c =
    no_none (record {
      some = omega arith;
      few = omega arith;
      room = c.has_room.ensures.yes c.if-not-has_room.false;
    })
    (record { some = omega arith; last = omega arith })
