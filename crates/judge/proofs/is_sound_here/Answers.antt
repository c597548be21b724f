-- `is_sound_here` meets its contract: the parts together are soundness (`sound_judged`, `judged_sound`).
use native.Mathlib.Omega.{arith}
use Rattle.contracts.proofs.laws.Tells.{tells_no}
use Rattle.judge.proofs.laws.Judge.{sound_judged, judged_rest, judged_mid}
use Rattle.judge.proofs.is_sound_here.Goals as goal

pub returns-then-n-eq0 : goal.returns-then-n-eq0
returns-then-n-eq0 c =
    tells_no (λ S. omega (arith, S.standing.fits.some))

pub returns-then-not-has_room : goal.returns-then-not-has_room
returns-then-not-has_room c =
    tells_no (λ S. c.has_room.ensures.no c.if-not-has_room.true S.standing.fits.room)

pub is_whole-requires : goal.is_whole-requires
is_whole-requires c =
    let T = c.requires in
    record {
      six = T.six;
      shape = T.shape;
      room = (c.has_room.ensures.yes c.if-not-has_room.false).links;
      few = T.few;
    }

pub returns-then-not-is_whole : goal.returns-then-not-is_whole
returns-then-not-is_whole c =
    tells_no (λ S. c.is_whole.ensures.no c.if-not-is_whole.true S.standing.whole)

-- no poll is in hand

pub returns-then-until-ne0 : goal.returns-then-until-ne0
returns-then-until-ne0 c =
    tells_no (λ S. c.if-until-ne0.true (S.no_now c.if-hand-eq-NOBODY.true))

pub records_agree-requires : goal.records_agree-requires
records_agree-requires c =
    let R = c.has_room.ensures.yes c.if-not-has_room.false in
    (omega arith, R.deadlines, R.turns, R.links.marks)

pub returns-then-hand-eq-NOBODY : goal.returns-then-hand-eq-NOBODY
returns-then-hand-eq-NOBODY c =
    judged_rest (record {
      some = omega arith;
      few = c.requires.few;
      room = c.has_room.ensures.yes c.if-not-has_room.false;
    })
    (c.is_whole.ensures.yes c.if-not-is_whole.false) _ c.if-hand-eq-NOBODY.true c.if-hand-eq-NOBODY.true c.if-until-ne0.false c.records_agree.ensures

-- a poll is in hand

pub returns-then-not-can_hold : goal.returns-then-not-can_hold
returns-then-not-can_hold c =
    tells_no (λ S. c.can_hold.ensures.no c.if-not-can_hold.true ((sound_judged S).mid c.if-hand-eq-NOBODY.false).0)

pub list_start-start-requires : goal.list_start-start-requires
list_start-start-requires c =
    let H = c.can_hold.ensures.yes c.if-not-can_hold.false in
    (H.below, omega (arith, H.due))

pub overflow_sub-level : goal.overflow_sub-level
overflow_sub-level c =
    let H = c.can_hold.ensures.yes c.if-not-can_hold.false in
    omega (arith, H.high, c.level_of-level.ensures)

pub records_agree-requires-2 : goal.records_agree-requires-2
records_agree-requires-2 c =
    let H = c.can_hold.ensures.yes c.if-not-can_hold.false in
    let R = c.has_room.ensures.yes c.if-not-has_room.false in
    (omega (arith, H.below, c.level_of-level.ensures), R.deadlines, R.turns, R.links.marks)

pub returns : goal.returns
returns c =
    judged_mid (record {
      some = omega arith;
      few = c.requires.few;
      room = c.has_room.ensures.yes c.if-not-has_room.false;
    })
    (c.is_whole.ensures.yes c.if-not-is_whole.false) c.if-hand-eq-NOBODY.false (c.can_hold.ensures.yes c.if-not-can_hold.false) _ _
    c.level_of-level.ensures c.list_start-start.ensures c.records_agree-2.ensures
