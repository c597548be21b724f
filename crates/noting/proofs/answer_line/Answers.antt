-- `answer_line` meets its claim: there is no room, or there is and the line is done.
use Rattle.noting.specs.Line.{done, full}
use Rattle.noting.proofs.answer_line.Goals as goal

pub returns-then-not-has_room : goal.returns-then-not-has_room
returns-then-not-has_room c =
    full (c.has_room.ensures.no c.if-not-has_room.true)

pub do_line-after-requires : goal.do_line-after-requires
do_line-after-requires c =
    (c.has_room.ensures.yes c.if-not-has_room.false).0

pub returns : goal.returns
returns c =
    done (c.has_room.ensures.yes c.if-not-has_room.false) c.do_line-after.ensures
