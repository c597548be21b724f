-- `act` meets its claim: a call is asked, an open and a close leave the store, and the bytes are noted.
use Rattle.journal.proofs.laws.Acting.{act_asked, act_opened, act_closed}
use Rattle.journal.proofs.laws.Acting.{asked_wrote}
use Rattle.journal.proofs.act.Goals as goal

pub returns-in-Asks : goal.returns-in-Asks
returns-in-Asks c =
    let e = c.in-Asks.is in
    record { acts = act_asked e c.ask-r.ensures; writes = asked_wrote c.ask-r.result.answer e c.note.ensures }

pub returns-in-Open : goal.returns-in-Open
returns-in-Open c =
    record {
      acts = act_opened _ _ _ _ _ _ _ c.heads_of.ensures c.in-Open.is c.patched-answer.ensures;
      writes = c.note-in-Open.ensures;
    }

pub returns-in-Close : goal.returns-in-Close
returns-in-Close c =
    record {
      acts = act_closed _ _ _ _ _ _ _ c.heads_of-in-Close.ensures c.in-Close.is c.patched-answer-in-Close.ensures;
      writes = c.note-in-Close.ensures;
    }
