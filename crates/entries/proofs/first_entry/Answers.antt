-- `first_entry`: three chunks, one behind the other (`chunks_read`).
use Rattle.entries.proofs.laws.Reading.{chunks_read}
use Rattle.entries.proofs.first_entry.Goals as goal

pub returns : goal.returns
returns c =
    chunks_read _ _ _ _ _ _ _ c.in_ok-head.ensures.cases c.in_ok-a.ensures.cases c.in_ok-b.ensures.cases
    c.from_be_bytes-head.ensures c.from_be_bytes.ensures c.from_be_bytes-2.ensures
