-- `ask` meets its claim: each call by its own function; which call it was and what that function did stand among what is known there (`by_call`).
use Rattle.delay_queue.specs.Claims.{WakeClaim, LengthClaim}
use Rattle.delay_queue.proofs.laws.Back.{back_same, by_call}
use Rattle.any_call.proofs.ask.Goals as goal

pub returns-in-Format : goal.returns-in-Format
returns-in-Format c =
    search by_call

pub returns-in-Insert : goal.returns-in-Insert
returns-in-Insert c =
    search by_call

pub returns-in-Reset : goal.returns-in-Reset
returns-in-Reset c =
    search by_call

pub returns-in-Remove : goal.returns-in-Remove
returns-in-Remove c =
    search by_call

pub returns-in-Poll : goal.returns-in-Poll
returns-in-Poll c =
    search by_call

pub returns-in-PollSome : goal.returns-in-PollSome
returns-in-PollSome c =
    search by_call

pub returns-in-Wake : goal.returns-in-Wake
returns-in-Wake c =
    by_call _ _ _ c.in-Wake.is (back_same _ _ _ _ _ _ c.unchanged.ensures (WakeClaim _) c.next_wake-answer.ensures)

pub returns-in-Length : goal.returns-in-Length
returns-in-Length c =
    by_call _ _ _ c.in-Length.is (back_same _ _ _ _ _ _ c.unchanged-in-Length.ensures (LengthClaim _) c.length-answer.ensures)

pub returns-in-Clear : goal.returns-in-Clear
returns-in-Clear c =
    search by_call
