-- `command_of`: in each arm the call is known, and its words are those (`by_words`).
use Rattle.run.proofs.laws.Groups.{by_words}
use Rattle.run.proofs.command_of.Goals as goal

pub returns-in-Format : goal.returns-in-Format
returns-in-Format c =
    by_words c.in-Format.is

pub returns-in-Insert : goal.returns-in-Insert
returns-in-Insert c =
    by_words c.in-Insert.is

pub returns-in-Reset : goal.returns-in-Reset
returns-in-Reset c =
    by_words c.in-Reset.is

pub returns-in-Remove : goal.returns-in-Remove
returns-in-Remove c =
    by_words c.in-Remove.is

pub returns-in-Poll : goal.returns-in-Poll
returns-in-Poll c =
    by_words c.in-Poll.is

pub returns-in-PollSome : goal.returns-in-PollSome
returns-in-PollSome c =
    by_words c.in-PollSome.is
