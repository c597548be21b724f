-- `answer_last` meets its claim: nothing is kept (`last_none`), or it is answered as a line (`last_line`).
use borrow.Author.Rules.{rules}
use Rattle.feed.proofs.laws.NextLines.{last_none, last_line}
use Rattle.feed.proofs.answer_last.Goals as goal

pub returns-then-is_empty : goal.returns-then-is_empty
returns-then-is_empty c =
    last_none (search rules)

pub returns : goal.returns
returns c =
    last_line (search rules) c.answer_line.ensures
