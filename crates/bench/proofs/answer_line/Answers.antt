-- `answer_line` meets its claim: heard, done and written, or `bad` written and nothing else touched.
use Rattle.bench.proofs.laws.Line.{line_asks, line_heads, line_not}
use Rattle.bench.proofs.answer_line.Goals as goal

pub returns-in-Some : goal.returns-in-Some
returns-in-Some c =
    line_heads _ _ _ _ _ _ _ c.heads_in.ensures
    (line_asks _ c.hear.ensures c.in-Some.is _ c.ask-reply.ensures c.write_answer.ensures)

pub returns-in-None : goal.returns-in-None
returns-in-None c =
    line_not c.hear.ensures c.in-None.is c.write_bad.ensures
