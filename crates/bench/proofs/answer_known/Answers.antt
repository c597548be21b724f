-- `answer_known` meets its claim: heard, done and written, or `bad` written and nothing else touched.
use Rattle.bench.proofs.laws.Line.{line_asks, line_not}
use Rattle.bench.proofs.answer_known.Goals as goal

pub returns-in-Some : goal.returns-in-Some
returns-in-Some c =
    let K = c.known-said.ensures in
    record {
      line = line_asks _ c.hear.ensures c.in-Some.is _ K.does c.write_answer.ensures;
      tells = K.tells;
    }

pub returns-in-None : goal.returns-in-None
returns-in-None c =
    record {
      line = line_not c.hear.ensures c.in-None.is c.write_bad.ensures;
      tells = c.requires;
    }
