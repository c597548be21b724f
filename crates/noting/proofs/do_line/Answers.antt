-- `do_line` meets its claim: the step that the line says is done (`line_step`), or it says none (`line_bad`).
use Rattle.noting.proofs.laws.Line.{line_step, line_bad}
use Rattle.noting.proofs.do_line.Goals as goal

pub returns-in-Some : goal.returns-in-Some
returns-in-Some c =
    line_step c.in-Some.ensures c.do_step.ensures

pub returns-in-None : goal.returns-in-None
returns-in-None c =
    line_bad c.in-None.ensures c.write_bad.ensures
