-- `seen` meets its contract: the type of the heads says it (`shaped`).
use borrow.Author.Rules.{rules}
use native.Mathlib.Omega.{arith}
use Rattle.judge.proofs.Shapes.{shaped}
use Rattle.judge.proofs.seen.Goals as goal

pub returns : goal.returns
returns c =
    record {
      few = omega (arith, c.well_formed.0);
      six = search rules;
      shape = shaped c.args.heads c.well_formed.1.1.0.0 c.well_formed.1.1.0.1.0.1 c.well_formed.1.1.0.1.1;
    }
