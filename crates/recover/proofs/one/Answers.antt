-- `one`: a call is a run of one command (`run_makes`), an open and a close leave the store.
use native.Mathlib.Omega.{arith}
use mathlib.Core.Logic.{⊎_elim}
use Rattle.recover.proofs.laws.Parts.{run_makes, opened_makes, closed_makes}
use Rattle.recover.proofs.one.Goals as goal

pub returns-in-Asks : goal.returns-in-Asks
returns-in-Asks c =
    let K = c.answer_all-said.ensures in
    record {
      makes = run_makes c.in-Asks.is c.command_of-command.ensures K.run (omega arith);
      tells = K.tells;
    }

pub returns-in-Open : goal.returns-in-Open
returns-in-Open c =
    record { makes = ⊎_elim opened_makes closed_makes c.in-Open.is; tells = c.requires }
