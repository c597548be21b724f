-- `packed` meets its contract: `wheel_of` puts the state together.
use mathlib.Core.Path.{◌∙◌}
use Rattle.delay_queue.proofs.packed.Goals as goal

pub returns : goal.returns
returns c =
    let U = c.unchanged.ensures in
    (U.0, U.1 ∙ c.wheel_of-state.ensures, U.2)
