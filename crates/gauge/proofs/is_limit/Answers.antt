-- `is_limit` tells limits (`limit_test`).
use mathlib.Core.Path.{ap, ◌∙◌}
use lib.Ieee.{Float, le}
use Rattle.gauge.proofs.laws.Floats.{zero_bits, limit_test}
use Rattle.gauge.proofs.is_limit.Goals as goal

pub returns : goal.returns
returns c =
    ap (λ (z : Float). le z c.args.x) zero_bits ∙ limit_test c.args.x
