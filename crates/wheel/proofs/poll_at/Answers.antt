-- `poll_at` meets its contract, by the case of the next expiration.
use mathlib.Core.Path.{subst}
use Rattle.wheel.specs.Expiration.{NextIs, WakeIs}
use Rattle.wheel.proofs.laws.Expiration.{wake_at}
use Rattle.wheel.proofs.poll_at.Goals as goal

pub returns : goal.returns
returns c =
    λ L R. wake_at _ (subst (NextIs _ L) c.in_ok-expiration.was (c.next_expiration.ensures L R))

pub returns-in_err-expiration : goal.returns-in_err-expiration
returns-in_err-expiration c =
    rw c.from_residual.ensures (λ L R. subst (NextIs _ L) c.in_err-expiration.was (c.next_expiration.ensures L R))
