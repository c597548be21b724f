-- `no_store` meets its contract: each word is the one that is claimed.
use mathlib.Core.Path.{refl}
use Rattle.delay_queue.proofs.no_store.Goals as goal

pub returns : goal.returns
returns c =
    record { elapsed = refl; occupied = refl; records = refl; expired = refl; free = refl; parking = refl; hand = refl; until = refl }
