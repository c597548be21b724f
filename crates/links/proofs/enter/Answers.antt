-- `enter` meets its contract, store by store (`between_is`).
use mathlib.Core.Path.{refl}
use lib.ListN.{length-set}
use Rattle.links.proofs.laws.Links.{between_is}
use Rattle.links.proofs.enter.Goals as goal

pub put-requires : goal.put-requires
put-requires c =
    λ h. simp length-set (c.requires.2 h)

pub returns : goal.returns
returns c =
    record { prevs_value = between_is _ _ _ _ c.tail_or-tail.ensures c.put.ensures; marks_value = refl }
