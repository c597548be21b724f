-- `pop` meets its contract: one list changes that has no flag (`pops_aside`).
use Rattle.places.proofs.laws.Whole.{can_pop}
use Rattle.wheel.proofs.laws.Words.{pops_aside}
use Rattle.wheel.proofs.pop.Goals as goal

pub pop-requires : goal.pop-requires
pop-requires c =
    can_pop c.requires.0.places _ c.requires.2

pub returns : goal.returns
returns c =
    let pre = c.requires in
    pops_aside pre.0 _ _ c.pop.ensures.value c.pop.ensures.marks_value pre.1
