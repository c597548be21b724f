-- `is_sound` tells what `is_sound_here` does: the tops that it lends are those of the state (`stacked_same`).
use mathlib.Core.Path.{subst}
use Rattle.contracts.specs.Tells.{Tells}
use Rattle.records.specs.Words.{QueueWords, Sound}
use Rattle.records.proofs.laws.Lent.{stacked_same}
use Rattle.judge.proofs.is_sound.Goals as goal

pub is_sound_here-requires : goal.is_sound_here-requires
is_sound_here-requires c =
    c.seen.ensures

pub returns : goal.returns
returns c =
    subst (λ (s : QueueWords). Tells (Sound s) c.is_sound_here.result) (stacked_same c.tops_in-tops.ensures) c.is_sound_here.ensures
