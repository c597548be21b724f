-- `make` meets its contract: the lists by `places::format`, the rest word by word.
use mathlib.Core.Path.{refl, ap}
use lib.ListN.{replicate}
use Rattle.wheel.specs.Words.{wheel_words}
use Rattle.records.proofs.make.Goals as goal

pub returns : goal.returns
returns c =
    record {
      wheel = ap (wheel_words 0 (replicate 6 0)) c.format.ensures;
      values = c.fill.ensures;
      deadlines = c.fill-2.ensures;
      turns = c.fill-3.ensures;
      hand = refl;
      until = refl;
    }
