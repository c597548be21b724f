-- One step of a store of which it is known whether it is sound. No public claim cites this file.
use Rattle.std.specs.Prelude.{Bool}
use Rattle.contracts.specs.Tells.{Tells}
use Rattle.records.specs.Words.{QueueWords, Sound}
use Rattle.entries.specs.declared.Step.{Step}
use Rattle.recover.specs.Apply.{Makes}

-- what a step makes of s, and whether that is sound
pub record MakesKnown (x : Step) (s s' : QueueWords) (sound : Bool) : Type 0 where
  pub makes : Makes x s s'
  pub tells : Tells (Sound s') sound
