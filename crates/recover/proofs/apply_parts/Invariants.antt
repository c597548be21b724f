-- `apply_parts` meets its claim: one pass asks one step (`apply_pass`), and it ends where there is none (`apply_ends`).
use Prim.Native.Nat.{◌-◌}
use lib.ListN.{length}
use Rattle.contracts.specs.Tells.{Tells}
use Rattle.records.specs.Words.{parts, holding, Sound}
use Rattle.recover.proofs.laws.Apply.{Applying}
use Rattle.recover.proofs.apply_parts.Given as goal

abbrev pub invariant-loop-step : goal.invariant-loop-step
invariant-loop-step l =
    Applying l.bytes (holding l.hand l.until (parts l.elapsed l.initial.occupied l.initial.tops l.initial.heads l.initial.values l.initial.deadlines l.initial.nexts l.initial.prevs l.initial.turns l.initial.marks))
    (holding l.h l.u (parts l.e l.occupied l.tops l.heads l.values l.deadlines l.nexts l.prevs l.turns l.marks)) l.used
    × Tells (Sound (holding l.h l.u (parts l.e l.occupied l.tops l.heads l.values l.deadlines l.nexts l.prevs l.turns l.marks))) l.fine

abbrev pub decreases-loop-step : goal.decreases-loop-step
decreases-loop-step l =
    length l.bytes - l.used
