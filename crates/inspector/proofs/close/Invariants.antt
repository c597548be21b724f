-- `close` moves one word up a step (`close_step`).
use mathlib.Core.Path.{◌≡◌}
use Rattle.inspector.proofs.laws.Closing.{Closed}
use Rattle.inspector.proofs.close.Given as goal

abbrev pub invariant-loop-j : goal.invariant-loop-j
invariant-loop-j l =
    l.words ≡ Closed l.initial.words l.i l.j
