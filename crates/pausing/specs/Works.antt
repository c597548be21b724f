-- What a poll hands out, for any way that it stops: the words of demand 2 for calls answered neither "not yet" nor 12.
use Rattle.std.specs.Prelude.{◌≡◌, ℕ, ◌≤◌, ◌<◌}
use Rattle.std.proofs.Math.Option.{none, some}
use Rattle.wheel.specs.Poll.{clock_after}
use Rattle.wheel.specs.Limited.{Outcome, ended, yet}
use Rattle.records.specs.View.{View}
use Rattle.records.specs.Records.{At}

-- handed out: pending, due, and a least one. Nothing handed out by a poll that ended: nothing due. "Not yet" says nothing
abbrev pub FairlyBy : View → ℕ → Outcome → Type 0
FairlyBy v now (ended none) = (y p : ℕ) → At v y p → now < v.deadline y
FairlyBy v now (ended (some r)) = ((p : ℕ) × At v r p) × (v.deadline r ≤ now) × ((y p : ℕ) → At v y p → v.deadline r ≤ v.deadline y)
FairlyBy v now (yet q) = Unit {0}

-- the clock of a poll that ended is the whole poll's
abbrev pub ClockBy : View → ℕ → Outcome → ℕ → Type 0
ClockBy v now (ended got) e = e ≡ clock_after v.deadline now v.elapsed got
ClockBy v now (yet q) e = Unit {0}
