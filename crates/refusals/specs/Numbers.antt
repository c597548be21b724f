-- The numbers of the refusals: document 01's 1 to 8, of which 02 took 5, and 02's 9 to 13.
use Rattle.std.specs.Prelude.{ℕ, Result, Ok, Err}
use Rattle.refusals.specs.declared.Refusal.{Refusal}
use Rattle.refusals.specs.declared.Refusal.TheVariants.{NoRoom, NotSound, Full, TooFar, DeadKey, BackInTime, BadTurn, BadLimit, TimeOver, TooOld, PollInHand, BadPatch}

abbrev pub number : Refusal → ℕ
number NoRoom = 1
number NotSound = 2
number Full = 3
number TooFar = 4
number DeadKey = 6
number BackInTime = 7
number BadTurn = 8
number BadLimit = 9
number TimeOver = 10
number TooOld = 11
number PollInHand = 12
number BadPatch = 13

-- the number that is answered, or 0 where nothing is refused
abbrev pub no_in : Result (Unit {0}) Refusal → ℕ
no_in (Ok _) = 0
no_in (Err r) = number r
