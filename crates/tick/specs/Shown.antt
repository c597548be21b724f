-- Two days of a board, on which the promises are shown.
use Rattle.std.specs.Prelude.{ℕ, List, [], ◌∷◌}
use Rattle.delay_queue.specs.declared.Call.TheVariants as C
use Rattle.tick.specs.Boards.{Deed, reads, polls, polls_some, calls}

-- ticks 0, 4294967295, 0, 5, of a clock that is read on both sides of 2^32
abbrev pub clock : List ℕ
clock = 0 ∷ 4294967295 ∷ 4294967296 ∷ 4294967301 ∷ []

abbrev pub round : List Deed
round = reads 0 ∷ polls 4294967295 ∷ calls C.Clear ∷ polls 0 ∷ reads 5 ∷ []

-- a timer past 2^32, a poll on either side of that, of which the second may pause and is gone on with, a clear, and a poll after it
abbrev pub day : List Deed
day = calls (C.Insert 7 4294967300 0) ∷ polls 4294967295 ∷ polls_some 4 0 ∷ polls_some 5 1 ∷ calls C.Clear ∷ polls 6 ∷ []
