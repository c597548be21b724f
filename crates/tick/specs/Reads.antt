-- A reading, as its answer and the time after it.
use Rattle.std.specs.Prelude.{ℕ, Result, Ok, Err}
use Rattle.queue.specs.declared.Answer.{Answer}
use Rattle.queue.specs.declared.Answer.TheVariants as A
use Rattle.tick.specs.declared.Front.{Front}
use Rattle.tick.specs.declared.TimeOver.{TimeOver}

-- one that is taken is told as `ok`, and one that is refused as number 10
abbrev pub answered : Result Front TimeOver → Answer
answered (Ok f) = A.Done
answered (Err e) = A.No 10

-- "the time stays" where it is refused
abbrev pub time_after : ℕ → Result Front TimeOver → ℕ
time_after time (Ok f) = f.time
time_after time (Err e) = time
