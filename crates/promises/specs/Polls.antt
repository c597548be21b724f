-- 02 [10]: which calls are polls, whole or with a limit.
use Rattle.std.specs.Prelude.{ℕ}
use Rattle.delay_queue.specs.declared.Call.{Call}
use Rattle.delay_queue.specs.declared.Call.TheVariants as C

-- the call is a poll at now
pub data PollAt : Call → ℕ → Type 0 where
  whole : {now : ℕ} → PollAt (C.Poll now) now
  limited : {now limit : ℕ} → PollAt (C.PollSome now limit) now
