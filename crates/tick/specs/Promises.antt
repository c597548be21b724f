-- Words of the promises on a board.
use Rattle.std.specs.Prelude.{◌≡◌, ℕ, ◌-◌, ◌^◌, ◌<◌, ◌↔◌}
use Rattle.queue.specs.declared.Answer.{Answer}
use Rattle.queue.specs.Told.{told, no}
use Rattle.records.specs.Words.{QueueWords}
use Rattle.tick.specs.Claims.{sum}

-- "If the sum would pass 2^64-1 the reading is refused with 10 and the time stays": exactly then, and the store stays too
pub record TenExactly (time tick : ℕ) (s : QueueWords) (a : Answer) (time' : ℕ) (s' : QueueWords) : Type 0 where
  pub exactly : (told a ≡ no 10) ↔ (2 ^ 64 - 1 < sum time tick)
  pub stays : told a ≡ no 10 → (time' ≡ time) × (s' ≡ s)
