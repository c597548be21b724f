-- Which number a call gets that is refused while a poll is in hand: "judged after 2".
use Rattle.std.specs.Prelude.{◌≡◌, ℕ}
use Rattle.records.specs.Words.{QueueWords, AtRest, MidPoll, Sound}

-- 2 for a store that is not sound, 12 while a poll is in hand, and 0 just where it is neither
pub record FreeNo (s : QueueWords) (r : ℕ) : Type 0 where
  pub bad : (Sound s → ⊥) → r ≡ 2
  pub held : Sound s → MidPoll s → r ≡ 12
  pub near : Sound s → AtRest s → r ≡ 0
  pub taken : r ≡ 0 → Sound s × AtRest s
