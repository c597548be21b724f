-- Words of the promises on pending timers: what a key reaches, and which calls spare it.
use Rattle.std.specs.Prelude.{◌≡◌, false, ℕ}
use Rattle.queue.specs.Told.{told}
use Rattle.records.specs.View.{View}
use Rattle.records.specs.Records.{Names}
use Rattle.promises.specs.Runs.{Asked, accepted}
use Rattle.promises.specs.KeysStay.{Aims, HandsKey}

-- ---- what is said

-- the key k names a record that is pending with the value x, the period q and the deadline w
pub record Reaches (v : View) (k x q w : ℕ) : Type 0 where
  pub number : ℕ
  pub place : ℕ
  pub names : Names v k number place
  pub value : v.value number ≡ x
  pub period : v.period number ≡ q
  pub deadline : v.deadline number ≡ w

-- the call leaves the timer of k alone: it is no accepted reset or remove of k, no accepted format or clear, and does not hand it out
abbrev pub Spares : ℕ → Asked → Type 0
Spares k x = (Aims k x.call → accepted x ≡ false) × (HandsKey k (told x.answer) → ⊥)
