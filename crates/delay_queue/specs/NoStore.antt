-- No store yet: what stands in for the state before the first format.
use Rattle.std.specs.Prelude.{◌≡◌, ℕ, replicate}
use Rattle.links.specs.Lists.{nobody}
use Rattle.wheel.specs.declared.Wheel.{Wheel}

-- elapsed is 0, no slot is occupied, there is no record, nobody is expired, free or parked, and no poll is in hand. So it is not sound: "Before an accepted f
-- all others answer `no 2`"
pub record NoStoreClaim (w : Wheel) : Type 0 where
  pub elapsed : w.elapsed ≡ 0
  pub occupied : w.occupied ≡ replicate {A = ℕ} 6 0
  pub records : w.tops.n ≡ 0
  pub expired : w.tops.expired ≡ nobody
  pub free : w.tops.free ≡ nobody
  pub parking : w.tops.parking ≡ nobody
  pub hand : w.hand ≡ nobody
  pub until : w.until ≡ 0
