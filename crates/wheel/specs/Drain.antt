-- Heights: "A timer's height is its level, 0 on the expired stack." 02 [12]: on the "parking list .., height 6".
use Rattle.std.specs.Prelude.{ℕ}
use Rattle.places.specs.Places.{expired, level_at}
use Rattle.wheel.specs.Wheel.{Lists}
use Rattle.wheel.specs.Sums.{total}

-- the sum over the wheel and the parking list, whose number is that of a slot of level 6
unfoldable pub heights : Lists → ℕ
heights L = total (λ p x. level_at p) expired L
