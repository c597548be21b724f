-- `list_head` meets its contract: a slot's head (`slot_head_lem`), and above the six levels only the parking list is left.
use mathlib.Core.Path.{◌≡◌}
use native.Mathlib.Omega.{arith}
use Rattle.places.specs.Places.{slot_place, parking}
use Rattle.places.proofs.laws.Heads.{slot_head_lem, head_parking}
use Rattle.wheel.proofs.list_head.Goals as goal

pub returns-then-level-lt-NUM_LEVELS : goal.returns-then-level-lt-NUM_LEVELS
returns-then-level-lt-NUM_LEVELS c =
    slot_head_lem _ _ c.if-level-lt-NUM_LEVELS.true c.requires.0 _ _

pub returns : goal.returns
returns c =
    let z : slot_place c.args.level c.args.slot ≡ parking = omega (arith, c.if-level-lt-NUM_LEVELS.false, c.requires.1) in
    rw (z, head_parking) c.first_parked.ensures
