-- `head_of` meets its contract: the tests say which kind of place it is.
use mathlib.Core.Path.{◌≡◌}
use native.Mathlib.Omega.{arith}
use borrow.Author.Tests.{eq-eqb, ne_eqb, lt-ltb, le-ltb}
use Rattle.places.specs.Places.{free}
use Rattle.places.specs.Heads.{head_of}
use Rattle.places.proofs.head_of.Goals as goal

pub returns-then-place-lt-SLOTS : goal.returns-then-place-lt-SLOTS
unfolding head_of
returns-then-place-lt-SLOTS c =
    simp (lt-ltb _ _ c.if-place-lt-SLOTS.true)

pub returns-then-place-eq-PARKING : goal.returns-then-place-eq-PARKING
unfolding head_of
returns-then-place-eq-PARKING c =
    simp (le-ltb _ _ c.if-place-lt-SLOTS.false, eq-eqb _ _ c.if-place-eq-PARKING.true)

pub returns-then-place-eq-EXPIRED : goal.returns-then-place-eq-EXPIRED
unfolding head_of
returns-then-place-eq-EXPIRED c =
    simp (le-ltb _ _ c.if-place-lt-SLOTS.false, ne_eqb _ _ c.if-place-eq-PARKING.false, eq-eqb _ _ c.if-place-eq-EXPIRED.true)

pub returns : goal.returns
unfolding head_of
returns c =
    let z : c.args.place ≡ free = omega (arith, c.if-place-eq-PARKING.false, c.if-place-eq-EXPIRED.false) in
    simp (le-ltb _ _ c.if-place-lt-SLOTS.false, ne_eqb _ _ c.if-place-eq-PARKING.false, ne_eqb _ _ c.if-place-eq-EXPIRED.false, eq-eqb _ _ z)
