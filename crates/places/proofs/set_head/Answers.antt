-- `set_head` meets its contract: the tests say which kind of place it is.
use mathlib.Core.Path.{refl}
use borrow.Author.Tests.{eq-eqb, ne_eqb, lt-ltb, le-ltb}
use Rattle.places.specs.Heads.{heads_with, tops_with}
use Rattle.places.proofs.set_head.Goals as goal

pub returns-then-place-lt-SLOTS : goal.returns-then-place-lt-SLOTS
unfolding heads_with tops_with
returns-then-place-lt-SLOTS c =
    simp (lt-ltb _ _ c.if-place-lt-SLOTS.true) (record { tops_value = refl; heads_value = refl })

pub returns-then-place-eq-PARKING : goal.returns-then-place-eq-PARKING
unfolding heads_with tops_with
returns-then-place-eq-PARKING c =
    simp (le-ltb _ _ c.if-place-lt-SLOTS.false, eq-eqb _ _ c.if-place-eq-PARKING.true) (record { tops_value = refl; heads_value = refl })

pub returns-then-place-eq-EXPIRED : goal.returns-then-place-eq-EXPIRED
unfolding heads_with tops_with
returns-then-place-eq-EXPIRED c =
    simp (le-ltb _ _ c.if-place-lt-SLOTS.false, ne_eqb _ _ c.if-place-eq-PARKING.false, eq-eqb _ _ c.if-place-eq-EXPIRED.true) (record { tops_value = refl; heads_value = refl })

pub returns : goal.returns
unfolding heads_with tops_with
returns c =
    simp (le-ltb _ _ c.if-place-lt-SLOTS.false, ne_eqb _ _ c.if-place-eq-PARKING.false, ne_eqb _ _ c.if-place-eq-EXPIRED.false)
    (record { tops_value = refl; heads_value = refl })
