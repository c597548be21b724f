-- Where an entry joins a list, by the kind of place.
use mathlib.Core.Path.{◌≡◌, refl}
use mathlib.Core.Logic.{◌≢◌}
use mathlib.Core.List.{List, [], ◌∷◌, ◌++◌}
use mathlib.Core.Bool.{Bool, true, false, cond}
use Prim.Native.Nat.{ℕ}
use lib.Dec.{eqb}
use borrow.Author.Tests.{ne_eqb}
use Rattle.places.specs.Places.{free, put}

pub put_free : (i : ℕ) (l : List ℕ) → put free i l ≡ i ∷ l
unfolding put
put_free i l = refl

pub put_tail : (p i : ℕ) (l : List ℕ) → p ≢ free → put p i l ≡ l ++ i ∷ []
unfolding put
put_tail p i l d = rw (ne_eqb p free d)

-- what holds at either end holds
pub put_either : (p i : ℕ) (l : List ℕ) (R : List ℕ → Type 0) → R (i ∷ l) → R (l ++ i ∷ []) → R (put p i l)
unfolding put
put_either p i l R a b = by (eqb p free)
  where
    by : (c : Bool) → R (cond c (i ∷ l) (l ++ i ∷ []))
    by true = a
    by false = b

-- to an empty list there is one way to come
pub put_empty : (p i : ℕ) → put p i [] ≡ i ∷ []
put_empty p i = put_either p i [] (λ k. k ≡ i ∷ []) refl refl
