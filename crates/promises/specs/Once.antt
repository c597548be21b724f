-- Every word that a call hands back, in the parts that the caller has.
use Rattle.std.specs.Prelude.{◌≡◌, List, ℕ}
use Rattle.wheel.specs.declared.Wheel.{Wheel}

-- ---- the words of a store are the state, the heads and every lent slice, and nothing else

pub record Lent (w : Wheel) (hh : List (List ℕ)) (vs ds ns ps ts ms : List ℕ) (w' : Wheel) (hh' : List (List ℕ))
    (vs' ds' ns' ps' ts' ms' : List ℕ) : Type 0 where
  pub state : w ≡ w'
  pub heads : hh ≡ hh'
  pub values : vs ≡ vs'
  pub deadlines : ds ≡ ds'
  pub nexts : ns ≡ ns'
  pub prevs : ps ≡ ps'
  pub turns : ts ≡ ts'
  pub marks : ms ≡ ms'
