-- A log that our own queue writes and the inspector refuses: A at 100 comes out at 100, when the queue's clock is at 64; B at 60 and C at 50 are then
-- raised to 64, and B comes out first. The inspector's clock is still 0, so that it expects C.
use mathlib.Core.Path.{◌≡◌, refl, subst}
use mathlib.Core.List.{List, [], ◌∷◌, ◌++◌}
use Prim.Native.Nat.{ℕ, ◌≤◌}
use native.Mathlib.Omega.{arith}
use lib.ListN.{length}
use Rattle.decimals.specs.Text.{bytes, worth, Spaced}
use Rattle.decimals.proofs.laws.Plain.{every, Plain, text, values, spaced}
use Rattle.lines.specs.Running.{none, more}
use Rattle.inspector.specs.declared.Entry.{Entry}
use Rattle.inspector.specs.declared.Entry.TheVariants as E
use Rattle.inspector.specs.Text.{letter, numbers, ending, Says}
use Rattle.inspector.specs.Log.{timer, store, start, Pends, Step}
use Rattle.inspector.specs.Verdict.{Right, Wrong, most, FirstBad}
use Rattle.inspector.proofs.laws.Steps.{pends_once}
use Rattle.inspector.proofs.laws.Met.{one_entry}

says : (e : Entry) (ds : List (List ℕ)) → values ds ≡ numbers e → Plain ds → length (letter e ∷ (text ds ++ ending e)) ≤ 80
    → Says (letter e ∷ (text ds ++ ending e)) e
says e ds q p h = record { rest = text ds; line = refl; fields = subst (λ (ns : List ℕ). Spaced (text ds) ns) q (spaced ds p); short = h }

a_set : Right most (bytes "i 1 100") start (store (timer 1 100 ∷ []) 0)
unfolding worth every Step
a_set = record {
  entry = E.Insert 1 100;
  says = says (E.Insert 1 100) (bytes "1" ∷ bytes "100" ∷ []) refl (omega arith) (omega arith);
  step = (tt, omega arith, refl);
}

a_out : Right most (bytes "p 100 1") (store (timer 1 100 ∷ []) 0) start
unfolding worth every Step
a_out = record {
  entry = E.Out 100 1;
  says = says (E.Out 100 1) (bytes "100" ∷ bytes "1" ∷ []) refl (omega arith) (omega arith);
  step = (record { front = []; deadline = 100; behind = []; is = refl; first = tt }, omega arith, (omega arith, tt), refl);
}

b_set : Right most (bytes "i 2 60") start (store (timer 2 60 ∷ []) 0)
unfolding worth every Step
b_set = record {
  entry = E.Insert 2 60;
  says = says (E.Insert 2 60) (bytes "2" ∷ bytes "60" ∷ []) refl (omega arith) (omega arith);
  step = (tt, omega arith, refl);
}

c_set : Right most (bytes "i 3 50") (store (timer 2 60 ∷ []) 0) (store (timer 2 60 ∷ timer 3 50 ∷ []) 0)
unfolding worth every Step
c_set = record {
  entry = E.Insert 3 50;
  says = says (E.Insert 3 50) (bytes "3" ∷ bytes "50" ∷ []) refl (omega arith) (omega arith);
  step = ((λ e. omega arith, tt), omega arith, refl);
}

b_out : Wrong most (bytes "p 100 2") (store (timer 2 60 ∷ timer 3 50 ∷ []) 0)
unfolding worth every Step
b_out s r =
    let said : Says (bytes "p 100 2") (E.Out 100 2) = says (E.Out 100 2) (bytes "100" ∷ bytes "2" ∷ []) refl (omega arith) (omega arith) in
    let x : Step most (store (timer 2 60 ∷ timer 3 50 ∷ []) 0) (E.Out 100 2) s =
    subst (λ (e : Entry). Step most (store (timer 2 60 ∷ timer 3 50 ∷ []) 0) e s) (one_entry r.entry (E.Out 100 2) r.says said) r.step
    in
    let b : Pends 2 (timer 2 60 ∷ timer 3 50 ∷ []) = record { front = []; deadline = 60; behind = timer 3 50 ∷ []; is = refl; first = tt } in
    omega (arith, (pends_once x.0 b).1, x.2.1.0)

pub own_refused : FirstBad (bytes "i 1 100" ∷ bytes "p 100 1" ∷ bytes "i 2 60" ∷ bytes "i 3 50" ∷ bytes "p 100 2" ∷ []) 5
own_refused = record {
  front = bytes "i 1 100" ∷ bytes "p 100 1" ∷ bytes "i 2 60" ∷ bytes "i 3 50" ∷ [];
  line = bytes "p 100 2";
  behind = [];
  log = refl;
  number = refl;
  left = store (timer 2 60 ∷ timer 3 50 ∷ []) 0;
  right = more a_set (more a_out (more b_set (more c_set none)));
  wrong = b_out;
}
