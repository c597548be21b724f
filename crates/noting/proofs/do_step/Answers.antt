-- `do_step` meets its claim: the step has acted, its bytes have room (`act_size`) and stand behind the others (`step_done`).
use mathlib.Core.Path.{refl, ap}
use mathlib.Core.List.{List}
use Prim.Native.Nat.{ℕ}
use native.Mathlib.Omega.{arith}
use lib.ListN.{length}
use Rattle.entries.proofs.laws.Writing.{wrote_as}
use Rattle.noting.proofs.laws.Line.{act_size, step_done}
use Rattle.noting.proofs.do_step.Goals as goal

pub push-behind-requires : goal.push-behind-requires
push-behind-requires c =
    omega (arith, act_size c.act-r.ensures, ap (λ (l : List ℕ). length l) c.as_slice.ensures, c.requires)

pub returns : goal.returns
returns c =
    step_done _ _ _ _ _ _ _ c.heads_in-grid.ensures c.act-r.ensures (wrote_as refl c.as_slice.ensures c.push-behind.ensures) c.write_answer-end.ensures
