-- `ngawdrelo_act`: the four words are a call, which is asked and noted (`acts_asked`), or none (`acts_none`).
use mathlib.Core.Path.{refl, ap}
use mathlib.Core.List.{List}
use Prim.Native.Nat.{ℕ}
use lib.ListN.{length}
use Rattle.ngawdrelo.proofs.laws.Face.{acts_asked, acts_none}
use Rattle.ngawdrelo.proofs.ngawdrelo_act.Goals as goal

pub returns-in_default : goal.returns-in_default
returns-in_default c =
    acts_none c.call_of-group.ensures c.in_default.is refl refl c.no_bytes-nothing.ensures c.padded.ensures
    (ap (λ (l : List ℕ). length l) c.as_slice.ensures)

pub returns : goal.returns
returns c =
    acts_asked c.call_of-group.ensures _ c.in-Some.is c.ask.ensures c.refusal_in.result c.refusal_in.ensures c.note-noted.ensures c.padded-2.ensures
    (ap (λ (l : List ℕ). length l) c.as_slice-2.ensures)
