-- `double` writes two entries, one behind the other (`wrote_more`).
use mathlib.Core.Path.{refl, ap}
use mathlib.Core.List.{List}
use native.Mathlib.Omega.{arith}
use Prim.Native.Nat.{ℕ}
use lib.ListN.{length}
use Rattle.writing.proofs.laws.Writing.{wrote_more}
use Rattle.entries.specs.Writing.{blank}
use Rattle.entries.proofs.laws.Writing.{wrote_as, entry_length}
use Rattle.entries.proofs.laws.Room.{wrote_held}
use Rattle.entries.proofs.double.Goals as goal

pub push_entry-size-requires : goal.push_entry-size-requires
unfolding blank
push_entry-size-requires c =
    let w = c.push_entry-i.ensures in
    omega (arith, w.end, w.size, entry_length 9 c.args.value c.args.when, ap (λ (l : List ℕ). length l) c.room-bytes.ensures)

pub invariant_of-result : goal.invariant_of-result
invariant_of-result c =
    wrote_held (wrote_as c.room-bytes.ensures refl (wrote_more c.push_entry-i.ensures c.push_entry-size.ensures))
