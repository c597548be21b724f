-- `times::slot_for` meets its contract: a quotient by a width is a shift (`quotient_shr`).
use mathlib.Core.Path.{sym, ap}
use Prim.Native.Nat.{ℕ, ◌%◌}
use borrow.Author.Rules.{rules}
use Rattle.times.specs.Times.{slot_of}
use Rattle.times.proofs.laws.Quotients.{quotient_shr}
use Rattle.times.proofs.slot_for.Statement.{statement}
use Rattle.times.proofs.slot_for.Tie as tie

returns : tie.Need-returns
unfolding slot_of
returns c = ap (λ (n : ℕ). n % 64) (sym (quotient_shr c.args.when c.args.level))

pub slot_for_spec : {M : Type 1} → statement M
slot_for_spec = tie.close (tie.spec (λ c. search rules) (λ c. search rules) returns)
