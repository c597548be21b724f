-- the first digit first (`digits_next`)
use Rattle.std.proofs.Common.{arith, ◌≡◌, ◌+◌, ℕ, subst}
use Rattle.writing.specs.Writing.{Wrote}
use Rattle.writing.proofs.laws.Writing.{power_pos, digits_next, digits_end}
use Rattle.light.specs.Light.{hex_of}
use Rattle.light.proofs.push_hex.Goals as goal

pub nonzero_div-n : goal.nonzero_div-n
nonzero_div-n c = let I = c.loop-k.invariant in rw I.weight (power_pos 16 _ (omega arith) (omega arith))

pub loop-k-preserved : goal.loop-k-preserved
loop-k-preserved c = digits_next c.loop-k.invariant (omega arith) c.loop-k-test.true c.requires c.digit.ensures

pub returns : goal.returns
returns c =
    let all : c.args.at + c.loop-k.k ≡ c.args.at + 16 = omega (arith, c.loop-k-test.false, c.loop-k.auto.k-end) in
    subst (λ (a : ℕ). Wrote c.args.out.now c.args.at (hex_of 16 c.args.n) a c.loop-k.out) all (digits_end c.loop-k.invariant (omega arith))
