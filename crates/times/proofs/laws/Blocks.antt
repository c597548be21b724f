-- The blocks of 2^36: the next one's start, and where a deadline of the next block lies against it.
use mathlib.Core.Path.{◌≡◌, sym, ◌∙◌}
use mathlib.Core.Logic.{◌≢◌}
use Prim.Native.Nat.{ℕ, ◌-◌, ◌≤◌, ◌<◌}
use native.Mathlib.Omega.{arith}
use Rattle.times.specs.Times.{width, floor, Lies, max_duration, block, NextBlock, block_end}
use Rattle.times.proofs.laws.Quotients.{lies_agree}
use Rattle.times.proofs.laws.Levels.{block_six}

pub end_later : (e : ℕ) → e < block_end e
unfolding block_end
end_later e = omega arith

-- the next block's start is that of every deadline in it
pub next_floor : (e w : ℕ) → NextBlock e w → floor 6 w ≡ block_end e
unfolding floor width block_end
next_floor e w h = omega (arith, h)

-- up to that start elapsed stays in its block
pub end_block : (e f : ℕ) → e ≤ f → f < block_end e → block f ≡ block e
unfolding block_end
end_block e f a b = omega arith

-- what lies on the wheel is before that start
pub lies_ends : (k e w : ℕ) → k < 6 → Lies k e w → w < block_end e
unfolding block_end
lies_ends k e w h l =
    let b : block w ≡ block e = sym (block_six w) ∙ lies_agree k e w l 6 h ∙ block_six e in
    omega (arith, b)

-- a deadline that is not too far lies in elapsed's block or in the next
pub near_next : (e w : ℕ) → e ≤ w → w - e ≤ max_duration → block w ≢ block e → NextBlock e w
near_next e w h n d = omega (arith, d)
