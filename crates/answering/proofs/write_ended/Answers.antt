-- `write_ended` makes the line at the end of its buffer (`made`), and then leaves out as it is (`no_room`) or copies the line into it (`placed`).
use mathlib.Core.List.{List}
use mathlib.Core.Path.{refl}
use Prim.Native.Nat.{ℕ, ◌-◌, ◌≤◌}
use lib.ListN.{length}
use native.Mathlib.Omega.{arith}
use Rattle.decimals.specs.Text.{Spaced}
use Rattle.decimals.proofs.laws.Spacing.{at_most_21}
use Rattle.answering.specs.Parts.{Before}
use Rattle.answering.proofs.laws.Writing.{Made, made, no_room, placed}
use Rattle.answering.proofs.write_ended.Goals as goal
use Rattle.answering.proofs.write_ended.Goals.{After-copy-2}

-- five numbers leave six bytes for the word
short : (w ns z : List ℕ) {o b : List ℕ} {e : ℕ} → (length w ≤ 6) × (length ns ≤ 5) × (length z ≤ 5) → Before (λ l. Spaced l ns) o (116 - length z) e b
    → length w ≤ e
short w ns z p n = omega (arith, n.start, at_most_21 _ _ n.is)

-- the line, as it stands at the end of the buffer
here : (c : After-copy-2)
    → Made c.args.word.now c.args.numbers.now c.args.ending.now (c.numbers_before-e.result - length c.args.word.now) c.copy-2.new.dst
here c =
    made _ _ _ _ (refl, refl) c.requires.2 c.copy.ensures c.copy.auto.dst c.numbers_before-e.ensures c.numbers_before-e.auto.buf
    (short _ _ _ c.requires c.numbers_before-e.ensures) c.copy-2.ensures c.copy-2.auto.dst

pub overflow_sub-start : goal.overflow_sub-start
overflow_sub-start c =
    short _ _ _ c.requires c.numbers_before-e.ensures

pub returns-then-out-at : goal.returns-then-out-at
returns-then-out-at c =
    no_room (here (goal.at.returns-then-out-at c).After-copy-2) (omega arith)

pub returns-then-out-at-2 : goal.returns-then-out-at-2
returns-then-out-at-2 c =
    no_room (here (goal.at.returns-then-out-at-2 c).After-copy-2) (omega arith)

pub returns : goal.returns
returns c =
    placed (here (goal.at.returns c).After-copy-2) (omega (arith, c.if-out-at-2.false)) c.copy-3.ensures
