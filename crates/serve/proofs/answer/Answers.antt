-- A call goes forth, since it has room for an answer (`feed_forth`), and call by call all of the chunk is answered (`calls_more`).
use Rattle.std.proofs.Common.{arith, ◌≡◌, ◌≤◌, ◌+◌, ℕ, List, length, take, length-take}
use Rattle.feed.specs.Feed.{answer_room}
use Rattle.lines.proofs.laws.Running.{passes_none}
use Rattle.feed.proofs.laws.NextLines.{feed_forth, feed_fits}
use Rattle.feed.proofs.laws.Serving.{calls_more}
use Rattle.serve.proofs.answer.Goals as goal

-- what is lent has room for an answer
lent : {most : ℕ} (out : List ℕ) → answer_room ≤ most → most ≤ 4096 → length out ≡ 4096 → 0 + answer_room ≤ length (take most out)
lent {most} out p q e = simp length-take (omega arith)

pub loop-i-init : goal.loop-i-init
loop-i-init c = record { size = omega arith; passes = passes_none }

pub invariant_of-run : goal.invariant_of-run
invariant_of-run c = record { short = omega (arith, feed_fits c.answer_lines-r.ensures (omega arith)) }

pub loop-i-smaller : goal.loop-i-smaller
loop-i-smaller c =
    let M = c.room-most.ensures.enough in
    let room = lent c.loop-i.out M.0 M.1 c.loop-i.invariant.size in
    omega (arith, feed_forth c.answer_lines-r.ensures (c.loop-i-test.true, room))

pub loop-i-preserved : goal.loop-i-preserved
loop-i-preserved c =
    record { size = omega arith; passes = calls_more (omega arith) (omega arith) c.loop-i.invariant.passes c.answer_lines-r.ensures }
