-- `answer_all` meets its claim: every step answers one command more (`answered_more`), and it stops for one of three reasons (`stops_short` ..).
use borrow.Author.Rules.{rules}
use native.Mathlib.Omega.{arith}
use mathlib.Core.Path.{◌≡◌, sym}
use Prim.Native.Nat.{◌/◌}
use lib.ListN.{length}
use Rattle.run.proofs.laws.Run.{answered_none, answered_more, stops_short, stops_there, stops_full}
use Rattle.run.proofs.answer_all.Goals as goal

pub loop-i-init : goal.loop-i-init
loop-i-init c =
    (answered_none, c.requires)

pub returns-in_default : goal.returns-in_default
returns-in_default c =
    let I = c.loop-i.invariant in
    record { run = stops_there I.0 (omega (arith, c.loop-i-test.true)) c.call_of-group.ensures c.in_default.is; tells = I.1 }

pub returns-then-room-i : goal.returns-then-room-i
returns-then-room-i c =
    let I = c.loop-i.invariant in
    record {
      run = stops_full I.0 (omega (arith, c.loop-i-test.true)) c.call_of-group.ensures c.in-Some.is
          (omega (arith, c.if-room-i.true));
      tells = I.1;
    }

pub known-said-requires : goal.known-said-requires
known-said-requires c =
    c.loop-i.invariant.1

pub write_answer-requires : goal.write_answer-requires
write_answer-requires c =
    omega (arith, c.if-room-i.false, c.loop-i.auto.answers)

pub loop-i-smaller : goal.loop-i-smaller
loop-i-smaller c =
    omega (arith, c.loop-i-test.true)

pub loop-i-preserved : goal.loop-i-preserved
loop-i-preserved c = (
  answered_more c.loop-i.invariant.0 (omega (arith, c.loop-i-test.true)) c.call_of-group.ensures c.in-Some.is c.known-said.ensures
      c.write_answer.ensures (omega (arith, c.if-room-i.false, c.loop-i.auto.answers)),
  c.known-said.ensures.tells,
)

pub returns : goal.returns
returns c =
    let I = c.loop-i.invariant in
    let e : length c.args.commands.now / 4 ≡ c.loop-i.i = omega (arith, c.loop-i-test.false) in
    rw e (record { run = stops_short I.0 (sym e) (omega arith); tells = I.1 })
