-- `behind`: field by field (`behind_so`).
use mathlib.Core.Path.{sym, ap, ◌∙◌}
use mathlib.Core.Bool.{Bool, cond}
use Prim.Native.Nat.{ℕ, ◌+◌}
use Rattle.recover.specs.Scan.{calls_of}
use Rattle.recover.proofs.laws.Scan.{behind_so}
use Rattle.recover.proofs.behind.Goals as goal

pub returns-then-patch : goal.returns-then-patch
returns-then-patch c =
    let s = c.args.seen in
    let w = sym c.if-patch.true in
    behind_so _ s c.size_of.ensures c.lives-live.ensures c.opens-patch.ensures
    (ap (λ (b : Bool). cond b s.kept (s.at + c.size_of.result)) w)
    (ap (λ (n : ℕ). s.left + n) c.calls_of.ensures.value ∙ ap (λ (b : Bool). cond b (s.left + calls_of c.args.step) 0) w)

pub returns : goal.returns
returns c =
    let s = c.args.seen in
    let w = sym c.if-patch.false in
    behind_so _ s c.size_of.ensures c.lives-live.ensures c.opens-patch.ensures
    (ap (λ (b : Bool). cond b s.kept (s.at + c.size_of.result)) w)
    (ap (λ (b : Bool). cond b (s.left + calls_of c.args.step) 0) w)
