-- only what is kept is answered: `keep` says so where it went well (`front_kept`)
use Rattle.std.proofs.Common.{arith}
use Rattle.keeping.proofs.laws.Keeping.{front_kept}
use Rattle.journaled.proofs.settle.Goals as goal

pub say-requires : goal.say-requires
say-requires c = omega (arith, front_kept c.args.notes.now c.keep-k.ensures c.if-not-k.false c.requires.0)

pub returns : goal.returns
returns c = λ e. front_kept c.args.notes.now c.keep-k.ensures c.if-not-k.false c.requires.0
