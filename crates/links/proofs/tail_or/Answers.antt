-- `tail_or` meets its contract: the test says whether there is a head.
use borrow.Author.Tests.{eq-eqb, ne_eqb}
use Rattle.links.proofs.tail_or.Goals as goal

pub returns-then-head-eq-NOBODY : goal.returns-then-head-eq-NOBODY
returns-then-head-eq-NOBODY c =
    simp (eq-eqb _ _ c.if-head-eq-NOBODY.true)

pub bounds-prevs-head : goal.bounds-prevs-head
bounds-prevs-head c =
    c.requires c.if-head-eq-NOBODY.false

pub returns : goal.returns
returns c =
    simp (ne_eqb _ _ c.if-head-eq-NOBODY.false)
