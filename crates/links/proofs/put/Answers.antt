-- `put` meets its contract: the test says which of the two lists it is.
use borrow.Author.Tests.{eq-eqb, ne_eqb}
use Rattle.links.proofs.put.Goals as goal

pub bounds-l-k : goal.bounds-l-k
bounds-l-k c =
    c.requires c.if-k-ne-NOBODY.true

pub returns-then-k-ne-NOBODY : goal.returns-then-k-ne-NOBODY
returns-then-k-ne-NOBODY c =
    simp (ne_eqb _ _ c.if-k-ne-NOBODY.true)

pub returns-else-k-ne-NOBODY : goal.returns-else-k-ne-NOBODY
returns-else-k-ne-NOBODY c =
    simp (eq-eqb _ _ c.if-k-ne-NOBODY.false)
