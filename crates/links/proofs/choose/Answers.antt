-- `choose` meets its contract: the test says which.
use borrow.Author.Tests.{eq-eqb, ne_eqb}
use Rattle.links.proofs.choose.Goals as goal

pub returns-then-k-j : goal.returns-then-k-j
returns-then-k-j c =
    simp (eq-eqb _ _ c.if-k-j.true)

pub returns-else-k-j : goal.returns-else-k-j
returns-else-k-j c =
    simp (ne_eqb _ _ c.if-k-j.false)
