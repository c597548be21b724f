-- `cancel_twice` meets its contract: the claims of its two calls go into one law, `cancels_on`; both keep the length of `nexts`, and the rest is found.
use Rattle.lending.proofs.laws.Lending.{cancels_on}
use Rattle.lending.proofs.cancel_twice.Goals as goal

pub returns : goal.returns
returns c =
    cancels_on c.remove-first.ensures c.heads_in-h.ensures c.remove.ensures
