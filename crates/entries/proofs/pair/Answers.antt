-- `pair`: kind 10 with a period.
use mathlib.Core.Logic.{⊎_elim}
use Rattle.entries.proofs.laws.Reading.{pair_kind, pair_none, pair_made}
use Rattle.entries.proofs.pair.Goals as goal

pub returns-then-p-ne10 : goal.returns-then-p-ne10
returns-then-p-ne10 c =
    ⊎_elim (pair_kind _ _) (λ h. pair_none _ _ h.0 h.1) c.then-p-ne10.either

pub returns : goal.returns
returns c =
    pair_made _ _ c.if-p-ne10.false c.if-p-eq0.false
