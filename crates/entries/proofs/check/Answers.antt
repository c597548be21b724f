-- `check`: the kind (`kind_low`, `kind_high`), then the zeros (`zero_missed`).
use mathlib.Core.Logic.{⊎_elim}
use mathlib.Core.Path.{sym, ◌∙◌}
use Rattle.entries.proofs.laws.Reading.{kind_low, kind_high, zero_missed, no_damage}
use Rattle.entries.proofs.check.Goals as goal

pub returns-then-e-eq0 : goal.returns-then-e-eq0
returns-then-e-eq0 c =
    ⊎_elim (kind_low _ _) (λ h. kind_high _ _ h.1) c.then-e-eq0.either

pub returns-then-not-has_zeros : goal.returns-then-not-has_zeros
returns-then-not-has_zeros c =
    zero_missed _ _ c.if-e-eq0.false c.if-e-gt11.false (sym c.has_zeros.ensures ∙ c.if-not-has_zeros.true)

pub returns : goal.returns
returns c =
    no_damage _ _ c.if-e-eq0.false c.if-e-gt11.false (sym c.has_zeros.ensures ∙ c.if-not-has_zeros.false)
