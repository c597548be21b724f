-- `format` meets its claim: refused with its number, or a fresh store (`formats`).
use mathlib.Core.Path.{refl}
use native.Mathlib.Omega.{arith}
use Rattle.delay_queue.specs.Claims.{FormatClaim}
use Rattle.delay_queue.proofs.laws.Format.{format_refused, format_done}
use Rattle.delay_queue.proofs.laws.Back.{back}
use Rattle.refusals.proofs.laws.Numbers.{number_some, refused, taken_none}
use Rattle.records.specs.Format.{FormatNo}
use Rattle.delay_queue.proofs.format.Goals as goal

pub returns-in-Err : goal.returns-in-Err
returns-in-Err c =
    format_refused _ _ _ _ _ _ (refused (FormatNo _ _) c.format_no-taken.ensures c.in-Err.is) (number_some _) c.refused.ensures

pub overflow_cast-n : goal.overflow_cast-n
overflow_cast-n c =
    omega (arith, (c.format_no-taken.ensures.taken (taken_none c.in_default.is)).0.few)

pub make-requires : goal.make-requires
make-requires c =
    (c.format_no-taken.ensures.taken (taken_none c.in_default.is)).0

pub returns : goal.returns
returns c =
    back _ _ _ _ _ _ c.packed.ensures (FormatClaim _ _ _)
    (format_done _ _ _ c.format_no-taken.ensures (taken_none c.in_default.is) c.make.ensures refl)
