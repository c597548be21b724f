-- In whole polls at each wake answered nothing is late by the gauge: what comes out does so at its deadline (`on_time` of promises).
use mathlib.Core.Path.{◌≡◌, ap, ◌∙◌}
use mathlib.Core.List.{List}
use Prim.Native.Nat.{ℕ, ◌-◌}
use native.Mathlib.Omega.{arith}
use Rattle.records.specs.Words.{QueueWords, Sound}
use Rattle.promises.specs.Runs.{Asked, Runs, rest, next, Each}
use Rattle.promises.specs.Sleep.{OnTime, Woken}
use Rattle.promises.proofs.laws.Sleep.{on_time}
use Rattle.gauge.specs.Gauge.{nought, float_of, lateness}
use Rattle.gauge.specs.OnTime.{NotLate}
use Rattle.gauge.proofs.laws.Examples.{zero}

same_time : (now d : ℕ) → d ≡ now → lateness now d ≡ nought
same_time now d e = let z : now - d ≡ 0 = omega (arith, e) in ap (λ (n : ℕ). float_of n) z ∙ zero

each_not_late : {s u : QueueWords} {l : List Asked} (R : Runs s l u) → Each OnTime R → Each NotLate R
each_not_late rest E = tt
each_not_late (next A R) E = (λ now k v d m n p h. same_time now d (E.0 now k v d m n p h).at_now, each_not_late R E.1)

pub sleeps_not_late : {s : QueueWords} → Sound s → (l : List Asked) (u : QueueWords) (W : Woken s l u) → Each NotLate W.runs
sleeps_not_late S l u W = each_not_late W.runs (on_time S l u W).each
