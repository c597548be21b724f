-- What every poll with a limit keeps, whether it looks first or goes on with a drain, and whether it ends or stops: the same timers wait but for the one
-- handed out, and the heights have fallen by the moves. So with a limit past all heights it ends (`poll_ends`).
use mathlib.Core.Path.{◌≡◌, subst}
use mathlib.Core.Logic.{by_cases}
use mathlib.Core.List.{List, []}
use mathlib.Core.Option.{Option, none, some}
use Prim.Native.Nat.{ℕ, ◌+◌, ◌≤◌, ◌<◌}
use native.Mathlib.Omega.{arith}
use native.Mathlib.Decide.{ℕ_discrete}
use borrow.Author.Tests.{ne_eqb}
use Rattle.links.specs.Lists.{nobody}
use Rattle.links.specs.Links.{at}
use Rattle.places.specs.Places.{expired, most_heights}
use Rattle.wheel.specs.Wheel.{Lists, Rule}
use Rattle.wheel.specs.Drain.{heights}
use Rattle.wheel.specs.Poll.{Waits}
use Rattle.wheel.specs.Limited.{Outcome, ended, yet, Limited}
use Rattle.wheel.specs.Midway.{InHand, Obeys}
use Rattle.wheel.specs.Words.{WheelWords, lists}
use Rattle.wheel.specs.Moves.{CanPoll, PollsTo, gotten, outcome}
use Rattle.wheel.proofs.laws.Between.{rule_between}
use Rattle.wheel.proofs.laws.Sums.{hits, lies_times, times_lies}
use Rattle.wheel.proofs.laws.Drain.{amount}
use Rattle.wheel.proofs.laws.Poll.{given, Promise, poll_law}
use Rattle.wheel.proofs.laws.Limited.{yet_all, limited_polls}
use Rattle.wheel.proofs.laws.Midway.{PollKept, begun, limited_kept, hand_goes}
use Rattle.wheel.proofs.laws.Going.{hand_ends}
use Rattle.wheel.proofs.laws.Moves.{got_none, got_some, heights_small}

-- the weight of what was handed out
abbrev pub given_by : (ℕ → ℕ) → Outcome → ℕ
given_by v (ended got) = given v got
given_by v (yet p) = 0

pub record Passed (L : Lists) (o : Outcome) (m : ℕ) (N : Lists) : Type 0 where
  pub kept : (v : ℕ → ℕ) → amount v N + given_by v o ≡ amount v L
  pub counted : m + heights N ≡ heights L
  pub aside : (q : ℕ) → expired ≤ q → N q ≡ L q

promise_passed : {d : ℕ → ℕ} {now e m n c : ℕ} {L N : Lists} {got : Option ℕ} → Promise d now e L got m n c N → Passed L (ended got) m N
promise_passed P = record { kept = P.kept; counted = P.counted; aside = P.aside }

kept_passed : {e m c p : ℕ} {L N : Lists} → PollKept e L m c N → Passed L (yet p) m N
kept_passed K = record { kept = λ v. omega (arith, K.kept v); counted = omega (arith, K.fallen); aside = K.aside }

module _ {d : ℕ → ℕ} {now b e m n c : ℕ} {L N : Lists} where
  pub looks_passed : Rule d e L → L expired ≡ [] → e ≤ now → (o : Outcome) → Limited d now none b e L o m n c N → Passed L o m N
  looks_passed R s l (ended got) r = promise_passed (poll_law (rule_between R) s l (limited_polls r))
  looks_passed R s l (yet p) r = kept_passed (limited_kept d now (begun d now R s l) r)

  pub goes_passed : {p : ℕ} → InHand d now p e L → (o : Outcome) → Limited d now (some p) b e L o m n c N → Passed L o m N
  goes_passed H (ended got) r = promise_passed (hand_ends H r)
  goes_passed H (yet q) r = kept_passed (hand_goes d now H r).1

  -- from a look or from a drain in hand
  pub limited_passed : {hand : ℕ} → Obeys d now hand e L → L expired ≡ [] → (hand ≡ nobody → e ≤ now) → (o : Outcome)
      → Limited d now (gotten hand) b e L o m n c N → Passed L o m N
  limited_passed {hand} O s l o r =
      by_cases (ℕ_discrete hand nobody)
      (λ z. looks_passed (O.free z) s (l z) o (subst (λ (h : Option ℕ). Limited d now h b e L o m n c N) (got_none hand z) r))
      (λ z. goes_passed (O.inside z) o (subst (λ (h : Option ℕ). Limited d now h b e L o m n c N) (got_some hand z) r))

-- who waits still waits, but for whom was handed out
pub passed_on : {L N : Lists} {o : Outcome} {m : ℕ} → Passed L o m N → (y : ℕ) → given_by (hits y) o ≡ 0 → Waits L y → Waits N y
unfolding amount
passed_on {L} {N} P y z k = times_lies expired N y (omega (arith, P.kept (hits y), lies_times expired L y k.0 k.1 k.2))

-- ---- a whole poll

module _ {t t' : WheelWords} {ds : List ℕ} {hand now limit item to m n : ℕ} (C : CanPoll t ds hand now)
    (P : PollsTo (at ds) now limit hand t item to m n t') where
  pub polled_passed : Passed (lists t) (outcome item to) m (lists t')
  polled_passed = limited_passed C.rule C.expired C.not_back (outcome item to) P.polls

  -- with a limit past all heights it ends
  pub poll_ends : most_heights < limit → to ≡ nobody
  poll_ends h =
      by_cases (ℕ_discrete to nobody) (λ z. z)
      (λ z.
      let o : outcome item to ≡ yet to = rw (ne_eqb to nobody z) in
      let r : Limited (at ds) now (gotten hand) limit t.elapsed (lists t) (yet to) m n t'.elapsed (lists t') = rw o at P.polls in
      absurd (omega (arith, h, yet_all r, polled_passed.counted, heights_small C.whole)))
