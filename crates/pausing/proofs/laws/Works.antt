-- What a poll with a limit takes out, whatever was in hand and however it stopped: a least due timer or none when it ends, every weight kept but that of what
-- is handed out, the heights less by the moves, the drains at most the moves. It is for the promises on polls what `takes_works` is for whole polls.
use mathlib.Core.Path.{◌≡◌, refl, sym, ap, ◌∙◌, subst}
use mathlib.Core.Logic.{inl, by_cases}
use mathlib.Core.List.{List, [], ◌∷◌, nil≢cons}
use mathlib.Core.Option.{Option, none, some}
use Prim.Native.Nat.{ℕ, ◌+◌, ◌-◌, ◌≤◌, ◌<◌}
use native.Mathlib.Omega.{arith}
use native.Mathlib.Decide.{ℕ_discrete, dec_lt}
use Rattle.links.specs.Lists.{nobody, Mem, change}
use Rattle.links.proofs.laws.Lists.{change_other}
use Rattle.places.specs.Places.{slots, parking, expired, free, level_at}
use Rattle.wheel.specs.Wheel.{Lists, Rule, arrive}
use Rattle.wheel.specs.Sums.{sum_of, total}
use Rattle.wheel.specs.Drain.{heights}
use Rattle.wheel.specs.Poll.{Fair}
use Rattle.wheel.specs.Limited.{Outcome, ended as stopped, yet, Limited, rests, waits, hands, finds, stops, moves, empties}
use Rattle.wheel.specs.Moves.{gotten}
use Rattle.wheel.proofs.laws.Sums.{total_less, total_ext}
use Rattle.wheel.proofs.laws.Between.{rule_between}
use Rattle.wheel.proofs.laws.Next.{list_some}
use Rattle.wheel.proofs.laws.Drain.{amount}
use Rattle.wheel.proofs.laws.Poll.{Promise, poll_law}
use Rattle.wheel.proofs.laws.Limited.{limited_polls}
use Rattle.wheel.proofs.laws.Going.{hand_ends}
use Rattle.wheel.proofs.laws.Moves.{got_none, got_some}
use Rattle.wheel.proofs.laws.Passed.{given_by, limited_passed}
use Rattle.records.specs.View.{View}
use Rattle.records.specs.Records.{At}
use Rattle.records.specs.Words.{QueueWords, view, AtRest, Sound}
use Rattle.queue.specs.Steps.{TakesSome, popped_some, polled_some}
use Rattle.pausing.specs.Pausing.{PollTaken}
use Rattle.pausing.specs.Works.{FairlyBy, ClockBy}
use Rattle.pausing.proofs.laws.Pausing.{rule_now}

-- ---- each drain of a call has a move of that call

-- an empty slot in hand is drained with no move more
empty_one : List ℕ → ℕ
empty_one [] = 1
empty_one (x ∷ l) = 0

slack : Option ℕ → Lists → ℕ
slack none L = 0
slack (some p) L = empty_one (L p)

one_at_most : (l : List ℕ) → empty_one l ≤ 1
unfolding empty_one
one_at_most [] = omega arith
one_at_most (x ∷ l) = omega arith

slack_none : (p : ℕ) (L : Lists) {x : ℕ} {l : List ℕ} → L p ≡ x ∷ l → slack (some p) L ≡ 0
unfolding slack empty_one
slack_none p L e = ap empty_one e

slack_one : (p : ℕ) (L : Lists) → slack (some p) L ≤ 1
unfolding slack
slack_one p L = one_at_most (L p)

slack_empty : (p : ℕ) (L : Lists) → L p ≡ [] → slack (some p) L ≡ 1
unfolding slack empty_one
slack_empty p L e = ap empty_one e

drains_few : {d : ℕ → ℕ} {now b e m n c : ℕ} {h : Option ℕ} {L N : Lists} {o : Outcome} → Limited d now h b e L o m n c N → n ≤ m + slack h L
unfolding slack
drains_few (rests E) = omega arith
drains_few (waits F h) = omega arith
drains_few (hands F h i) = omega arith
drains_few (finds {p = p} {L = L} X h r) = omega (arith, drains_few r, slack_none p L (list_some X).2)
drains_few (stops i) = omega arith
drains_few {d} (moves {p = p} {x = x} {L = L} {l = l} i r) =
    omega (arith, drains_few r, slack_one p (arrive (level_at p - 1) (d x) x (change L p l)))
drains_few (empties {p = p} {L = L} i r) = omega (arith, drains_few r, slack_empty p L i)

-- ---- the view

-- what waits in a slot or is parked is not before elapsed
pub not_before : {d : ℕ → ℕ} {e : ℕ} {L : Lists} → Rule d e L → (p y : ℕ) → p < expired → Mem y (L p) → e ≤ d y
not_before R p y h m =
    by_cases (dec_lt p slots)
    (λ g. (R.wheel p y g m).late)
    (λ g. let z : p ≡ parking = omega (arith, h, g) in omega (arith, R.parked y (rw z at m)))

weigh_split : (w : ℕ → ℕ) (L : Lists) → total (λ p x. w x) free L ≡ amount w L + sum_of w (L expired)
unfolding amount total
weigh_split w L = refl

-- what a poll has done when it stops
pub record TakenSome (v : View) (now : ℕ) (o : Outcome) (m n : ℕ) (u : View) : Type 0 where
  pub fair : FairlyBy v now o
  pub kept : (w : ℕ → ℕ) → total (λ p x. w x) free u.lists + given_by w o ≡ total (λ p x. w x) free v.lists
  pub clock : ClockBy v now o u.elapsed
  pub counted : m + heights u.lists ≡ heights v.lists
  pub few : n ≤ m

module _ {s : QueueWords} (S : Sound s) {now : ℕ} (K : PollTaken (view s) now) where
  abbrev v : View
  v = view s

  in_list : v.lists expired ≡ [] → (y p : ℕ) → At v y p → (q : ℕ) × (q < expired) × Mem y (v.lists q)
  in_list empty y p a =
      by_cases (ℕ_discrete p expired)
      (λ e. absurd (rw (e, empty) at a.member))
      (λ d. (p, omega (arith, a.timed, d), a.member))

  fairly : v.lists expired ≡ [] → (g : Option ℕ) → Fair v.deadline now v.lists g → FairlyBy v now (stopped g)
  fairly empty none f = λ y p a. f y (in_list empty y p a)
  fairly empty (some r) f = (
    (f.0.0, record { timed = omega (arith, f.0.1); member = f.0.2 }),
    f.1,
    λ y p a. f.2 y (in_list empty y p a),
  )

  -- an ended poll keeps the whole poll's promise
  promise : v.lists expired ≡ [] → {limit m n c : ℕ} {g : Option ℕ} {N : Lists}
      → Limited v.deadline now (gotten s.hand) limit v.elapsed v.lists (stopped g) m n c N
      → Promise v.deadline now v.elapsed v.lists g m n c N
  promise empty {limit} {m} {n} {c} {g} {N} r =
      by_cases (ℕ_discrete s.hand nobody)
      (λ z. poll_law (rule_between (S.rule.free z)) empty (K.later z)
      (limited_polls (subst (λ (h : Option ℕ). Limited v.deadline now h limit v.elapsed v.lists (stopped g) m n c N) (got_none s.hand z) r)))
      (λ d. hand_ends ((rule_now S K).inside d)
      (subst (λ (h : Option ℕ). Limited v.deadline now h limit v.elapsed v.lists (stopped g) m n c N) (got_some s.hand d) r))

  -- a slot in hand is not empty
  no_slack : slack (gotten s.hand) v.lists ≡ 0
  unfolding slack
  no_slack =
      by_cases (ℕ_discrete s.hand nobody)
      (λ z. ap (λ (h : Option ℕ). slack h v.lists) (got_none s.hand z))
      (λ d. ap (λ (h : Option ℕ). slack h v.lists) (got_some s.hand d) ∙ slack_none s.hand v.lists (S.rule.inside d).filled.2)

  parts : v.lists expired ≡ [] → {limit m n c : ℕ} {N : Lists} (o : Outcome)
      → Limited v.deadline now (gotten s.hand) limit v.elapsed v.lists o m n c N
      → ((w : ℕ → ℕ) → total (λ p x. w x) free N + given_by w o ≡ total (λ p x. w x) free v.lists) × (m + heights N ≡ heights v.lists) × (n ≤ m)
  parts empty {N = N} o r =
      let P = limited_passed (rule_now S K) empty K.later o r in (
        λ w. omega (arith, weigh_split w N, weigh_split w v.lists, P.kept w, ap (sum_of w) (P.aside expired (omega arith))),
        P.counted,
        omega (arith, drains_few r, no_slack),
      )

  pub takes_some_works : {limit m n : ℕ} {o : Outcome} {u : View} → TakesSome v now limit o m n u → TakenSome v now o m n u
  unfolding heights
  takes_some_works (popped_some {r = r} {l = l} e) =
      let rest : AtRest s = by_cases (ℕ_discrete s.hand nobody) (λ z. z) (λ d. absurd (nil≢cons (sym (S.rule.inside d).expired ∙ e))) in
      let R : Rule v.deadline v.elapsed v.lists = S.rule.free rest in
      let m : Mem r (v.lists expired) = rw e (inl refl) in
      let d : v.deadline r ≡ v.elapsed = R.expired r m in
      record {
        fair = (
          (expired, record { timed = omega arith; member = m }),
          omega (arith, d, K.later rest),
          λ y p a. by_cases (ℕ_discrete p expired)
              (λ z. omega (arith, d, R.expired y (rw z at a.member)))
              (λ n. omega (arith, d, not_before R p y (omega (arith, a.timed, n)) a.member)),
        );
        kept = λ w. omega (arith, total_less (λ p x. w x) free v.lists expired r l (omega arith) e);
        clock = omega (arith, d);
        counted = omega (
          arith,
          total_ext (λ p x. level_at p) expired (change v.lists expired l) v.lists
              (λ p h. change_other v.lists expired l p (omega (arith, h))),
        );
        few = omega arith;
      }
  takes_some_works (polled_some {o = stopped g} empty r) =
      let P = promise empty r in
      let Q = parts empty (stopped g) r in
      record { fair = fairly empty g P.fair; kept = Q.0; clock = P.clock; counted = Q.1; few = Q.2 }
  takes_some_works (polled_some {o = yet q} empty r) =
      let Q = parts empty (yet q) r in
      record { fair = tt; kept = Q.0; clock = tt; counted = Q.1; few = Q.2 }
