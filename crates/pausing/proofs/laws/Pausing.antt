-- A poll with a limit, from its claim: it does one thing only, and a call that says "not yet" with the call behind it says what one call does (`some_added`,
-- `rest_added`), so that chained calls are the whole poll.
use mathlib.Core.Path.{◌≡◌, refl, sym, ap, ◌∙◌, subst}
use mathlib.Core.Logic.{◌⊎◌, inl, inr, ◌≢◌, by_cases}
use mathlib.Core.List.{List, [], ◌∷◌, nil≢cons}
use mathlib.Core.Option.{Option, none, some}
use Prim.Native.Nat.{ℕ, ◌+◌, ◌≤◌}
use native.Mathlib.Omega.{arith}
use native.Mathlib.Nat.{add_comm}
use native.Mathlib.Decide.{ℕ_discrete}
use Rattle.links.specs.Lists.{nobody, change}
use Rattle.places.specs.Places.{expired}
use Rattle.wheel.specs.Wheel.{Lists}
use Rattle.wheel.specs.Limited.{Outcome, ended as stopped, yet, Limited}
use Rattle.wheel.specs.Midway.{InHand, Obeys}
use Rattle.wheel.specs.Moves.{gotten}
use Rattle.wheel.proofs.laws.Moves.{got_none, got_some}
use Rattle.wheel.proofs.laws.Limited.{chained, limited_polls}
use Rattle.wheel.proofs.laws.Single.{limited_once, fit}
use Rattle.wheel.proofs.laws.Midway.{comes_hand, hand_goes}
use Rattle.records.specs.View.{View, with_elapsed, with_lists, with_hand}
use Rattle.records.specs.Words.{QueueWords, view, AtRest, Sound}
use Rattle.queue.specs.declared.Answer.{Answer}
use Rattle.queue.specs.Told.{Told}
use Rattle.queue.specs.Told as T
use Rattle.queue.specs.Steps.{GoesOn, once, again, ended, QueuePolls, handed, nothing, TakesOut, popped, polled}
use Rattle.queue.specs.Steps.{TakesSome, popped_some, polled_some, PollsSome, handed_some, nothing_some, not_yet, PollsRest, handed_rest, nothing_rest, remembers}
use Rattle.queue.specs.Calls.{SomeOn}
use Rattle.delay_queue.specs.Claims.{PollSomeClaim}
use Rattle.pausing.specs.Pausing.{added, SaysYet, PollTaken}

-- ---- what a call that is taken owes

module _ {s : QueueWords} (S : Sound s) {now : ℕ} (K : PollTaken (view s) now) where
  pub some_on : {limit : ℕ} {a : Answer} {t : QueueWords} → PollSomeClaim s now limit a t → SomeOn s now limit a t
  some_on P =
      by_cases (ℕ_discrete s.hand nobody)
      (λ z. ((P.good S).free z).done (K.later z))
      (λ d. (P.good S).same d (K.same d))

  pub rule_now : Obeys (view s).deadline now s.hand (view s).elapsed (view s).lists
  rule_now = record { free = S.rule.free; inside = λ d. rw (K.same d) (S.rule.inside d) }

-- ---- it does one thing only

-- what has become of it
record OneTaking (o : Outcome) (m n : ℕ) (u : View) (o' : Outcome) (m' n' : ℕ) (u' : View) : Type 0 where
  outcome : o ≡ o'
  moves : m ≡ m'
  drains : n ≡ n'
  view : u ≡ u'

takes_one : {v : View} {now limit : ℕ} {o o' : Outcome} {m n m' n' : ℕ} {u u' : View} → TakesSome v now limit o m n u
    → TakesSome v now limit o' m' n' u' → OneTaking o m n u o' m' n' u'
takes_one {v} (popped_some {r = r} {l = l} e) (popped_some {r = q} {l = j} f) =
    let z : r ∷ l ≡ q ∷ j = sym e ∙ f in
    let a : r ≡ q = cc in
    let b : l ≡ j = cc in
    record {
      outcome = ap (λ (x : ℕ). stopped (some x)) a;
      moves = refl;
      drains = refl;
      view = ap (λ (x : List ℕ). with_lists (change v.lists expired x) v) b;
    }
takes_one (popped_some e) (polled_some f r) = absurd (nil≢cons (sym f ∙ e))
takes_one (polled_some e r) (popped_some f) = absurd (nil≢cons (sym e ∙ f))
takes_one {v} {now} (polled_some e r) (polled_some f q) =
    let A = limited_once r q in
    record {
      outcome = A.answer;
      moves = A.moves;
      drains = A.drains;
      view = λ i. remembers now (A.answer i) (with_elapsed (A.elapsed i) (with_lists (A.lists i) v));
    }

pub goes_on_one : {v : View} {r m n : ℕ} {u : View} {x y : Told} {w z : View} → GoesOn v r m n u x w → GoesOn v r m n u y z → (x ≡ y) × (w ≡ z)
goes_on_one (once e) (once f) = (refl, refl)
goes_on_one (once e) (again p f) = absurd (omega (arith, e, p))
goes_on_one (once e) (ended p f) = absurd (omega (arith, e, p))
goes_on_one (again p f) (once e) = absurd (omega (arith, e, p))
goes_on_one (again p f) (again q g) = (refl, refl)
goes_on_one (again p f) (ended q g) = absurd (f g)
goes_on_one (ended p f) (once e) = absurd (omega (arith, e, p))
goes_on_one (ended p f) (again q g) = absurd (g f)
goes_on_one (ended p f) (ended q g) = (refl, refl)

some_not_none : {r : ℕ} → stopped (some r) ≡ stopped none → ⊥
some_not_none e = let z : ◌≡◌ {A = ℕ} 0 1 = cc in omega arith

ended_not_yet : {g : Option ℕ} {p : ℕ} → stopped g ≡ yet p → ⊥
ended_not_yet e = let z : ◌≡◌ {A = ℕ} 0 1 = cc in omega arith

same_got : {r q : ℕ} → stopped (some r) ≡ stopped (some q) → r ≡ q
same_got e = cc

pub polls_one : {v : View} {now limit : ℕ} {x y : Told} {w z : View} → PollsSome v now limit x w → PollsSome v now limit y z → (x ≡ y) × (w ≡ z)
polls_one {v} (handed_some {r} T G) (handed_some {r = q} T' G') =
    let O = takes_one T T' in
    let a : r ≡ q = same_got O.outcome in
    goes_on_one G (rw (a, O.moves, O.drains, O.view) G')
polls_one (handed_some T G) (nothing_some T') = absurd (some_not_none (takes_one T T').outcome)
polls_one (handed_some T G) (not_yet T') = absurd (ended_not_yet (takes_one T T').outcome)
polls_one (nothing_some T) (handed_some T' G) = absurd (some_not_none (takes_one T' T).outcome)
polls_one (nothing_some T) (nothing_some T') = let O = takes_one T T' in (rw (O.moves, O.drains), O.view)
polls_one (nothing_some T) (not_yet T') = absurd (ended_not_yet (takes_one T T').outcome)
polls_one (not_yet T) (handed_some T' G) = absurd (ended_not_yet (takes_one T' T).outcome)
polls_one (not_yet T) (nothing_some T') = absurd (ended_not_yet (takes_one T' T).outcome)
polls_one (not_yet T) (not_yet T') = let O = takes_one T T' in (rw (O.moves, O.drains), O.view)

-- and so does what ends, whatever the limit was
takes_fit : {v : View} {now b : ℕ} {g : Option ℕ} {m n : ℕ} {u : View} → TakesSome v now b (stopped g) m n u → (i : ℕ)
    → TakesSome v now (m + i) (stopped g) m n u
takes_fit (popped_some e) i = popped_some e
takes_fit (polled_some e r) i = polled_some e (fit r i)

-- with one limit
rest_some : {v : View} {now : ℕ} {x : Told} {w : View} → PollsRest v now x w → (m : ℕ) × ((i : ℕ) → PollsSome v now (m + i) x w)
rest_some (handed_rest {m = m} T G) = (m, λ i. handed_some (takes_fit T i) G)
rest_some (nothing_rest {m = m} T) = (m, λ i. nothing_some (takes_fit T i))

pub rest_one : {v : View} {now : ℕ} {x y : Told} {w z : View} → PollsRest v now x w → PollsRest v now y z → (x ≡ y) × (w ≡ z)
rest_one {v} {now} {y = y} {z = z} P Q =
    let a = rest_some P in
    let b = rest_some Q in
    polls_one (a.1 b.0) (subst (λ (l : ℕ). PollsSome v now l y z) (add_comm b.0 a.0) (b.1 a.0))

-- ---- "Chained calls give the whole poll's answer, store and summed counts."

-- a call that said "not yet": nobody is expired, and the drain of p is in hand
pub record YetTo (v : View) (now limit p m n : ℕ) (w : View) : Type 0 where
  pub clock : ℕ
  pub lists : Lists
  pub empty : v.lists expired ≡ []
  pub polls : Limited v.deadline now (gotten v.hand) limit v.elapsed v.lists (yet p) m n clock lists
  pub is : w ≡ with_hand p now (with_elapsed clock (with_lists lists v))

takes_yet : {v : View} {now limit p m n : ℕ} {w : View} → TakesSome v now limit (yet p) m n w → YetTo v now limit p m n w
takes_yet (polled_some e r) = record { clock = _; lists = _; empty = e; polls = r; is = refl }

goes_not_yet : {v : View} {r m n i j : ℕ} {u : View} {x : Told} {w : View} → GoesOn v r m n u x w → x ≡ T.yet i j → ⊥
goes_not_yet (once z) e = let y : ◌≡◌ {A = ℕ} 0 1 = cc in omega arith
goes_not_yet (again p f) e = let y : ◌≡◌ {A = ℕ} 0 1 = cc in omega arith
goes_not_yet (ended p f) e = let y : ◌≡◌ {A = ℕ} 0 1 = cc in omega arith

pub polls_yet : {v : View} {now limit m n : ℕ} {x : Told} {w : View} → PollsSome v now limit x w → x ≡ T.yet m n → (p : ℕ) × YetTo v now limit p m n w
polls_yet (handed_some T G) e = absurd (goes_not_yet G e)
polls_yet (nothing_some T) e = let y : ◌≡◌ {A = ℕ} 0 1 = cc in absurd (omega arith)
polls_yet {v} {now} {limit} {m} {n} {w = w} (not_yet {p = p} {m = i} {n = j} T) e =
    let a : i ≡ m = cc in
    let b : j ≡ n = cc in
    (p, subst (λ (z : ℕ). YetTo v now limit p m z w) b (subst (λ (z : ℕ). YetTo v now limit p z j w) a (takes_yet T)))

-- the store in hand
pub yet_hand : {d : ℕ → ℕ} {now hand b e p m n c : ℕ} {L N : Lists} → Obeys d now hand e L → L expired ≡ [] → (hand ≡ nobody → e ≤ now)
    → Limited d now (gotten hand) b e L (yet p) m n c N → InHand d now p c N
yet_hand {d} {now} {hand} {b} {e} {p} {m} {n} {c} {L} {N} O s l r =
    by_cases (ℕ_discrete hand nobody)
    (λ z. comes_hand d now (record {
      from = e;
      lists = L;
      rule = O.free z;
      expired = s;
      due = l z;
      limit = b;
      moves = m;
      drains = n;
      polls = subst (λ (h : Option ℕ). Limited d now h b e L (yet p) m n c N) (got_none hand z) r;
    }))
    (λ z. (hand_goes d now (O.inside z) (subst (λ (h : Option ℕ). Limited d now h b e L (yet p) m n c N) (got_some hand z) r)).0)

-- the call behind it: the two say what one with both limits says
module _ {v w : View} {now limit p m n : ℕ} (Y : YetTo v now limit p m n w) (some_hand : p ≢ nobody) (empty : Y.lists expired ≡ []) where
  abbrev stays : View
  stays = with_hand p now (with_elapsed Y.clock (with_lists Y.lists v))

  goes_on : {r i j : ℕ} {u : View} {x : Told} {z : View} → GoesOn stays r i j u x z → GoesOn v r (m + i) (n + j) u (added m n x) z
  goes_on (once e) = once e
  goes_on (again q f) = again q f
  goes_on (ended q f) = ended q f

  both : {b i j c : ℕ} {N : Lists} {o : Outcome}
      → Limited v.deadline now (gotten p) b Y.clock Y.lists o i j c N
      → Limited v.deadline now (gotten v.hand) (limit + b) v.elapsed v.lists o (m + i) (n + j) c N
  both {b} {i} {j} {c} {N} {o} r =
      chained Y.polls
      (subst (λ (h : Option ℕ). Limited v.deadline now h b Y.clock Y.lists o i j c N) (got_some p some_hand) r)

  takes_on : {b i j : ℕ} {o : Outcome} {z : View} → TakesSome stays now b o i j z → TakesSome v now (limit + b) o (m + i) (n + j) z
  takes_on (popped_some e) = absurd (nil≢cons (sym empty ∙ e))
  takes_on (polled_some {o = stopped g} e r) = polled_some Y.empty (both r)
  takes_on (polled_some {o = yet q} e r) = polled_some Y.empty (both r)

  pub some_added : {b : ℕ} {x : Told} {z : View} → PollsSome w now b x z → PollsSome v now (limit + b) (added m n x) z
  some_added {b} {x} {z} P = by (subst (λ (u : View). PollsSome u now b x z) Y.is P)
    where
      by : {x : Told} {z : View} → PollsSome stays now b x z → PollsSome v now (limit + b) (added m n x) z
      by (handed_some T G) = handed_some (takes_on T) (goes_on G)
      by (nothing_some T) = nothing_some (takes_on T)
      by (not_yet T) = not_yet (takes_on T)

  -- and with a whole poll behind it what the whole poll says
  pub rest_added : {x : Told} {z : View} → PollsRest w now x z → PollsRest v now (added m n x) z
  rest_added {x} {z} P = by (subst (λ (u : View). PollsRest u now x z) Y.is P)
    where
      by : {x : Told} {z : View} → PollsRest stays now x z → PollsRest v now (added m n x) z
      by (handed_rest T G) = handed_rest (takes_on T) (goes_on G)
      by (nothing_rest T) = nothing_rest (takes_on T)

-- the store that it leaves, from a sound one
module _ {s : QueueWords} (S : Sound s) {now limit p m n : ℕ} {w : View} (K : PollTaken (view s) now) (Y : YetTo (view s) now limit p m n w) where
  pub in_hand : InHand (view s).deadline now p Y.clock Y.lists
  in_hand = yet_hand (rule_now S K) Y.empty K.later Y.polls

  pub some_hand : p ≢ nobody
  some_hand z = omega (arith, z, in_hand.below)

  pub taken_on : PollTaken w now
  taken_on =
      record {
        same = λ d. sym (ap (λ u. u.until) Y.is);
        later = λ z. absurd (some_hand (sym (ap (λ u. u.hand) Y.is) ∙ z));
      }

-- ---- the whole poll

-- it answers "not yet", or it ends
pub some_ends : {v : View} {now limit : ℕ} {x : Told} {w : View} → PollsSome v now limit x w → SaysYet x ⊎ (SaysYet x → ⊥)
some_ends (handed_some T G) = inr (λ y. goes_not_yet G y.2)
some_ends (nothing_some T) = inr (λ y. let e = y.2 in let z : ◌≡◌ {A = ℕ} 0 1 = cc in omega arith)
some_ends (not_yet {m = m} {n = n} T) = inl (m, n, refl)

-- an answer that is not "not yet" is the whole poll's
pub some_rest : {v : View} {now limit : ℕ} {x : Told} {w : View} → PollsSome v now limit x w → (SaysYet x → ⊥) → PollsRest v now x w
some_rest (handed_some T G) f = handed_rest T G
some_rest (nothing_some T) f = nothing_rest T
some_rest (not_yet {m = m} {n = n} T) f = absurd (f (m, n, refl))

-- which never says "not yet"
pub rest_no_yet : {v : View} {now : ℕ} {x : Told} {w : View} → PollsRest v now x w → SaysYet x → ⊥
rest_no_yet (handed_rest T G) y = goes_not_yet G y.2
rest_no_yet (nothing_rest T) y = let e = y.2 in let z : ◌≡◌ {A = ℕ} 0 1 = cc in omega arith

-- with no poll in hand that is document 01's poll
pub rest_whole : (s : QueueWords) → AtRest s → s.until ≡ 0 → {now : ℕ} {x : Told} {w : View} → PollsRest (view s) now x w → QueuePolls (view s) now x w
rest_whole s rest zero {now} (handed_rest T G) = handed (taken_whole T) G
  where
    taken_whole : {limit : ℕ} {got : Option ℕ} {m n : ℕ} {u : View} → TakesSome (view s) now limit (stopped got) m n u → TakesOut (view s) now got m n u
    taken_whole (popped_some e) = popped e
    taken_whole {limit} {got} (polled_some {m = m} {n = n} {e = c} {L = L} e r) =
        let v : View = with_elapsed c (with_lists L (view s)) in
        let q : Limited (view s).deadline now none limit (view s).elapsed (view s).lists (stopped got) m n c L
        = subst (λ (h : Option ℕ). Limited (view s).deadline now h limit (view s).elapsed (view s).lists (stopped got) m n c L)
        (got_none s.hand rest) r in
        let same : v ≡ with_hand nobody 0 v = λ i. with_hand (rest i) (zero i) v in
        subst (TakesOut (view s) now got m n) same (polled e (limited_polls q))
rest_whole s rest zero {now} (nothing_rest {limit = limit} (polled_some {m = m} {n = n} {e = c} {L = L} e r)) =
    let v : View = with_elapsed c (with_lists L (view s)) in
    let q : Limited (view s).deadline now none limit (view s).elapsed (view s).lists (stopped none) m n c L
    = subst (λ (h : Option ℕ). Limited (view s).deadline now h limit (view s).elapsed (view s).lists (stopped none) m n c L)
    (got_none s.hand rest) r in
    let same : v ≡ with_hand nobody 0 v = λ i. with_hand (rest i) (zero i) v in
    nothing (subst (TakesOut (view s) now none m n) same (polled e (limited_polls q)))
