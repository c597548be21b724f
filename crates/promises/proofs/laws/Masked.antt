-- What a call makes of a view with nothing past N is what it makes of the whole view, with nothing past N: each record that it touches or reads lies in a list,
-- and so below N.
use mathlib.Core.Path.{◌≡◌, refl, sym, ap, ◌∙◌, subst, subst₂}
use mathlib.Core.Logic.{inl, ⊎_elim, by_cases}
use mathlib.Core.List.{List, ◌∷◌}
use mathlib.Core.Option.{Option, some}
use Prim.Native.Nat.{ℕ, ◌+◌, ◌-◌, ◌≤◌, ◌<◌, max}
use native.Mathlib.Decide.{ℕ_discrete}
use native.Mathlib.Omega.{arith}
use borrow.Author.Tests.{eq-eqb, ne_eqb}
use Rattle.times.specs.Times.{slot_of}
use Rattle.links.specs.Lists.{Mem, change}
use Rattle.places.specs.Places.{slot_place, level_at}
use Rattle.places.proofs.laws.Whole as place_laws
use Rattle.wheel.specs.Wheel.{Lists, arrive}
use Rattle.wheel.specs.Limited.{Outcome, ended as stopped, yet, Limited, rests, waits, hands, finds, stops, moves, empties}
use Rattle.wheel.proofs.laws.Sums.{mem_joined, mem_left}
use Rattle.records.specs.View.{View, with_value, with_period, upd}
use Rattle.records.specs.Records.{last_turn, key_of, At, Names, taken, left, placed, freed}
use Rattle.records.specs.Words.{QueueWords, count, view, Sound}
use Rattle.records.proofs.laws.View.{view_eq}
use Rattle.queue.specs.Told.{Told}
use Rattle.queue.specs.Steps.{GoesOn, once, again, ended, TakesSome, popped_some, polled_some, PollsSome, handed_some, nothing_some, not_yet}
use Rattle.queue.specs.Steps.{PollsRest, handed_rest, nothing_rest, sleeps, starts, NextWake, at_once, from_wheel, pending, Clears, begun, kept, gave}
use Rattle.queue.proofs.laws.Polls.{clears_size}
use Rattle.pausing.specs.Pausing.{PollTaken}
use Rattle.promises.proofs.laws.TakesOut.{taken_out}
use Rattle.promises.proofs.laws.Cut.{below, below_lt, below_upd, masked}

-- ---- one record moves

pub placed_masked : (r when : ℕ) (v : View) → r < v.n → masked (placed r when v) ≡ placed r when (masked v)
unfolding placed
placed_masked r when v h = view_eq refl refl refl refl refl (below_upd v.n v.deadline r (max when v.elapsed) h) refl

pub freed_masked : (r : ℕ) (v : View) → r < v.n → masked (freed r v) ≡ freed r (masked v)
unfolding freed
freed_masked r v h =
    by_cases (ℕ_discrete (v.turn r) last_turn)
    (λ (e : v.turn r ≡ last_turn). rw (below_lt v.n v.turn h, eq-eqb (v.turn r) last_turn e))
    (λ d.
    rw (below_lt v.n v.turn h, ne_eqb (v.turn r) last_turn d)
    (view_eq refl refl refl refl refl refl (below_upd v.n v.turn r (v.turn r + 1) h)))

pub reset_masked : (r p when : ℕ) (v : View) → r < v.n → masked (placed r when (left p r v)) ≡ placed r when (left p r (masked v))
unfolding left
reset_masked r p when v h = placed_masked r when (left p r v) h

pub removed_masked : (r p : ℕ) (v : View) → r < v.n → masked (freed r (left p r v)) ≡ freed r (left p r (masked v))
unfolding left
removed_masked r p v h = freed_masked r (left p r v) h

-- what an insert makes of a view: r is taken from the free list, which keeps l
abbrev pub inserted : ℕ → List ℕ → ℕ → ℕ → ℕ → View → View
inserted r l value when period v = placed r when (with_period (upd v.period r period) (with_value (upd v.value r value) (taken l v)))

pub inserted_masked : (r : ℕ) (l : List ℕ) (value when period : ℕ) (v : View) → r < v.n
    → masked (inserted r l value when period v) ≡ inserted r l value when period (masked v)
inserted_masked r l value when period v h =
    placed_masked r when (with_period (upd v.period r period) (with_value (upd v.value r value) (taken l v))) h
    ∙ ap (placed r when) (view_eq refl refl refl (below_upd v.n v.value r value h) (below_upd v.n v.period r period h) refl refl)

-- ---- keys

pub key_masked : (v : View) {r : ℕ} → r < v.n → key_of (masked v) r ≡ key_of v r
key_masked v h = rw (below_lt v.n v.turn h)

pub names_masked : (v : View) {k r p : ℕ} → Names v k r p → Names (masked v) k r p
names_masked v N =
    record {
      number = N.number;
      below = N.below;
      pending = record { timed = N.pending.timed; member = N.pending.member };
      turn = below_lt v.n v.turn N.below ∙ N.turn;
    }

pub masked_names : (v : View) {k r p : ℕ} → Names (masked v) k r p → Names v k r p
masked_names v N =
    record {
      number = N.number;
      below = N.below;
      pending = record { timed = N.pending.timed; member = N.pending.member };
      turn = sym (below_lt v.n v.turn N.below) ∙ N.turn;
    }

-- ---- poll: it reads the deadlines of members alone

-- the members that a move leaves
pub arrive_from : (k w p x : ℕ) (L : Lists) (l : List ℕ) → L p ≡ x ∷ l → (q y : ℕ) → Mem y (arrive k w x (change L p l) q) → (o : ℕ) × Mem y (L o)
unfolding arrive
arrive_from k w p x L l e q y m =
    ⊎_elim
    (λ a. (p, rw (e, a.1) (inl refl)))
    (λ a. (q, mem_left L p x l e q y a))
    (mem_joined (change L p l) (slot_place k (slot_of w k)) x q y m)

-- f is d at every member
abbrev Agrees : (ℕ → ℕ) → (ℕ → ℕ) → Lists → Type 0
Agrees d f L = (p x : ℕ) → Mem x (L p) → f x ≡ d x

limited_agree : {d f : ℕ → ℕ} {now b e m n c : ℕ} {h : Option ℕ} {L N : Lists} {o : Outcome} → Agrees d f L → Limited d now h b e L o m n c N
    → Limited f now h b e L o m n c N
limited_agree a (rests E) = rests E
limited_agree a (waits F h) = waits F h
limited_agree a (hands F h i) = hands F h i
limited_agree a (finds F h r) = finds F h (limited_agree a r)
limited_agree a (stops i) = stops i
limited_agree {d} {f} {now} a (moves {b = b} {e = e} {p = p} {x = x} {L = L} {N = N} {l = l} {o = o} {m = m} {n = n} {e' = c} i r) =
    let k = level_at p - 1 in
    let g : Agrees d f (arrive k (d x) x (change L p l)) = λ q y j. let z = arrive_from k (d x) p x L l i q y j in a z.0 y z.1 in
    moves i
    (subst (λ w. Limited f now (some p) b e (arrive k w x (change L p l)) o m n c N) (sym (a p x (rw i (inl refl)))) (limited_agree g r))
limited_agree a (empties i r) = empties i (limited_agree a r)

takes_masked : {v : View} {now limit m n : ℕ} {o : Outcome} {u : View} → ((p x : ℕ) → Mem x (v.lists p) → x < v.n)
    → TakesSome v now limit o m n u → TakesSome (masked v) now limit o m n (masked u)
takes_masked M (popped_some e) = popped_some e
takes_masked {v} M (polled_some {o = stopped g} e P) = polled_some e (limited_agree (λ p x m. below_lt v.n v.deadline (M p x m)) P)
takes_masked {v} M (polled_some {o = yet q} e P) = polled_some e (limited_agree (λ p x m. below_lt v.n v.deadline (M p x m)) P)

goes_on_masked : {v : View} {r m n : ℕ} {u : View} {x : Told} {w : View} → r < v.n → r < u.n → GoesOn v r m n u x w
    → GoesOn (masked v) r m n (masked u) x (masked w)
goes_on_masked {v} {r} {m} {n} {u} h g G = of G
  where
    period : below v.n v.period r ≡ v.period r
    period = below_lt v.n v.period h

    value : below v.n v.value r ≡ v.value r
    value = below_lt v.n v.value h

    due : below v.n v.deadline r ≡ v.deadline r
    due = below_lt v.n v.deadline h

    turn : below v.n v.turn r ≡ v.turn r
    turn = below_lt v.n v.turn h

    of : {x : Told} {w : View} → GoesOn v r m n u x w → GoesOn (masked v) r m n (masked u) x (masked w)
    of (once z) = subst₂ (GoesOn (masked v) r m n (masked u)) (rw (value, due, turn)) (sym (freed_masked r u g)) (once (period ∙ z))
    of (again p f) =
        subst₂ (GoesOn (masked v) r m n (masked u)) (rw (value, due, turn)) (rw (due, period) (sym (placed_masked r _ u g)))
        (again (rw period p) (rw (due, period) f))
    of (ended p f) =
        subst₂ (GoesOn (masked v) r m n (masked u)) (rw (value, due, turn)) (sym (freed_masked r u g)) (ended (rw period p) (rw (due, period) f))

module _ {s : QueueWords} (S : Sound s) {now : ℕ} where
  some_masked : {limit m n : ℕ} {o : Outcome} {u : View} → TakesSome (view s) now limit o m n u → TakesSome (masked (view s)) now limit o m n (masked u)
  some_masked T = takes_masked (place_laws.member_below S.standing.whole.places) T

  handed_masked : PollTaken (view s) now → {limit r m n : ℕ} {u : View} {x : Told} {w : View}
      → TakesSome (view s) now limit (stopped (some r)) m n u → GoesOn (view s) r m n u x w → GoesOn (masked (view s)) r m n (masked u) x (masked w)
  handed_masked K {r = r} T G =
      let O = taken_out S K T in
      let o = O.out r refl in
      let b : r < count s = place_laws.member_below S.standing.whole.places o.0 r o.1.member in
      goes_on_masked b (rw O.size b) G

  -- a poll with a limit, and a whole one that goes on
  pub polls_masked : PollTaken (view s) now → {limit : ℕ} {x : Told} {w : View} → PollsSome (view s) now limit x w
      → PollsSome (masked (view s)) now limit x (masked w)
  polls_masked K (handed_some T G) = handed_some (some_masked T) (handed_masked K T G)
  polls_masked K (nothing_some T) = nothing_some (some_masked T)
  polls_masked K (not_yet T) = not_yet (some_masked T)

  pub rest_masked : PollTaken (view s) now → {x : Told} {w : View} → PollsRest (view s) now x w → PollsRest (masked (view s)) now x (masked w)
  rest_masked K (handed_rest T G) = handed_rest (some_masked T) (handed_masked K T G)
  rest_masked K (nothing_rest T) = nothing_rest (some_masked T)

-- ---- next wake, length and clear

pub wake_masked : {v : View} {x : Told} → NextWake v x → NextWake (masked v) x
wake_masked (at_once e) = at_once e
wake_masked (from_wheel e (sleeps E)) = from_wheel e (sleeps E)
wake_masked (from_wheel e (starts F)) = from_wheel e (starts F)

pub pending_masked : (v : View) → pending (masked v) ≡ pending v
unfolding pending
pending_masked v = refl

at_masked : (v : View) {r p : ℕ} → At (masked v) r p → At v r p
at_masked v a = record { timed = a.timed; member = a.member }

masked_at : (v : View) {r p : ℕ} → At v r p → At (masked v) r p
masked_at v a = record { timed = a.timed; member = a.member }

pub clears_masked : {v : View} {k : ℕ} {u : View} → k ≤ v.n → Clears v k u → Clears (masked v) k (masked u)
clears_masked h begun = begun
clears_masked h (kept {k} {u} r n) = kept (clears_masked (omega arith) r) (λ p a. n p (at_masked u a))
clears_masked {v} h (gave {k} {p} {u} r a) =
    let g : k < u.n = omega (arith, clears_size r, h) in
    rw (removed_masked k p u g) (gave (clears_masked (omega (arith, h)) r) (masked_at u a))
