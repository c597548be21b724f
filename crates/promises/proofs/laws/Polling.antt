-- One poll: what it hands out, what stays, the clock and the drains.
use mathlib.Core.Path.{◌≡◌, refl, sym, ap, ◌∙◌, subst}
use mathlib.Core.Logic.{◌↔◌, ◌≢◌, inl, by_cases, ◌⊎◌, inr, ⊎_elim}
use mathlib.Core.Option.{Option, none, some}
use Prim.Native.Nat.{ℕ, suc, ◌+◌, ◌≤◌, ◌<◌, max}
use native.Mathlib.Decide.{ℕ_discrete}
use native.Mathlib.Omega.{arith}
use borrow.Author.Tests.{eq-eqb, ne_eqb}
use Rattle.links.specs.Lists.{nobody}
use Rattle.links.proofs.laws.Lists.{change_other, change_same}
use Rattle.places.specs.Places.{expired, free, put}
use Rattle.wheel.specs.Wheel.{Lists, place_for}
use Rattle.wheel.specs.Sums.{sum_of, total}
use Rattle.wheel.proofs.laws.Sums.{total_ext, hits, lies_times, times_lies, total_more, mem_joined, mem_kept, put_mem}
use Rattle.wheel.proofs.laws.Between.{rule_between}
use Rattle.wheel.specs.Drain.{heights}
use Rattle.wheel.proofs.laws.Drain.{amount}
use Rattle.wheel.specs.Limited.{Outcome, ended as stopped, yet}
use Rattle.wheel.proofs.laws.Passed.{given_by}
use Rattle.wheel.proofs.laws.Poll.{given, poll_law}
use Rattle.queue.specs.declared.Answer.{Answer}
use Rattle.queue.specs.Told.{Told, told, Handed, timer, no_timer, handing, Hands}
use Rattle.queue.specs.Told as T
use Rattle.records.specs.View.{View}
use Rattle.records.specs.Records.{last_turn, key_of, At, Names, freed, number_in, target, placed}
use Rattle.queue.specs.Steps.{QueuePolls, polled, popped, handed, nothing, pending, TakesOut, GoesOn, once, again, ended}
use Rattle.queue.specs.Steps.{TakesSome, PollsSome, handed_some, nothing_some, not_yet, PollsRest, handed_rest, nothing_rest}
use Rattle.records.specs.Words.{QueueWords, elapsed, view, AtRest, Sound}
use Rattle.records.proofs.laws.Words.{upd_other, upd_same}
use Rattle.delay_queue.specs.declared.Call.{Call}
use Rattle.delay_queue.specs.Claims.{PollClaim, CallClaim}
use Rattle.pausing.specs.Pausing.{SaysYet, PollTaken}
use Rattle.pausing.specs.Works.{FairlyBy, ClockBy}
use Rattle.pausing.proofs.laws.Works.{takes_some_works}
use Rattle.promises.specs.Polls.{PollAt, whole}
use Rattle.promises.proofs.laws.Does.{poll_done}
use Rattle.promises.specs.Runs.{moves_of}
use Rattle.promises.specs.Polling.{IsPending, SameRecord, Beside, AllStay, PollLeast, PollClock, drains_of, SaysLast, Finished, Gone, SetAgain, HandsLeast}
use Rattle.promises.proofs.laws.TakesOut.{TakenOut, taken_out, none_before, got_by, key_of_names}
use Rattle.times.proofs.laws.Quotients.{slot_lt}
use Rattle.times.specs.Times.{level_of, block}
use Rattle.times.proofs.laws.Levels.{level_is}

-- ---- sums over all that is pending

abbrev pub weigh : (ℕ → ℕ) → Lists → ℕ
weigh w L = total (λ p x. w x) free L

total_last : (u : ℕ → ℕ → ℕ) (n : ℕ) (L : Lists) → total u (suc n) L ≡ total u n L + sum_of (u n) (L n)
unfolding total
total_last u n L = refl

weigh_split : (w : ℕ → ℕ) (L : Lists) → weigh w L ≡ amount w L + sum_of w (L expired)
unfolding amount
weigh_split w L = total_last (λ p x. w x) expired L

-- ---- a record is freed: below the free list nothing changes, and of the words only its turn

beside_same : (r : ℕ) (v : View) → Beside r v v
beside_same r v = record { size = refl; elapsed = refl; value = refl; period = refl; deadline = refl; turn = λ y d. refl; lists = λ p h. refl }

pub freed_beside : (r : ℕ) (v : View) → Beside r v (freed r v)
unfolding freed
freed_beside r v =
    by_cases (ℕ_discrete (v.turn r) last_turn)
    (λ z. rw (eq-eqb (v.turn r) last_turn z) (beside_same r v))
    (λ z.
    rw (ne_eqb (v.turn r) last_turn z)
    (record {
      size = refl;
      elapsed = refl;
      value = refl;
      period = refl;
      deadline = refl;
      turn = λ y d. upd_other v.turn r (v.turn r + 1) y d;
      lists = λ p h. change_other v.lists free (put free r (v.lists free)) p (omega arith);
    }))

-- ---- all of a poll in one law, over what it hands out

abbrev pub says_of : View → Option ℕ → ℕ → ℕ → Handed
says_of v none m n = no_timer
says_of v (some r) m n = timer (key_of v r) (v.value r) (v.deadline r) m n

abbrev pub Fairly : View → ℕ → Outcome → Type 0
Fairly v now (stopped none) = (y : ℕ) → IsPending v y → now < v.deadline y
Fairly v now (stopped (some r)) = IsPending v r × (v.deadline r ≤ now) × ((y : ℕ) → IsPending v y → v.deadline r ≤ v.deadline y)
Fairly v now (yet q) = Unit {0}

-- who is taken out is fair, every weight of the others is kept, and so on: u is the view with it in no list
pub record TakenBy (v : View) (now : ℕ) (o : Outcome) (m n : ℕ) (u : View) : Type 0 where
  pub fair : Fairly v now o
  pub kept : (w : ℕ → ℕ) → weigh w u.lists + given w (got_by o) ≡ weigh w v.lists
  pub clock : ClockBy v now o u.elapsed
  pub counted : m + heights u.lists ≡ heights v.lists
  pub few : n ≤ m

-- what became of it
abbrev pub Became : View → Outcome → ℕ → ℕ → View → Told → View → Type 0
Became v (stopped none) m n u x w = (x ≡ T.none m n) × (w ≡ u)
Became v (stopped (some r)) m n u x w = GoesOn v r m n u x w
Became v (yet q) m n u x w = (x ≡ T.yet m n) × (w ≡ u)

pub record PolledBy (v : View) (now : ℕ) (x : Told) (w : View) : Type 0 where
  pub outcome : Outcome
  pub moves : ℕ
  pub drains : ℕ
  pub taken : View
  pub by : TakenBy v now outcome moves drains taken
  pub became : Became v outcome moves drains taken x w
  pub is : handing x ≡ says_of v (got_by outcome) moves drains
  pub clock : ClockBy v now outcome w.elapsed

pub goes_on_says : {v : View} {r m n : ℕ} {u : View} {x : Told} {w : View} → GoesOn v r m n u x w → handing x ≡ says_of v (some r) m n
goes_on_says (once z) = refl
goes_on_says (again p f) = refl
goes_on_says (ended p f) = refl

pub placed_clock : (r when : ℕ) (u : View) → (placed r when u).elapsed ≡ u.elapsed
unfolding placed
placed_clock r when u = refl

pub goes_on_clock : {v : View} {r m n : ℕ} {u : View} {x : Told} {w : View} → GoesOn v r m n u x w → w.elapsed ≡ u.elapsed
goes_on_clock {r = r} {u = u} (once z) = (freed_beside r u).elapsed
goes_on_clock {v} {r} {u = u} (again p f) = placed_clock r (v.deadline r + v.period r) u
goes_on_clock {r = r} {u = u} (ended p f) = (freed_beside r u).elapsed

module _ {s : QueueWords} (S : Sound s) {now : ℕ} (K : PollTaken (view s) now) where
  fairly : (o : Outcome) → FairlyBy (view s) now o → Fairly (view s) now o
  fairly (stopped none) f = λ y k. f y k.0 k.1
  fairly (stopped (some r)) f = (f.0, f.1, λ y k. f.2 y k.0 k.1)
  fairly (yet q) f = tt

  given_by_lem : (w : ℕ → ℕ) (o : Outcome) → given_by w o ≡ given w (got_by o)
  given_by_lem w (stopped none) = refl
  given_by_lem w (stopped (some r)) = refl
  given_by_lem w (yet q) = refl

  pub takes_works : {limit m n : ℕ} {o : Outcome} {u : View} → TakesSome (view s) now limit o m n u → TakenBy (view s) now o m n u
  takes_works {o = o} T =
      let P = takes_some_works S K T in
      record {
        fair = fairly o P.fair;
        kept = λ w. omega (arith, P.kept w, given_by_lem w o);
        clock = P.clock;
        counted = P.counted;
        few = P.few;
      }

  pub poll_works : {limit : ℕ} {x : Told} {w : View} → PollsSome (view s) now limit x w → PolledBy (view s) now x w
  poll_works (handed_some {r} {m} {n} {u} T G) =
      let B = takes_works T in
      record {
        outcome = stopped (some r);
        moves = m;
        drains = n;
        taken = u;
        by = B;
        became = G;
        is = goes_on_says G;
        clock = goes_on_clock G ∙ B.clock;
      }
  poll_works (nothing_some {m} {n} {u} T) =
      let B = takes_works T in
      record { outcome = stopped none; moves = m; drains = n; taken = u; by = B; became = (refl, refl); is = refl; clock = B.clock }
  poll_works (not_yet {p} {m} {n} {u} T) =
      record { outcome = yet p; moves = m; drains = n; taken = u; by = takes_works T; became = (refl, refl); is = refl; clock = tt }

-- ---- an answer that hands out nothing

pub none_out : {k w d i j : ℕ} → no_timer ≡ timer k w d i j → ⊥
none_out e = let z : ◌≡◌ {A = ℕ} 0 1 = cc in omega arith

pub goes_on_counts : {v : View} {r m n : ℕ} {u : View} {x : Told} {w : View} → GoesOn v r m n u x w → (moves_of x ≡ m) × (drains_of x ≡ n)
goes_on_counts (once z) = (refl, refl)
goes_on_counts (again p f) = (refl, refl)
goes_on_counts (ended p f) = (refl, refl)

pending_times : (v : View) (y : ℕ) → IsPending v y → 0 < weigh (hits y) v.lists
pending_times v y k = lies_times free v.lists y k.0 k.1.timed k.1.member

times_pending : (v : View) (y : ℕ) → 0 < weigh (hits y) v.lists → IsPending v y
times_pending v y h = let r = times_lies free v.lists y h in (r.0, record { timed = r.1; member = r.2 })

-- ---- what becomes of the record that is handed out

-- one list changes below the free list, or none: who is pending
freed_pending : (r : ℕ) (u : View) (y : ℕ) → (IsPending (freed r u) y → IsPending u y) × (IsPending u y → IsPending (freed r u) y)
freed_pending r u y =
    let B = freed_beside r u in (
      λ k. (k.0, record { timed = k.1.timed; member = rw (B.lists k.0 k.1.timed) at k.1.member }),
      λ k. (k.0, record { timed = k.1.timed; member = rw (B.lists k.0 k.1.timed) k.1.member }),
    )

freed_count : (r : ℕ) (u : View) → pending (freed r u) ≡ pending u
unfolding pending
freed_count r u = total_ext (λ p x. 1) free (freed r u).lists u.lists (freed_beside r u).lists

pub placed_pending : (r when : ℕ) (u : View) (y : ℕ)
    → (IsPending (placed r when u) y → (y ≡ r) ⊎ IsPending u y) × (IsPending u y → IsPending (placed r when u) y)
unfolding placed
placed_pending r when u y =
    let p = target u.elapsed (max when u.elapsed) in (
      λ k.
          ⊎_elim (λ z. inl z.1) (λ m. inr (k.0, record { timed = k.1.timed; member = m }))
          (mem_joined u.lists p r k.0 y k.1.member),
      λ k. (
        k.0,
        record { timed = k.1.timed; member = mem_kept u.lists p _ k.0 y (λ m. put_mem p r y (u.lists p) (inr m)) k.1.member },
      ),
    )

-- a place for timers
pub target_timed : (e w : ℕ) → target e w < free
unfolding target place_for
target_timed e w =
    by_cases (ℕ_discrete w e) (λ z. rw (eq-eqb w e z) (omega arith))
    (λ z.
    rw (ne_eqb w e z)
    (by_cases (ℕ_discrete (block w) (block e))
    (λ b. rw (eq-eqb (block w) (block e) b) (omega (arith, slot_lt w (level_of e w), (level_is e w).within)))
    (λ b. rw (ne_eqb (block w) (block e) b) (omega arith))))

pub placed_count : (r when : ℕ) (u : View) → pending (placed r when u) ≡ pending u + 1
unfolding placed pending
placed_count r when u =
    let w = max when u.elapsed in
    total_more (λ p x. 1) free u.lists (target u.elapsed w) r (target_timed u.elapsed w)

-- where it comes, and with which deadline
placed_there : (r when : ℕ) (u : View) → u.elapsed ≤ when
    → ((q : ℕ) × At (placed r when u) r q) × ((placed r when u).deadline r ≡ when) × ((placed r when u).n ≡ u.n)
    × ((placed r when u).turn ≡ u.turn) × ((placed r when u).value ≡ u.value) × ((placed r when u).period ≡ u.period)
unfolding placed
placed_there r when u h =
    let w = max when u.elapsed in
    let p = target u.elapsed w in (
      (p, record { timed = target_timed u.elapsed w; member = rw (change_same u.lists p) (put_mem p r r (u.lists p) (inl refl)) }),
      upd_same u.deadline r w ∙ omega arith,
      refl,
      refl,
      refl,
      refl,
    )

pub placed_else : (r when : ℕ) (u : View) (y : ℕ) → y ≢ r
    → ((placed r when u).deadline y ≡ u.deadline y) × ((placed r when u).turn y ≡ u.turn y) × ((placed r when u).value y ≡ u.value y)
    × ((placed r when u).period y ≡ u.period y)
unfolding placed
placed_else r when u y d = (upd_other u.deadline r (max when u.elapsed) y d, refl, refl, refl)

pub no_last : {k w d m n : ℕ} → SaysLast (T.out k w d m n) → ⊥
no_last x = let e = x.5 in let z : ◌≡◌ {A = ℕ} 0 1 = cc in omega arith

module _ {s : QueueWords} (S : Sound s) {now : ℕ} (not_back : PollTaken (view s) now) {limit r m n : ℕ} {u : View}
    (T : TakesSome (view s) now limit (stopped (some r)) m n u) where
  abbrev at_call : View
  at_call = view s

  O : TakenOut at_call (some r) u
  O = taken_out S not_back T

  B : TakenBy at_call now (stopped (some r)) m n u
  B = takes_works S not_back T

  one_fewer : pending u + 1 ≡ pending at_call
  unfolding pending
  one_fewer = B.kept (λ x. 1)

  -- the clock does not pass the deadline of what is handed out
  pub clock_before : u.elapsed ≤ (view s).deadline r
  clock_before =
      let a = O.out r refl in
      omega (arith, B.clock, none_before S r a.0 a.1)

  -- the record r is freed
  freed_gone : {k : ℕ} → Names at_call k r (O.out r refl).0 → Gone at_call k r (freed r u)
  freed_gone {k} N =
      let gone : IsPending (freed r u) r → ⊥ = λ h. let b = (freed_pending r u r).0 h in O.gone r refl b.0 b.1.member in
      record {
        gone = gone;
        dead = λ j q M. let z : j ≡ r = M.number ∙ sym N.number in gone (q, rw z at M.pending);
        fewer = omega (arith, freed_count r u, one_fewer);
      }

  same_but : (w : View) (y : ℕ) → (w.value y ≡ u.value y) → (w.period y ≡ u.period y) → (w.deadline y ≡ u.deadline y)
      → (w.turn y ≡ u.turn y) → SameRecord at_call w y
  same_but w y a b c d =
      record {
        value = a ∙ ap (λ f. f y) O.value;
        period = b ∙ ap (λ f. f y) O.period;
        deadline = c ∙ ap (λ f. f y) O.deadline;
        turn = d ∙ ap (λ f. f y) O.turn;
      }

  freed_others : (y : ℕ) → IsPending at_call y → y ≢ r → IsPending (freed r u) y × SameRecord at_call (freed r u) y
  freed_others y k d =
      let F = freed_beside r u in (
        (freed_pending r u y).1 (O.stays y d k.0 k.1),
        same_but (freed r u) y (ap (λ f. f y) F.value) (ap (λ f. f y) F.period) (ap (λ f. f y) F.deadline) (F.turn y d),
      )

  freed_only : (y : ℕ) → IsPending (freed r u) y → IsPending at_call y
  freed_only y k = let b = (freed_pending r u y).0 k in O.was y b.0 b.1

  -- the parts of `HandsLeast`, whatever becomes of r
  module _ {x : Told} {w : View} (G : GoesOn at_call r m n u x w) where
    module _ (gone : Finished at_call r x → Gone at_call (key_of at_call r) r w) (again : (Finished at_call r x → ⊥) → SetAgain at_call (key_of at_call r) r w)
        (others : (y : ℕ) → IsPending at_call y → y ≢ r → IsPending w y × SameRecord at_call w y) (only : (y : ℕ) → IsPending w y → IsPending at_call y) where
      hands_least : (i y d m₁ n₁ : ℕ) → Hands x i y d m₁ n₁ → HandsLeast at_call now i y d x w
      hands_least i y d m₁ n₁ e =
          let q : timer (key_of at_call r) (at_call.value r) (at_call.deadline r) m n ≡ timer i y d m₁ n₁ = sym (goes_on_says G) ∙ e in
          let a : i ≡ key_of at_call r = cc in
          let b : d ≡ at_call.deadline r = cc in
          let c : y ≡ at_call.value r = cc in
          let F = B.fair in
          record {
            timer = r;
            place = F.0.0;
            names = rw a (key_of_names S F.0.1);
            value = c;
            deadline = b;
            due = omega (arith, F.1);
            least = λ j h. omega (arith, F.2 j h);
            gone = λ z. rw a (gone z);
            again = λ z. rw a (again z);
            others = others;
            only = only;
          }

  pub least_of : {x : Told} {w : View} → GoesOn at_call r m n u x w → (i y d m₁ n₁ : ℕ) → Hands x i y d m₁ n₁ → HandsLeast at_call now i y d x w
  least_of (once z) =
      let N = key_of_names S (O.out r refl).1 in
      hands_least (once z) (λ d. freed_gone N) (λ d. absurd (d (inl z))) freed_others freed_only
  least_of (ended p f) =
      let N = key_of_names S (O.out r refl).1 in
      hands_least (ended p f) (λ d. freed_gone N) (λ d. absurd (d (inr (_, _, _, _, _, refl)))) freed_others freed_only
  least_of (again p f) =
      let next = at_call.deadline r + at_call.period r in
      let w = placed r next u in
      let P = placed_there r next u (omega (arith, clock_before)) in
      let N = key_of_names S (O.out r refl).1 in
      hands_least (again p f) (λ d. absurd (⊎_elim (λ z. omega arith) no_last d))
      (λ d.
      record {
        place = P.0.0;
        names = record {
          number = N.number;
          below = rw (P.2 ∙ O.size) N.below;
          pending = P.0.1;
          turn = ap (λ g. g r) (P.3 ∙ O.turn) ∙ N.turn;
        };
        deadline = P.1;
        value = ap (λ g. g r) (P.4 ∙ O.value);
        period = ap (λ g. g r) (P.5 ∙ O.period);
        same = omega (arith, placed_count r next u, one_fewer);
      })
      (λ y k d.
      let E = placed_else r next u y d in
      ((placed_pending r next u y).1 (O.stays y d k.0 k.1), same_but w y E.2 E.3 E.0 E.1))
      (λ y k.
      ⊎_elim (λ (z : y ≡ r). rw z (O.out r refl)) (λ b. O.was y b.0 b.1) ((placed_pending r next u y).0 k))

plainly : Handed → Told
plainly (timer k v d m n) = T.out k v d m n
plainly no_timer = T.ok

lastly : Handed → Told
lastly (timer k v d m n) = T.last k v d m n
lastly no_timer = T.ok

-- a timer is handed out, or so for the last time
pub out_or_last : (x : Told) {k v d m n : ℕ} → Hands x k v d m n → (x ≡ T.out k v d m n) ⊎ (x ≡ T.last k v d m n)
unfolding plainly lastly
out_or_last T.ok z = absurd (none_out z)
out_or_last (T.key k) z = absurd (none_out z)
out_or_last (T.gone v d) z = absurd (none_out z)
out_or_last (T.out k v d m n) z = inl (ap plainly z)
out_or_last (T.last k v d m n) z = inr (ap lastly z)
out_or_last (T.none m n) z = absurd (none_out z)
out_or_last (T.yet m n) z = absurd (none_out z)
out_or_last (T.wake t) z = absurd (none_out z)
out_or_last T.never z = absurd (none_out z)
out_or_last (T.len n) z = absurd (none_out z)
out_or_last (T.no n) z = absurd (none_out z)

-- an answer that hands out a timer which does not repeat is a plain one
pub plain_out : {s : QueueWords} → Sound s → {now limit : ℕ} → PollTaken (view s) now → {x : Told} {w : View} → PollsSome (view s) now limit x w
    → {k a d m n r : ℕ} → Hands x k a d m n → r ≡ number_in k → (view s).period r ≡ 0 → x ≡ T.out k a d m n
unfolding plainly
plain_out S h (nothing_some T) z e f = absurd (none_out z)
plain_out S h (not_yet T) z e f = absurd (none_out z)
plain_out {s} S h (handed_some {r = i} {m} {n} O G) {k} {a} {d} {m = m₁} {n = n₁} {r} z e f = by G z
  where
    place : (p : ℕ) × At (view s) i p
    place = (taken_out S h O).out i refl

    same : timer (key_of (view s) i) ((view s).value i) ((view s).deadline i) m n ≡ timer k a d m₁ n₁ → i ≡ r
    same q =
        let c : key_of (view s) i ≡ k = cc in
        (key_of_names S place.1).number ∙ ap (λ j. number_in j) c ∙ sym e

    by : {u : View} {x : Told} {w : View} → GoesOn (view s) i m n u x w → Hands x k a d m₁ n₁ → x ≡ T.out k a d m₁ n₁
    by (once p) q = ap plainly q
    by (again p g) q = ap plainly q
    by (ended p g) q = absurd (omega (arith, ap (view s).period (same q)))

-- ---- the promises of one poll

-- all that was pending stays
stays_all : {s : QueueWords} (S : Sound s) {now limit m n : ℕ} {o : Outcome} {u : View} → PollTaken (view s) now → TakesSome (view s) now limit o m n u
    → got_by o ≡ none → AllStay (view s) u
unfolding pending
stays_all {s} S {o = o} {u = u} K T z =
    let O : TakenOut (view s) none u = subst (λ (g : Option ℕ). TakenOut (view s) g u) z (taken_out S K T) in
    let k = (takes_works S K T).kept (λ x. 1) in
    record {
      stay = λ y h. (
        O.stays y tt h.0 h.1,
        record {
          value = ap (λ f. f y) O.value;
          period = ap (λ f. f y) O.period;
          deadline = ap (λ f. f y) O.deadline;
          turn = ap (λ f. f y) O.turn;
        },
      );
      only = λ y h. O.was y h.0 h.1;
      same = omega (arith, k, ap (given (λ x. 1)) z);
    }

module _ {s : QueueWords} (S : Sound s) {now : ℕ} (not_back : PollTaken (view s) now) {x : Told} {w : View} {limit : ℕ}
    (P : PollsSome (view s) now limit x w) where
  pub view_parts : PolledBy (view s) now x w
  view_parts = poll_works S not_back P

  -- 02 [10]: "Demand 2's hand-out is claimed of polls answered neither "not yet" nor 12"
  pub view_least : (SaysYet x → ⊥) → PollLeast (view s) now x w
  view_least = of P
    where
      of : {x : Told} {w : View} → PollsSome (view s) now limit x w → (SaysYet x → ⊥) → PollLeast (view s) now x w
      of (nothing_some T) f =
          let F = takes_works S not_back T in
          record {
            hands_out = (λ o. absurd (none_out o.5), λ d. absurd (omega (arith, F.fair d.0 d.1)));
            otherwise = λ d. (_, _, refl);
            out = λ k w d m n e. absurd (none_out e);
            rest = λ m n e. stays_all S not_back T refl;
          }
      of (handed_some T G) f =
          let F = (takes_works S not_back T).fair in
          record {
            hands_out = (λ o. (_, F.0, F.1), λ d. (_, _, _, _, _, goes_on_says G));
            otherwise = λ d. absurd (d (_, F.0, F.1));
            out = least_of S not_back T G;
            rest = λ m n e. absurd (none_out (ap handing (sym e) ∙ goes_on_says G));
          }
      of (not_yet {m = m} {n = n} T) f = absurd (f (m, n, refl))

  -- what is answered "not yet" leaves all that was pending
  pub yet_stays : SaysYet x → AllStay (view s) w
  yet_stays = of P
    where
      of : {x : Told} {w : View} → PollsSome (view s) now limit x w → SaysYet x → AllStay (view s) w
      of (nothing_some T) y = let e = y.2 in let z : ◌≡◌ {A = ℕ} 0 1 = cc in absurd (omega arith)
      of (handed_some T G) y = absurd (none_out (ap handing (sym y.2) ∙ goes_on_says G))
      of (not_yet T) y = stays_all S not_back T refl

  pub view_clock : PollClock (view s) now x w
  view_clock = by view_parts.outcome view_parts.is view_parts.became view_parts.clock
    where
      by : (o : Outcome) → handing x ≡ says_of (view s) (got_by o) view_parts.moves view_parts.drains
          → Became (view s) o view_parts.moves view_parts.drains view_parts.taken x w
          → ClockBy (view s) now o w.elapsed
          → PollClock (view s) now x w
      by (stopped none) is b c = record { out = λ k w d m n e. absurd (none_out (sym is ∙ e)); rest = λ m n e. c }
      by (stopped (some r)) is b c =
          record {
            out = λ k w d m n e. let b : (view s).deadline r ≡ d = cc in rw b at c;
            rest = λ m n e. absurd (none_out (ap handing (sym e) ∙ is));
          }
      by (yet q) is b c =
          record {
            out = λ k w d m n e. absurd (none_out (sym is ∙ e));
            rest = λ m n e. let f = sym b.0 ∙ e in let z : ◌≡◌ {A = ℕ} 0 1 = cc in absurd (omega arith);
          }

  -- the moves and drains of the answer are those of the wheel
  pub view_counts : (moves_of x ≡ view_parts.moves) × (drains_of x ≡ view_parts.drains)
  view_counts = by view_parts.outcome view_parts.became
    where
      by : (o : Outcome) → Became (view s) o view_parts.moves view_parts.drains view_parts.taken x w
          → (moves_of x ≡ view_parts.moves) × (drains_of x ≡ view_parts.drains)
      by (stopped none) is = (ap moves_of is.0, ap drains_of is.0)
      by (stopped (some r)) G = goes_on_counts G
      by (yet q) is = (ap moves_of is.0, ap drains_of is.0)

module _ {s : QueueWords} (S : Sound s) {c : Call} {now : ℕ} (at : PollAt c now) (not_back : PollTaken (view s) now) (a : Answer) (t : QueueWords)
    (P : CallClaim c s a t) where
  pub poll_parts : PolledBy (view s) now (told a) (view t)
  poll_parts = view_parts S not_back (poll_done S at not_back a t P).1

  pub poll_least : (SaysYet (told a) → ⊥) → PollLeast (view s) now (told a) (view t)
  poll_least f = view_least S not_back (poll_done S at not_back a t P).1 f

  pub poll_clock : PollClock (view s) now (told a) (view t)
  poll_clock = view_clock S not_back (poll_done S at not_back a t P).1

  -- "Drains are the drained slots: at most the moves": of every call
  pub poll_drains_few : drains_of (told a) ≤ moves_of (told a)
  poll_drains_few =
      let Q = (poll_done S at not_back a t P).1 in
      let c = view_counts S not_back Q in
      omega (arith, c.0, c.1, (view_parts S not_back Q).by.few)

-- a whole poll drains a slot if it moves
whole_idle : {s : QueueWords} → Sound s → AtRest s → {now m n : ℕ} {got : Option ℕ} {u : View} → elapsed s ≤ now → TakesOut (view s) now got m n u
    → n ≡ 0 → m ≡ 0
whole_idle S rest h (popped e) z = refl
whole_idle S rest h (polled empty P) z = (poll_law (rule_between (S.rule.free rest)) empty h P).none z

-- "and 0 exactly when moves are 0": "01's line on drains speaks of whole polls"
pub poll_drains : {s : QueueWords} → Sound s → AtRest s → {now : ℕ} → elapsed s ≤ now → {a : Answer} {t : QueueWords} → PollClaim s now a t
    → (drains_of (told a) ≤ moves_of (told a)) × ((drains_of (told a) ≡ 0) ↔ (moves_of (told a) ≡ 0))
poll_drains {s} S rest {now} h {a} {t} P =
    let few = poll_drains_few S whole (record { same = λ d. absurd (d rest); later = λ _. h }) a t P in
    (few, (of (((P.good S).free rest).done h).1, λ z. omega (arith, few)))
  where
    of : {x : Told} {w : View} → QueuePolls (view s) now x w → drains_of x ≡ 0 → moves_of x ≡ 0
    of (nothing T) z = whole_idle S rest h T z
    of (handed T G) z = (goes_on_counts G).0 ∙ whole_idle S rest h T (sym (goes_on_counts G).1 ∙ z)

-- a whole poll ends
pub whole_no_yet : {s : QueueWords} → Sound s → {now : ℕ} → PollTaken (view s) now → {a : Answer} {t : QueueWords} → PollClaim s now a t
    → SaysYet (told a) → ⊥
whole_no_yet {s} S {now} K {a} {t} P =
    by_cases (ℕ_discrete s.hand nobody)
    (λ z. whole_on (((P.good S).free z).done (K.later z)).1)
    (λ d. rest_on ((P.good S).same d (K.same d)).1)
  where
    goes_no_yet : {r m n : ℕ} {u : View} {x : Told} {w : View} → GoesOn (view s) r m n u x w → SaysYet x → ⊥
    goes_no_yet G y = none_out (ap handing (sym y.2) ∙ goes_on_says G)

    none_no_yet : {m n : ℕ} → SaysYet (T.none m n) → ⊥
    none_no_yet y = let e = y.2 in let z : ◌≡◌ {A = ℕ} 0 1 = cc in omega arith

    whole_on : {x : Told} {w : View} → QueuePolls (view s) now x w → SaysYet x → ⊥
    whole_on (handed T G) = goes_no_yet G
    whole_on (nothing T) = none_no_yet

    rest_on : {x : Told} {w : View} → PollsRest (view s) now x w → SaysYet x → ⊥
    rest_on (handed_rest T G) = goes_no_yet G
    rest_on (nothing_rest T) = none_no_yet

-- with no poll in hand
pub taken_from_rest : (s : QueueWords) → AtRest s → {now : ℕ} → elapsed s ≤ now → PollTaken (view s) now
taken_from_rest s z h = record { same = λ d. absurd (d z); later = λ _. h }
