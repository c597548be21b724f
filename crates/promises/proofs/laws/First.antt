-- "First set, first out", in calls and answers: of two timers with one deadline on the wheel the one set first comes out first
-- (`first_set_first_out`), and so of two that had expired when they were set (`expired_first_out`). Whoever is set where an equal waits stands behind it
-- (Queued.antt), and that order stays while both wait. Expired ones precede the wheel (Order.antt, `poll_order`).
use mathlib.Core.Path.{◌≡◌, refl, sym, ap, ◌∙◌}
use mathlib.Core.Logic.{◌≢◌, ◌⊎◌, inl, inr, ⊎_elim, by_cases}
use mathlib.Core.Bool.{false, not}
use mathlib.Core.List.{List, [], nil≢cons}
use mathlib.Core.Option.{Option, some}
use Prim.Native.Nat.{ℕ, ◌+◌, ◌≤◌, ◌<◌, max}
use native.Mathlib.Decide.{ℕ_discrete}
use native.Mathlib.Omega.{arith}
use borrow.Author.Tests.{eq-eqb}
use Rattle.links.specs.Lists.{nobody, Mem}
use Rattle.links.proofs.laws.Lists.{change_same, change_other}
use Rattle.places.specs.Places.{expired, free, put}
use Rattle.places.proofs.laws.Whole as place_laws
use Rattle.wheel.proofs.laws.Sums.{put_mem}
use Rattle.queue.specs.declared.Answer.{Answer}
use Rattle.queue.specs.Told.{Told, told, handing}
use Rattle.queue.specs.Told as T
use Rattle.queue.specs.Steps.{TakesSome, popped_some, polled_some, GoesOn, once, again, ended, PollsSome, handed_some, nothing_some, not_yet}
use Rattle.records.specs.View.{View, with_value, with_period, upd}
use Rattle.records.proofs.laws.Words.{upd_same}
use Rattle.records.specs.Records.{key_of, At, Names, taken, left, target, placed, number_in}
use Rattle.records.specs.Words.{QueueWords, AtRest, elapsed, view, Sound}
use Rattle.wheel.specs.Limited.{ended as stopped}
use Rattle.pausing.specs.Pausing.{SaysYet, PollTaken}
use Rattle.promises.specs.Polls.{PollAt, whole, limited}
use Rattle.delay_queue.specs.declared.Call.{Call}
use Rattle.delay_queue.specs.declared.Call.TheVariants as C
use Rattle.delay_queue.specs.Claims.{InsertClaim, ResetClaim, CallClaim}
use Rattle.promises.specs.OneCall.{is_no}
use Rattle.promises.specs.Runs.{Asked, Runs, rest, next, All, Each}
use Rattle.promises.specs.KeysStay.{Aims, HandsKey}
use Rattle.promises.specs.KeysReach.{Reaches, Spares}
use Rattle.promises.proofs.laws.Parked.{rule_target}
use Rattle.promises.specs.First.{Sets, NotSet, SetOn, stored_on, SetInOrder}
use Rattle.promises.proofs.laws.OneCall.{call_sound}
use Rattle.promises.proofs.laws.Runs.{run_sound}
use Rattle.promises.proofs.laws.Views.{ViewGoes, refuses, formats, inserts, resets, removes, polls, wakes, counts, clears, call_goes, key_inserts, out_polls, goes_rest, goes_on_hand}
use Rattle.promises.proofs.laws.TakesOut.{one_list, key_of_names, taken_out, none_before}
use Rattle.promises.proofs.laws.Polling.{out_or_last, clock_before, placed_clock}
use Rattle.promises.proofs.laws.KeysGone.{out_spent, remove_spent, spent_unnamed}
use Rattle.promises.proofs.laws.KeysStay.{Stays, does_stays}
use Rattle.promises.proofs.laws.KeysReach.{reaches_on, key_one}
use Rattle.promises.proofs.laws.Outs.{does_was, emptied}
use Rattle.promises.proofs.laws.Queued.{Queued, same_key, goes_queued, queued_waits, placed_queued}

-- ---- a key that is named after a call which did not set it

module _ {s : QueueWords} (S : Sound s) where
  abbrev v : View
  v = view s

  -- the call did not take it away
  aims_none : {c : Call} {x : Told} {u : View} → ViewGoes v c x u → (c ≡ C.Clear → (r p : ℕ) → At u r p → ⊥) → {k : ℕ}
      → ((when : ℕ) → c ≡ C.Reset k when → x ≡ T.ok → ⊥) → {r p : ℕ} → Names u k r p → Aims k c → not (is_no x) ≡ false
  aims_none refuses none res N a = refl
  aims_none (formats {n} {turn}) none res {r} {p} N a =
      absurd (rw (change_other (λ q. []) free _ p (omega (arith, N.pending.timed))) at N.pending.member)
  aims_none (inserts e) none res N a = absurd a
  aims_none (resets {when = when} M) none res N a = absurd (res when (ap (λ (n : ℕ). C.Reset n when) a) refl)
  aims_none (removes M) none {k} res {r} {p} N a = absurd (spent_unnamed (remove_spent S (rw a at M)) r p N)
  aims_none (polls whole h Q) none res N a = absurd a
  aims_none (polls limited h Q) none res N a = absurd a
  aims_none (wakes W) none res N a = absurd a
  aims_none counts none res N a = absurd a
  aims_none (clears c) none res {r} {p} N a = absurd (none refl r p N.pending)

  -- and did not hand it out: it would be gone, or set again
  out_none : {c : Call} {x : Told} {u : View} → ViewGoes v c x u → {k : ℕ}
      → ((now w d m n : ℕ) → PollAt c now → x ≡ T.out k w d m n → 0 < v.period (number_in k) → ⊥) → {r p : ℕ} → Names u k r p → HandsKey k x → ⊥
  out_none {x = x} D set_again {r} {p} N o =
      let H = out_spent S D o.4 in
      let P = out_polls D o.4 in
      by_cases (ℕ_discrete (v.period H.number) 0) (λ z. spent_unnamed (H.spent (inl z)) r p N)
      (λ z.
      let more : 0 < v.period (number_in _) = omega (arith, z, ap v.period H.names.number) in
      ⊎_elim (λ e. set_again P.0 _ _ _ _ P.3 e more) (λ e. spent_unnamed (H.spent (inr (_, _, _, _, _, e))) r p N) (out_or_last x o.4))

-- ---- over a run

-- the key was named before the call, or the run, and its timer was left alone
pub record Was (s : QueueWords) (k r : ℕ) (Spared : Type 0) : Type 0 where
  pub place : ℕ
  pub names : Names (view s) k r place
  pub spared : Spared

call_was : {s : QueueWords} → Sound s → (x : Asked) (t : QueueWords) → CallClaim x.call s x.answer t → {k : ℕ} → NotSet k s x t → {r p : ℕ}
    → Names (view t) k r p → Was s k r (Spares k x)
call_was {s} S x t A {k} f N =
    let D = call_goes x.call s x.answer t S A in
    let none = emptied S x t A in
    let b = ⊎_elim (λ e. let i = key_inserts D e in absurd (f i.1 (inl (i.0, i.2, i.3, e)))) (λ M. M) (does_was S D none N) in
    record {
      place = b.0;
      names = b.1;
      spared = (
        aims_none S D none (λ when e y. f when (inr (inl (e, y)))) N,
        out_none S D (λ now w d m n c e h. f (d + (view s).period (number_in k)) (inr (inr (now, w, d, m, n, c, e, h, refl)))) N,
      );
    }

pub run_was : {s t : QueueWords} {l : List Asked} → Sound s → (R : Runs s l t) → {k : ℕ} → Each (NotSet k) R → {r p : ℕ} → Names (view t) k r p
    → Was s k r (All (Spares k) l)
run_was S rest f {p = p} N = record { place = p; names = N; spared = tt }
run_was S (next {s} {t} {x = x} A R) f N =
    let W = run_was (call_sound x.call s x.answer t A S) R f.1 N in
    let was = call_was S x t A f.0 W.names in
    record { place = was.place; names = was.names; spared = (was.spared, W.spared) }

-- two that are queued stay so over a run that leaves both alone
run_queued : {s t : QueueWords} {l : List Asked} {j k : ℕ} → Sound s → Queued (view s) j k → Runs s l t → All (Spares j) l → All (Spares k) l
    → Queued (view t) j k
run_queued S Q rest a b = Q
run_queued S Q (next {s} {t} {x = x} A R) a b =
    run_queued (call_sound x.call s x.answer t A S)
    (goes_queued S Q (call_goes x.call s x.answer t S A) a.0.0 b.0.0 a.0.1) R a.1 b.1

-- and one on the expired stack stays there
run_expired : {s t : QueueWords} {l : List Asked} {j r : ℕ} → Sound s → Names (view s) j r expired → Runs s l t → All (Spares j) l
    → Names (view t) j r expired
run_expired S N rest a = N
run_expired {r = r} S N (next {s} {t} {x = x} A R) a =
    let Y = does_stays S N (call_goes x.call s x.answer t S A) a.0.0 a.0.1 in
    let M : Names (view t) _ r expired
    = record {
      number = N.number;
      below = rw Y.n N.below;
      pending = record { timed = N.pending.timed; member = Y.expired N.pending.member };
      turn = Y.turn ∙ N.turn;
    } in
    run_expired (call_sound x.call s x.answer t A S) M R a.1

-- ---- a timer is set

-- its record is placed in the end; the clock stands, or the deadline lies past it before and after
record PlacedAt (s : QueueWords) (k when : ℕ) (w : View) : Type 0 where
  number : ℕ
  from : View
  is : w ≡ placed number when from
  key : number ≡ number_in k
  clock : (from.elapsed ≡ elapsed s) ⊎ ((from.elapsed < when) × (elapsed s < when))

module _ {s : QueueWords} (S : Sound s) where
  insert_placed : {value when period k : ℕ} {x : Told} {w : View} → ViewGoes (view s) (C.Insert value when period) x w → x ≡ T.key k
      → PlacedAt s k when w
  insert_placed refuses z = let y : ◌≡◌ {A = ℕ} 0 1 = cc in absurd (omega arith)
  insert_placed {value} {period = period} {k} (inserts {r = i} {l = l} e) z =
      let b = place_laws.member_below S.standing.whole.places free i (rw e (inl refl)) in
      let q : key_of (view s) i ≡ k = cc in
      record {
        number = i;
        from = with_period (upd (view s).period i period) (with_value (upd (view s).value i value) (taken l (view s)));
        is = refl;
        key = omega (arith, q, b);
        clock = inl refl;
      }
  insert_placed (polls c h Q) z = elim c [ ]

  reset_placed : {k when : ℕ} {x : Told} {w : View} → ViewGoes (view s) (C.Reset k when) x w → x ≡ T.ok → PlacedAt s k when w
  unfolding left
  reset_placed refuses z = let y : ◌≡◌ {A = ℕ} 0 1 = cc in absurd (omega arith)
  reset_placed (resets {r = i} {p = p} M) z = record { number = i; from = left p i (view s); is = refl; key = M.number; clock = inl refl }
  reset_placed (polls c h Q) z = elim c [ ]

  -- "places it at w plus period under the same key"
  again_placed : {now limit i m n : ℕ} {u : View} {x : Told} {w : View} → PollTaken (view s) now → TakesSome (view s) now limit (stopped (some i)) m n u
      → GoesOn (view s) i m n u x w → {k v d m₁ n₁ : ℕ} → x ≡ T.out k v d m₁ n₁ → 0 < (view s).period (number_in k)
      → PlacedAt s k (d + (view s).period (number_in k)) w
  again_placed {i = i} h T (once f) {k} z more =
      let q : key_of (view s) i ≡ k = cc in
      let same : i ≡ number_in k = (key_of_names S ((taken_out S h T).out i refl).1).number ∙ ap (λ j. number_in j) q in
      absurd (omega (arith, f, more, ap (view s).period same))
  again_placed {i = i} {u = u} h T (again f g) {k} {d = d} z more =
      let a = (taken_out S h T).out i refl in
      let q : key_of (view s) i ≡ k = cc in
      let due : (view s).deadline i ≡ d = cc in
      let same : i ≡ number_in k = (key_of_names S a.1).number ∙ ap (λ j. number_in j) q in
      let when : (view s).deadline i + (view s).period i ≡ d + (view s).period (number_in k)
      = omega (arith, due, ap (view s).period same) in
      record {
        number = i;
        from = u;
        is = ap (λ n. placed i n u) when;
        key = same;
        clock = inr (
          omega (arith, clock_before S h T, due, more),
          omega (arith, none_before S i a.0 a.1, due, more),
        );
      }
  again_placed h T (ended f g) z more = let y : ◌≡◌ {A = ℕ} 0 1 = cc in absurd (omega arith)

  poll_placed : {now limit k v d m n : ℕ} {x : Told} {w : View} → PollTaken (view s) now → PollsSome (view s) now limit x w → x ≡ T.out k v d m n
      → 0 < (view s).period (number_in k) → PlacedAt s k (d + (view s).period (number_in k)) w
  poll_placed h (handed_some T G) z more = again_placed h T G z more
  poll_placed h (nothing_some T) z more = let y : ◌≡◌ {A = ℕ} 0 1 = cc in absurd (omega arith)
  poll_placed h (not_yet T) z more = let y : ◌≡◌ {A = ℕ} 0 1 = cc in absurd (omega arith)

  -- a poll that hands out has ended, and leaves none in hand
  takes_rest : {now limit m n : ℕ} {g : Option ℕ} {u : View} → TakesSome (view s) now limit (stopped g) m n u → u.hand ≡ nobody
  takes_rest (popped_some e) =
      by_cases (ℕ_discrete s.hand nobody) (λ z. z) (λ d. absurd (nil≢cons (sym (S.rule.inside d).expired ∙ e)))
  takes_rest (polled_some e r) = refl

  out_rest : {now limit k v d m n : ℕ} {x : Told} {w : View} → PollsSome (view s) now limit x w → x ≡ T.out k v d m n → w.hand ≡ nobody
  out_rest (handed_some T G) z = goes_on_hand G ∙ takes_rest T
  out_rest (nothing_some T) z = takes_rest T
  out_rest (not_yet T) z = let y : ◌≡◌ {A = ℕ} 0 1 = cc in absurd (omega arith)

  set_placed : {t : QueueWords} {k : ℕ} (x : SetOn s k t) → PlacedAt s k x.when (view t)
  set_placed {t} {k} x = by x.sets
    where
      A : CallClaim x.asked.call s x.asked.answer t
      A = x.claim

      by : Sets s k x.when x.asked → PlacedAt s k x.when (view t)
      by (inl z) = insert_placed (call_goes (C.Insert z.0 x.when z.1) s x.asked.answer t S (rw z.2 at A)) z.3
      by (inr (inl z)) = reset_placed (call_goes (C.Reset k x.when) s x.asked.answer t S (rw z.0 at A)) z.1
      by (inr (inr z)) =
          let P = out_polls (call_goes x.asked.call s x.asked.answer t S A) (ap handing z.6) in
          rw z.8 (poll_placed P.1 P.2.1 z.6 z.7)

  -- what sets a timer leaves no poll in hand
  set_rest : {t : QueueWords} {k : ℕ} → SetOn s k t → AtRest t
  set_rest {t} {k} x = by x.sets
    where
      A : CallClaim x.asked.call s x.asked.answer t
      A = x.claim

      D : ViewGoes (view s) x.asked.call (told x.asked.answer) (view t)
      D = call_goes x.asked.call s x.asked.answer t S A

      key_no_yet : {y : Told} → y ≡ T.key k → SaysYet y → ⊥
      key_no_yet e y = let f = sym e ∙ y.2 in let z : ◌≡◌ {A = ℕ} 0 1 = cc in omega arith

      ok_no_yet : {y : Told} → y ≡ T.ok → SaysYet y → ⊥
      ok_no_yet e y = let f = sym e ∙ y.2 in let z : ◌≡◌ {A = ℕ} 0 1 = cc in omega arith

      by : Sets s k x.when x.asked → AtRest t
      by (inl z) =
          let I : InsertClaim s z.0 x.when z.1 x.asked.answer t = rw z.2 at A in
          by_cases (ℕ_discrete s.hand nobody) (λ q. goes_rest D (key_no_yet z.3) q)
          (λ q. let f = sym ((I.good S).held q).told ∙ z.3 in let y : ◌≡◌ {A = ℕ} 0 1 = cc in absurd (omega arith))
      by (inr (inl z)) =
          let I : ResetClaim s k x.when x.asked.answer t = rw z.0 at A in
          by_cases (ℕ_discrete s.hand nobody) (λ q. goes_rest D (ok_no_yet z.1) q)
          (λ q. let f = sym ((I.good S).held q).told ∙ z.1 in let y : ◌≡◌ {A = ℕ} 0 1 = cc in absurd (omega arith))
      by (inr (inr z)) = out_rest (out_polls D (ap handing z.6)).2.1 z.6

target_expired : (e : ℕ) → target e e ≡ expired
unfolding target
target_expired e = rw (eq-eqb e e refl)

-- a time that has come
place_words_of : {e when : ℕ} → when ≤ e → target e (max when e) ≡ expired
place_words_of {e} {when} h = let q : max when e ≡ e = omega arith in ap (target e) q ∙ target_expired e

placed_in : (i when : ℕ) (u : View) → when ≤ u.elapsed → Mem i ((placed i when u).lists expired)
unfolding placed
placed_in i when u h =
    let L = u.lists in
    rw (place_words_of h, change_same L expired (put expired i (L expired))) (put_mem expired i i (L expired) (inl refl))

placed_deadline : (i when : ℕ) (u : View) → (placed i when u).deadline i ≡ max when u.elapsed
unfolding placed
placed_deadline i when u = upd_same u.deadline i (max when u.elapsed)

-- ---- what the customer asked for

module _ {s t : QueueWords} {j k : ℕ} (S : Sound s) (I : SetInOrder s j k t) (c : Call) (a : Answer) (u : QueueWords) (P : CallClaim c t a u)
    (o : HandsKey k (told a)) {r p : ℕ} (N : Names (view t) j r p) where
  set_sound : Sound I.set
  set_sound = let x = I.first.asked in call_sound x.call s x.answer I.set I.first.claim S

  later_sound : Sound I.later
  later_sound = run_sound set_sound I.then

  both_sound : Sound I.both
  both_sound = let x = I.second.asked in call_sound x.call I.later x.answer I.both I.second.claim later_sound

  both_rest : AtRest I.both
  both_rest = set_rest later_sound I.second

  last_sound : Sound t
  last_sound = run_sound both_sound I.at_last

  -- both are pending all the while, since neither is set again
  front : Was I.both j r (All (Spares j) I.after)
  front = run_was both_sound I.at_last I.first_last.2 N

  back : Was I.both k (number_in k) (All (Spares k) I.after)
  back =
      let H = out_spent last_sound (call_goes c t a u last_sound P) o.4 in
      run_was both_sound I.at_last I.second_last (rw H.names.number at H.names)

  meets : Was I.later j r (Spares j I.second.asked)
  meets = call_was later_sound I.second.asked I.both I.second.claim I.first_last.1 front.names

  waits : Was I.set j r (All (Spares j) I.between)
  waits = run_was set_sound I.then I.first_last.0 meets.names

  stays : Stays (view I.later) (view I.both) r
  stays =
      let x = I.second.asked in
      does_stays later_sound meets.names (call_goes x.call I.later x.answer I.both later_sound I.second.claim) meets.spared.0
      meets.spared.1

  -- how each was placed
  one : PlacedAt s j I.first.when (view I.set)
  one = set_placed S I.first

  two : PlacedAt I.later k I.second.when (view I.both)
  two = set_placed later_sound I.second

  -- where the second comes, and with the deadline that it gets, they would be queued, and cannot be
  never_so : front.place ≡ target two.from.elapsed (max I.second.when two.from.elapsed)
      → (view I.both).deadline r ≡ max I.second.when two.from.elapsed → ⊥
  never_so here equal =
      queued_waits last_sound (run_queued both_sound Q I.at_last front.spared back.spared)
      (call_goes c t a u last_sound P) o
    where
      i : ℕ
      i = two.number

      last : View
      last = placed i I.second.when two.from

      is : view I.both ≡ last
      is = two.is

      apart : r ≢ i
      apart e =
          let same : j ≡ k = same_key front.names back.names (e ∙ two.key) in
          I.first_last.1 I.second.when (rw same I.second.sets)

      behind : Names (view I.both) k i back.place
      behind = rw two.key back.names

      Q : Queued (view I.both) j k
      Q =
          let due = sym (ap (λ v. v.deadline r) is) ∙ equal in
          rw is (placed_queued i I.second.when two.from (rw is at front.names) (rw is at behind) apart due here)

  same_clock : elapsed I.both ≡ two.from.elapsed
  same_clock = ap (λ v. v.elapsed) two.is ∙ placed_clock two.number I.second.when two.from

  -- "among equal deadlines on the wheel the one placed first comes out first, a reset counting as a new placing": the timer of j is set, then that of k,
  -- with one deadline as stored, which lies past elapsed when that of k is set; then a call that hands out k finds j no longer pending
  pub first_set_first_out : stored_on I.first ≡ stored_on I.second → elapsed I.later < stored_on I.second → ⊥
  first_set_first_out same late = never_so here equal
    where
      w : ℕ
      w = stored_on I.second

      e : ℕ
      e = two.from.elapsed

      stored : max I.second.when e ≡ w
      stored = ⊎_elim (λ y. omega arith) (λ y. omega arith) two.clock

      past : e < w
      past = ⊎_elim (λ y. omega arith) (λ y. omega arith) two.clock

      at_first : (view I.set).deadline r ≡ stored_on I.first
      at_first =
          let is : r ≡ one.number = waits.names.number ∙ sym one.key in
          let d : (view I.set).deadline one.number ≡ max I.first.when one.from.elapsed
          = ap (λ v. v.deadline one.number) one.is ∙ placed_deadline one.number I.first.when one.from in
          let q : max I.first.when one.from.elapsed ≡ stored_on I.first = ⊎_elim (λ y. omega arith) (λ y. omega arith) one.clock in
          ap (view I.set).deadline is ∙ d ∙ q

      kept : Reaches (view I.later) j ((view I.set).value r) ((view I.set).period r) ((view I.set).deadline r)
      kept =
          reaches_on set_sound
          (record { number = r; place = waits.place; names = waits.names; value = refl; period = refl; deadline = refl }) I.then
          waits.spared

      equal : (view I.both).deadline r ≡ max I.second.when e
      equal =
          stays.deadline ∙ ap (view I.later).deadline (key_one later_sound meets.names kept.names).0 ∙ kept.deadline ∙ at_first ∙ same
          ∙ sym stored

      m : At (view I.both) r front.place
      m = front.names.pending

      away : front.place ≢ expired
      away = λ (z : front.place ≡ expired). omega (arith, (both_sound.rule.free both_rest).expired r (rw z at m.member), equal, stored, past, same_clock)

      here : front.place ≡ target e (max I.second.when e)
      here =
          let late-so : elapsed I.both < (view I.both).deadline r = omega (arith, stored, past, equal, same_clock) in
          rule_target (both_sound.rule.free both_rest) front.place r m.timed m.member late-so ∙ ap (target (elapsed I.both)) equal
          ∙ ap (λ n. target n (max I.second.when e)) same_clock

  -- and so on the expired stack: both were set for a time that had come
  pub expired_first_out : I.first.when ≤ elapsed s → I.second.when ≤ elapsed I.later → ⊥
  expired_first_out come come-too = never_so here equal
    where
      e : ℕ
      e = two.from.elapsed

      on_expired : Names (view I.later) j r expired
      on_expired =
          let M = waits.names in
          let h : I.first.when ≤ one.from.elapsed = ⊎_elim (λ y. omega arith) (λ y. omega arith) one.clock in
          let is : r ≡ one.number = M.number ∙ sym one.key in
          let m : Mem r ((view I.set).lists expired)
          = rw (is, ap (λ v. v.lists expired) one.is) (placed_in one.number I.first.when one.from h) in
          run_expired set_sound
          (record { number = M.number; below = M.below; pending = record { timed = omega arith; member = m }; turn = M.turn })
          I.then waits.spared

      m : Mem r ((view I.both).lists expired)
      m = stays.expired on_expired.pending.member

      here : front.place ≡ target e (max I.second.when e)
      here =
          let h : I.second.when ≤ e = ⊎_elim (λ y. omega arith) (λ y. omega arith) two.clock in
          one_list both_sound r front.place expired front.names.pending.member m ∙ sym (place_words_of h)

      equal : (view I.both).deadline r ≡ max I.second.when e
      equal =
          let h : I.second.when ≤ e = ⊎_elim (λ y. omega arith) (λ y. omega arith) two.clock in
          omega (arith, (both_sound.rule.free both_rest).expired r m, same_clock)
