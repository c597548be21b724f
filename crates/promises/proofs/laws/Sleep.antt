-- Sleeping to the next wake loses nothing: before it a poll finds nothing to do (`idle_exactly`), and a poll at it hands out a timer or takes one down a
-- level, so that such polls come to an end, and that with nothing pending; what it hands out is due then (`wake_in_time`).
use mathlib.Core.Path.{◌≡◌, refl, sym, ap, ap₂, ◌∙◌, subst}
use mathlib.Core.Logic.{◌⊎◌, inl, inr, ⊎_elim, by_cases}
use mathlib.Core.List.{List, [], ◌∷◌}
use mathlib.Core.Option.{Option, none, some-ne-none}
use Prim.Native.Nat.{ℕ, zero, suc, ◌+◌, ◌-◌, ◌*◌, ◌/◌, ◌≤◌, ◌<◌, max}
use native.Mathlib.Decide.{ℕ_discrete, dec_lt}
use native.Mathlib.Omega.{arith}
use lib.ListN.{length}
use Rattle.times.specs.Times.{floor, width, slot_of, level_below, level_of}
use Rattle.times.proofs.laws.Quotients.{floor_64}
use Rattle.times.proofs.laws.Blocks.{end_later, next_floor}
use Rattle.links.specs.Lists.{Mem, nobody}
use Rattle.links.proofs.laws.Lists.{change_other}
use Rattle.places.specs.Places.{slots, parking, expired, free, level_at}
use Rattle.wheel.specs.Wheel.{Lists, Rule, NextList, place_for}
use Rattle.wheel.proofs.laws.Between.{on_spot}
use Rattle.wheel.specs.Sums.{total}
use Rattle.wheel.proofs.laws.Sums.{total_ext}
use Rattle.wheel.specs.Limited.{yet, Limited, finds, stops, moves, empties}
use Rattle.wheel.proofs.laws.Moves.{got_none}
use Rattle.wheel.proofs.laws.Next.{list_one, list_not_none}
use Rattle.wheel.specs.Drain.{heights}
use Rattle.queue.specs.declared.Answer.{Answer}
use Rattle.queue.specs.Told.{Told, told, Hands, handing}
use Rattle.queue.specs.Told as T
use Rattle.records.specs.View.{View, with_value, with_period, upd}
use Rattle.records.specs.Records.{key_of, At, Takes, taken, target, placed}
use Rattle.queue.specs.Steps.{sleeps, starts, NextWake, at_once, from_wheel, pending, polled_some, PollsSome, handed_some, nothing_some, not_yet}
use Rattle.records.specs.Words.{QueueWords, elapsed, view, AtRest, Sound}
use Rattle.delay_queue.specs.declared.Call.{Call}
use Rattle.delay_queue.specs.declared.Call.TheVariants as C
use Rattle.records.proofs.laws.Words.{upd_same}
use Rattle.queue.specs.Calls.{Answered}
use Rattle.delay_queue.specs.Claims.{CallClaim, WakeClaim, PollClaim, InsertClaim}
use Rattle.pausing.specs.Pausing.{SaysYet, PollTaken}
use Rattle.promises.specs.Polls.{PollAt, whole, limited}
use Rattle.promises.specs.Runs.{Asked, Runs, rest, next, Each, All, moves_of}
use Rattle.promises.specs.Polling.{IsPending, PollLeast, HandsLeast, Finished, SetAgain, PollClock, drains_of}
use Rattle.promises.specs.Bounded.{IsSetAgain, height_at}
use Rattle.promises.specs.Quiet.{Quiet}
use Rattle.promises.specs.Chained.{last}
use Rattle.promises.specs.Waiting.{NoneRepeats}
use Rattle.promises.specs.Looking.{InList, WakesAt, NonePending, NextAt, Before, at_time}
use Rattle.promises.specs.Sleep.{Asleep, WakeStays, AtWake, Woken, heights_and_timers, WakesOn, Ends, WakesAll}
use Rattle.promises.specs.Sleep.{Punctual, OnTime, NotBefore, NeverFall, NotEarlier, NeverBack, Punctually}
use Rattle.promises.proofs.laws.Does.{poll_done}
use Rattle.promises.proofs.laws.Views.{call_goes, goes_rest, placed_hand}
use Rattle.promises.proofs.laws.OneCall.{call_sound}
use Rattle.promises.proofs.laws.Chained.{chained}
use Rattle.promises.proofs.laws.Polling.{none_out, poll_least, poll_clock, whole_no_yet, taken_from_rest}
use Rattle.promises.proofs.laws.Polling.{poll_drains, goes_on_says, no_last, out_or_last, placed_pending, placed_count}
use Rattle.promises.proofs.laws.Moves.{total_none, placed_rises, moves_are_heights}
use Rattle.promises.proofs.laws.Quiet.{quiet_rest, quiet_shown}
use Rattle.promises.proofs.laws.Waiting.{pending_some}
use Rattle.promises.proofs.laws.Met.{insert_met, wake_met, poll_met}
use Rattle.promises.proofs.laws.Looking.{wake_in_time, never_exactly, idle_exactly}

-- ---- asleep

abbrev asked : Call → Answer → Asked
asked c a = record { call = c; answer = a }

-- what does not end has found a list whose time has come
yet_due : {d : ℕ → ℕ} {now b e p m n c : ℕ} {h : Option ℕ} {L N : Lists} → h ≡ none → Limited d now h b e L (yet p) m n c N
    → (k q w : ℕ) × NextList e L k q w × (w ≤ now)
yet_due z (finds X l r) = (_, _, _, X, l)
yet_due z (stops i) = absurd (some-ne-none _ z)
yet_due z (moves i r) = absurd (some-ne-none _ z)
yet_due z (empties i r) = absurd (some-ne-none _ z)

-- so before the wake every poll ends, whatever its limit
ends_before : {v : View} {now limit : ℕ} {x y : Told} {u : View} → v.hand ≡ nobody → v.elapsed ≤ now → NextWake v x → Before now x
    → PollsSome v now limit y u → SaysYet y → ⊥
ends_before z h W f (handed_some T G) y = none_out (ap handing (sym y.2) ∙ goes_on_says G)
ends_before z h W f (nothing_some T) y = let e = y.2 in let i : ◌≡◌ {A = ℕ} 0 1 = cc in omega arith
ends_before {v} {now} z h W f (not_yet (polled_some e r)) y = by W (yet_due (got_none v.hand z) r) f
  where
    by : {x : Told} → NextWake v x → ((k q w : ℕ) × NextList v.elapsed v.lists k q w × (w ≤ now)) → Before now x → ⊥
    by (at_once n) Y f = omega (arith, h, f _ refl)
    by (from_wheel n (sleeps E)) Y f = list_not_none Y.3 E
    by (from_wheel n (starts X)) Y f = omega (arith, f _ refl, Y.4, (list_one X Y.3).start)

-- "On a sound store with no drain in hand, any poll from elapsed up to but excluding the wake (without end if there is no wake) hands out nothing, makes no
-- moves and changes only elapsed." One with a limit ends, and so gives the whole poll's answer and store.
pub asleep : {s : QueueWords} → Sound s → AtRest s → Asleep s
asleep S z c now a b t whole W P h f = (idle_exactly W.0 P S z h).0 f
asleep {s} S z c now a b t limited W P h f =
    let m = poll_met s now in
    let I = (idle_exactly W.0 m.2 S z h).0 f in
    let ends = ends_before z h ((W.0.good S).free z).done f (poll_done S limited (taken_from_rest s z h) b t P).1 in
    let q = chained (next {x = asked c b} P rest) (last limited ends) m.0 m.1 m.2 in
    record { told = sym q.0 ∙ I.told; only = sym q.1 ∙ I.only }

-- ---- the wake stays

-- an answer of next wake
wake_or_never : {v : View} {x : Told} → NextWake v x → (x ≡ T.never) ⊎ ((w : ℕ) × (x ≡ T.wake w))
wake_or_never (at_once n) = inr (_, refl)
wake_or_never (from_wheel n (sleeps E)) = inl refl
wake_or_never (from_wheel n (starts F)) = inr (_, refl)

-- one timer waits in a list, and no deadline there is less than its own
record Least (v : View) : Type 0 where
  timer : ℕ
  place : ℕ
  waits : InList v timer place
  least : (y q : ℕ) → InList v y q → v.deadline timer ≤ v.deadline y

in_list : {v : View} {r p : ℕ} → v.lists expired ≡ [] → At v r p → InList v r p
in_list {v} {r} {p} n a =
    by_cases (dec_lt p expired)
    (λ h. record { below = h; member = a.member })
    (λ h. let e : p ≡ expired = omega (arith, h, a.timed) in absurd (rw (e, n) at a.member))

-- a poll at a deadline that is due hands out such a one
some_least : {s : QueueWords} {w : ℕ} → Sound s → AtRest s → (view s).lists expired ≡ [] → WakesAt (view s) w → Least (view s)
some_least {s} {w} S z n A =
    let v = view s in
    let at_item : At v A.item A.place = record { timed = omega (arith, A.waits.below); member = A.waits.member } in
    let h : elapsed s ≤ v.deadline A.item = omega (arith, A.not_past, A.in_time A.item A.place A.waits) in
    let p = poll_met s (v.deadline A.item) in
    let K = taken_from_rest s z h in
    let L = poll_least S whole K p.0 p.1 p.2 (whole_no_yet S K p.2) in
    let o = L.hands_out.1 (A.item, (A.place, at_item), omega arith) in
    let H = L.out o.0 o.1 o.2 o.3 o.4 o.5 in
    record {
      timer = H.timer;
      place = H.place;
      waits = in_list n H.names.pending;
      least = λ y q z.
          let b : At v y q = record { timed = omega (arith, z.below); member = z.member } in
          omega (arith, H.deadline, H.least y (q, b));
    }

-- the wheel's wake is read off the lists and the deadlines
same_wake : {v u : View} {w w' : ℕ} → u.lists ≡ v.lists → u.deadline ≡ v.deadline → Least v → WakesAt v w → WakesAt u w' → w' ≡ w
same_wake {v} {u} e d M A B =
    let x = M.timer in
    let p = M.place in
    let back : (y q : ℕ) → InList u y q → InList v y q
    = λ y q o. record { below = o.below; member = subst (λ (f : Lists). Mem y (f q)) e o.member } in
    let o : InList u x p = record { below = M.waits.below; member = subst (λ (f : Lists). Mem x (f p)) (sym e) M.waits.member } in
    let least : (y q : ℕ) → InList u y q → u.deadline x ≤ u.deadline y
    = λ y q z. subst (λ (f : ℕ → ℕ). f x ≤ f y) (sym d) (M.least y q (back y q z)) in
    B.least x p o least ∙ ap (λ (f : ℕ → ℕ). floor (level_at p) (f x)) d ∙ sym (A.least x p M.waits M.least)

none_expired : {v : View} {now w : ℕ} → v.elapsed ≤ now → now < w → NextAt v w → (l : List ℕ) → v.lists expired ≡ l → v.lists expired ≡ []
none_expired h k N [] e = e
none_expired {v} h k N (r ∷ l) e = absurd (omega (arith, h, k, (N.due r (rw e (inl refl))).0))

none_left : {v u : View} → u.lists ≡ v.lists → NonePending v → NonePending u
none_left e N r o = N r (o.0, record { timed = o.1.timed; member = subst (λ (f : Lists). Mem r (f o.0)) e o.1.member })

module _ {s t : QueueWords} {a c : Answer} {now : ℕ} (S : Sound s) (z : AtRest s) (S' : Sound t) (W : WakeClaim s a) (U : WakeClaim t c) (h : elapsed s ≤ now)
    (f : Before now (told a)) (e : t ≡ at_time now s) where
  lists_same : (view t).lists ≡ (view s).lists
  lists_same = ap (λ (u : QueueWords). (view u).lists) e

  still : AtRest t
  still = ap (λ (u : QueueWords). u.hand) e ∙ z

  -- `wake -` stays, and so does a time
  on_never : told a ≡ T.never → told c ≡ told a
  on_never y = (never_exactly U S' still).1 (none_left lists_same ((never_exactly W S z).0 y)) ∙ sym y

  on_wake : (w : ℕ) → told a ≡ T.wake w → told c ≡ told a
  on_wake w y =
      let N = wake_in_time W S z y in
      let n = none_expired h (f w y) N ((view s).lists expired) refl in
      let m : (view t).lists expired ≡ [] = ap (λ (g : Lists). g expired) lists_same ∙ n in
      ⊎_elim
      (λ i.
      let x : told a ≡ T.never = (never_exactly W S z).1 (none_left (sym lists_same) ((never_exactly U S' still).0 i)) in
      let q : T.never ≡ T.wake w = sym x ∙ y in
      let impossible : ◌≡◌ {A = ℕ} 0 1 = cc in
      absurd (omega arith))
      (λ i.
      let B = (wake_in_time U S' still i.1).ahead m in
      let A = N.ahead n in
      let d : (view t).deadline ≡ (view s).deadline = ap (λ (u : QueueWords). (view u).deadline) e in
      i.1 ∙ ap T.wake (same_wake lists_same d (some_least S z n A) A B) ∙ sym y)
      (wake_or_never ((U.good S').free still).done)

-- "sleeping to the next wake loses nothing"
pub wake_stays : {s : QueueWords} → Sound s → AtRest s → WakeStays s
wake_stays {s} S z c now a b a' t p W P h f U =
    let e = (asleep S z c now a b t p W P h f).only in
    let S' = call_sound c s b t P S in
    ⊎_elim (on_never S z S' W.0 U.0 h f e) (λ y. on_wake S z S' W.0 U.0 h f e y.0 y.1) (wake_or_never ((W.0.good S).free z).done)

-- ---- a poll at the wake

-- where nothing repeats, nothing is set again
none_again : {v : View} {now : ℕ} {x : Told} {u : View} → PollLeast v now x u → NoneRepeats v → (y : ℕ) → IsSetAgain v x y → ⊥
none_again {v} L f y (k, w, d, m, n, z, e, g) =
    let H = L.out k w d m n z in
    let is : y ≡ H.timer = e ∙ sym H.names.number in
    g (inl (ap v.period is ∙ f H.timer (H.place, H.names.pending)))

-- a time is answered of a store with no poll in hand alone: else 12 is
wake_rest : {s : QueueWords} {a : Answer} {w : ℕ} → Sound s → WakeClaim s a → told a ≡ T.wake w → AtRest s
wake_rest {s} S W e =
    by_cases (ℕ_discrete s.hand nobody) (λ z. z)
    (λ d. let f = sym ((W.good S).held d).told ∙ e in let z : ◌≡◌ {A = ℕ} 0 1 = cc in absurd (omega arith))

-- no pending deadline is before d
abbrev After : ℕ → View → Type 0
After d v = (y : ℕ) → IsPending v y → d ≤ v.deadline y

-- s is polled at its wake
module _ {s t : QueueWords} {a b : Answer} {w : ℕ} (S : Sound s) (W : WakeClaim s a) (e : told a ≡ T.wake w) (P : PollClaim s w b t) where
  at_rest : AtRest s
  at_rest = wake_rest S W e

  wakes_at : NextAt (view s) w
  wakes_at = wake_in_time W S at_rest e

  accepts : PollTaken (view s) w
  accepts = taken_from_rest s at_rest wakes_at.not_past

  least : PollLeast (view s) w (told b) (view t)
  least = poll_least S whole accepts b t P (whole_no_yet S accepts P)

  after_sound : Sound t
  after_sound = call_sound (C.Poll w) s b t P S

  after_rest : AtRest t
  after_rest = goes_rest (call_goes (C.Poll w) s b t S P) (whole_no_yet S accepts P) at_rest

  -- what comes out is due, and no pending deadline is before the wake
  punctual : (k v d m n : ℕ) → Hands (told b) k v d m n → Punctual s w k d
  punctual k v d m n h =
      let H = least.out k v d m n h in
      record {
        timer = H.timer;
        place = H.place;
        names = H.names;
        stored = H.deadline;
        at_now = omega (arith, H.due, H.deadline, wakes_at.in_time H.timer (H.place, H.names.pending));
      }

  -- no deadline before d is pending after it that was not before
  after_on : (d : ℕ) → After d (view s) → After d (view t)
  after_on d f = by (poll_done S whole accepts b t P).1 least (whole_no_yet S accepts P)
    where
      finished : (r : ℕ) {x : Told} {k v c m n : ℕ} → Hands x k v c m n → Finished (view s) r x ⊎ (Finished (view s) r x → ⊥)
      finished r {x} {k} {v} {c} {m} {n} h =
          by_cases (ℕ_discrete ((view s).period r) 0)
          (λ z. inl (inl z))
          (λ z.
          ⊎_elim
          (λ (o : x ≡ T.out k v c m n). inr (⊎_elim z (λ y. no_last (rw o at y))))
          (λ o. inl (inr (k, v, c, m, n, o)))
          (out_or_last x h))

      set_after : (r : ℕ) {k : ℕ} {u : View} → IsPending (view s) r → SetAgain (view s) k r u → d ≤ u.deadline r
      set_after r i A = omega (arith, A.deadline, f r i)

      out_after : {x : Told} {u : View} {k v c m n : ℕ} → Hands x k v c m n → HandsLeast (view s) w k v c x u → After d u
      out_after {u = u} h H y o =
          by_cases (ℕ_discrete y H.timer)
          (λ (q : y ≡ H.timer).
          ⊎_elim
          (λ i. absurd ((H.gone i).gone (rw q at o)))
          (λ i. rw q (set_after H.timer (H.place, H.names.pending) (H.again i)))
          (finished H.timer h))
          (λ n. omega (arith, f y (H.only y o), (H.others y (H.only y o) n).1.deadline))

      by : {limit : ℕ} {x : Told} {u : View} → PollsSome (view s) w limit x u → PollLeast (view s) w x u → (SaysYet x → ⊥) → After d u
      by (nothing_some {m} {n} T) L g =
          let A = L.rest m n refl in
          λ y o. omega (arith, f y (A.only y o), (A.stay y (A.only y o)).1.deadline)
      by (handed_some T G) L g = out_after (goes_on_says G) (L.out _ _ _ _ _ (goes_on_says G))
      by (not_yet {m = m} {n = n} T) L g = absurd (g (m, n, refl))

  -- heights and timers together are less after it, where nothing repeats: a timer is handed out, or some move is made
  module _ (once : NoneRepeats (view s)) where
    fewer : {limit : ℕ} {x : Told} {v : View} → PollsSome (view s) w limit x v → PollLeast (view s) w x v → (SaysYet x → ⊥)
        → moves_of x + heights v.lists ≡ heights (view s).lists → drains_of x ≤ moves_of x → (x ≡ T.none 0 0 → ⊥)
        → NoneRepeats v × (heights v.lists + pending v < heights (view s).lists + pending (view s))
    fewer (nothing_some {m} {n} O) L g f few d =
        let A = L.rest m n refl in
        let some : 0 < m = by_cases (ℕ_discrete m 0) (λ z. absurd (d (ap₂ T.none z (omega arith)))) (λ z. omega arith) in (
          λ y o. (A.stay y (A.only y o)).1.period ∙ once y (A.only y o),
          omega (arith, f, A.same, some),
        )
    fewer {x = x} (handed_some O G) L g f few d =
        let H = L.out _ _ _ _ _ (goes_on_says G) in
        let done : Finished (view s) H.timer x = inl (once H.timer (H.place, H.names.pending)) in
        let E = H.gone done in (
          λ y o. (H.others y (H.only y o) (λ (z : y ≡ H.timer). E.gone (rw z at o))).1.period ∙ once y (H.only y o),
          omega (arith, f, E.fewer),
        )
    fewer (not_yet {m = m} {n = n} T) L g f few d = absurd (g (m, n, refl))

    lessens : NoneRepeats (view t) × (heights_and_timers t < heights_and_timers s)
    lessens =
        let M = moves_are_heights S whole accepts b t P in
        let down : moves_of (told b) + heights (view t).lists ≡ heights (view s).lists = omega (arith, M.1, M.2 (none_again least once)) in
        let r = fewer (poll_done S whole accepts b t P).1 least (whole_no_yet S accepts P) down (poll_drains S at_rest wakes_at.not_past P).0
        (λ z. omega (arith, (idle_exactly W P S at_rest wakes_at.not_past).1 z w e)) in
        (r.0, omega (arith, r.1))

-- ---- polls at each wake

-- the call of a run that is one
module _ {s t : QueueWords} {x : Asked} (A : CallClaim x.call s x.answer t) (K : AtWake s x t) where
  as_poll : PollClaim s K.wake x.answer t
  as_poll = subst (λ (c : Call). CallClaim c s x.answer t) K.polled A

-- what is left after them
record Left (s u : QueueWords) (n : ℕ) : Type 0 where
  sound : Sound u
  at_rest : AtRest u
  once : NoneRepeats (view u)
  less : n + heights_and_timers u ≤ heights_and_timers s

woken_left : {s u : QueueWords} {l : List Asked} → Sound s → AtRest s → NoneRepeats (view s) → (R : Runs s l u) → Each AtWake R → Left s u (length l)
woken_left S z f rest E = record { sound = S; at_rest = z; once = f; less = omega arith }
woken_left S z f (next {s} {t} {u} {x} {l} A R) E =
    let K = E.0 in
    let P = as_poll A K in
    let W = K.asked.0 in
    let e = K.answered in
    let M = lessens S W e P f in
    let N = woken_left (after_sound S W e P) (after_rest S W e P) M.0 R E.1 in
    record { sound = N.sound; at_rest = N.at_rest; once = N.once; less = omega (arith, M.1, N.less) }

-- with no timer counted none is pending
none_pending : {v : View} → pending v ≡ 0 → NonePending v
none_pending z r o = omega (arith, pending_some o.1)

-- there are such polls, until nothing is pending
done_with : {s : QueueWords} → NonePending (view s) → Ends s
done_with {s} N = record { calls = []; left = s; woken = record { runs = rest; wakes = tt }; none = N }

-- one more poll at the wake, and then those that there are
woken_on : {s : QueueWords} {a : Answer} {w : ℕ} → Sound s → NoneRepeats (view s) → WakeClaim s a → told a ≡ T.wake w
    → ((t : QueueWords) → heights_and_timers t < heights_and_timers s → Sound t → AtRest t → NoneRepeats (view t) → Ends t) → Ends s
woken_on {s} {a} {w} S f W e then =
    let p = poll_met s w in
    let M = lessens S W e p.2 f in
    let r = then p.1 M.1 (after_sound S W e p.2) (after_rest S W e p.2) M.0 in
    let x = asked (C.Poll w) p.0 in
    let K : AtWake s x p.1 = record { answer = a; wake = w; asked = (W, refl); answered = e; polled = refl } in
    record { calls = x ∷ r.calls; left = r.left; woken = record { runs = next p.2 r.woken.runs; wakes = (K, r.woken.wakes) }; none = r.none }

woken_all : (n : ℕ) (s : QueueWords) → heights_and_timers s ≤ n → Sound s → AtRest s → NoneRepeats (view s) → Ends s
woken_all zero s h S z f = done_with (none_pending (omega (arith, h)))
woken_all (suc n) s h S z f =
    let m = wake_met s in
    ⊎_elim
    (λ y. done_with ((never_exactly m.1 S z).0 y))
    (λ y. woken_on S f m.1 y.1 (λ t l T i g. woken_all n t (omega (arith, h, l)) T i g))
    (wake_or_never ((m.1.good S).free z).done)

-- next wake of a store with no poll in hand
wakes_on : {u : QueueWords} {a : Answer} → Sound u → AtRest u → WakeClaim u a → WakesOn u a
wakes_on S z W =
    let n = never_exactly W S z in
    record { never = (n.0, n.1); time = λ f. ⊎_elim (λ y. absurd (f (n.0 y))) (λ y. y) (wake_or_never ((W.good S).free z).done) }

-- "And if the only calls are whole polls at each wake answered, and no timer repeats, nothing is pending after at most as many as the heights' sum plus the
-- number of timers at the start."
pub wakes_all : {s : QueueWords} → Sound s → AtRest s → NoneRepeats (view s) → WakesAll s
wakes_all {s} S z f =
    record {
      few = λ l u R. omega (arith, (woken_left S z f R.runs R.wakes).less);
      goes_on = λ l u a R W. let N = woken_left S z f R.runs R.wakes in wakes_on N.sound N.at_rest W.0;
      all = λ l u R h. none_pending (omega (arith, h, (woken_left S z f R.runs R.wakes).less));
      ends = woken_all (heights_and_timers s) s (omega arith) S z f;
    }

-- ---- on time

poll_now : {c : Call} {now w : ℕ} → PollAt c now → c ≡ C.Poll w → now ≡ w
poll_now whole e = cc
poll_now limited e = let z : ◌≡◌ {A = ℕ} 0 1 = cc in absurd (omega arith)

on_time_each : {s u : QueueWords} {l : List Asked} → Sound s → (R : Runs s l u) → Each AtWake R → Each OnTime R
on_time_each S rest E = tt
on_time_each S (next {s} {t} {u} {x} A R) E =
    let K = E.0 in
    let P = as_poll A K in (
      λ now k v d m n p h. rw (poll_now p K.polled) (punctual S K.asked.0 K.answered P k v d m n h),
      on_time_each (after_sound S K.asked.0 K.answered P) R E.1,
    )

none_before : {s u : QueueWords} {l : List Asked} {d : ℕ} → Sound s → After d (view s) → (R : Runs s l u) → Each AtWake R → All (NotBefore d) l
none_before S f rest E = tt
none_before {d = d} S f (next {s} {t} {u} {x} A R) E =
    let K = E.0 in
    let P = as_poll A K in (
      λ k v d' m n h.
          let U = punctual S K.asked.0 K.answered P k v d' m n h in
          omega (arith, U.stored, f U.timer (U.place, U.names.pending)),
      none_before (after_sound S K.asked.0 K.answered P) (after_on S K.asked.0 K.answered P d f) R E.1,
    )

never_fall : {s u : QueueWords} {l : List Asked} → Sound s → (R : Runs s l u) → Each AtWake R → NeverFall l
never_fall S rest E = tt
never_fall S (next {s} {t} {u} {x} A R) E =
    let K = E.0 in
    let W = K.asked.0 in
    let e = K.answered in
    let P = as_poll A K in (
      λ k v d m n h. none_before (after_sound S W e P) (after_on S W e P d ((least S W e P).out k v d m n h).least) R E.1,
      never_fall (after_sound S W e P) R E.1,
    )

-- no wake of s is before now
abbrev WakesFrom : ℕ → QueueWords → Type 0
WakesFrom now s = (a : Answer) (w : ℕ) → WakeClaim s a → told a ≡ T.wake w → now ≤ w

-- where no pending deadline is before w, and the clock is at or past the start of the 64 that w lies in, the wheel does not wake before w: a slot above
-- level 0 starts past the clock, at a multiple of 64
module _ {v : View} {w c : ℕ} (R : Rule v.deadline v.elapsed v.lists) (A : WakesAt v c) (f : After w v) (h : 64 * (w / 64) ≤ v.elapsed) where
  abbrev due : ℕ
  due = v.deadline A.item

  behind : (k : ℕ) → level_at A.place ≡ suc k → v.elapsed < floor (suc k) due → w ≤ c
  behind k z g =
      let r : c ≡ floor (suc k) due = A.rounded ∙ ap (λ (j : ℕ). floor j due) z in
      omega (arith, r, g, h, floor_64 k due)

  on_or_behind : w ≤ c
  on_or_behind =
      let m = A.waits.member in
      let p = A.place in
      let b = A.waits.below in
      by_cases (dec_lt p 64)
      (λ l. omega (arith, A.exact l, f A.item (p, record { timed = omega (arith, b); member = m })))
      (λ l.
      by_cases (dec_lt p slots)
      (λ s.
      let k = level_at p - 1 in
      let z : level_at p ≡ suc k = omega (arith, l) in
      behind k z (subst (λ (j : ℕ). v.elapsed < floor j due) z ((on_spot p v.elapsed due (R.wheel p A.item s m)).1 (omega (arith, l)))))
      (λ s.
      let z : p ≡ parking = omega (arith, b, s) in
      let n = next_floor v.elapsed due (R.parked A.item (rw z at m)) in
      behind 5 (omega (arith, z)) (omega (arith, n, end_later v.elapsed))))

-- so no wake is before the one before
module _ {s t : QueueWords} {a b : Answer} {w : ℕ} (S : Sound s) (W : WakeClaim s a) (e : told a ≡ T.wake w) (P : PollClaim s w b t) where
  late_clock : 64 * (w / 64) ≤ elapsed t
  late_clock =
      let K = accepts S W e P in
      by (poll_done S whole K b t P).1 (poll_clock S whole K b t P) (punctual S W e P) (whole_no_yet S K P)
    where
      by : {limit : ℕ} {x : Told} {u : View} → PollsSome (view s) w limit x u → PollClock (view s) w x u
          → ((k v d m n : ℕ) → Hands x k v d m n → Punctual s w k d) → (SaysYet x → ⊥) → 64 * (w / 64) ≤ u.elapsed
      by (nothing_some {m} {n} T) K g y = omega (arith, K.rest m n refl)
      by (handed_some T G) K g y =
          let d : (view s).deadline _ ≡ w = (g _ _ _ _ _ (goes_on_says G)).at_now in
          omega (arith, K.out _ _ _ _ _ (goes_on_says G), ap (λ (i : ℕ). 64 * (i / 64)) d)
      by (not_yet {m = m} {n = n} T) K g y = absurd (y (m, n, refl))

  wakes_later : WakesFrom w t
  wakes_later c w' U i =
      let T = after_sound S W e P in
      let z = after_rest S W e P in
      let N = wake_in_time U T z i in
      let f = after_on S W e P w (wakes_at S W e P).in_time in
      by ((view t).lists expired) refl
      (λ r x. omega (arith, (N.due r x).1, f r (expired, record { timed = omega arith; member = x })))
      (λ n. on_or_behind (T.rule.free z) (N.ahead n) f late_clock)
    where
      by : (l : List ℕ) → (view t).lists expired ≡ l → ((r : ℕ) → Mem r ((view t).lists expired) → w ≤ w') → ((view t).lists expired ≡ [] → w ≤ w') → w ≤ w'
      by [] q f g = g q
      by (r ∷ l) q f g = f r (rw q (inl refl))

none_earlier : {s u : QueueWords} {l : List Asked} {now : ℕ} → Sound s → WakesFrom now s → (R : Runs s l u) → Each AtWake R → All (NotEarlier now) l
none_earlier S f rest E = tt
none_earlier S f (next {s} {t} {u} {x} A R) E =
    let K = E.0 in
    let W = K.asked.0 in
    let e = K.answered in
    let P = as_poll A K in
    let h = f K.answer K.wake W e in (
      λ now' p. omega (arith, h, poll_now p K.polled),
      none_earlier (after_sound S W e P) (λ a w U i. omega (arith, h, wakes_later S W e P a w U i)) R E.1,
    )

never_back : {s u : QueueWords} {l : List Asked} → Sound s → (R : Runs s l u) → Each AtWake R → NeverBack l
never_back S rest E = tt
never_back S (next {s} {t} {u} {x} A R) E =
    let K = E.0 in
    let W = K.asked.0 in
    let e = K.answered in
    let P = as_poll A K in (
      λ now p. rw (poll_now p K.polled) (none_earlier (after_sound S W e P) (wakes_later S W e P) R E.1),
      never_back (after_sound S W e P) R E.1,
    )

-- in whole polls at each wake answered every timer comes out at its stored deadline, repeating ones too, no deadline is less than one before, and no wake is
-- before one before. A poll in hand need not be excluded: 12 is no wake.
pub on_time : {s : QueueWords} → Sound s → (l : List Asked) (u : QueueWords) (W : Woken s l u) → Punctually W.runs
on_time S l u W =
    record {
      each = on_time_each S W.runs W.wakes;
      order = never_fall S W.runs W.wakes;
      wakes = never_back S W.runs W.wakes;
    }

-- ---- such stores there are

-- one timer for w, set at e, where nothing else is pending
module _ {s t : QueueWords} {a : Answer} {e w : ℕ} (Q : Quiet s e) (late : e ≤ w) (k : Takes e w) (I : InsertClaim s 0 w 0 a t) where
  abbrev bare : View
  bare = with_period (upd (view s).period Q.item 0) (with_value (upd (view s).value Q.item 0) (taken Q.rest (view s)))

  bare_empty : (p : ℕ) → p < free → bare.lists p ≡ []
  bare_empty p h = change_other (view s).lists free Q.rest p (omega (arith, h)) ∙ Q.empty p h

  bare_total : (f : ℕ → ℕ → ℕ) (n : ℕ) → n ≤ free → total f n bare.lists ≡ 0
  bare_total f n h = total_ext f n bare.lists (λ p. []) (λ p l. bare_empty p (omega (arith, l, h))) ∙ total_none f n

  set : Answered s a (T.key (key_of (view s) Q.item)) (placed Q.item w bare) t
  set = ((I.good Q.sound).free (quiet_rest Q)).done Q.item Q.rest Q.first (rw Q.clock k)

  set_once : NoneRepeats (view t)
  unfolding placed
  set_once y o =
      let v = placed Q.item w bare in
      let i : IsPending v y = rw set.view at o in
      ⊎_elim
      (λ (z : y ≡ Q.item). ap (λ (u : View). u.period y) set.view ∙ ap bare.period z ∙ upd_same (view s).period Q.item 0)
      (λ j. let m = rw (bare_empty j.0 j.1.timed) at j.1.member in absurd m)
      ((placed_pending Q.item w bare y).0 i)

  set_target : target bare.elapsed (max w bare.elapsed) ≡ target e w
  set_target = let m : max w e ≡ w = omega (arith, late) in rw (Q.clock, m)

  set_measure : heights_and_timers t ≡ height_at (target e w) + 1
  unfolding heights pending
  set_measure =
      let p = ap (λ (u : View). heights u.lists + pending u) set.view in
      omega (
        arith,
        p,
        placed_rises Q.item w bare,
        placed_count Q.item w bare,
        ap (λ (q : ℕ). height_at q) set_target,
        bare_total (λ q y. level_at q) expired (omega arith),
        bare_total (λ q y. 1) free (omega arith),
      )

-- what `asleep`, `wakes_all` and `on_time` ask is met, at any elapsed, with one timer for any deadline that is taken, wherever it lies
pub woken_shown : (e w : ℕ) → e ≤ w → Takes e w
    → (s : QueueWords) × Sound s × AtRest s × NoneRepeats (view s) × (heights_and_timers s ≡ height_at (target e w) + 1)
woken_shown e w h k =
    let q = quiet_shown e in
    let m = insert_met q.0 0 w 0 in
    let S = set q.1 h k m.2 in
    let z : AtRest m.1 = ap (λ (u : View). u.hand) S.view ∙ placed_hand q.1.item w (bare q.1 h k m.2) ∙ quiet_rest q.1 in
    (m.1, S.sound, z, set_once q.1 h k m.2, set_measure q.1 h k m.2)

-- on the expired stack, at each level, and on the parking list
pub levels_shown : (target 5 5 ≡ expired) × (target 1 68719476736 ≡ parking)
    × (height_at (target 0 1) ≡ 0) × (height_at (target 0 64) ≡ 1) × (height_at (target 0 4096) ≡ 2) × (height_at (target 0 262144) ≡ 3)
    × (height_at (target 0 16777216) ≡ 4) × (height_at (target 0 1073741824) ≡ 5) × (height_at (target 1 68719476736) ≡ 6)
unfolding target place_for level_of level_below slot_of width
levels_shown = (refl, refl, refl, refl, refl, refl, refl, refl, refl)
