-- A call on a sound store is refused, or is accepted and does what its claim says: the cases of `CallClaim`, for proofs over runs.
use mathlib.Core.Path.{◌≡◌, refl, sym, subst}
use mathlib.Core.Logic.{◌≢◌, ◌⊎◌, inl, inr, ⊎_elim, by_cases}
use mathlib.Core.Bool.{true}
use mathlib.Core.List.{List, [], ◌∷◌}
use mathlib.Core.Option.{Option}
use Prim.Native.Nat.{ℕ, ◌+◌, ◌<◌}
use native.Mathlib.Decide.{dec_lt, ℕ_discrete}
use native.Mathlib.Omega.{arith}
use Rattle.links.specs.Lists.{nobody}
use Rattle.places.specs.Places.{free}
use Rattle.wheel.specs.Limited.{ended as stopped, Limited}
use Rattle.wheel.specs.Moves.{gotten}
use Rattle.wheel.proofs.laws.Moves.{got_none}
use Rattle.wheel.proofs.laws.Limited.{polls_limited}
use Rattle.queue.specs.declared.Answer.{Answer}
use Rattle.queue.specs.Told.{Told, told}
use Rattle.queue.specs.Steps.{TakesOut, popped, polled, QueuePolls, handed, nothing, TakesSome, popped_some, polled_some}
use Rattle.queue.specs.Steps.{PollsSome, handed_some, nothing_some, PollsRest, handed_rest, nothing_rest}
use Rattle.records.specs.View.{View, with_elapsed, with_lists, with_hand}
use Rattle.records.specs.Words.{QueueWords, elapsed, view, AtRest, MidPoll, Sound}
use Rattle.queue.specs.Calls.{Refused, InsertOn, ResetOn, RemoveOn, Freely}
use Rattle.delay_queue.specs.declared.Call.{Call}
use Rattle.delay_queue.specs.declared.Call.TheVariants as C
use Rattle.delay_queue.specs.Claims.{FormatClaim, CallClaim}
use Rattle.records.proofs.laws.Cases.{by_deadline, by_key}
use Rattle.promises.proofs.laws.Decided.{sound_dec, fits_dec, range_dec}
use Rattle.promises.specs.Runs.{is_poll}
use Rattle.promises.specs.Does.{Does, cleared, formatted, inserted, measured, polled, refused, removed, replaced, woke}
use Rattle.pausing.specs.Pausing.{PollTaken}
use Rattle.promises.specs.Polls.{PollAt, whole, limited}

-- ---- polls: whatever is asked and whatever was in hand, one that is taken is a poll with some limit

rest_some : {v : View} {now : ℕ} {x : Told} {w : View} → PollsRest v now x w → (limit : ℕ) × PollsSome v now limit x w
rest_some (handed_rest {limit} T G) = (limit, handed_some T G)
rest_some (nothing_rest {limit} T) = (limit, nothing_some T)

module _ {s : QueueWords} (S : Sound s) where
  pub whole_takes : AtRest s → {now m n : ℕ} {got : Option ℕ} {u : View} → TakesOut (view s) now got m n u
      → (limit : ℕ) × TakesSome (view s) now limit (stopped got) m n u
  whole_takes rest (popped e) = (0, popped_some e)
  whole_takes rest {now} {m} {n} {got} (polled {e = c} {L = L} e P) =
      let v : View = with_elapsed c (with_lists L (view s)) in
      let q : Limited (view s).deadline now (gotten s.hand) (m + 0) (view s).elapsed (view s).lists (stopped got) m n c L
      = subst (λ (h : Option ℕ). Limited (view s).deadline now h (m + 0) (view s).elapsed (view s).lists (stopped got) m n c L)
      (sym (got_none s.hand rest)) (polls_limited P 0) in
      let same : v ≡ with_hand nobody 0 v = λ i. with_hand (rest i) (S.no_now rest i) v in
      (m + 0, subst (TakesSome (view s) now (m + 0) (stopped got) m n) (sym same) (polled_some e q))

  whole_some : AtRest s → {now : ℕ} {x : Told} {w : View} → QueuePolls (view s) now x w → (limit : ℕ) × PollsSome (view s) now limit x w
  whole_some rest (handed T G) = let q = whole_takes rest T in (q.0, handed_some q.1 G)
  whole_some rest (nothing T) = let q = whole_takes rest T in (q.0, nothing_some q.1)

  -- and one that goes on from nothing
  pub whole_rest : AtRest s → {now : ℕ} {x : Told} {w : View} → QueuePolls (view s) now x w → PollsRest (view s) now x w
  whole_rest rest (handed T G) = handed_rest (whole_takes rest T).1 G
  whole_rest rest (nothing T) = nothing_rest (whole_takes rest T).1

  pub poll_done : {c : Call} {now : ℕ} → PollAt c now → PollTaken (view s) now → (a : Answer) (t : QueueWords) → CallClaim c s a t
      → (limit : ℕ) × PollsSome (view s) now limit (told a) (view t)
  poll_done whole K a t P =
      by_cases (ℕ_discrete s.hand nobody)
      (λ z. whole_some z (((P.good S).free z).done (K.later z)).1)
      (λ d. rest_some ((P.good S).same d (K.same d)).1)
  poll_done (limited {limit = limit}) K a t P =
      by_cases (ℕ_discrete s.hand nobody)
      (λ z. (limit, (((P.good S).free z).done (K.later z)).1))
      (λ d. (limit, ((P.good S).same d (K.same d)).1))

-- every poll at now is refused with the number k
abbrev pub NoPoll : QueueWords → ℕ → ℕ → Type 0
NoPoll s now k = (c : Call) → PollAt c now → (a : Answer) (t : QueueWords) → CallClaim c s a t → Refused k s a t

-- whole or with a limit, all polls at now are refused alike, or taken
pub polls_taken : {s : QueueWords} → Sound s → (now : ℕ) → ((k : ℕ) × NoPoll s now k) ⊎ PollTaken (view s) now
polls_taken {s} S now =
    by_cases (ℕ_discrete s.hand nobody)
    (λ z. by_cases (dec_lt now (elapsed s)) (λ h. inl (7, back z h)) (λ h. inr (record { same = λ d. absurd (d z); later = λ _. omega arith })))
    (λ d. by_cases (ℕ_discrete now s.until) (λ e. inr (record { same = λ _. e; later = λ z. absurd (d z) })) (λ n. inl (12, other d n)))
  where
    back : AtRest s → now < elapsed s → NoPoll s now 7
    back z h c whole a t P = ((P.good S).free z).back h
    back z h c limited a t P = ((P.good S).free z).back h

    other : MidPoll s → now ≢ s.until → NoPoll s now 12
    other d n c whole a t P = (P.good S).other d n
    other d n c limited a t P = (P.good S).other d n

-- whatever is lent
pub polls_judged : (s : QueueWords) (now : ℕ) → ((k : ℕ) × NoPoll s now k) ⊎ (Sound s × PollTaken (view s) now)
polls_judged s now = by_cases (sound_dec s) (λ S. ⊎_elim inl (λ K. inr (S, K)) (polls_taken S now)) (λ n. inl (2, bad n))
  where
    bad : (Sound s → ⊥) → NoPoll s now 2
    bad n c whole a t P = P.bad n
    bad n c limited a t P = P.bad n

-- ---- the calls

pub poll_is : {c : Call} {now : ℕ} → PollAt c now → is_poll c ≡ true
poll_is whole = refl
poll_is limited = refl

module _ {s : QueueWords} {a : Answer} {t : QueueWords} (S : Sound s) where
  format_does : {n turn : ℕ} → FormatClaim s n turn a t → Does s a t (C.Format n turn)
  format_does {n} {turn} F =
      by_cases (fits_dec s n)
      (λ x. by_cases (range_dec turn) (λ y. formatted (F.done x y)) (λ f. refused (F.outside x f)))
      (λ f. refused (F.short f))

  insert_does : {value when period : ℕ} → InsertOn s value when period a t → Does s a t (C.Insert value when period)
  insert_does {value} {when} {period} I = by ((view s).lists free) refl
    where
      by : (l : List ℕ) → (view s).lists free ≡ l → Does s a t (C.Insert value when period)
      by [] e = refused (I.full e)
      by (r ∷ l) e =
          by_deadline (elapsed s) when
          (λ f. refused (I.old r l e f))
          (λ f. refused (I.far r l e f))
          (λ f. inserted e f (I.done r l e f))

  reset_does : {key when : ℕ} → ResetOn s key when a t → Does s a t (C.Reset key when)
  reset_does {key} {when} R =
      by_key S key
      (λ r p N.
      by_deadline (elapsed s) when
      (λ f. refused (R.old r p N f))
      (λ f. refused (R.far r p N f))
      (λ f. replaced N f (R.done r p N f)))
      (λ f. refused (R.dead f))

  remove_does : {key : ℕ} → RemoveOn s key a t → Does s a t (C.Remove key)
  remove_does {key} R = by_key S key (λ r p N. removed N (R.done r p N)) (λ f. refused (R.dead f))

  -- a poll is taken or it is refused
  pub poll_taken : {c : Call} {now : ℕ} → PollAt c now → CallClaim c s a t → ((k : ℕ) × Refused k s a t) ⊎ PollTaken (view s) now
  poll_taken {c} {now} p P = ⊎_elim (λ x. inl (x.0, x.1 c p a t P)) inr (polls_taken S now)

  poll_does : {c : Call} {now : ℕ} → PollAt c now → CallClaim c s a t → Does s a t c
  poll_does c P = ⊎_elim (λ r. refused r.1) (λ K. polled c K (poll_done S c K a t P).1) (poll_taken c P)

  -- ---- the other calls: "Until that poll ends, insert, remove, reset, next wake .. are refused with 12"

  freely : {On : Type 0} {c : Call} → Freely s a t On → (On → Does s a t c) → Does s a t c
  freely F f = by_cases (ℕ_discrete s.hand nobody) (λ z. f (F.free z)) (λ d. refused (F.held d))

  pub does : (c : Call) → CallClaim c s a t → Does s a t c
  does (C.Format n turn) A = format_does A
  does (C.Insert value when period) A = freely (A.good S) insert_does
  does (C.Reset key when) A = freely (A.good S) reset_does
  does (C.Remove key) A = freely (A.good S) remove_does
  does (C.Poll now) A = poll_does whole A
  does (C.PollSome now limit) A = poll_does (limited {limit = limit}) A
  does C.Wake A =
      by_cases (ℕ_discrete s.hand nobody) (λ z. woke ((A.0.good S).free z).done A.1)
      (λ d. let r = (A.0.good S).held d in refused (record { told = r.told; same = A.1 }))
  does C.Length A = measured (A.0.good S).done A.1
  does C.Clear A = cleared (A.good S)
