-- Document 01's starred mornings, "shown of the rules themselves, gathered as a single list under a single claim" (`starred_hold`). And 02 [12]'s
-- first: a timer crosses the block's end (`block_crossed`).
use mathlib.Core.Path.{◌≡◌, refl, sym, ap, ◌∙◌}
use mathlib.Core.Logic.{◌≢◌, inl, by_cases}
use mathlib.Core.List.{[], ◌∷◌, nil≢cons}
use mathlib.Core.Option.{none, some, some-ne-none, some-injective}
use Prim.Native.Nat.{ℕ, ◌+◌, ◌-◌, ◌%◌, ◌≤◌, ◌<◌, max}
use native.Mathlib.Decide.{ℕ_discrete}
use native.Mathlib.Omega.{arith}
use Rattle.times.specs.Times.{width, slot_of, start_at, level_below, level_of, block_end}
use Rattle.times.proofs.laws.Levels.{levels_of_01}
use Rattle.links.specs.Lists.{nobody, change}
use Rattle.links.proofs.laws.Lists.{change_same, change_other}
use Rattle.places.specs.Places.{slot_place, parking, expired, free, put}
use Rattle.places.proofs.laws.Places.{put_empty}
use Rattle.wheel.specs.Wheel.{Lists, place_for, FirstSlot, NextList, in_slot, in_parking, arrive, Drains, drained, moved, Polls, early, out, drain}
use Rattle.wheel.proofs.laws.Next.{list_one, list_not_none}
use Rattle.wheel.proofs.laws.One.{polls_one}
use Rattle.wheel.specs.Limited.{yet, Limited, finds, stops}
use Rattle.wheel.specs.Moves.{gotten}
use Rattle.wheel.proofs.laws.Moves.{got_none}
use Rattle.queue.specs.declared.Answer.{Answer}
use Rattle.queue.specs.Told.{Told, told}
use Rattle.queue.specs.Told as T
use Rattle.records.specs.View.{View}
use Rattle.records.specs.Records.{packed, key_of, At, TooFar, Takes, target, placed}
use Rattle.queue.specs.Steps.{QueuePolls, GoesOn, once, again, ended, polled, popped, handed, nothing, sleeps, starts, NextWake, at_once, from_wheel}
use Rattle.queue.specs.Steps.{polled_some, PollsSome, not_yet}
use Rattle.records.specs.Words.{QueueWords, holding, AtRest, elapsed, view, Sound}
use Rattle.records.proofs.laws.Words.{upd_same}
use Rattle.records.proofs.laws.Cases.{takes_so}
use Rattle.queue.specs.Calls.{Refused}
use Rattle.delay_queue.specs.Claims.{InsertClaim, PollClaim}
use Rattle.pausing.proofs.laws.Pausing.{polls_one as polls-same}
use Rattle.promises.specs.OneCall.{is_no}
use Rattle.promises.specs.Runs.{moves_of}
use Rattle.promises.specs.Chained.{OnlyHeld}
use Rattle.promises.proofs.laws.Met.{poll_met}
use Rattle.promises.proofs.laws.Chained.{limit_zero}
use Rattle.promises.proofs.laws.Polling.{freed_beside}
use Rattle.promises.proofs.laws.TakesOut.{key_of_names}
use Rattle.promises.specs.Quiet.{Quiet}
use Rattle.promises.proofs.laws.Quiet.{quiet_rest}
use Rattle.promises.specs.Mornings.{polls, refused, taken, wakes, Holds, starred, AllOf, Crosses}

-- ---- 4, and 5 no longer

same_so : {s t : QueueWords} {a : Answer} {k : ℕ} → Refused k s a t → (told a ≡ T.no k) × (t ≡ s)
same_so R = (R.told, R.same)

refused_four_at : Holds (refused 0 68719476736 4)
refused_four_at s t a S z e =
    let f : TooFar (elapsed s) 68719476736 = (omega arith, omega (arith, e)) in
    (λ value period r l g I. same_so (((I.good S).free z).far r l g f), λ key r p N I. same_so (((I.good S).free z).far r p N f))

taken_at : Holds (taken 1 68719476736)
taken_at s t a S z e =
    let k : Takes (elapsed s) 68719476736 = takes_so (omega (arith, e)) (λ h. omega (arith, e)) in
    (λ value period r l g I. (((I.good S).free z).done r l g k).told, λ key r p N I. (((I.good S).free z).done r p N k).told)

-- ---- one timer that waits

-- x alone waits, in p
record Only (L : Lists) (p x : ℕ) : Type 0 where
  here : L p ≡ x ∷ []
  else : (q : ℕ) → q < expired → q ≢ p → L q ≡ []

-- its slot is the first
only_first : {L : Lists} {x : ℕ} (e k s : ℕ) → k < 6 → slot_of e k ≤ s → s < 64 → Only L (slot_place k s) x → FirstSlot e L k s
only_first {L} {x} e k s hk h hs O =
    record {
      within = hk;
      lowest = λ q g. O.else q (omega arith) (omega arith);
      steps = s - slot_of e k;
      near = omega arith;
      is = omega arith;
      passed = λ j g. O.else (slot_place k ((slot_of e k + j) % 64)) (omega arith) (omega arith);
      head = x;
      rest = [];
      filled = O.here;
    }

-- it comes to an empty wheel
only_put : (L : Lists) (p x : ℕ) → p < expired → ((q : ℕ) → q < expired → L q ≡ []) → Only (change L p (put p x (L p))) p x
only_put L p x hp E =
    record {
      here = change_same L p (put p x (L p)) ∙ ap (put p x) (E p hp) ∙ put_empty p x;
      else = λ q h d. change_other L p (put p x (L p)) q d ∙ E q h;
    }

-- a drain takes it to the slot q of its deadline, one level down
only_drained : {L : Lists} {p x : ℕ} (d : ℕ → ℕ) (k q : ℕ) → p < expired → q < expired → p ≢ q → slot_place k (slot_of (d x) k) ≡ q → Only L p x
    → (M : Lists) × Drains d k p L 1 M × Only M q x
unfolding arrive
only_drained {L} {p} {x} d k q hp hq n e O =
    let rest : (r : ℕ) → r < expired → change L p [] r ≡ []
    = λ r h. by_cases (ℕ_discrete r p) (λ z. rw (z, change_same L p [])) (λ z. change_other L p [] r z ∙ O.else r h z) in
    let M = arrive k (d x) x (change L p []) in
    let A : Only M q x = rw (← e) (only_put (change L p []) (slot_place k (slot_of (d x) k)) x (omega arith) rest) in
    (M, moved O.here (drained (A.else p hp n)), A)

-- ---- "4101 inserted at 0 wakes at 4096; poll(4096) gives none, 2 moves, 2 drains"

-- level 2, slot 1
first_then : {L : Lists} {x : ℕ} → Only L 129 x → FirstSlot 0 L 2 1
unfolding slot_of width
first_then O = only_first 0 2 1 (omega arith) (omega arith) (omega arith) O

-- it goes to slot 0 of level 1, then to slot 5 of level 0, which starts at 4101
one_polls : {L : Lists} {x : ℕ} (d : ℕ → ℕ) → d x ≡ 4101 → Only L 129 x → (M : Lists) × Polls d 4096 0 L none 2 2 4096 M × Only M 5 x
unfolding slot_of width start_at
one_polls {L} {x} d e O =
    let A = only_drained d 1 64 (omega arith) (omega arith) (omega arith) (ap (λ w. slot_place 1 (slot_of w 1)) e) O in
    let B = only_drained d 0 5 (omega arith) (omega arith) (omega arith) (ap (λ w. slot_place 0 (slot_of w 0)) e) A.2 in
    let F = only_first 4096 1 0 (omega arith) (omega arith) (omega arith) A.2 in
    let G = only_first 4096 0 5 (omega arith) (omega arith) (omega arith) B.2 in
    (B.0, drain (in_slot (first_then O)) (omega arith) A.1 (drain (in_slot F) (omega arith) B.1 (early (in_slot G) (omega arith))), B.2)

-- what the insert leaves
record Inserted (v : View) (x : ℕ) : Type 0 where
  at_rest : v.hand ≡ nobody
  clock : v.elapsed ≡ 0
  expired : v.lists expired ≡ []
  only : Only v.lists 129 x
  deadline : v.deadline x ≡ 4101

target_then : (e : ℕ) → e ≡ 0 → target e (max 4101 e) ≡ 129
unfolding target place_for level_of level_below slot_of width
target_then e z = rw z

placed_then : (v : View) (x : ℕ) → v.hand ≡ nobody → v.elapsed ≡ 0 → ((p : ℕ) → p < free → v.lists p ≡ []) → Inserted (placed x 4101 v) x
unfolding placed
placed_then v x z e E =
    let t : target v.elapsed (max 4101 v.elapsed) ≡ 129 = target_then v.elapsed e in
    record {
      at_rest = z;
      clock = e;
      expired = rw t (change_other v.lists 129 (put 129 x (v.lists 129)) expired (omega arith) ∙ E expired (omega arith));
      only = rw t (only_put v.lists 129 x (omega arith) (λ q h. E q (omega arith)));
      deadline = upd_same v.deadline x (max 4101 v.elapsed) ∙ rw e;
    }

inserted : {s s' : QueueWords} {a : Answer} {value period : ℕ} → (Q : Quiet s 0) → InsertClaim s value 4101 period a s'
    → Sound s' × Inserted (view s') Q.item
inserted {s} {s'} {a} {value} Q I =
    let k : Takes (elapsed s) 4101 = takes_so (omega (arith, Q.clock)) (λ h. omega (arith, Q.clock)) in
    let A = ((I.good Q.sound).free (quiet_rest Q)).done Q.item Q.rest Q.first k in (
      A.sound,
      rw A.view (placed_then _ Q.item (quiet_rest Q) Q.clock
          (λ p h. change_other (view s).lists free Q.rest p (omega arith) ∙ Q.empty p h)),
    )

wakes_one : (v : View) (x : ℕ) → Inserted v x → {y : Told} → NextWake v y → y ≡ T.wake 4096
unfolding start_at width
wakes_one v x R (at_once e) = absurd (nil≢cons (sym R.expired ∙ e))
wakes_one v x R (from_wheel e (sleeps E)) = absurd (list_not_none (in_slot (first_then R.only)) E)
wakes_one v x R (from_wheel e (starts X)) = ap T.wake (list_one (rw R.clock at X) (in_slot (first_then R.only))).start

wakes_then : Holds (wakes 0 4101 4096)
wakes_then s s' a b value period Q I W = let R = inserted Q I in wakes_one (view s') Q.item R.1 ((W.good R.0).free R.1.at_rest).done

polls_so : (v : View) (x : ℕ) → Inserted v x → {y : Told} {u : View} → QueuePolls v 4096 y u → (y ≡ T.none 2 2) × (u.elapsed ≡ 4096)
polls_so v x R (handed (popped e) G) = absurd (nil≢cons (sym R.expired ∙ e))
polls_so v x R (handed (polled e P) G) = let A = one_polls v.deadline R.deadline R.only in
    absurd (some-ne-none _ (polls_one (rw R.clock at P) A.1).got)
polls_so v x R (nothing (polled e P)) =
    let A = one_polls v.deadline R.deadline R.only in
    let S = polls_one (rw R.clock at P) A.1 in
    (rw (S.moves, S.drains), S.elapsed)

polls_then : Holds (polls 0 4101 4096 2 2)
polls_then s s' s'' a b value period Q I P =
    let R = inserted Q I in
    polls_so (view s') Q.item R.1 (((P.good R.0).free R.1.at_rest).done (omega (arith, R.1.clock))).1

-- ---- all of them

-- the starred mornings hold
pub starred_hold : AllOf Holds starred
starred_hold =
    let l = levels_of_01 in
    (l.0, (l.1, (l.2, (l.3, (l.4, (l.5, (l.6, (l.7, (refused_four_at, (taken_at, (wakes_then, (polls_then, tt))))))))))))

-- ---- the block is crossed

only_parking : {L : Lists} {x : ℕ} → Only L parking x → NextList 1 L 6 parking 68719476736
unfolding block_end
only_parking O = in_parking (λ q h. O.else q (omega (arith, h)) (omega (arith, h))) O.here

-- it goes to level 5, then down, always to slot 0, which starts there too
one_crosses : {L : Lists} {x : ℕ} (d : ℕ → ℕ) → d x ≡ 68719476736 → Only L parking x
    → (M : Lists) × Polls d 68719476736 1 L (some x) 6 6 68719476736 M
unfolding slot_of width start_at
one_crosses {L} {x} d e O =
    let to : (k : ℕ) → slot_place k (slot_of (d x) k) ≡ slot_place k (slot_of 68719476736 k) = λ k. ap (λ w. slot_place k (slot_of w k)) e in
    let F = only_drained d 5 320 (omega arith) (omega arith) (omega arith) (to 5) O in
    let E = only_drained {L = F.0} d 4 256 (omega arith) (omega arith) (omega arith) (to 4) F.2 in
    let D = only_drained {L = E.0} d 3 192 (omega arith) (omega arith) (omega arith) (to 3) E.2 in
    let C = only_drained {L = D.0} d 2 128 (omega arith) (omega arith) (omega arith) (to 2) D.2 in
    let B = only_drained {L = C.0} d 1 64 (omega arith) (omega arith) (omega arith) (to 1) C.2 in
    let A = only_drained {L = B.0} d 0 0 (omega arith) (omega arith) (omega arith) (to 0) B.2 in
    let f = only_first {L = F.0} 68719476736 5 0 (omega arith) (omega arith) (omega arith) F.2 in
    let e = only_first {L = E.0} 68719476736 4 0 (omega arith) (omega arith) (omega arith) E.2 in
    let d = only_first {L = D.0} 68719476736 3 0 (omega arith) (omega arith) (omega arith) D.2 in
    let c = only_first {L = C.0} 68719476736 2 0 (omega arith) (omega arith) (omega arith) C.2 in
    let b = only_first {L = B.0} 68719476736 1 0 (omega arith) (omega arith) (omega arith) B.2 in
    let a = only_first {L = A.0} 68719476736 0 0 (omega arith) (omega arith) (omega arith) A.2 in (
      _,
      drain {M = F.0} (only_parking O) (omega arith) F.1
          (drain {L = F.0} {M = E.0} (in_slot f) (omega arith) E.1
          (drain {L = E.0} {M = D.0} (in_slot e) (omega arith) D.1
          (drain {L = D.0} {M = C.0} (in_slot d) (omega arith) C.1
          (drain {L = C.0} {M = B.0} (in_slot c) (omega arith) B.1
          (drain {L = B.0} {M = A.0} (in_slot b) (omega arith) A.1 (out a (omega arith) A.2.here)))))),
    )

-- what the insert leaves
record Parks (v : View) (x y : ℕ) : Type 0 where
  clock : v.elapsed ≡ 1
  expired : v.lists expired ≡ []
  only : Only v.lists parking x
  deadline : v.deadline x ≡ 68719476736
  value : v.value x ≡ y
  period : v.period x ≡ 0

target_park : (e : ℕ) → e ≡ 1 → target e (max 68719476736 e) ≡ parking
unfolding target
target_park e z = rw z

placed_park : (v : View) (x value : ℕ) → v.elapsed ≡ 1 → v.value x ≡ value → v.period x ≡ 0 → ((p : ℕ) → p < free → v.lists p ≡ [])
    → Parks (placed x 68719476736 v) x value
unfolding placed
placed_park v x value e ev ep E =
    let t : target v.elapsed (max 68719476736 v.elapsed) ≡ parking = target_park v.elapsed e in
    record {
      clock = e;
      expired = rw t (change_other v.lists parking (put parking x (v.lists parking)) expired (omega arith) ∙ E expired (omega arith));
      only = rw t (only_put v.lists parking x (omega arith) (λ q h. E q (omega (arith, h))));
      deadline = upd_same v.deadline x (max 68719476736 v.elapsed) ∙ rw e;
      value = ev;
      period = ep;
    }

crossing : (v : View) (x value : ℕ) → Parks v x value → {y : Told} {u : View} → QueuePolls v 68719476736 y u
    → (y ≡ T.out (key_of v x) value 68719476736 6 6) × (u.elapsed ≡ 68719476736)
crossing v x value R (handed (popped e) G) = absurd (nil≢cons (sym R.expired ∙ e))
crossing v x value R (nothing (polled e P)) =
    let A = one_crosses v.deadline R.deadline R.only in
    absurd (some-ne-none _ (sym (polls_one (rw R.clock at P) A.1).got))
crossing v x value R {y} {u} (handed {r} {m} {n} {u = w} (polled {e = c} {L = N} e P) G) =
    let A = one_crosses v.deadline R.deadline R.only in
    let S = polls_one (rw R.clock at P) A.1 in
    let i : r ≡ x = some-injective r x S.got in
    by G S.moves S.drains i S.elapsed
  where
    by : {r m n : ℕ} {w : View} {y : Told} {u : View} → GoesOn v r m n w y u → m ≡ 6 → n ≡ 6 → r ≡ x → w.elapsed ≡ 68719476736
        → (y ≡ T.out (key_of v x) value 68719476736 6 6) × (u.elapsed ≡ 68719476736)
    by {r} {w = w} (once z) em en i ec = (rw (em, en, i, R.value, R.deadline), (freed_beside r w).elapsed ∙ ec)
    by {r} (again p f) em en i ec = absurd (omega (arith, p, ap v.period i, R.period))
    by {r} (ended p f) em en i ec = absurd (omega (arith, p, ap v.period i, R.period))

waking : (v : View) (x value : ℕ) → Parks v x value → {y : Told} → NextWake v y → y ≡ T.wake 68719476736
waking v x value R (at_once e) = absurd (nil≢cons (sym R.expired ∙ e))
waking v x value R (from_wheel e (sleeps E)) = absurd (list_not_none (only_parking R.only) E)
waking v x value R (from_wheel e (starts X)) = ap T.wake (list_one (rw R.clock at X) (only_parking R.only)).start

-- a poll with no move allowed
pausing : (v : View) (x value : ℕ) → Parks v x value → v.hand ≡ nobody → {y : Told} {u : View} → PollsSome v 68719476736 0 y u
    → (y ≡ T.yet 0 0) × (u.hand ≡ parking)
pausing v x value R z P =
    let l : Limited v.deadline 68719476736 (gotten v.hand) 0 v.elapsed v.lists (yet parking) 0 0 v.elapsed v.lists
    = rw (got_none v.hand z, R.clock) (finds (only_parking R.only) (omega arith) (stops R.only.here)) in
    let q = polls-same P (not_yet (polled_some R.expired l)) in
    (q.0, ap (λ u. u.hand) q.1)

held_parking : {s t : QueueWords} {now : ℕ} → OnlyHeld s now t → t.hand ≡ parking → t ≡ holding parking now s
held_parking {s} {t} {now} O e = O.is ∙ ap (λ p. holding p now s) (sym (ap (λ u. u.hand) O.is) ∙ e)

-- "The e=1, w=2^36 case is now accepted.", and comes out at the block's end
pub block_crossed : {s s' : QueueWords} {a : Answer} {value : ℕ} → Quiet s 1 → InsertClaim s value 68719476736 0 a s' → Crosses s' a value
unfolding placed
block_crossed {s} {s'} {a} {value} Q I =
    let x = Q.item in
    let A = ((I.good Q.sound).free (quiet_rest Q)).done x Q.rest Q.first (takes_so (omega (arith, Q.clock)) (λ h. omega (arith, Q.clock))) in
    let R : Parks (view s') x value
    = rw A.view (placed_park _ x value Q.clock (upd_same (view s).value x value) (upd_same (view s).period x 0)
    (λ p h. change_other (view s).lists free Q.rest p (omega arith) ∙ Q.empty p h)) in
    let rest : AtRest s' = ap (λ v. v.hand) A.view ∙ quiet_rest Q in
    let turn : (view s').turn x ≡ (view s).turn x = ap (λ v. v.turn x) A.view in
    let whole_out : (b : Answer) (s'' : QueueWords) → PollClaim s' 68719476736 b s''
    → (told b ≡ T.out (key_of (view s') x) value 68719476736 6 6) × (elapsed s'' ≡ 68719476736)
    = λ b s'' P. crossing (view s') x value R (((P.good A.sound).free rest).done (omega (arith, R.clock))).1 in
    let m : At (view s') x parking = record { timed = omega arith; member = rw R.only.here (inl refl) } in
    record {
      key = key_of (view s') x;
      taken = A.told ∙ ap (λ t. T.key (packed t x)) (sym turn);
      timer = x;
      parked = key_of_names A.sound m;
      wakes = λ b W. waking (view s') x value R ((W.good A.sound).free rest).done;
      out = whole_out;
      paused = λ b s'' P.
          let y = pausing (view s') x value R rest (((P.good A.sound).free rest).done (omega (arith, R.clock))).1 in
          let m = poll_met s' 68719476736 in
          let Z = limit_zero b m.0 P m.2 (ap is_no y.0) in
          (y.0, held_parking (Z.due (λ e. omega (arith, e, ap moves_of (whole_out m.0 m.1 m.2).0))).1 y.1);
    }
