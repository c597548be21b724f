-- How long a due timer waits: no more accepted polls than timers were pending.
use mathlib.Core.Path.{◌≡◌, refl, sym, ap, ◌∙◌}
use mathlib.Core.Logic.{inl, inr, ⊎_elim, by_cases, ◌≢◌}
use mathlib.Core.Bool.{Bool, true, false, not, ◌&&◌, cond, true≢false, and-false}
use mathlib.Core.List.{List, [], ◌∷◌}
use mathlib.Core.Option.{none}
use Prim.Native.Nat.{ℕ, ◌+◌, ◌≤◌, ◌<◌}
use native.Mathlib.Decide.{ℕ_discrete}
use native.Mathlib.Omega.{arith}
use lib.Dec.{eqb}
use borrow.Author.Tests.{lt-leb}
use Rattle.links.specs.Count.{bit}
use Rattle.places.specs.Places.{free}
use Rattle.wheel.proofs.laws.Sums.{hits, total_le, lies_times}
use Rattle.queue.specs.Told.{Told, told, Hands, timer}
use Rattle.queue.specs.Told as T
use Rattle.records.specs.View.{View}
use Rattle.records.specs.Records.{key_of, At, left, freed}
use Rattle.queue.specs.Steps.{PollsSome, pending, nothing_some, not_yet, handed_some}
use Rattle.records.specs.Words.{QueueWords, view, Sound}
use Rattle.wheel.specs.Limited.{ended as stopped, yet}
use Rattle.pausing.specs.Pausing.{PollTaken}
use Rattle.promises.specs.Polls.{PollAt, whole, limited}
use Rattle.delay_queue.specs.declared.Call.{Call}
use Rattle.delay_queue.specs.declared.Call.TheVariants as C
use Rattle.delay_queue.specs.Claims.{CallClaim}
use Rattle.promises.specs.OneCall.{is_no}
use Rattle.promises.proofs.laws.OneCall.{call_sound}
use Rattle.promises.specs.Runs.{Asked, Runs, rest, next, accepted, ends, All, tally_ended}
use Rattle.promises.proofs.laws.Views.{ViewGoes, refuses, formats, inserts, resets, removes, polls, wakes, counts, clears, call_goes, key_inserts}
use Rattle.promises.specs.Polling.{Dead, Finished}
use Rattle.promises.proofs.laws.Polling.{none_out, TakenBy, freed_beside, takes_works, goes_on_says, least_of}
use Rattle.promises.proofs.laws.Moves.{left_total, freed_total}
use Rattle.promises.proofs.laws.KeysGone.{spent_unnamed, remove_spent}
use Rattle.promises.specs.KeysStay.{Aims, HandsKey}
use Rattle.promises.proofs.laws.KeysStay.{does_stays}
use Rattle.promises.specs.KeysReach.{Reaches}
use Rattle.promises.proofs.laws.KeysReach.{poll_tells, stays_reaches}
use Rattle.promises.proofs.laws.Outs.{does_was, emptied}
use Rattle.promises.specs.Waiting.{disturbs, Undisturbed, due_poll, Some, ComesOut, NotRemoved, Waited, NoneRepeats}
use Rattle.promises.proofs.laws.TakesOut.{taken_out, key_of_names}
use Rattle.queue.proofs.laws.Polls.{left_less}

-- ---- how many are pending

removed_fewer : (p r : ℕ) (v : View) → pending (freed r (left p r v)) ≤ pending v
unfolding pending
removed_fewer p r v = omega (arith, freed_total (λ q x. 1) free r (left p r v) (omega arith), left_total (λ q x. 1) free p r v)

pub pending_some : {v : View} {r p : ℕ} → At v r p → 0 < pending v
unfolding pending
pending_some {v} {r} {p} a =
    let few = total_le (λ q x. hits r x) (λ q x. 1) free v.lists (λ q x h. one (eqb x r)) in
    omega (arith, lies_times free v.lists r p a.timed a.member, few)
  where
    one : (b : Bool) → bit b ≤ 1
    one true = omega arith
    one false = omega arith

-- ---- one quiet call, and the timer that the key k reaches, with the value y and the deadline d

-- an ended poll at which d is due
abbrev pub counted : ℕ → Call → Told → ℕ
counted d c x = cond (due_poll d c && ends x) 1 0

counted_one : (d : ℕ) (c : Call) (x : Told) → counted d c x ≤ 1
counted_one d c x = by (due_poll d c && ends x)
  where
    by : (b : Bool) → cond b 1 0 ≤ 1
    by true = omega arith
    by false = omega arith

none_fewer : {v u : View} {now m n : ℕ} → TakenBy v now (stopped none) m n u → pending u ≡ pending v
unfolding pending
none_fewer F = omega (arith, F.kept (λ x. 1))

yet_fewer : {v u : View} {now p m n : ℕ} → TakenBy v now (yet p) m n u → pending u ≡ pending v
unfolding pending
yet_fewer F = omega (arith, F.kept (λ x. 1))

-- it waits on, and each ended poll at which it was due has handed out another; or it comes out; or it is removed
pub data Went (v : View) (k y d : ℕ) (c : Call) (x : Told) (w : View) : Type 0 where
  waits : Reaches w k y 0 d → NoneRepeats w → pending w + counted d c x ≤ pending v → Went v k y d c x w
  comes : {now m n : ℕ} → PollAt c now → Hands x k y d m n → Dead w k → Went v k y d c x w
  leaves : c ≡ C.Remove k → is_no x ≡ false → Dead w k → Went v k y d c x w

-- where nothing repeats, nothing does after a record was removed
removed_once : (p i : ℕ) (v : View) → NoneRepeats v → NoneRepeats (freed i (left p i v))
unfolding left
removed_once p i v f y k =
    let B = freed_beside i (left p i v) in
    let m = left_less p i v k.0 y (rw (B.lists k.0 k.1.timed) at k.1.member) in
    ap (λ g. g y) B.period ∙ f y (k.0, record { timed = k.1.timed; member = m })

module _ {s : QueueWords} (S : Sound s) (once : NoneRepeats (view s)) {k y d : ℕ} (R : Reaches (view s) k y 0 d) where
  -- the call does not take it
  waits_on : {c : Call} {x : Told} {w : View} → ViewGoes (view s) c x w → (Aims k c → not (is_no x) ≡ false) → (HandsKey k x → ⊥) → NoneRepeats w
      → pending w + counted d c x ≤ pending (view s) → Went (view s) k y d c x w
  waits_on D aims out f few = waits (stays_reaches R (does_stays S R.names D aims out)) f few

  no_aim : {c : Call} {now : ℕ} → PollAt c now → Aims k c → ⊥
  no_aim whole a = a
  no_aim limited a = a

  -- a poll before the deadline does not count
  late_uncounted : {c : Call} {now : ℕ} → PollAt c now → now < d → due_poll d c ≡ false
  late_uncounted (whole {now}) h = lt-leb d now h
  late_uncounted (limited {now}) h = lt-leb d now h

  went_poll : {c : Call} {now limit : ℕ} {x : Told} {w : View} → PollAt c now → PollTaken (view s) now → PollsSome (view s) now limit x w
      → Went (view s) k y d c x w
  went_poll {c} {now} at h (nothing_some {m} {n} {u} T) =
      let O = taken_out S h T in
      let F = takes_works S h T in
      let late : now < d = omega (arith, F.fair R.number (R.place, R.names.pending), R.deadline) in
      waits_on (polls at h (nothing_some T)) (λ a. absurd (no_aim at a)) (λ o. none_out o.4)
      (λ i q. ap (λ g. g i) O.period ∙ once i (O.was i q.0 q.1))
      (rw (late_uncounted at late) (omega (arith, none_fewer F)))
  went_poll {c} at h (not_yet {m = m} {n = n} T) =
      let O = taken_out S h T in
      waits_on (polls at h (not_yet T)) (λ a. absurd (no_aim at a)) (λ o. none_out o.4)
      (λ i q. ap (λ g. g i) O.period ∙ once i (O.was i q.0 q.1))
      (rw (and-false (due_poll d c)) (omega (arith, yet_fewer (takes_works S h T))))
  went_poll {c} {now} {x = x} {w = w} at h (handed_some {r = i} {m} {n} {u} T G) =
      let a = (taken_out S h T).out i refl in
      let z : Hands x (key_of (view s) i) ((view s).value i) ((view s).deadline i) m n = goes_on_says G in
      let H = least_of S h T G (key_of (view s) i) ((view s).value i) ((view s).deadline i) m n z in
      let is : H.timer ≡ i = H.names.number ∙ sym (key_of_names S a.1).number in
      let zero : (view s).period i ≡ 0 = once i a in
      let done : Finished (view s) H.timer x = inl (ap (view s).period is ∙ zero) in
      let E = H.gone done in
      let stays : NoneRepeats w
      = λ j q.
      let d₁ : j ≢ H.timer = λ (e : j ≡ H.timer). E.gone (rw e at q) in
      let b = H.only j q in
      (H.others j b d₁).1.period ∙ once j b in
      by_cases (ℕ_discrete (key_of (view s) i) k)
      (λ e.
      let q = poll_tells S h (handed_some T G) R (rw e at z) in
      comes at (rw (q.0, q.1) at (rw e at z)) (rw e at E.dead))
      (λ j.
      waits_on (polls at h (handed_some T G)) (λ b. absurd (no_aim at b)) (λ o. j (same x z o.4)) stays
      (omega (arith, counted_one d c x, E.fewer)))
    where
      same : (x : Told) {a b c e f a' b' c' e' f' : ℕ} → Hands x a b c e f → Hands x a' b' c' e' f' → a ≡ a'
      same x {a = a} {b} {c} {e} {f} {a'} {b'} {c'} {e'} {f'} p q =
          let z : timer a b c e f ≡ timer a' b' c' e' f' = sym p ∙ q in cc

  pub went : {c : Call} {x : Told} {w : View} → ViewGoes (view s) c x w → (disturbs c && not (is_no x)) ≡ false → Went (view s) k y d c x w
  went (refuses {c}) quiet = waits R once (rw (and-false (due_poll d c)) (omega arith))
  went formats quiet = absurd (true≢false quiet)
  went (inserts e) quiet = absurd (true≢false quiet)
  went (resets N) quiet = absurd (true≢false quiet)
  went (removes {k = key} {r = i} {p = p} N) quiet =
      by_cases (ℕ_discrete key k)
      (λ e. leaves (ap C.Remove e) refl (spent_unnamed (rw e at (remove_spent S N))))
      (λ n.
      waits_on (removes N) (λ e. absurd (n e))
      (λ o. none_out o.4) (removed_once p i (view s) once)
      (omega (arith, removed_fewer p i (view s))))
  went (polls at h Q) quiet = went_poll at h Q
  went (wakes W) quiet = waits R once (omega arith)
  went counts quiet = waits R once (omega arith)
  went (clears r) quiet = absurd (true≢false quiet)

-- a quiet call gives no key: one that names nobody goes on naming nobody
dead_on : {s : QueueWords} {k : ℕ} (x : Asked) (t : QueueWords) → Sound s → CallClaim x.call s x.answer t → Undisturbed x
    → Dead (view s) k → Dead (view t) k
dead_on {s} {k} x t S A quiet d r p N =
    let D = call_goes x.call s x.answer t S A in
    ⊎_elim
    (λ (e : told x.answer ≡ T.key k). let i = key_inserts D e in true≢false (rw (i.3, e) at quiet))
    (λ M. d r M.0 M.1)
    (does_was S D (emptied S x t A) N)

-- ---- a quiet run

pub dead_run : {s u : QueueWords} {l : List Asked} {k : ℕ} → Sound s → Runs s l u → All Undisturbed l → Dead (view s) k → Dead (view u) k
dead_run S rest q d = d
dead_run S (next {s} {t} {x = x} A r) q d = dead_run (call_sound x.call s x.answer t A S) r q.1 (dead_on x t S A q.0 d)

-- the key k is removed
abbrev IsRemoved : ℕ → Asked → Type 0
IsRemoved k x = (x.call ≡ C.Remove k) × (accepted x ≡ true)

-- the timer waits on; or it is out or removed, and its key is dead
data Ended (s : QueueWords) (l : List Asked) (u : QueueWords) (k y d : ℕ) : Type 0 where
  still : Reaches (view u) k y 0 d → pending (view u) + tally_ended (due_poll d) l ≤ pending (view s) → Ended s l u k y d
  out : Some (ComesOut k y d) l → Dead (view u) k → Ended s l u k y d
  gone : Some (IsRemoved k) l → Dead (view u) k → Ended s l u k y d

run_ends : {s u : QueueWords} {l : List Asked} {k y d : ℕ} → Sound s → NoneRepeats (view s) → Reaches (view s) k y 0 d → Runs s l u
    → All Undisturbed l → Ended s l u k y d
run_ends S once R rest q = still R (omega arith)
run_ends {k = k} {y = y} {d = d} S once R (next {s} {t} {u} {x} {l} A r) q =
    by (went S once R (call_goes x.call s x.answer t S A) q.0) (λ f M. run_ends T f M r q.1)
  where
    T : Sound t
    T = call_sound x.call s x.answer t A S

    later : pending (view t) + counted d x.call (told x.answer) ≤ pending (view s) → Ended t l u k y d → Ended s (x ∷ l) u k y d
    later c (still M h) = still M (omega arith)
    later c (out m h) = out (inr m) h
    later c (gone m h) = gone (inr m) h

    by : Went (view s) k y d x.call (told x.answer) (view t) → (NoneRepeats (view t) → Reaches (view t) k y 0 d → Ended t l u k y d)
        → Ended s (x ∷ l) u k y d
    by (waits M o c) f = later c (f o M)
    by (comes e z h) f = out (inl (_, _, _, e, z)) (dead_run T r q.1 h)
    by (leaves e z h) f = gone (inl (e, ap not z)) (dead_run T r q.1 h)

module _ {s u : QueueWords} {l : List Asked} {k r p : ℕ} (W : Waited s l u k r p) where
  ending : Ended s l u k ((view s).value r) ((view s).deadline r)
  ending =
      run_ends W.sound W.once
      (record { number = r; place = p; names = W.names; value = refl; period = W.once r (p, W.names.pending); deadline = refl })
      W.runs W.undisturbed

  -- it cannot wait on
  out_of_time : {y : ℕ} → Reaches (view u) k y 0 ((view s).deadline r)
      → pending (view u) + tally_ended (due_poll ((view s).deadline r)) l ≤ pending (view s) → ⊥
  out_of_time R c = omega (arith, W.enough, pending_some R.names.pending)

  -- "A timer that is due, with no insert, reset, clear or format after that .., is out or removed within as many accepted polls as timers were pending"
  -- (02 [10]: "waiting counts ended polls"): its key is dead. Polls before its deadline may stand between: they are not counted.
  pub waiting_bounded : Dead (view u) k
  waiting_bounded = by ending
    where
      by : Ended s l u k ((view s).value r) ((view s).deadline r) → Dead (view u) k
      by (still R c) = absurd (out_of_time R c)
      by (out m d) = d
      by (gone m d) = d

  -- and unless its key is removed, a poll of the run has handed it out, with its value and deadline
  pub due_comes_out : All (NotRemoved k) l → Some (ComesOut k ((view s).value r) ((view s).deadline r)) l
  due_comes_out kept = by ending
    where
      never : (l : List Asked) → All (NotRemoved k) l → Some (IsRemoved k) l → ⊥
      never [] h m = m
      never (x ∷ l) h (inl m) = true≢false (sym m.1 ∙ h.0 m.0)
      never (x ∷ l) h (inr m) = never l h.1 m

      by : Ended s l u k ((view s).value r) ((view s).deadline r) → Some (ComesOut k ((view s).value r) ((view s).deadline r)) l
      by (still R c) = absurd (out_of_time R c)
      by (out m d) = m
      by (gone m d) = absurd (never l kept m)
