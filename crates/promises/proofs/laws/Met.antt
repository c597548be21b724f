-- Each claim can be met: for every input there are an answer and a final content that satisfy it, so that no claim is empty.
use mathlib.Core.Path.{◌≡◌, refl, sym, ap, ◌∙◌, subst}
use mathlib.Core.Logic.{◌≢◌, ◌⊎◌, inl, inr, ⊎_elim, by_cases}
use mathlib.Core.List.{List, [], ◌∷◌}
use Prim.Native.Nat.{ℕ, zero, suc, ◌+◌, ◌-◌, ◌*◌, ◌/◌, ◌%◌, ◌^◌, ◌≤◌, ◌<◌}
use native.Mathlib.Decide.{ℕ_discrete, dec_lt}
use native.Mathlib.Omega.{arith}
use native.Mathlib.Numerals.{add-one}
use lib.ListN.{replicate}
use borrow.Author.Tests.{lt-ltb, le-ltb}
use Rattle.times.specs.Times.{max_duration, block, level_of, slot_of}
use Rattle.times.proofs.laws.Quotients.{slot_lt}
use Rattle.links.specs.Lists.{nobody}
use Rattle.links.specs.Links.{at}
use Rattle.places.specs.Places.{slot_place, slots, parking, expired, free, level_at, slot_at}
use Rattle.places.specs.Heads.{slot_head}
use Rattle.places.specs.Format.{over, formatted}
use Rattle.places.specs.Words.{head_at as headIn, pop, remove}
use Rattle.wheel.specs.Wheel.{Lists, FirstSlot, EmptyWheel, NextList, in_slot, in_parking, NoneWaits, arrive}
use Rattle.wheel.specs.Limited.{start}
use Rattle.wheel.specs.Words.{WheelWords, wheel_words, mark_of as markIn, lists as listsIn, CanPop, Pops, CanLeave, Leaves, CanAdd, Becomes}
use Rattle.wheel.proofs.laws.Words.{head_at, popped_none, popped_more, popped_last, pops_aside, leaves_aside, leaves_more, leaves_last, add_law, push_aside}
use Rattle.wheel.specs.Drain.{heights}
use Rattle.wheel.specs.Moves.{CanTake, CanMove, MovesOne, DrainsTo, CanPoll, PollsTo}
use Rattle.wheel.proofs.laws.Moves.{insert_adds, take_slot, taken_parking, moved_none, move_adds, moved_some, DrainedSo, step_start, step_can, step_full, step_more, step_done, PolledSo, poll_start, poll_idle, poll_early, pop_can, place_can, poll_out, poll_finds, drain_can, poll_yet, poll_drained}
use Rattle.queue.specs.declared.Answer.{Answer}
use Rattle.queue.specs.declared.Answer.TheVariants as A
use Rattle.queue.specs.Told.{told}
use Rattle.records.specs.Records.{last_turn}
use Rattle.queue.specs.Steps.{Wakes, sleeps, starts, at_once, from_wheel}
use Rattle.records.specs.Words.{QueueWords, queue_words, count, elapsed, mark_of, view, Standing, SoundBut, AtRest, Sound}
use Rattle.queue.specs.Calls.{Refused, InsertOn, ResetOn, RemoveOn, Freely, PollsOn, WakeOn}
use Rattle.records.specs.Found.{AheadNo, DeadlineNo}
use Rattle.records.proofs.laws.Found.{no_far, no_near, no_old, no_recent, key_names, names_key}
use Rattle.records.specs.Inner.{LooseAt, CanPlace, PlacesTo, CanFree, LeavesTo}
use Rattle.records.proofs.laws.Inner.{aside_now, aside_later, place_insert, placed_slot, place_aside, placed_aside, free_push, freed_last, freed_given}
use Rattle.queue.proofs.laws.Calls.{insert_full, insert_refused, insert_place, insert_done, reset_dead, remove_dead, found_leaves, reset_refused, reset_place, reset_done, remove_frees, remove_done}
use Rattle.queue.specs.Inner.{CanPollIdx, PollsIdx, of_expired, of_wheel, PollNo, HandsOut, pending_in, ClearsOne}
use Rattle.queue.proofs.laws.Polls.{out_frees, out_done, no_other as no-another, no_same, no_back, no_none, poll_refused, wheel_can, poll_can, poll_yet as poll-yet-on, poll_none, poll_loose, poll_handed, clear_stays, clear_leaves, clear_frees, clear_goes, ClearedSo, clear_none, clear_step, clear_done, out_last, out_again, out_places}
use Rattle.delay_queue.specs.Claims.{FormatClaim, Judging, InsertClaim, ResetClaim, RemoveClaim, PollClaim, PollSomeClaim, WakeClaim, LengthClaim, ClearClaim}
use Rattle.delay_queue.proofs.laws.Back.{taken_up, length_done, whole_claim}
use Rattle.delay_queue.proofs.laws.Format.{formats}
use Rattle.records.proofs.laws.Cases.{by_key}
use Rattle.promises.proofs.laws.Decided.{sound_dec, fits_dec, range_dec}
use Rattle.promises.specs.Met.{Met}
use Rattle.records.specs.Slices.{period_at}
use Rattle.records.proofs.laws.Again.{by_next}

refuse : (k : ℕ) (s : QueueWords) → Refused k s (A.No k) s
refuse k s = record { told = refl; same = refl }

unsound : {s : QueueWords} {On : Type 0} → (Sound s → ⊥) → Judging s (A.No 2) s On
unsound {s} n = record { bad = λ z. refuse 2 s; good = λ S. absurd (n S) }

judging_met : {On : Answer → QueueWords → Type 0} (s : QueueWords) → (Sound s → Met On) → Met (λ a t. Judging s a t (On a t))
judging_met s f = by_cases (sound_dec s) (λ S. let m = f S in (m.0, m.1, taken_up S m.2)) (λ n. (A.No 2, s, unsound n))

-- while a poll is in hand it is refused with 12
freely_met : {On : Answer → QueueWords → Type 0} (s : QueueWords) → (Sound s → AtRest s → Met On) → Met (λ a t. Judging s a t (Freely s a t (On a t)))
freely_met s f =
    judging_met s (λ S.
    by_cases (ℕ_discrete s.hand nobody)
    (λ z. let m = f S z in (m.0, m.1, record { held = λ d. absurd (d z); free = λ _. m.2 }))
    (λ d. (A.No 12, s, record { held = λ _. refuse 12 s; free = λ z. absurd (d z) })))

-- ---- format

pub format_met : (s : QueueWords) (n turn : ℕ) → Met (FormatClaim s n turn)
format_met s n turn =
    by_cases (fits_dec s n)
    (λ F.
    by_cases (range_dec turn)
    (λ T. (
      A.Done,
      queue_words
          (wheel_words 0 (replicate 6 0) (formatted n s.wheel.places.links.nexts s.wheel.places.links.prevs
          s.wheel.places.links.marks))
          (over (2 * n) (λ i. 0) s.values) (over n (λ i. 0) s.deadlines) (over n (λ i. turn) s.turns) nobody 0,
      record {
        short = λ f. absurd (f F);
        outside = λ G f. absurd (f T);
        done = λ G I. formats s G I (record { wheel = refl; values = refl; deadlines = refl; turns = refl; hand = refl; until = refl }) refl;
      },
    ))
    (λ f. (A.No 8, s, record { short = λ g. absurd (g F); outside = λ G g. refuse 8 s; done = λ G T. absurd (f T) })))
    (λ f. (A.No 1, s, record { short = λ g. refuse 1 s; outside = λ F. absurd (f F); done = λ F. absurd (f F) }))

-- ---- one record at a time

ahead_met : (e w : ℕ) → (n : ℕ) × AheadNo e w n
ahead_met e w =
    by_cases (dec_lt max_duration (w - e))
    (λ k. (4, no_far e w (sym (lt-ltb max_duration (w - e) k))))
    (λ k. (0, no_near e w (sym (le-ltb max_duration (w - e) (omega arith)))))

deadline_met : (e w : ℕ) → (n : ℕ) × DeadlineNo e w n
deadline_met e w =
    by_cases (dec_lt (w + 3600000) e)
    (λ h. (11, no_old e w h))
    (λ h. let a = ahead_met e w in (a.0, no_recent e w h a.1))

-- an entry comes into the slot of its deadline
add_met : {t : WheelWords} {k i : ℕ} → CanAdd t k i → (w : ℕ) → (u : WheelWords) × Becomes t (arrive k w i (listsIn t)) u
add_met {t} {k} {i} C w = (_, add_law C w (slot_of w k) refl refl refl)

place_met : {t : WheelWords} {ds : List ℕ} {i when : ℕ} → CanPlace t ds i when
    → (u : WheelWords) × (ds' : List ℕ) × PlacesTo t ds i when u ds'
place_met {t} {ds} {i} {when} C =
    by_cases (dec_lt t.elapsed when)
    (λ h.
    by_cases (ℕ_discrete (block when) (block t.elapsed))
    (λ b.
    let B = add_met (insert_adds (place_insert C (h, b)) (level_of t.elapsed when) refl) when in
    (B.0, _, placed_slot C (h, b) B.1))
    (λ b.
    let p = sym (aside_later t.elapsed when h (λ q. b q.1)) in
    (_, _, placed_aside C parking _ p refl (push_aside (place_aside C parking (omega arith) (omega arith)) refl))))
    (λ h.
    let p = sym (aside_now t.elapsed when (omega (arith, h))) in
    (_, _, placed_aside C expired _ p refl (push_aside (place_aside C expired (omega arith) (omega arith)) refl)))

leave_met : {t : WheelWords} {i : ℕ} → CanLeave t i → (u : WheelWords) × Leaves t i u
leave_met {t} {i} C =
    by_cases (dec_lt (markIn t i) slots)
    (λ h.
    let k : ℕ = level_at (markIn t i) in
    let j : ℕ = slot_at (markIn t i) in
    by_cases (ℕ_discrete (slot_head (remove t.places i).heads k j) nobody)
    (λ z. (_, leaves_last C refl k j (omega arith) (omega arith) (omega arith) z refl))
    (λ z. (_, leaves_more C refl k j (omega arith) (omega arith) (omega arith) z)))
    (λ h. (_, leaves_aside C refl (omega arith)))

free_met : {t : WheelWords} {ts : List ℕ} {i : ℕ} → CanFree t ts i → (u : WheelWords) × (ts' : List ℕ) × LeavesTo t ts i u ts'
free_met {t} {ts} {i} C =
    by_cases (ℕ_discrete (at ts i) last_turn)
    (λ z. (_, ts, freed_last C z))
    (λ z. (_, _, freed_given C z (push_aside (free_push C) refl)))

-- ---- insert, reset, remove

insert_on : {s : QueueWords} → Sound s → AtRest s → (value when period : ℕ) → Met (InsertOn s value when period)
insert_on {s} S rest value when period =
    by_cases (ℕ_discrete s.wheel.places.tops.free nobody)
    (λ z. (A.No 3, s, insert_full S rest value when period z))
    (λ d.
    let D = deadline_met (elapsed s) when in
    by_cases (ℕ_discrete D.0 0)
    (λ z.
    let Q = pops_aside S.standing.whole free (head_at s.wheel free) refl refl (omega arith) in
    let P = place_met (insert_place S rest value when period d D.1 z Q) in
    (A.Key _, _, insert_done S rest value when period d D.1 z Q _ refl P.2))
    (λ z. (A.No D.0, s, insert_refused S rest value when period d D.1 z)))

pub insert_met : (s : QueueWords) (value when period : ℕ) → Met (InsertClaim s value when period)
insert_met s value when period = freely_met s (λ S z. insert_on S z value when period)

reset_on : {s : QueueWords} → Sound s → AtRest s → (key when : ℕ) → Met (ResetOn s key when)
reset_on {s} S rest key when =
    by_key S key
    (λ r p N.
    let K = names_key S key N in
    let D = deadline_met (elapsed s) when in
    by_cases (ℕ_discrete D.0 0)
    (λ z.
    let L = leave_met (found_leaves S rest key when K) in
    let P = place_met (reset_place S rest key when K D.1 z L.1) in
    (A.Done, _, reset_done S rest key when K D.1 z L.1 P.2))
    (λ z. (A.No D.0, s, reset_refused S rest key when K D.1 z)))
    (λ f. (A.No 6, s, reset_dead S rest key when (λ i K. f i (mark_of s i) (key_names S key K))))

pub reset_met : (s : QueueWords) (key when : ℕ) → Met (ResetClaim s key when)
reset_met s key when = freely_met s (λ S z. reset_on S z key when)

remove_on : {s : QueueWords} → Sound s → AtRest s → (key : ℕ) → Met (RemoveOn s key)
remove_on {s} S rest key =
    by_key S key
    (λ r p N.
    let K = names_key S key N in
    let L = leave_met (found_leaves S rest key 0 K) in
    let F = free_met (remove_frees S rest key 0 K L.1) in
    (A.Gone _ _, _, remove_done S rest key 0 K L.1 _ _ refl refl F.2))
    (λ f. (A.No 6, s, remove_dead S rest key 0 (λ i K. f i (mark_of s i) (key_names S key K))))

pub remove_met : (s : QueueWords) (key : ℕ) → Met (RemoveClaim s key)
remove_met s key = freely_met s (λ S z. remove_on S z key)

-- ---- the next slot

-- the first that is not empty, of n lists
pub record FirstOf (f : ℕ → List ℕ) (n : ℕ) : Type 0 where
  pub index : ℕ
  pub within : index < n
  pub passed : (i : ℕ) → i < index → f i ≡ []
  pub head : ℕ
  pub rest : List ℕ
  pub filled : f index ≡ head ∷ rest

first_of : (f : ℕ → List ℕ) (n : ℕ) → ((i : ℕ) → i < n → f i ≡ []) ⊎ FirstOf f n
first_of f zero = inl (λ i h. absurd (omega arith))
first_of f (suc n) = ⊎_elim (λ e. by e (f n) refl) (λ F. inr (more F)) (first_of f n)
  where
    more : FirstOf f n → FirstOf f (suc n)
    more F = record { index = F.index; within = omega arith; passed = F.passed; head = F.head; rest = F.rest; filled = F.filled }

    by : ((i : ℕ) → i < n → f i ≡ []) → (l : List ℕ) → f n ≡ l → ((i : ℕ) → i < suc n → f i ≡ []) ⊎ FirstOf f (suc n)
    by e [] q = inl (λ i h. by_cases (ℕ_discrete i n) (λ z. rw z q) (λ z. e i (omega arith)))
    by e (x ∷ l) q = inr (record { index = n; within = omega arith; passed = e; head = x; rest = l; filled = q })

module _ (e : ℕ) (L : Lists) where
  -- the slots in the order in which they are looked at: level by level, each from elapsed's on
  look : ℕ → List ℕ
  look i = L (slot_place (i / 64) ((slot_of e (i / 64) + i % 64) % 64))

  look_at : (k j : ℕ) → j < 64 → look (64 * k + j) ≡ L (slot_place k ((slot_of e k + j) % 64))
  unfolding look
  look_at k j h =
      let a : (64 * k + j) / 64 ≡ k = omega arith in
      let b : (64 * k + j) % 64 ≡ j = omega arith in
      rw (a, b)

  -- when a slot is looked at
  steps_to : ℕ → ℕ
  steps_to q = (slot_at q + 64 - slot_of e (level_at q)) % 64

  steps_lt : (q : ℕ) → steps_to q < 64
  unfolding steps_to
  steps_lt q = omega arith

  look_slot : (q : ℕ) → look (64 * (level_at q) + steps_to q) ≡ L q
  unfolding steps_to
  look_slot q =
      let z : slot_place (level_at q) ((slot_of e (level_at q) + steps_to q) % 64) ≡ q = omega (arith, slot_lt e (level_at q)) in
      look_at (level_at q) (steps_to q) (steps_lt q) ∙ ap L z

  slot_met : EmptyWheel L ⊎ ((k : ℕ) × (s : ℕ) × FirstSlot e L k s)
  slot_met =
      ⊎_elim
      (λ E. inl (λ q h. sym (look_slot q) ∙ E (64 * (level_at q) + steps_to q) (omega (arith, steps_lt q))))
      (λ F. inr (found F))
      (first_of look slots)
    where
      found : FirstOf look slots → (k : ℕ) × (s : ℕ) × FirstSlot e L k s
      found F =
          let k = F.index / 64 in
          let j = F.index % 64 in
          let z : 64 * k + j ≡ F.index = omega arith in (
            k,
            (slot_of e k + j) % 64,
            record {
              within = omega arith;
              lowest = λ q h. sym (look_slot q) ∙ F.passed (64 * (level_at q) + steps_to q) (omega (arith, steps_lt q));
              steps = j;
              near = omega arith;
              is = refl;
              passed = λ i h. sym (look_at k i (omega arith)) ∙ F.passed (64 * k + i) (omega (arith, h));
              head = F.head;
              rest = F.rest;
              filled = sym (look_at k j (omega arith)) ∙ ap look z ∙ F.filled;
            },
          )

-- what comes next, told as a slot: level 6 and slot 0 are the parking list
abbrev NextSlot : ℕ → Lists → Type 0
NextSlot e L = (k : ℕ) × (s : ℕ) × (c : ℕ) × (s < 64) × NextList e L k (slot_place k s) c

next_met : (e : ℕ) (L : Lists) → NoneWaits L ⊎ NextSlot e L
next_met e L = ⊎_elim (λ E. by E (L parking) refl) (λ F. inr (F.0, F.1, _, omega (arith, F.2.is), in_slot F.2)) (slot_met e L)
  where
    by : EmptyWheel L → (l : List ℕ) → L parking ≡ l → NoneWaits L ⊎ NextSlot e L
    by E [] q = inl (E, q)
    by E (x ∷ l) q = inr (6, 0, _, omega arith, in_parking E q)

-- ---- next wake and length

wheel_wakes : (s : QueueWords) → NoneWaits (view s).lists ⊎ NextSlot (elapsed s) (view s).lists → (a : Answer) × Wakes (view s) (told a)
wheel_wakes s (inl E) = (A.NoWake, sleeps E)
wheel_wakes s (inr X) = (A.Wake _, starts X.4)

wake_on : (s : QueueWords) (l : List ℕ) → (view s).lists expired ≡ l → (a : Answer) × WakeOn s a
wake_on s [] e = let m = wheel_wakes s (next_met (elapsed s) (view s).lists) in (m.0, record { done = from_wheel e m.1 })
wake_on s (r ∷ l) e = (A.Wake (elapsed s), record { done = at_once e })

answer_met : {On : Answer → Type 0} (s : QueueWords) → (Sound s → (a : Answer) × On a) → (a : Answer) × Judging s a s (On a)
answer_met s f = by_cases (sound_dec s) (λ S. let m = f S in (m.0, taken_up S m.1)) (λ n. (A.No 2, unsound n))

pub wake_met : (s : QueueWords) → (a : Answer) × WakeClaim s a
wake_met s =
    answer_met s (λ S.
    by_cases (ℕ_discrete s.hand nobody)
    (λ z. let m = wake_on s ((view s).lists expired) refl in (m.0, record { held = λ d. absurd (d z); free = λ _. m.1 }))
    (λ d. (A.No 12, record { held = λ _. refuse 12 s; free = λ z. absurd (d z) })))

pub length_met : (s : QueueWords) → (a : Answer) × LengthClaim s a
length_met s = answer_met s (λ S. (A.Length (pending_in (mark_of s) (count s)), length_done S refl))

-- ---- clear

pub clear_one : {s : QueueWords} → Standing s → {i : ℕ} → i < count s → (t : QueueWords) × ClearsOne s i t
clear_one {s} S {i} h =
    by_cases (dec_lt (mark_of s i) free)
    (λ g.
    let L = leave_met (clear_leaves S h g) in
    let F = free_met (clear_frees S h g L.1) in
    (_, clear_goes S h g L.1 F.2))
    (λ g. (s, clear_stays S h (omega arith)))

pub clear_first : {s : QueueWords} → Standing s → (k : ℕ) → k ≤ count s → (t : QueueWords) × ClearedSo s k t
clear_first {s} S zero h = (s, clear_none S)
clear_first {s} S (suc k) h =
    let m = clear_first S k (omega arith) in
    let C = m.1 in
    let g : k < count m.0 = omega arith in
    let o = clear_one C.standing g in
    (o.0, subst (λ i. ClearedSo s i o.0) (add-one k) (clear_step C g o.1))

pub clear_met : (s : QueueWords) → Met (ClearClaim s)
clear_met s = judging_met s (λ S. let m = clear_first S.standing (count s) (omega arith) in (A.Done, _, clear_done m.1 refl s.hand s.until))

-- ---- poll: the loops of the code, by what is left to drain and to fall

-- the head of a slot leaves it
pop_met : {t : WheelWords} {k s : ℕ} → CanPop t k s → (item : ℕ) × (u : WheelWords) × Pops t (slot_place k s) item u
pop_met {t} {k} {s} C =
    let p = slot_place k s in
    by_cases (ℕ_discrete (head_at t p) nobody)
    (λ z. (head_at t p, _, popped_none C.whole p (head_at t p) refl refl z))
    (λ d.
    by_cases (ℕ_discrete (headIn (pop t.places p) p) nobody)
    (λ z. (head_at t p, _, popped_last C.whole p (head_at t p) refl refl d k s C.level C.slot refl z refl))
    (λ z. (head_at t p, _, popped_more C.whole p (head_at t p) refl refl d z)))

-- or that of the parking list
take_met : {t : WheelWords} {k s : ℕ} → CanTake t k s → (item : ℕ) × (u : WheelWords) × Pops t (slot_place k s) item u
take_met {t} {k} {s} C =
    by_cases (dec_lt k 6)
    (λ h. pop_met (take_slot C h))
    (λ h.
    let Q = pops_aside C.whole parking (head_at t parking) refl refl (omega arith) in
    (head_at t parking, _, taken_parking C (omega (arith, h)) Q))

-- and goes one level down
move_met : {t : WheelWords} {ds : List ℕ} {k s : ℕ} → CanMove t ds k s
    → (item : ℕ) × (u : WheelWords) × MovesOne (at ds) t (k - 1) (slot_place k s) item u
move_met {t} {ds} {k} {s} C =
    let Q = take_met C.pop in
    by_cases (ℕ_discrete Q.0 nobody)
    (λ z. (Q.0, Q.1, moved_none C Q.2 z))
    (λ d. let B = add_met (move_adds C Q.2 d) (at ds Q.0) in (Q.0, B.0, moved_some C Q.2 d (at ds Q.0) refl B.1))

module _ {t₀ : WheelWords} {ds : List ℕ} {k s : ℕ} (C : CanMove t₀ ds k s) (limit : ℕ) where
  abbrev Drained : Type 0
  Drained = (left : ℕ) × (u : WheelWords) × DrainsTo (at ds) t₀ (k - 1) (slot_place k s) limit left u

  drain_loop : (fuel : ℕ) {t : WheelWords} {left : ℕ} → DrainedSo (at ds) t₀ (k - 1) (slot_place k s) limit left t → left < fuel → Drained
  drain_loop zero S h = absurd (omega arith)
  drain_loop (suc fuel) {t} {left} S h =
      by_cases (ℕ_discrete left 0)
      (λ z. (left, t, step_full C S z))
      (λ n.
      let M = move_met (step_can C S) in
      by_cases (ℕ_discrete M.0 nobody)
      (λ z. (left, M.1, step_done C S M.2 z))
      (λ d. drain_loop fuel (step_more C S M.2 n d) (omega (arith, n, h))))

  drain_met : Drained
  drain_met = drain_loop (suc limit) (step_start C limit) (omega arith)

module _ {t₀ : WheelWords} {ds : List ℕ} {hand now : ℕ} (C : CanPoll t₀ ds hand now) (limit : ℕ) where
  -- what a poll of the wheel ends with
  abbrev Ended : Type 0
  Ended = (item : ℕ) × (to : ℕ) × (m : ℕ) × (n : ℕ) × (u : WheelWords) × PollsTo (at ds) now limit hand t₀ item to m n u

  abbrev So : ℕ → ℕ → ℕ → ℕ → WheelWords → Type 0
  So place left made drains t = PolledSo (at ds) now limit hand t₀ place left made drains t

  -- or it goes on, with lower heights
  record Again (t : WheelWords) : Type 0 where
    to : ℕ
    left : ℕ
    made : ℕ
    drains : ℕ
    after : WheelWords
    so : So to left made drains after
    less : heights (listsIn after) < heights (listsIn t)

  poll_drains : {place left made drains : ℕ} {t : WheelWords} → So place left made drains t → place ≢ nobody → Ended ⊎ Again t
  poll_drains {place} {left} {made} {drains} {t} S held =
      let k : ℕ = level_at place in
      let j : ℕ = slot_at place in
      let D = drain_met (drain_can C limit S held k j refl refl) left in
      by_cases (ℕ_discrete (head_at D.1 place) nobody)
      (λ z.
      let r = poll_drained C limit S held k j refl refl D.0 D.2 (limit - D.0) refl z (start t.elapsed place) refl in
      inr (record {
        to = nobody;
        left = D.0;
        made = limit - D.0;
        drains = drains + 1;
        after = wheel_words (start t.elapsed place) D.1.occupied D.1.places;
        so = r.0;
        less = r.1;
      }))
      (λ d. inl (nobody, place, limit - D.0, drains, D.1, poll_yet C limit S held k j refl refl D.0 D.2 (limit - D.0) refl d))

  poll_looks : {place left made drains : ℕ} {t : WheelWords} → So place left made drains t → place ≡ nobody → Ended ⊎ Again t
  poll_looks {place} {left} {made} {drains} {t} S free =
      ⊎_elim
      (λ E. inl (nobody, place, made, drains, _, poll_idle C limit S free E))
      (λ X.
      let c = X.2 in
      let N : (X.1 < 64) × NextList t.elapsed (listsIn t) X.0 (slot_place X.0 X.1) c = (X.3, X.4) in
      by_cases (dec_lt now c)
      (λ l. inl (nobody, place, made, drains, _, poll_early C limit S free N l))
      (λ l.
      let due : c ≤ now = omega arith in
      by_cases (ℕ_discrete X.0 0)
      (λ z.
      let Q = pop_met (pop_can C limit S free N z) in
      inl (Q.0, place, made, drains, Q.1, poll_out C limit S free N z due Q.0 Q.2))
      (λ z.
      poll_drains (poll_finds C limit S free N z due (slot_place X.0 X.1) refl)
      (λ w. omega (arith, w, (place_can C limit S free N).1)))))
      (next_met t.elapsed (listsIn t))

  poll_loop : (fuel place left made drains : ℕ) (t : WheelWords) → So place left made drains t → heights (listsIn t) < fuel → Ended
  poll_loop zero place left made drains t S h = absurd (omega arith)
  poll_loop (suc fuel) place left made drains t S h =
      ⊎_elim (λ E. E) (λ G. poll_loop fuel G.to G.left G.made G.drains G.after G.so (omega (arith, G.less, h)))
      (by_cases (ℕ_discrete place nobody) (poll_looks S) (poll_drains S))

  wheel_met : Ended
  wheel_met = poll_loop (suc (heights (listsIn t₀))) hand limit 0 0 t₀ (poll_start C limit) (omega arith)

-- the record that was found is freed, or placed again
out_met : {s : QueueWords} {i : ℕ} → SoundBut i s → LooseAt s i → (moves drains : ℕ)
    → (a : Answer) × ((t : QueueWords) × ((t.hand ≡ s.hand) × (t.until ≡ s.until)) × HandsOut s i moves drains a t)
out_met {s} {i} S o moves drains =
    let F = free_met (out_frees S o) in
    by_cases (ℕ_discrete (period_at s.values i) 0)
    (λ z. (A.Out _ _ _ _ _, (_, (refl, refl), out_done S o moves drains refl z F.2)))
    (λ d.
    by_next
    (λ f. (A.Last _ _ _ _ _, (_, (refl, refl), out_last S o moves drains refl d f F.2)))
    (λ f.
    let P = place_met (out_places S o (refl, f)) in
    (A.Out _ _ _ _ _, (_, (refl, refl), out_again S o moves drains refl d (refl, f) P.2))))

-- who is due leaves its list, if anybody is
idx_met : {t : WheelWords} {ds : List ℕ} {hand time : ℕ} → CanPollIdx t ds hand time → (limit : ℕ)
    → (item : ℕ) × (to : ℕ) × (m : ℕ) × (n : ℕ) × (u : WheelWords) × PollsIdx (at ds) time limit hand t item to m n u
idx_met {t} C limit =
    let first = head_at t expired in
    let Q = pops_aside C.whole expired first refl refl (omega arith) in
    by_cases (ℕ_discrete first nobody)
    (λ z. let R = wheel_met (wheel_can C Q z) limit in (R.0, R.1, R.2, R.3, R.4, of_wheel Q z R.5))
    (λ d. (first, nobody, 0, 0, _, of_expired Q d))

number_met : (e hand until time : ℕ) → (n : ℕ) × PollNo e hand until time n
number_met e hand until time =
    by_cases (ℕ_discrete hand nobody)
    (λ z. by_cases (dec_lt time e) (λ h. (7, no_back z h)) (λ h. (0, no_none z (omega (arith, h)))))
    (λ d. by_cases (ℕ_discrete time until) (λ z. (0, no_same d z)) (λ n. (12, no-another d n)))

some_on : {s : QueueWords} → Sound s → (time limit : ℕ) → Met (PollsOn s time limit)
some_on {s} S time limit =
    let N = number_met (elapsed s) s.hand s.until time in
    by_cases (ℕ_discrete N.0 0)
    (λ g.
    let P = idx_met (poll_can S time limit N.1 g) limit in
    by_cases (ℕ_discrete P.1 nobody)
    (λ z.
    by_cases (ℕ_discrete P.0 nobody)
    (λ w. (A.Nothing P.2 P.3, _, poll_none S time limit N.1 g P.5 z w))
    (λ d.
    let l = poll_loose S time limit N.1 g P.5 z d in
    let O = out_met l.0 l.1 P.2 P.3 in
    (O.0, O.1.0, poll_handed S time limit N.1 g P.5 z d O.1.1.0 O.1.1.1 O.1.2)))
    (λ d. (A.NotYet P.2 P.3, _, poll-yet-on S time limit N.1 g P.5 d)))
    (λ d. (A.No N.0, s, poll_refused S time limit N.1 d))

pub limited_met : (s : QueueWords) (now limit : ℕ) → Met (PollSomeClaim s now limit)
limited_met s now limit = judging_met s (λ S. some_on S now limit)

pub poll_met : (s : QueueWords) (now : ℕ) → Met (PollClaim s now)
poll_met s now = let m = limited_met s now (2 ^ 64 - 1) in (m.0, m.1, whole_claim m.2)
