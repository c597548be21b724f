-- What "First set, first out" asks can be met: in a store of two records two timers are set for one time and polled at it, and come out in order; so they do
-- with a pause between their moves (`paused_shown`), and so do two for the start of the next block, which are parked (`parked_shown`,
-- `parked_paused_shown`).
use mathlib.Core.Path.{◌≡◌, refl, sym, ap, ◌∙◌, subst}
use mathlib.Core.Logic.{◌≢◌, inl, inr, by_cases}
use mathlib.Core.Bool.{true≢false}
use mathlib.Core.List.{List, [], ◌∷◌, ◌++◌}
use mathlib.Core.Option.{none}
use Prim.Native.Nat.{ℕ, ◌+◌, ◌*◌, ◌/◌, ◌%◌, ◌^◌, ◌≤◌, ◌<◌, max}
use native.Mathlib.Decide.{ℕ_discrete}
use native.Mathlib.Omega.{arith}
use Rattle.times.specs.Times.{width, slot_of, start_at, block, block_end}
use Rattle.times.proofs.laws.Quotients.{slot_lt}
use Rattle.links.specs.Lists.{Mem, change}
use Rattle.links.proofs.laws.Lists.{change_same, change_other}
use Rattle.places.specs.Places.{slot_place, parking, expired, free, put}
use Rattle.places.proofs.laws.Places.{put_tail}
use Rattle.wheel.specs.Wheel.{Lists, FirstSlot, NextList, in_slot, in_parking, arrive}
use Rattle.wheel.specs.Limited.{yet, Limited, finds, stops, moves}
use Rattle.wheel.proofs.laws.Moves.{got_none}
use Rattle.queue.specs.Steps.{polled_some, not_yet}
use Rattle.queue.specs.declared.Answer.{Answer}
use Rattle.queue.specs.Told.{Told, told, handing}
use Rattle.queue.specs.Told as T
use Rattle.records.specs.View.{View, with_value, upd, with_period}
use Rattle.records.specs.Records.{key_of, Names, Takes, taken, target, placed}
use Rattle.records.specs.Words.{QueueWords, AtRest, elapsed, view, Sound}
use Rattle.records.proofs.laws.Cases.{takes_so}
use Rattle.queue.specs.Calls.{Answered}
use Rattle.delay_queue.specs.declared.Call.{Call}
use Rattle.delay_queue.specs.declared.Call.TheVariants as C
use Rattle.delay_queue.specs.Claims.{CallClaim}
use Rattle.promises.specs.Runs.{Asked, Runs, rest, next, Each, is_poll}
use Rattle.promises.specs.Keys.{asked}
use Rattle.promises.specs.KeysStay.{HandsKey}
use Rattle.promises.specs.KeysReach.{Reaches}
use Rattle.promises.specs.Polling.{IsPending, SaysOut, HandsLeast, PollLeast}
use Rattle.promises.specs.Waiting.{Some}
use Rattle.promises.specs.First.{NotSet, stored_on, SetInOrder, SecondOut}
use Rattle.promises.proofs.laws.Met.{insert_met, poll_met}
use Rattle.promises.proofs.laws.OneCall.{call_met, call_sound}
use Rattle.promises.proofs.laws.Chained.{rest_of_whole}
use Rattle.promises.proofs.laws.Quiet.{Fresh, fresh_two, target_70}
use Rattle.promises.proofs.laws.Polling.{whole_no_yet, taken_from_rest, none_out, target_timed, poll_least, poll_clock}
use Rattle.pausing.specs.Pausing.{added, SaysYet, PollTaken}
use Rattle.pausing.proofs.laws.Pausing.{some_on, polls_one}
use Rattle.promises.specs.Polls.{PollAt, whole, limited}
use Rattle.promises.proofs.laws.Does.{poll_is}
use Rattle.promises.proofs.laws.Views.{call_goes, goes_rest}
use Rattle.promises.proofs.laws.KeysStay.{key_is}
use Rattle.promises.proofs.laws.KeysReach.{reaches_on, insert_reaches}
use Rattle.promises.proofs.laws.First.{first_set_first_out, expired_first_out}
use Rattle.promises.proofs.laws.TakesOut.{key_of_names}

-- a poll sets nobody that does not repeat
unset : (u : QueueWords) {i x d : ℕ} → Reaches (view u) i x 0 d → {c : Call} {now : ℕ} → PollAt c now → (a : Answer) (t : QueueWords)
    → NotSet i u (asked c a) t
unset u R p a t w (inl z) = true≢false (sym (poll_is p) ∙ ap is_poll z.2)
unset u R p a t w (inr (inl z)) = true≢false (sym (poll_is p) ∙ ap is_poll z.0)
unset u R p a t w (inr (inr z)) = omega (arith, z.7, R.period, ap (view u).period R.names.number)

-- ---- two timers for one time

module _ {s : QueueWords} {e : ℕ} (F : Fresh s e) (when now : ℕ) (near : Takes e when) (due : max when e ≤ now) where
  -- the first
  m₁ : (a : Answer) × (t : QueueWords) × CallClaim (C.Insert 7 when 0) s a t
  m₁ = insert_met s 7 when 0

  D₁ : Answered s m₁.0 (T.key (key_of (view s) 0))
      (placed 0 when (with_period (upd (view s).period 0 0) (with_value (upd (view s).value 0 7) (taken (1 ∷ []) (view s))))) m₁.1
  D₁ = ((m₁.2.good F.sound).free F.at_rest).done 0 (1 ∷ []) F.room (rw F.clock near)

  size₁ : (view m₁.1).n ≡ 2
  unfolding placed
  size₁ = ap (λ v. v.n) D₁.view ∙ F.size

  clock₁ : elapsed m₁.1 ≡ e
  unfolding placed
  clock₁ = ap (λ v. v.elapsed) D₁.view ∙ F.clock

  room₁ : (view m₁.1).lists free ≡ 1 ∷ []
  unfolding placed
  room₁ =
      let L : Lists = change (view s).lists free (1 ∷ []) in
      let p = target (elapsed s) (max when (elapsed s)) in
      let timed : free ≢ p = omega (arith, target_timed (elapsed s) (max when (elapsed s))) in
      ap (λ v. v.lists free) D₁.view ∙ change_other L p (put p 0 (L p)) free timed ∙ change_same (view s).lists free (1 ∷ [])

  abbrev j : ℕ
  j = key_of (view s) 0

  -- and the second
  m₂ : (a : Answer) × (t : QueueWords) × CallClaim (C.Insert 8 when 0) m₁.1 a t
  m₂ = insert_met m₁.1 8 when 0

  rest₁ : AtRest m₁.1
  unfolding placed
  rest₁ = ap (λ v. v.hand) D₁.view ∙ F.at_rest

  D₂ : Answered m₁.1 m₂.0 (T.key (key_of (view m₁.1) 1))
      (placed 1 when (with_period (upd (view m₁.1).period 1 0) (with_value (upd (view m₁.1).value 1 8) (taken [] (view m₁.1))))) m₂.1
  D₂ = ((m₂.2.good D₁.sound).free rest₁).done 1 [] room₁ (rw clock₁ near)

  rest₂ : AtRest m₂.1
  unfolding placed
  rest₂ = ap (λ v. v.hand) D₂.view ∙ rest₁

  size₂ : (view m₂.1).n ≡ 2
  unfolding placed
  size₂ = ap (λ v. v.n) D₂.view ∙ size₁

  clock₂ : elapsed m₂.1 ≡ e
  unfolding placed
  clock₂ = ap (λ v. v.elapsed) D₂.view ∙ clock₁

  K₂ : PollTaken (view m₂.1) now
  K₂ = taken_from_rest m₂.1 rest₂ (omega (arith, clock₂, due))

  abbrev k : ℕ
  k = key_of (view m₁.1) 1

  apart : j ≢ k
  apart = omega arith

  J : Reaches (view m₂.1) j 7 0 (max when (elapsed s))
  J =
      reaches_on D₁.sound (insert_reaches F.sound m₁.2 D₁.told) (next {x = asked (C.Insert 8 when 0) m₂.0} m₂.2 rest) (
        (
          λ z. absurd z,
          λ o. none_out (ap handing (sym D₂.told) ∙ o.4),
        ),
        tt,
      )

  K : Reaches (view m₂.1) k 8 0 (max when (elapsed m₁.1))
  K = insert_reaches D₁.sound m₂.2 D₂.told

  -- the second insert sets another
  other : NotSet j m₁.1 (asked (C.Insert 8 when 0) m₂.0) m₂.1
  other w (inl z) = let e : T.key j ≡ T.key k = sym z.3 ∙ D₂.told in let q : j ≡ k = cc in apart q
  other w (inr (inl z)) = let e = z.0 in let y : ◌≡◌ {A = ℕ} 0 1 = cc in omega arith
  other w (inr (inr z)) = true≢false (sym (poll_is z.5))

  abbrev in_order : {t : QueueWords} (l : List Asked) (R : Runs m₂.1 l t) → Each (NotSet j) R → Each (NotSet k) R → SetInOrder s j k t
  in_order l R f g =
      record {
        set = m₁.1;
        later = m₁.1;
        both = m₂.1;
        first = record { when = when; asked = asked (C.Insert 7 when 0) m₁.0; sets = inl (7, 0, refl, D₁.told); claim = m₁.2 };
        between = [];
        then = rest;
        second = record { when = when; asked = asked (C.Insert 8 when 0) m₂.0; sets = inl (8, 0, refl, D₂.told); claim = m₂.2 };
        after = l;
        at_last = R;
        first_last = (tt, other, f);
        second_last = g;
      }

  -- a poll at the time hands out the first, since it may not hand out the second
  module _ (never : (a : Answer) (u : QueueWords) → CallClaim (C.Poll now) m₂.1 a u → HandsKey k (told a) → ⊥) where
    m₃ : (a : Answer) × (t : QueueWords) × CallClaim (C.Poll now) m₂.1 a t
    m₃ = poll_met m₂.1 now

    S₃ : Sound m₃.1
    S₃ = call_sound (C.Poll now) m₂.1 m₃.0 m₃.1 m₃.2 D₂.sound

    fair : PollLeast (view m₂.1) now (told m₃.0) (view m₃.1)
    fair = poll_least D₂.sound whole K₂ m₃.0 m₃.1 m₃.2 (whole_no_yet D₂.sound K₂ m₃.2)

    says : SaysOut (told m₃.0)
    says = fair.hands_out.1 (J.number, (J.place, J.names.pending), omega (arith, J.deadline, F.clock, due))

    got : HandsLeast (view m₂.1) now says.0 says.1 says.2 (told m₃.0) (view m₃.1)
    got = fair.out says.0 says.1 says.2 says.3 says.4 says.5

    K₃ : Reaches (view m₃.1) k 8 0 (max when (elapsed m₁.1))
    K₃ =
        reaches_on D₂.sound K (next {x = asked (C.Poll now) m₃.0} m₃.2 rest)
        ((λ z. absurd z, λ o. never m₃.0 m₃.1 m₃.2 o), tt)

    -- so the next one hands out the second
    m₄ : (a : Answer) × (t : QueueWords) × CallClaim (C.Poll now) m₃.1 a t
    m₄ = poll_met m₃.1 now

    fair₄ : PollLeast (view m₃.1) now (told m₄.0) (view m₄.1)
    fair₄ =
        let c = (poll_clock D₂.sound whole K₂ m₃.0 m₃.1 m₃.2).out says.0 says.1 says.2 says.3 says.4 says.5 in
        let D = call_goes (C.Poll now) m₂.1 m₃.0 m₃.1 D₂.sound m₃.2 in
        let rest₃ : AtRest m₃.1 = goes_rest D (whole_no_yet D₂.sound K₂ m₃.2) rest₂ in
        let K : PollTaken (view m₃.1) now = taken_from_rest m₃.1 rest₃ (omega (arith, c, clock₂, got.due, due)) in
        poll_least S₃ whole K m₄.0 m₄.1 m₄.2 (whole_no_yet S₃ K m₄.2)

    says₄ : SaysOut (told m₄.0)
    says₄ = fair₄.hands_out.1 (K₃.number, (K₃.place, K₃.names.pending), omega (arith, K₃.deadline, clock₁, due))

    got₄ : HandsLeast (view m₃.1) now says₄.0 says₄.1 says₄.2 (told m₄.0) (view m₄.1)
    got₄ = fair₄.out says₄.0 says₄.1 says₄.2 says₄.3 says₄.4 says₄.5

    -- the first handed out is record 0, and so the second is record 1
    first_is : got.timer ≢ K.number
    first_is e =
        let q : k ≡ says.0 = key_is K.names ∙ ap (key_of (view m₂.1)) (sym e) ∙ sym (key_is got.names) in
        never m₃.0 m₃.1 m₃.2 (says.1, says.2, says.3, says.4, rw q says.5)

    first_gone : IsPending (view m₃.1) got.timer → ⊥
    first_gone =
        let is : got.timer ≡ J.number = omega (arith, size₂, first_is, got.names.below, J.names.number, K.names.number) in
        (got.gone (inl (ap (view m₂.1).period is ∙ J.period))).gone

    second_is : got₄.timer ≡ K₃.number
    second_is =
        let o = got.only got₄.timer (got₄.place, got₄.names.pending) in
        let b = (key_of_names D₂.sound o.1).below in
        let waits : IsPending (view m₃.1) got₄.timer = (got₄.place, got₄.names.pending) in
        let d : got₄.timer ≢ got.timer = λ e. first_gone (rw e at waits) in
        omega (arith, b, size₂, d, first_is, got.names.below, K.names.number, K₃.names.number)

    out₄ : HandsKey k (told m₄.0)
    out₄ =
        let q : k ≡ says₄.0 = key_is K₃.names ∙ ap (key_of (view m₃.1)) (sym second_is) ∙ sym (key_is got₄.names) in
        (says₄.1, says₄.2, says₄.3, says₄.4, rw q says₄.5)

    -- whatever calls lead to where the first was handed out
    abbrev second_by : (l : List Asked) (R : Runs m₂.1 l m₃.1) → Each (NotSet j) R → Each (NotSet k) R → SecondOut
    second_by l R f g =
        record {
          start = s;
          reached = m₃.1;
          left = m₄.1;
          one = j;
          two = k;
          call = C.Poll now;
          answer = m₄.0;
          sound = F.sound;
          run = in_order l R f g;
          poll = m₄.2;
          out = out₄;
        }

    abbrev second_out : SecondOut
    second_out =
        second_by (asked (C.Poll now) m₃.0 ∷ []) (next m₃.2 rest) (unset m₂.1 J whole m₃.0 m₃.1, tt)
        (unset m₂.1 K whole m₃.0 m₃.1, tt)

-- ---- such runs there are

-- set for one deadline, past elapsed when the second is set, they come out in order
module _ {s : QueueWords} {e : ℕ} (F : Fresh s e) (when now : ℕ) (near : Takes e when) (due : max when e ≤ now) (late : e < when) where
  same_stored : max when (elapsed s) ≡ max when (elapsed (m₁ F when now near due).1)
  same_stored = omega (arith, clock₁ F when now near due, F.clock)

  late_stored : elapsed (m₁ F when now near due).1 < max when (elapsed (m₁ F when now near due).1)
  late_stored = omega (arith, clock₁ F when now near due, late)

  never_second : (a : Answer) (u : QueueWords) → CallClaim (C.Poll now) (m₂ F when now near due).1 a u → HandsKey (k F when now near due) (told a) → ⊥
  never_second a u P o =
      first_set_first_out F.sound (in_order F when now near due [] rest tt tt) (C.Poll now) a u P o (J F when now near due).names same_stored late_stored

-- two for 70, polled at 70
pub first_shown : (x : SecondOut) × (stored_on x.run.first ≡ stored_on x.run.second) × (elapsed x.run.later < stored_on x.run.second)
first_shown =
    let F = (fresh_two 0).1 in
    let near : Takes 0 70 = takes_so (omega arith) (λ h. omega arith) in
    let due : max 70 0 ≤ 70 = omega arith in
    let late : 0 < 70 = omega arith in
    (second_out F 70 70 near due (never_second F 70 70 near due late), same_stored F 70 70 near due late, late_stored F 70 70 near due late)

-- and two for 0, which have expired when they are set, polled at 0
pub expired_shown : (x : SecondOut) × (x.run.first.when ≤ elapsed x.start) × (x.run.second.when ≤ elapsed x.run.later)
expired_shown =
    let F = (fresh_two 0).1 in
    let near : Takes 0 0 = takes_so (omega arith) (λ h. absurd (omega arith)) in
    let due : max 0 0 ≤ 0 = omega arith in
    let I = in_order F 0 0 near due [] rest tt tt in
    let N = (J F 0 0 near due).names in
    (second_out F 0 0 near due (λ a u P o. expired_first_out F.sound I (C.Poll 0) a u P o N (omega arith) (omega arith)), omega arith, omega arith)

-- ---- 02 [10]: over a pause, inside the drain of their list

-- a timer comes to the tail of the list p
set_lists : {s t : QueueWords} {a : Answer} {x : Told} (r value when p : ℕ) (l : List ℕ)
    → Answered s a x (placed r when (with_period (upd (view s).period r 0) (with_value (upd (view s).value r value) (taken l (view s))))) t
    → target (elapsed s) (max when (elapsed s)) ≡ p → p < free → (q : ℕ) → q < free → (view t).lists q ≡ change (view s).lists p ((view s).lists p ++ r ∷ []) q
unfolding placed
set_lists {s} {t} r value when p l A e b q h =
    let L : Lists = change (view s).lists free l in
    let is : (view t).lists ≡ change L p (put p r (L p)) = ap (λ v. v.lists) A.view ∙ ap (λ o. change L o (put o r (L o))) e in
    let own : L p ≡ (view s).lists p = change_other (view s).lists free l p (omega (arith, b)) in
    ap (λ (M : Lists). M q) is
    ∙ by_cases (ℕ_discrete q p)
    (λ (z : q ≡ p).
    rw z (change_same L p (put p r (L p)) ∙ put_tail p r (L p) (omega (arith, b)) ∙ ap (λ k. k ++ r ∷ []) own
    ∙ sym (change_same (view s).lists p ((view s).lists p ++ r ∷ []))))
    (λ d.
    change_other L p (put p r (L p)) q d ∙ change_other (view s).lists free l q (omega (arith, h))
    ∙ sym (change_other (view s).lists p ((view s).lists p ++ r ∷ []) q d))

-- the list that they come to is p
module _ {s : QueueWords} {e : ℕ} (F : Fresh s e) (when now : ℕ) (near : Takes e when) (due : max when e ≤ now) (p : ℕ) (goes : target e (max when e) ≡ p)
    (below : p < expired) where
  abbrev set₂ : QueueWords
  set₂ = (m₂ F when now near due).1

  abbrev v₂ : View
  v₂ = view set₂

  -- both lie in it, and nothing else is pending
  lists₂ : (q : ℕ) → q < free → v₂.lists q ≡ change (λ o. []) p (0 ∷ 1 ∷ []) q
  lists₂ q h =
      let set₁ = (m₁ F when now near due).1 in
      let c = clock₁ F when now near due in
      let in-free : p < free = omega (arith, below) in
      let one = set_lists 0 7 when p (1 ∷ []) (D₁ F when now near due) (rw F.clock goes) in-free in
      let two = set_lists 1 8 when p [] (D₂ F when now near due) (rw c goes) in-free in
      let bare = F.empty in
      let first : (view set₁).lists p ≡ 0 ∷ []
      = one p in-free ∙ change_same (view s).lists p ((view s).lists p ++ 0 ∷ []) ∙ ap (λ k. k ++ 0 ∷ []) (bare p in-free) in
      two q h
      ∙ by_cases (ℕ_discrete q p)
      (λ (z : q ≡ p). rw z (change_same (view set₁).lists p _ ∙ ap (λ k. k ++ 1 ∷ []) first ∙ sym (change_same (λ o. []) p (0 ∷ 1 ∷ []))))
      (λ d.
      change_other (view set₁).lists p _ q d ∙ one q h ∙ change_other (view s).lists p _ q d ∙ bare q h
      ∙ sym (change_other (λ o. []) p (0 ∷ 1 ∷ []) q d))

  both₂ : v₂.lists p ≡ 0 ∷ 1 ∷ []
  both₂ = lists₂ p (omega (arith, below)) ∙ change_same (λ o. []) p (0 ∷ 1 ∷ [])

  other₂ : (q : ℕ) → q < free → q ≢ p → v₂.lists q ≡ []
  other₂ q h d = lists₂ q h ∙ change_other (λ o. []) p (0 ∷ 1 ∷ []) q d

  in_it : {i x d : ℕ} → Reaches v₂ i x 0 d → (r : ℕ) × Names v₂ i r p
  in_it R =
      let a = R.names.pending in
      let is : R.place ≡ p
      = by_cases (ℕ_discrete R.place p) (λ z. z) (λ d. absurd (subst (Mem R.number) (other₂ R.place a.timed d) a.member)) in
      (R.number, subst (λ q. Names v₂ _ R.number q) is R.names)

  -- a poll with a limit that stops inside its drain
  module _ (b m : ℕ) {N : Lists} (Stops-so : Limited v₂.deadline now none b v₂.elapsed v₂.lists (yet p) m 0 v₂.elapsed N) where
    y : (a : Answer) × (t : QueueWords) × CallClaim (C.PollSome now b) set₂ a t
    y = call_met (C.PollSome now b) set₂

    says_yet : told y.0 ≡ T.yet m 0
    says_yet =
        let Q = (some_on (D₂ F when now near due).sound (K₂ F when now near due) y.2).1 in
        let l = subst (λ h. Limited v₂.deadline now h b v₂.elapsed v₂.lists (yet p) m 0 v₂.elapsed N)
        (sym (got_none v₂.hand (rest₂ F when now near due))) Stops-so in
        (polls_one Q (not_yet (polled_some (other₂ expired (omega arith) (omega (arith, below))) l))).0

    -- each of the two waits over it
    waits_on : {i x d : ℕ} → Reaches v₂ i x 0 d → Reaches (view y.1) i x 0 d
    waits_on R =
        reaches_on (D₂ F when now near due).sound R (next {x = asked (C.PollSome now b) y.0} y.2 rest)
        ((λ z. absurd z, λ o. none_out (ap handing (sym says_yet) ∙ o.4)), tt)

    module _ (never : (a : Answer) (u : QueueWords) → CallClaim (C.Poll now) set₂ a u → HandsKey (k F when now near due) (told a) → ⊥) where
      abbrev third : (a : Answer) × (t : QueueWords) × CallClaim (C.Poll now) set₂ a t
      third = m₃ F when now near due never

      x₃ : (x : Answer) × CallClaim (C.Poll now) y.1 x third.1 × (told third.0 ≡ added m 0 (told x))
      x₃ = rest_of_whole y.0 third.0 y.2 says_yet third.2

      abbrev paused : List Asked
      paused = asked (C.PollSome now b) y.0 ∷ asked (C.Poll now) x₃.0 ∷ []

      unset_both : {i x d : ℕ} → Reaches v₂ i x 0 d
          → Each (NotSet i) (next {x = asked (C.PollSome now b) y.0} y.2 (next {x = asked (C.Poll now) x₃.0} x₃.1 rest))
      unset_both R = (unset set₂ R limited y.0 y.1, (unset y.1 (waits_on R) whole x₃.0 third.1, tt))

      abbrev paused_out : SecondOut
      paused_out =
          second_by F when now near due never paused (next y.2 (next x₃.1 rest)) (unset_both (J F when now near due)) (unset_both (K F when now near due))

-- ---- for 70, between the moves of the first and of the second
module _ {s : QueueWords} (F : Fresh s 0) (near : Takes 0 70) (due : max 70 0 ≤ 70) where
  abbrev v : View
  v = view (m₂ F 70 70 near due).1

  goes_70 : target 0 (max 70 0) ≡ 65
  goes_70 = target_70 0 refl

  in_slot_70 : v.lists 65 ≡ 0 ∷ 1 ∷ []
  in_slot_70 = both₂ F 70 70 near due 65 goes_70 (omega arith)

  else_70 : (q : ℕ) → q < free → q ≢ 65 → v.lists q ≡ []
  else_70 = other₂ F 70 70 near due 65 goes_70 (omega arith)

  own_slot : slot_of v.elapsed 1 ≡ 0
  unfolding slot_of width
  own_slot = ap (λ e. e / 64 % 64) (clock₂ F 70 70 near due)

  starts_at : start_at v.elapsed 1 1 ≡ 64
  unfolding start_at width
  starts_at = ap (λ e. e / 4096 * 4096 + 64) (clock₂ F 70 70 near due)

  first_slot : FirstSlot v.elapsed v.lists 1 1
  first_slot =
      record {
        within = omega arith;
        lowest = λ q h. else_70 q (omega arith) (omega arith);
        steps = 1;
        near = omega arith;
        is = omega (arith, own_slot);
        passed = λ i h. else_70 (slot_place 1 ((slot_of v.elapsed 1 + i) % 64)) (omega arith) (omega (arith, own_slot, h));
        head = 0;
        rest = 1 ∷ [];
        filled = in_slot_70;
      }

  -- a poll with limit 1 moves the first, and stops before the second
  abbrev moved : Lists
  moved = arrive 0 (v.deadline 0) 0 (change v.lists 65 (1 ∷ []))

  still_there : moved 65 ≡ 1 ∷ []
  unfolding arrive
  still_there =
      change_other (change v.lists 65 (1 ∷ [])) _ _ 65 (omega (arith, slot_lt (v.deadline 0) 0)) ∙ change_same v.lists 65 (1 ∷ [])

  stops_70 : Limited v.deadline 70 none 1 v.elapsed v.lists (yet 65) 1 0 v.elapsed moved
  stops_70 = finds (in_slot first_slot) (omega (arith, starts_at)) (moves in_slot_70 (stops still_there))

-- two for 70, polled at 70 with a pause between the moves of the first and of the second: they come out in order all the same
pub paused_shown : (x : SecondOut) × (stored_on x.run.first ≡ stored_on x.run.second) × (elapsed x.run.later < stored_on x.run.second)
    × Some (λ y. SaysYet (told y.answer)) x.run.after
paused_shown =
    let F = (fresh_two 0).1 in
    let near : Takes 0 70 = takes_so (omega arith) (λ h. omega arith) in
    let due : max 70 0 ≤ 70 = omega arith in
    let late : 0 < 70 = omega arith in
    let goes = goes_70 F near due in
    let low : 65 < expired = omega arith in
    let stops = stops_70 F near due in (
      paused_out F 70 70 near due 65 goes low 1 1 stops (never_second F 70 70 near due late),
      same_stored F 70 70 near due late,
      late_stored F 70 70 near due late,
      inl (1, 0, says_yet F 70 70 near due 65 goes low 1 1 stops),
    )

-- ---- 02 [12]: for exactly the start of the next block, where both are parked

abbrev start : ℕ
start = 68719476736

-- both timers lie in the list p when the second is set
abbrev BothIn : SecondOut → ℕ → Type 0
BothIn x p = ((r : ℕ) × Names (view x.run.both) x.one r p) × ((r : ℕ) × Names (view x.run.both) x.two r p)

module _ {s : QueueWords} (F : Fresh s 1) (near : Takes 1 start) (due : max start 1 ≤ start) where
  abbrev u : View
  u = view (m₂ F start start near due).1

  goes_parked : target 1 (max start 1) ≡ parking
  unfolding target
  goes_parked = refl

  block_starts : block_end u.elapsed ≡ start
  unfolding block_end
  block_starts = ap (λ e. (block e + 1) * 2 ^ 36) (clock₂ F start start near due)

  both_parked : ((r : ℕ) × Names u (j F start start near due) r parking) × ((r : ℕ) × Names u (k F start start near due) r parking)
  both_parked = (
    in_it F start start near due parking goes_parked (omega arith) (J F start start near due),
    in_it F start start near due parking goes_parked (omega arith) (K F start start near due),
  )

  -- a poll with limit 0 stops before the first move of the parking list
  stops_parked : Limited u.deadline start none 0 u.elapsed u.lists (yet parking) 0 0 u.elapsed u.lists
  stops_parked =
      let both = both₂ F start start near due parking goes_parked (omega arith) in
      let none-else = other₂ F start start near due parking goes_parked (omega arith) in
      let X : NextList u.elapsed u.lists 6 parking (block_end u.elapsed)
      = in_parking (λ q h. none-else q (omega (arith, h)) (omega (arith, h))) both in
      finds X (omega (arith, block_starts)) (stops both)

-- set at 1 for 2^36 they are parked, and polled at 2^36 they come out in order
pub parked_shown : (x : SecondOut) × (stored_on x.run.first ≡ stored_on x.run.second) × (elapsed x.run.later < stored_on x.run.second)
    × BothIn x parking
parked_shown =
    let F = (fresh_two 1).1 in
    let near : Takes 1 start = takes_so (omega arith) (λ h. omega arith) in
    let due : max start 1 ≤ start = omega arith in
    let late : 1 < start = omega arith in (
      second_out F start start near due (never_second F start start near due late),
      same_stored F start start near due late,
      late_stored F start start near due late,
      both_parked F near due,
    )

-- and so with a pause inside the drain of the parking list: a poll with limit 0, and then the whole one
pub parked_paused_shown : (x : SecondOut) × (stored_on x.run.first ≡ stored_on x.run.second) × (elapsed x.run.later < stored_on x.run.second)
    × BothIn x parking × Some (λ y. SaysYet (told y.answer)) x.run.after
parked_paused_shown =
    let F = (fresh_two 1).1 in
    let near : Takes 1 start = takes_so (omega arith) (λ h. omega arith) in
    let due : max start 1 ≤ start = omega arith in
    let late : 1 < start = omega arith in
    let goes = goes_parked F near due in
    let low : parking < expired = omega arith in
    let stops = stops_parked F near due in (
      paused_out F start start near due parking goes low 0 0 stops (never_second F start start near due late),
      same_stored F start start near due late,
      late_stored F start start near due late,
      both_parked F near due,
      inl (0, 0, says_yet F start start near due parking goes low 0 0 stops),
    )
