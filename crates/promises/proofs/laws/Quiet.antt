-- A store where nothing is pending: there is one, and a poll takes it to any time. So the mornings and the refusals have stores to speak of. And stores
-- where a timer has expired, alone or with another on the wheel.
use mathlib.Core.Path.{◌≡◌, refl, sym, ap, ◌∙◌, subst}
use mathlib.Core.List.{List, [], ◌∷◌, nil≢cons}
use mathlib.Core.Option.{some-ne-none}
use mathlib.Core.Logic.{◌≢◌, inl, by_cases}
use Prim.Native.Nat.{ℕ, ◌≤◌, ◌<◌, max}
use native.Mathlib.Omega.{arith}
use native.Mathlib.Decide.{ℕ_discrete}
use borrow.Author.Tests.{eq-eqb}
use Rattle.times.specs.Times.{width, slot_of, level_below, level_of}
use Rattle.links.specs.Lists.{nobody, Mem, change}
use Rattle.links.proofs.laws.Lists.{change_same, change_other}
use Rattle.places.specs.Places.{parking, expired, free, put}
use Rattle.places.proofs.laws.Places.{put_empty}
use Rattle.places.specs.Format.{formatted, range}
use Rattle.places.proofs.laws.Whole as place_laws
use Rattle.wheel.specs.Wheel.{idle, place_for}
use Rattle.wheel.proofs.laws.One.{polls_one}
use Rattle.wheel.proofs.laws.Sums.{put_mem}
use Rattle.queue.specs.declared.Answer.{Answer}
use Rattle.queue.specs.Told.{Told}
use Rattle.records.specs.View.{with_period, View, with_value, upd}
use Rattle.records.specs.Records.{Takes, taken, target, placed}
use Rattle.queue.specs.Steps.{QueuePolls, polled, popped, handed, nothing}
use Rattle.records.specs.Words.{QueueWords, words, slices, count, elapsed, view, AtRest, Sound}
use Rattle.records.specs.Slices.{Fits}
use Rattle.records.proofs.laws.Cases.{takes_so}
use Rattle.delay_queue.specs.Claims.{InsertClaim, PollClaim}
use Rattle.promises.proofs.laws.Met.{format_met, insert_met, poll_met}
use Rattle.promises.specs.OneCall.{zeros, one}
use Rattle.promises.proofs.laws.OneCall.{one_sound, one_free}
use Rattle.promises.specs.Quiet.{Quiet}
use Rattle.promises.specs.Looking.{InList}

-- a poll takes it to any time
quiet_polls : {v : View} {now : ℕ} → ((p : ℕ) → p < free → v.lists p ≡ []) → {y : Told} {u : View} → QueuePolls v now y u
    → (u.elapsed ≡ now) × (u.lists ≡ v.lists) × (u.n ≡ v.n)
quiet_polls E (handed (popped e) G) = absurd (nil≢cons (sym (E expired (omega arith)) ∙ e))
quiet_polls E (handed (polled e P) G) = absurd (some-ne-none _ (polls_one P (idle (λ q h. E q (omega arith), E parking (omega arith)))).got)
quiet_polls E (nothing (polled e P)) = let S = polls_one P (idle (λ q h. E q (omega arith), E parking (omega arith))) in (S.elapsed, S.lists, refl)

-- no poll is in hand: it would have something to drain
pub quiet_rest : {s : QueueWords} {e : ℕ} → Quiet s e → AtRest s
quiet_rest {s} Q =
    by_cases (ℕ_discrete s.hand nobody) (λ z. z)
    (λ d. let H = Q.sound.rule.inside d in absurd (nil≢cons (sym (Q.empty s.hand (omega (arith, H.below))) ∙ H.filled.2)))

pub quiet_poll : {s t : QueueWords} {a : Answer} {e now : ℕ} → Quiet s e → e ≤ now → PollClaim s now a t → Quiet t now
quiet_poll {s} {t} Q h P =
    let D = ((P.good Q.sound).free (quiet_rest Q)).done (omega arith) in
    let r = quiet_polls Q.empty D.1 in
    record {
      sound = D.0;
      clock = r.0;
      empty = λ p g. ap (λ L. L p) r.1 ∙ Q.empty p g;
      item = Q.item;
      rest = Q.rest;
      first = ap (λ L. L free) r.1 ∙ Q.first;
    }

one_count : count one ≡ 1
unfolding formatted
one_count = refl

one_quiet : Quiet one 0
one_quiet = record {
  sound = one_sound;
  clock = refl;
  empty = λ p h. by p h ((view one).lists p) refl;
  item = 0;
  rest = [];
  first = one_free;
}
  where
    by : (p : ℕ) → p < free → (l : List ℕ) → (view one).lists p ≡ l → (view one).lists p ≡ []
    by p h [] e = e
    by p h (x ∷ l) e =
        let W = one_sound.standing.whole.places in
        let m : Mem x ((view one).lists p) = rw e (inl refl) in
        let f : Mem 0 ((view one).lists free) = rw one_free (inl refl) in
        let z : x ≡ 0 = omega (arith, place_laws.member_below W p x m, one_count) in
        absurd (omega (arith, place_laws.member_mark W p 0 (rw z at m), place_laws.member_mark W free 0 f))

-- there is one, at any time
pub quiet_shown : (e : ℕ) → (s : QueueWords) × Quiet s e
quiet_shown e = let m = poll_met one e in (m.1, quiet_poll one_quiet (omega arith) m.2)

-- ---- an expired timer

placed_expired : (v : View) (x when : ℕ) → when ≤ v.elapsed → v.lists expired ≡ []
    → ((placed x when v).elapsed ≡ v.elapsed) × ((placed x when v).lists expired ≡ x ∷ [])
unfolding placed target
placed_expired v x when h e =
    let w : max when v.elapsed ≡ v.elapsed = omega arith in (
      refl,
      rw (w, eq-eqb v.elapsed v.elapsed refl)
          (change_same v.lists expired (put expired x (v.lists expired)) ∙ ap (put expired x) e ∙ put_empty expired x),
    )

-- one that is inserted with a deadline not past elapsed waits on the expired stack
pub quiet_expired : {s t : QueueWords} {a : Answer} {value when period e : ℕ} (Q : Quiet s e) → when ≤ e → Takes (elapsed s) when
    → InsertClaim s value when period a t → Sound t × (elapsed t ≡ e) × ((view t).lists expired ≡ Q.item ∷ [])
quiet_expired {s} {t} {value = value} {when = when} {period = period} Q h k I =
    let A = ((I.good Q.sound).free (quiet_rest Q)).done Q.item Q.rest Q.first k in
    let v =
    with_period (upd (view s).period Q.item period) (with_value (upd (view s).value Q.item value) (taken Q.rest (view s))) in
    let e = change_other (view s).lists free Q.rest expired (omega arith) ∙ Q.empty expired (omega arith) in
    let P = placed_expired v Q.item when (omega (arith, Q.clock)) e in
    (A.sound, cc, cc)

-- so there is a store with an expired timer waiting, at any time
pub expired_shown : (e : ℕ) → (s : QueueWords) × Sound s × (elapsed s ≡ e) × ((r : ℕ) × ((view s).lists expired ≡ r ∷ []))
expired_shown e =
    let q = quiet_shown e in
    let m = insert_met q.0 0 e 0 in
    let x = quiet_expired q.1 (omega arith) (takes_so (omega (arith, q.1.clock)) (λ h. absurd (omega (arith, q.1.clock)))) m.2 in
    (m.1, x.0, x.1, (q.1.item, x.2))

-- ---- one that has expired, and one on the wheel

placed_lists : (x when : ℕ) (v : View) (p : ℕ) → target v.elapsed (max when v.elapsed) ≡ p
    → (placed x when v).lists ≡ change v.lists p (put p x (v.lists p))
unfolding placed
placed_lists x when v p e = ap (λ q. change v.lists q (put q x (v.lists q))) e

placed_clock : (x when : ℕ) (v : View) → (placed x when v).elapsed ≡ v.elapsed
unfolding placed
placed_clock x when v = refl

placed_hand : (x when : ℕ) (v : View) → (placed x when v).hand ≡ v.hand
unfolding placed
placed_hand x when v = refl

-- x has come from the head of the free list, of which l is left, to the place p
record Came (s t : QueueWords) (x p : ℕ) (l : List ℕ) : Type 0 where
  sound : Sound t
  at_rest : AtRest t
  clock : elapsed t ≡ elapsed s
  left : (view t).lists free ≡ l
  member : Mem x ((view t).lists p)
  else : (q : ℕ) → q < free → q ≢ p → (view t).lists q ≡ (view s).lists q

came : {s t : QueueWords} {a : Answer} {value when period p x : ℕ} {l : List ℕ} → InsertClaim s value when period a t → Sound s → AtRest s
    → (view s).lists free ≡ x ∷ l
    → Takes (elapsed s) when → target (elapsed s) (max when (elapsed s)) ≡ p → p < free → Came s t x p l
came {s} {t} {value = value} {when = when} {period = period} {p = p} {x = x} {l = l} I S z f k e h =
    let A = ((I.good S).free z).done x l f k in
    let v = with_period (upd (view s).period x period) (with_value (upd (view s).value x value) (taken l (view s))) in
    let L = change (view s).lists free l in
    let is : (view t).lists ≡ change L p (put p x (L p)) = ap (λ u. u.lists) A.view ∙ placed_lists x when v p e in
    record {
      sound = A.sound;
      at_rest = ap (λ u. u.hand) A.view ∙ placed_hand x when v ∙ z;
      clock = ap (λ u. u.elapsed) A.view ∙ placed_clock x when v;
      left = ap (λ M. M free) is ∙ change_other L p (put p x (L p)) free (omega arith) ∙ change_same (view s).lists free l;
      member = subst (λ M. Mem x (M p)) (sym is) (rw (change_same L p (put p x (L p))) (put_mem p x x (L p) (inl refl)));
      else = λ q g d. ap (λ M. M q) is ∙ change_other L p (put p x (L p)) q d ∙ change_other (view s).lists free l q (omega arith);
    }

some_first : (x : ℕ) (l : List ℕ) → Mem x l → (r : ℕ) × (k : List ℕ) × (l ≡ r ∷ k)
some_first x [] m = absurd m
some_first x (r ∷ k) m = (r, k, refl)

-- ---- two records, freshly formatted

abbrev pair : List ℕ
pair = 0 ∷ 0 ∷ []

abbrev blank : QueueWords
blank = words zeros [] (0 ∷ 0 ∷ pair) pair pair pair pair pair

fits : Fits (slices blank) 2
fits =
    record {
      some = omega arith;
      few = omega arith;
      room = record {
        values = omega arith;
        deadlines = omega arith;
        links = record { nexts = omega arith; prevs = omega arith; marks = omega arith };
        turns = omega arith;
      };
    }

-- a store at the time e with nothing but two records to take
pub record Fresh (s : QueueWords) (e : ℕ) : Type 0 where
  pub sound : Sound s
  pub at_rest : AtRest s
  pub size : (view s).n ≡ 2
  pub clock : elapsed s ≡ e
  pub empty : (p : ℕ) → p < free → (view s).lists p ≡ []
  pub room : (view s).lists free ≡ 0 ∷ 1 ∷ []

pub fresh_two : (e : ℕ) → (s : QueueWords) × Fresh s e
unfolding range
fresh_two e =
    let m = format_met blank 2 1 in
    let D = m.2.done fits (record { some = omega arith; last = omega arith }) in
    let room = ap (λ v. v.lists free) D.view ∙ change_same (λ p. []) free (range 2 0) in
    let none : (p : ℕ) → p < free → (view m.1).lists p ≡ []
    = λ p h. ap (λ v. v.lists p) D.view ∙ change_other (λ p. []) free (range 2 0) p (omega (arith, h)) in
    let Q : Quiet m.1 0 = record {
      sound = D.sound;
      clock = ap (λ v. v.elapsed) D.view;
      empty = none;
      item = 0;
      rest = 1 ∷ [];
      first = room;
    } in
    let n = poll_met m.1 e in
    let R = quiet_poll Q (omega arith) n.2 in
    let r = quiet_polls none (((n.2.good D.sound).free (quiet_rest Q)).done (omega (arith, Q.clock))).1 in (
      n.1,
      record {
        sound = R.sound;
        at_rest = quiet_rest R;
        size = r.2 ∙ ap (λ v. v.n) D.view;
        clock = R.clock;
        empty = R.empty;
        room = ap (λ L. L free) r.1 ∙ room;
      },
    )

-- ---- one has expired, another lies on the wheel

pub target_70 : (e : ℕ) → e ≡ 0 → target e (max 70 e) ≡ 65
unfolding target place_for level_of level_below slot_of width
target_70 e z = rw z

target_0 : (e : ℕ) → target e (max 0 e) ≡ expired
unfolding target
target_0 e = let w : max 0 e ≡ e = omega arith in rw (w, eq-eqb e e refl)

-- a timer for 70, then one for 0: a store where one has expired and another lies on the wheel
pub both_shown : (s : QueueWords) × Sound s × ((r : ℕ) × (l : List ℕ) × ((view s).lists expired ≡ r ∷ l)) × InList (view s) 0 65
both_shown =
    let s = (fresh_two 0).0 in
    let F = (fresh_two 0).1 in
    let m = insert_met s 0 70 0 in
    let k : Takes (elapsed s) 70 = takes_so (omega (arith, F.clock)) (λ h. omega (arith, F.clock)) in
    let A = came m.2 F.sound F.at_rest F.room k (target_70 (elapsed s) F.clock) (omega arith) in
    let n = insert_met m.1 0 0 0 in
    let j : Takes (elapsed m.1) 0 = takes_so (omega (arith, A.clock, F.clock)) (λ h. absurd (omega arith)) in
    let B = came n.2 A.sound A.at_rest A.left j (target_0 (elapsed m.1)) (omega arith) in
    let on : Mem 0 ((view n.1).lists 65) = rw (B.else 65 (omega arith) (omega arith)) A.member in
    (n.1, B.sound, some_first 1 ((view n.1).lists expired) B.member, record { below = omega arith; member = on })
