-- "Chained calls give the whole poll's answer, store and summed counts" (02 [10]), whatever their limits, word for word, from any words (`chained`): a call
-- that says "not yet" and the rest of the poll behind it are the rest of the poll, and that is one thing only. So many calls it takes (`calls_exact`), and
-- there are such (`calls_met`); what a limit of 0 does (`limit_zero`).
use mathlib.Core.Path.{◌≡◌, refl, sym, ap, ◌∙◌, subst}
use mathlib.Core.Logic.{◌⊎◌, inl, inr, ⊎_elim, by_cases}
use mathlib.Core.Bool.{false, true≢false}
use mathlib.Core.List.{List, [], ◌∷◌, nil≢cons}
use mathlib.Core.Option.{Option, none, some}
use Prim.Native.Nat.{ℕ, zero, suc, ◌+◌, ◌-◌, ◌*◌, ◌/◌, ◌≤◌, ◌<◌, max}
use native.Mathlib.Nat.{le-div_iff_mul-le, div-lt_iff_lt-mul}
use native.Mathlib.Decide.{ℕ_discrete}
use native.Mathlib.Omega.{arith}
use lib.ListN.{length}
use Rattle.links.specs.Lists.{nobody}
use Rattle.wheel.specs.Wheel.{Lists}
use Rattle.wheel.specs.Drain.{heights}
use Rattle.wheel.specs.Limited.{ended as stopped, yet, Limited, finds, stops, empties}
use Rattle.wheel.specs.Moves.{gotten}
use Rattle.wheel.proofs.laws.Next.{list_some}
use Rattle.wheel.proofs.laws.Limited.{yet_all, ended_few}
use Rattle.wheel.proofs.laws.Single.{hand_moves}
use Rattle.wheel.proofs.laws.Moves.{got_none, got_some}
use Rattle.queue.specs.declared.Answer.{Answer}
use Rattle.queue.specs.Told.{Told, told}
use Rattle.queue.specs.Told as T
use Rattle.queue.specs.Steps.{GoesOn, once, again, ended, TakesSome, popped_some, polled_some, PollsSome, handed_some, nothing_some, not_yet}
use Rattle.queue.specs.Steps.{PollsRest, handed_rest, nothing_rest}
use Rattle.queue.proofs.laws.Polls.{rest_size}
use Rattle.records.specs.View.{View, with_elapsed, with_lists, with_hand}
use Rattle.records.specs.Words.{QueueWords, holding, count, elapsed, view, MidPoll, Sound, PastKept}
use Rattle.records.proofs.laws.Words.{past_then, view_fixed}
use Rattle.delay_queue.specs.declared.Call.{Call}
use Rattle.delay_queue.specs.declared.Call.TheVariants as C
use Rattle.delay_queue.specs.Claims.{PollClaim, CallClaim}
use Rattle.pausing.specs.Pausing.{added, SaysYet, PollTaken}
use Rattle.pausing.proofs.laws.Pausing.{YetTo, polls_yet, in_hand, some_hand, taken_on, rest_added, some_ends, some_rest, rest_no_yet, rest_one, some_on}
use Rattle.pausing.proofs.laws.Works.{takes_some_works}
use Rattle.promises.specs.Polls.{PollAt, whole, limited}
use Rattle.promises.specs.OneCall.{reach, is_no}
use Rattle.promises.specs.Keys.{asked}
use Rattle.promises.specs.Runs.{Asked, Runs, rest, next, moves_of}
use Rattle.promises.specs.Chained.{Chain, last, more, OnlyHeld, WithNoMove, Limits, ChainMet}
use Rattle.promises.proofs.laws.Does.{whole_rest, poll_done, NoPoll, polls_judged}
use Rattle.promises.proofs.laws.OneCall.{call_met, call_sound, past_kept}
use Rattle.promises.proofs.laws.Polling.{goes_on_counts}
use Rattle.promises.proofs.laws.Once.{kept_once}

-- ---- one poll, and the polls behind it

poll_reach : {c : Call} {now : ℕ} → PollAt c now → (s : QueueWords) → reach c s ≡ count s
poll_reach whole s = refl
poll_reach limited s = refl

-- a refusal is not "not yet"
no_yet : {k m n : ℕ} {x : Told} → x ≡ T.no k → x ≡ T.yet m n → ⊥
no_yet e f = let z : ◌≡◌ {A = ℕ} 0 1 = cc in omega arith

-- what a poll leaves that is taken, and goes on
record Rested (s : QueueWords) (now : ℕ) (x : Told) (t : QueueWords) : Type 0 where
  sound : Sound t
  polls : PollsRest (view s) now x (view t)
  kept : PastKept (count s) s t

-- the words of two polls that are taken
rested_once : {s t t' : QueueWords} {now : ℕ} {x y : Told} → Rested s now x t → Rested s now y t' → (y ≡ x) × (t' ≡ t)
rested_once R Q =
    let e = rest_one Q.polls R.polls in
    (e.0, kept_once R.sound Q.sound e.1 (rest_size R.polls) R.kept Q.kept)

module _ {s : QueueWords} (S : Sound s) {now : ℕ} (K : PollTaken (view s) now) where
  -- the whole poll
  whole_rested : (a : Answer) (t : QueueWords) → PollClaim s now a t → Rested s now (told a) t
  whole_rested a t P =
      by_cases (ℕ_discrete s.hand nobody)
      (λ z. let D = ((P.good S).free z).done (K.later z) in record { sound = D.0; polls = whole_rest S z D.1; kept = D.2 })
      (λ d. let D = (P.good S).same d (K.same d) in record { sound = D.0; polls = D.1; kept = D.2 })

  -- a call that ends
  last_rested : {c : Call} → PollAt c now → (a : Answer) (t : QueueWords) → CallClaim c s a t → (SaysYet (told a) → ⊥) → Rested s now (told a) t
  last_rested {c} p a t P f =
      record {
        sound = call_sound c s a t P S;
        polls = some_rest (poll_done S p K a t P).1 f;
        kept = subst (λ (n : ℕ). PastKept n s t) (poll_reach p s) (past_kept c s a t P);
      }

  -- a call that does not
  yet_to : {c : Call} → PollAt c now → (a : Answer) (u : QueueWords) → CallClaim c s a u → {m n : ℕ} → told a ≡ T.yet m n
      → (limit p : ℕ) × YetTo (view s) now limit p m n (view u)
  yet_to p a u P e = let D = poll_done S p K a u P in let Y = polls_yet D.1 e in (D.0, Y.0, Y.1)

  more_rested : {c : Call} → PollAt c now → (a : Answer) (u t : QueueWords) → CallClaim c s a u → {m n : ℕ} → told a ≡ T.yet m n → {x : Told}
      → Rested u now x t → Rested s now (added m n x) t
  more_rested {c} p a u t P e R =
      let Y = (yet_to p a u P e).2 in
      let k : PastKept (count s) s u = subst (λ (n : ℕ). PastKept n s u) (poll_reach p s) (past_kept c s a u P) in
      record {
        sound = R.sound;
        polls = rest_added Y (some_hand S K Y) (in_hand S K Y).expired R.polls;
        kept = past_then (ap (λ v. v.n) Y.is) k R.kept;
      }

chain_rested : {s t : QueueWords} {now : ℕ} {l : List Asked} {x : Told} → Sound s → PollTaken (view s) now → Runs s l t → Chain now l x → Rested s now x t
chain_rested S K (next {x = x} P rest) (last p f) = last_rested S K p x.answer _ P f
chain_rested {s} {t} S K (next {t = u} {x = x} P R) (more p e H) =
    let Y = (yet_to S K p x.answer u P e).2 in
    more_rested S K p x.answer u t P e (chain_rested (call_sound x.call s x.answer u P S) (taken_on S K Y) R H)
chain_rested S K rest H = elim H [ ]

-- ---- "Chained calls give the whole poll's answer, store and summed counts."

-- a refused chain is one call
chain_refused : {s t : QueueWords} {now k : ℕ} {l : List Asked} {x : Told} → NoPoll s now k → Runs s l t → Chain now l x
    → (x ≡ T.no k) × (t ≡ s) × (length l ≡ 1)
chain_refused {s} N (next {t = t} {x = x} P rest) (last p f) = let R = N x.call p x.answer t P in (R.told, R.same, refl)
chain_refused {s} N (next {t = u} {x = x} P R) (more p e H) = absurd (no_yet (N x.call p x.answer u P).told e)
chain_refused N rest H = elim H [ ]

-- whatever is lent, whatever limits, ended by a limited or by the whole poll: the whole poll's answer with the summed counts, and its store, word for word
pub chained : {s t : QueueWords} {now : ℕ} {l : List Asked} {x : Told} → Runs s l t → Chain now l x
    → (a : Answer) (t' : QueueWords) → CallClaim (C.Poll now) s a t' → (told a ≡ x) × (t' ≡ t)
chained {s} {t} {now} R H a t' P =
    ⊎_elim
    (λ N.
    let A = N.1 (C.Poll now) whole a t' P in
    let B = chain_refused N.1 R H in
    (A.told ∙ sym B.0, A.same ∙ sym B.1))
    (λ K. rested_once (chain_rested K.0 K.1 R H) (whole_rested K.0 K.1 a t' P))
    (polls_judged s now)

-- a whole poll never answers "not yet"
pub whole_ends : (s : QueueWords) (now : ℕ) (a : Answer) (t : QueueWords) → CallClaim (C.Poll now) s a t → SaysYet (told a) → ⊥
whole_ends s now a t P y =
    ⊎_elim
    (λ N. no_yet (N.1 (C.Poll now) whole a t P).told y.2)
    (λ K. rest_no_yet (whole_rested K.0 K.1 a t P).polls y)
    (polls_judged s now)

-- so behind a "not yet" the whole poll has the rest of the counts, and leaves what it would have left at once
pub rest_of_whole : {s u t : QueueWords} {now limit m n : ℕ} (y a : Answer) → CallClaim (C.PollSome now limit) s y u → told y ≡ T.yet m n
    → CallClaim (C.Poll now) s a t → (x : Answer) × CallClaim (C.Poll now) u x t × (told a ≡ added m n (told x))
rest_of_whole {s} {u} {t} {now} {limit} y a P e Q =
    let x = call_met (C.Poll now) u in
    let R = next {x = asked (C.PollSome now limit) y} P (next {x = asked (C.Poll now) x.0} x.2 rest) in
    let q = chained R (more limited e (last whole (whole_ends u now x.0 x.1 x.2))) a t Q in
    (x.0, subst (CallClaim (C.Poll now) u x.0) (sym q.1) x.2, q.0)

-- ---- how many calls

-- the moves of an answer that is added to are its own and those
goes_moves : {v : View} {r i j : ℕ} {u : View} {x : Told} {w : View} (m n : ℕ) → GoesOn v r i j u x w → moves_of (added m n x) ≡ m + moves_of x
goes_moves m n (once z) = refl
goes_moves m n (again q f) = refl
goes_moves m n (ended q f) = refl

rest_moves : {v : View} {now : ℕ} {x : Told} {w : View} (m n : ℕ) → PollsRest v now x w → moves_of (added m n x) ≡ m + moves_of x
rest_moves m n (handed_rest T G) = goes_moves m n G
rest_moves m n (nothing_rest T) = refl

-- a call that ends makes no more moves than it may
takes_few : {v : View} {now limit : ℕ} {g : Option ℕ} {m n : ℕ} {u : View} → TakesSome v now limit (stopped g) m n u → m ≤ limit
takes_few (popped_some e) = omega arith
takes_few (polled_some e r) = ended_few r

some_few : {v : View} {now limit : ℕ} {x : Told} {w : View} → PollsSome v now limit x w → (SaysYet x → ⊥) → moves_of x ≤ limit
some_few (handed_some T G) f = omega (arith, (goes_on_counts G).0, takes_few T)
some_few (nothing_some T) f = takes_few T
some_few (not_yet {m = m} {n = n} T) f = absurd (f (m, n, refl))

-- and from a poll in hand makes one
module _ {s : QueueWords} (S : Sound s) (D : MidPoll s) where
  hand_takes : {now limit : ℕ} {g : Option ℕ} {m n : ℕ} {u : View} → TakesSome (view s) now limit (stopped g) m n u → 0 < m
  hand_takes (popped_some e) = absurd (nil≢cons (sym (S.rule.inside D).expired ∙ e))
  hand_takes {now} {limit} {g} (polled_some {m = m} {n = n} {e = c} {L = N} e r) =
      hand_moves (S.rule.inside D).filled.2
      (subst (λ (h : Option ℕ). Limited (view s).deadline now h limit (view s).elapsed (view s).lists (stopped g) m n c N) (got_some s.hand D) r)

  pub hand_rest : {now : ℕ} {x : Told} {w : View} → PollsRest (view s) now x w → 0 < moves_of x
  hand_rest (handed_rest T G) = omega (arith, (goes_on_counts G).0, hand_takes T)
  hand_rest (nothing_rest T) = hand_takes T

-- m moves in k calls with the limit b each: no fewer would do, and no more are made
record Counts (b m k : ℕ) : Type 0 where
  few : m ≤ k * b
  many : (k ≡ 1) ⊎ (k * b < m + b)

rounded : {b m k : ℕ} → 0 < b → 0 < k → Counts b m k → k ≡ max 1 ((m + b - 1) / b)
rounded {b} {m} {k} pos one N =
    ⊎_elim
    (λ (e : k ≡ 1).
    let z : (m + b - 1) / b < 2 = (div-lt_iff_lt-mul pos).1 (omega (arith, rw e at N.few, pos)) in
    omega (arith, z))
    (λ h.
    let u : k ≤ (m + b - 1) / b = (le-div_iff_mul-le pos).1 (omega (arith, h, pos)) in
    let v : (m + b - 1) / b < suc k = (div-lt_iff_lt-mul pos).1 (omega (arith, N.few, pos)) in
    omega (arith, u, v))
    N.many

-- a limited poll of that limit
limited_done : {s : QueueWords} → Sound s → {now b : ℕ} → PollTaken (view s) now → (x : Asked) (t : QueueWords) → x.call ≡ C.PollSome now b
    → CallClaim x.call s x.answer t → PollsSome (view s) now b (told x.answer) (view t)
limited_done {s} S K x t e P = (some_on S K (subst (λ (c : Call). CallClaim c s x.answer t) e P)).1

chain_counts : {s t : QueueWords} {now b : ℕ} {l : List Asked} {x : Told} → Sound s → PollTaken (view s) now → Runs s l t → Chain now l x → Limits now b l
    → Counts b (moves_of x) (length l) × (MidPoll s → length l * b < moves_of x + b)
chain_counts {s} {t} S K (next {x = x} P rest) (last p f) A =
    let Q = limited_done S K x t A.0 P in (
      record { few = omega (arith, some_few Q f); many = inl refl },
      λ d. omega (arith, hand_rest S d (some_rest Q f)),
    )
chain_counts {s} {t} {now} {b} S K (next {t = u} {x = x} P R) (more {l = l} {m = m} {n = n} {y = y} p e H) A =
    let Y = (polls_yet (limited_done S K x u A.0 P) e).1 in
    let U = call_sound x.call s x.answer u P S in
    let J = taken_on S K Y in
    let D : MidPoll u = λ z. some_hand S K Y (sym (ap (λ v. v.hand) Y.is) ∙ z) in
    let N = chain_counts U J R H A.1 in
    let q = rest_moves m n (chain_rested U J R H).polls in
    let h : suc (length l) * b < moves_of (added m n y) + b = omega (arith, q, yet_all Y.polls, N.1 D) in
    (record { few = omega (arith, q, yet_all Y.polls, N.0.few); many = inr h }, λ _. h)
chain_counts S K rest H A = elim H [ ]

-- "For a limit b of at least 1 and m moves in all, it takes exactly the larger of 1 and m/b rounded up calls": from any words, begun or gone on with
pub calls_exact : {s t : QueueWords} {now b : ℕ} {l : List Asked} {x : Told} → 0 < b → Runs s l t → Chain now l x → Limits now b l
    → length l ≡ max 1 ((moves_of x + b - 1) / b)
calls_exact {s} {t} {now} {b} {l} {x} pos R H A =
    ⊎_elim
    (λ N.
    let B = chain_refused N.1 R H in
    rounded pos (omega (arith, B.2)) (record { few = omega (arith, ap moves_of B.0); many = inl B.2 }))
    (λ K. rounded pos (chain_some H) (chain_counts K.0 K.1 R H A).0)
    (polls_judged s now)
  where
    chain_some : {l : List Asked} {x : Told} → Chain now l x → 0 < length l
    chain_some (last p f) = omega arith
    chain_some (more p e H) = omega arith

-- ---- and so many calls there are

module _ {now b : ℕ} (pos : 0 < b) where
  chain_one : (s : QueueWords) (a : Answer) (t : QueueWords) → CallClaim (C.PollSome now b) s a t → (SaysYet (told a) → ⊥) → ChainMet s now b
  chain_one s a t P f =
      record {
        calls = asked (C.PollSome now b) a ∷ [];
        answer = told a;
        after = t;
        runs = next P rest;
        chain = last limited f;
        limits = (refl, tt);
      }

  chain_more : (s : QueueWords) (a : Answer) (t : QueueWords) → CallClaim (C.PollSome now b) s a t → SaysYet (told a) → ChainMet t now b → ChainMet s now b
  chain_more s a t P y R =
      record {
        calls = asked (C.PollSome now b) a ∷ R.calls;
        answer = added y.0 y.1 R.answer;
        after = R.after;
        runs = next P R.runs;
        chain = more limited y.2 R.chain;
        limits = (refl, R.limits);
      }

  -- each call but the last takes b from the heights
  falls : {s : QueueWords} (a : Answer) (t : QueueWords) → Sound s → PollTaken (view s) now → PollsSome (view s) now b (told a) (view t) → SaysYet (told a)
      → heights (view t).lists < heights (view s).lists
  falls a t S K Q y =
      let Y = (polls_yet Q y.2).1 in
      let W = takes_some_works S K (polled_some Y.empty Y.polls) in
      omega (arith, pos, W.counted, yet_all Y.polls, ap (λ v. heights v.lists) Y.is)

  calls_fuel : (f : ℕ) (s : QueueWords) → heights (view s).lists < f → ChainMet s now b
  calls_fuel zero s h = absurd (omega arith)
  calls_fuel (suc f) s h =
      let c = C.PollSome now b in
      let m = call_met c s in
      let a = m.0 in
      let t = m.1 in
      let P = m.2 in
      ⊎_elim
      (λ N. chain_one s a t P (λ y. no_yet (N.1 c limited a t P).told y.2))
      (λ K.
      let Q = (some_on K.0 K.1 P).1 in
      ⊎_elim (λ y. chain_more s a t P y (calls_fuel f t (omega (arith, h, falls a t K.0 K.1 Q y)))) (chain_one s a t P) (some_ends Q))
      (polls_judged s now)

  pub calls_met : (s : QueueWords) → ChainMet s now b
  calls_met s = calls_fuel (suc (heights (view s).lists)) s (omega arith)

-- ---- "with limit 0 it only answers if no move is needed"

-- the slot in hand is not empty
abbrev Filled : Option ℕ → Lists → Type 0
Filled none L = Unit {0}
Filled (some p) L = (x : ℕ) × (l : List ℕ) × (L p ≡ x ∷ l)

-- it stops where it is
no_room : {d : ℕ → ℕ} {now e p m n c : ℕ} {h : Option ℕ} {L N : Lists} → Limited d now h 0 e L (yet p) m n c N → Filled h L
    → (m ≡ 0) × (n ≡ 0) × (c ≡ e) × (N ≡ L)
no_room (finds X h r) f = no_room r (list_some X)
no_room (stops i) f = (refl, refl, refl, refl)
no_room (empties i r) f = absurd (nil≢cons (sym i ∙ f.2))

zero_stops : {d : ℕ → ℕ} {now e p m n c : ℕ} {h : Option ℕ} {L N : Lists} → Filled h L → Limited d now h 0 e L (yet p) m n c N
    → (m ≡ 0) × (n ≡ 0) × (c ≡ e) × (N ≡ L)
zero_stops f r = no_room r f

module _ {s t : QueueWords} (S : Sound s) (U : Sound t) (kept : PastKept (count s) s t) {now p m n : ℕ} (K : PollTaken (view s) now)
    (Y : YetTo (view s) now 0 p m n (view t)) where
  filled : Filled (gotten s.hand) (view s).lists
  filled =
      by_cases (ℕ_discrete s.hand nobody)
      (λ z. subst (λ (h : Option ℕ). Filled h (view s).lists) (sym (got_none s.hand z)) tt)
      (λ d. subst (λ (h : Option ℕ). Filled h (view s).lists) (sym (got_some s.hand d)) (S.rule.inside d).filled)

  stopped_so : (m ≡ 0) × (n ≡ 0) × (Y.clock ≡ elapsed s) × (Y.lists ≡ (view s).lists)
  stopped_so = zero_stops filled Y.polls

  held_sound : Sound (holding p now s)
  held_sound =
      let T = S.standing in
      let I = in_hand S K Y in
      record {
        standing = record { fits = T.fits; whole = T.whole; turns = T.turns; retired = T.retired };
        rule = record { free = λ z. absurd (some_hand S K Y z); inside = λ _. rw (stopped_so.2, stopped_so.3) at I };
        no_now = λ z. absurd (some_hand S K Y z);
      }

  only_held : OnlyHeld s now t
  only_held =
      record {
        place = p;
        some = some_hand S K Y;
        is = view_fixed held_sound U
            (Y.is ∙ (λ i. with_hand p now (with_elapsed (stopped_so.2 i) (with_lists (stopped_so.3 i) (view s)))))
            (record { links = kept.links; values = kept.values; deadlines = kept.deadlines; turns = kept.turns });
      }

-- of a poll that is not refused: where the whole poll makes no move it gives the whole poll's answer and store, and else it answers "not yet" with no move and
-- no drain, puts the poll in hand and leaves all else
pub limit_zero : {s t t' : QueueWords} {now : ℕ} (a a' : Answer) → CallClaim (C.PollSome now 0) s a t → CallClaim (C.Poll now) s a' t'
    → is_no (told a) ≡ false → WithNoMove s now (told a) t (told a') t'
limit_zero {s} {t} {t'} {now} a a' P Q e =
    ⊎_elim
    (λ N. absurd (true≢false (sym (ap is_no (N.1 (C.PollSome now 0) limited a t P).told) ∙ e)))
    (λ K.
    let D = some_on K.0 K.1 P in
    ⊎_elim (yet_so K.0 K.1 D.0 D.1 D.2) (ends_so (some_few D.1)) (some_ends D.1))
    (polls_judged s now)
  where
    ends_so : ((SaysYet (told a) → ⊥) → moves_of (told a) ≤ 0) → (SaysYet (told a) → ⊥) → WithNoMove s now (told a) t (told a') t'
    ends_so few f =
        let q = chained (next {x = asked (C.PollSome now 0) a} P rest) (last limited f) a' t' Q in
        record { idle = λ _. (sym q.0, sym q.1); due = λ d. absurd (d (omega (arith, ap moves_of q.0, few f))) }

    yet_so : Sound s → PollTaken (view s) now → Sound t → PollsSome (view s) now 0 (told a) (view t) → PastKept (count s) s t → SaysYet (told a)
        → WithNoMove s now (told a) t (told a') t'
    yet_so S K U D kept y =
        let Y = (polls_yet D y.2).1 in
        let H : MidPoll t = λ z. some_hand S K Y (sym (ap (λ v. v.hand) Y.is) ∙ z) in
        let m = call_met (C.Poll now) t in
        let R = whole_rested U (taken_on S K Y) m.0 m.1 m.2 in
        let q = chained (next {x = asked (C.PollSome now 0) a} P (next {x = asked (C.Poll now) m.0} m.2 rest))
        (more limited y.2 (last whole (rest_no_yet R.polls))) a' t' Q in
        let moved : 0 < moves_of (told a') = omega (arith, ap moves_of q.0, rest_moves y.0 y.1 R.polls, hand_rest U H R.polls) in
        let z = stopped_so S U kept K Y in
        record { idle = λ o. absurd (omega (arith, o, moved)); due = λ d. (y.2 ∙ rw (z.0, z.1), only_held S U kept K Y) }
