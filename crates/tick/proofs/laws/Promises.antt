-- What a board may rely on, from the claims alone. What stands between quotation marks is request 4's text.
use Rattle.std.proofs.Common.{◌≡◌, ℕ, ◌+◌, ◌*◌, ◌^◌, ◌<◌, ◌≤◌, true, ◌↔◌, List, [], ◌∷◌, sym, refl, ◌∙◌, subst, ⊎_elim, true≢false, arith}
use mathlib.Core.Logic.{by_cases}
use mathlib.Core.List.{nil≢cons}
use native.Mathlib.Decide.{ℕ_discrete}
use Rattle.links.specs.Lists.{nobody}
use Rattle.queue.specs.declared.Answer.{Answer}
use Rattle.queue.specs.Told.{Told, told, no}
use Rattle.records.specs.Words.{QueueWords, elapsed, AtRest, Sound}
use Rattle.delay_queue.specs.declared.Call.{Call}
use Rattle.delay_queue.specs.declared.Call.TheVariants as C
use Rattle.delay_queue.specs.Claims.{PollSomeClaim, CallClaim}
use Rattle.promises.proofs.laws.Clock.{poll_not_past, other_stands, seven_polls, seven_back, seven_rest, no_ten}
use Rattle.promises.proofs.laws.Decided.{sound_dec}
use Rattle.promises.proofs.laws.TakesOut.{taken_later}
use Rattle.promises.proofs.laws.Twelve.{twelve_exactly}
use Rattle.promises.specs.Polls.{PollAt, whole, limited as with-limit}
use Rattle.promises.specs.Runs.{is_poll}
use Rattle.tick.specs.Claims.{low, sum, Passes, ReadClaim, TickPollClaim, now_of, TickSomeClaim}
use Rattle.tick.specs.Boards.{Deed, reads, polls, polls_some, calls, DeedClaim, Reading, alone, polling, limited, Did, Boards, rest, next, deeds}
use Rattle.tick.specs.Boards.{All, Through, AllThrough, Behind, ticks, times, lows, Steady}
use Rattle.tick.specs.Promises.{TenExactly}
use Rattle.tick.proofs.laws.Reading.{by_sum, ok_no, now_rest, now_mid}
use Rattle.tick.proofs.laws.Until.{call_until}
use Rattle.tick.proofs.laws.Once.{deed_once}

-- ---- "Readings under 2^32 ms apart give the true time"

-- the sum is the clock's time
sum_true : (time now : ℕ) → time ≤ now → now < time + 2 ^ 32 → sum time (low now) ≡ now
sum_true time now l h = omega arith

-- one reading, alone or with a poll
read_true : {time now t : ℕ} {a : Answer} → ReadClaim time (low now) a t → time ≤ now → now < time + 2 ^ 32 → now < 2 ^ 64 → t ≡ now
read_true {time} {now} R l h g = let e = sum_true time now l h in (R.taken (λ p. omega arith)).1 ∙ e

poll_true : {time now t : ℕ} {s u : QueueWords} {a : Answer} → TickPollClaim time s (low now) a t u → time ≤ now → now < time + 2 ^ 32 → now < 2 ^ 64
    → t ≡ now
poll_true {time} {now} P l h g = let e = sum_true time now l h in (P.taken (λ p. omega arith)).1 ∙ e

some_true : {time now t limit : ℕ} {s u : QueueWords} {a : Answer} → TickSomeClaim time s (low now) limit a t u → time ≤ now → now < time + 2 ^ 32
    → now < 2 ^ 64
    → t ≡ now
some_true {time} {now} P l h g = let e = sum_true time now l h in (P.taken (λ p. omega arith)).1 ∙ e

-- over any run, other calls of the store among its readings: the time after each reading is the clock's
pub true_time : {time : ℕ} {s u : QueueWords} {l : List Did} (clock : List ℕ) → Boards time s l u → Steady time clock → ticks (deeds l) ≡ lows clock
    → times l ≡ clock
true_time [] rest S e = refl
true_time (c ∷ k) rest S e = absurd (nil≢cons e)
true_time [] (next {q = reads tick} D r) S e = absurd (nil≢cons (sym e))
true_time [] (next {q = polls tick} D r) S e = absurd (nil≢cons (sym e))
true_time [] (next {q = polls_some tick limit} D r) S e = absurd (nil≢cons (sym e))
true_time [] (next {time} {time'} {q = calls x} D r) S e = true_time [] r S e
true_time (c ∷ k) (next {time} {time'} {q = reads tick} {a} {l} D r) S e =
    let q : tick ∷ ticks (deeds l) ≡ low c ∷ lows k = e in
    let h : tick ≡ low c = cc in
    let m : time' ≡ c = read_true (rw h at D.0) S.0 S.1 S.2 in
    let f : times l ≡ k = true_time k r (rw m S.3) cc in
    λ i. m i ∷ f i
true_time (c ∷ k) (next {time} {time'} {q = polls tick} {a} {l} D r) S e =
    let q : tick ∷ ticks (deeds l) ≡ low c ∷ lows k = e in
    let h : tick ≡ low c = cc in
    let m : time' ≡ c = poll_true (rw h at D) S.0 S.1 S.2 in
    let f : times l ≡ k = true_time k r (rw m S.3) cc in
    λ i. m i ∷ f i
true_time (c ∷ k) (next {time} {time'} {q = polls_some tick limit} {a} {l} D r) S e =
    let q : tick ∷ ticks (deeds l) ≡ low c ∷ lows k = e in
    let h : tick ≡ low c = cc in
    let m : time' ≡ c = some_true (rw h at D) S.0 S.1 S.2 in
    let f : times l ≡ k = true_time k r (rw m S.3) cc in
    λ i. m i ∷ f i
true_time (c ∷ k) (next {time} {time'} {q = calls x} D r) S e = true_time (c ∷ k) r (rw D.1 S) e

-- ---- "longer gaps can't be seen"

low_same : (now k : ℕ) → low (now + k * 2 ^ 32) ≡ low now
low_same now k = omega arith

module _ (f : ℕ → Deed) (now k time : ℕ) (s : QueueWords) (a a' : Answer) (t t' : ℕ) (u u' : QueueWords) where
  -- f is what the board does with a tick: a gap of 2^32 more, or of any number of them, gives the same answer, time and content
  pub unseen : DeedClaim (f (low now)) time s a t u → DeedClaim (f (low (now + k * 2 ^ 32))) time s a' t' u' → (a ≡ a') × (t ≡ t') × (u ≡ u')
  unseen D E = deed_once (f (low now)) time s a a' t t' u u' D (subst (λ n. DeedClaim (f n) time s a' t' u') (low_same now k) E)

-- so after a gap of just 2^32 the time stands where it stood
pub gap_lost : {time t : ℕ} {a : Answer} → ReadClaim time (low (time + 2 ^ 32)) a t → time < 2 ^ 64 → t ≡ time
gap_lost {time} {t} {a} R h = read_true (subst (λ n. ReadClaim time n a t) (low_same time 1) R) (omega arith) (omega arith) h

-- ---- "If the sum would pass 2^64-1 the reading is refused with 10 and the time stays"

-- a reading, alone or with a poll, answers 10 exactly then, and then nothing changes
pub ten_exactly : {q : Deed} {time tick t : ℕ} {s u : QueueWords} {a : Answer} → Reading tick q → DeedClaim q time s a t u → TenExactly time tick s a t u
ten_exactly {q} {time} {tick} {t} {s} {u} {a} alone D =
    record { exactly = (λ e. omega (arith, refused e), λ h. (D.0.past (omega arith)).0); stays = λ e. ((D.0.past (refused e)).1, D.1) }
  where
    refused : told a ≡ no 10 → Passes time tick
    refused e = by_sum time tick (λ h. absurd (ok_no (D.0.taken h).0 e)) (λ h. h)
ten_exactly {q} {time} {tick} {t} {s} {u} {a} polling D =
    record { exactly = (λ e. omega (arith, refused e), λ h. (D.past (omega arith)).0.told); stays = λ e. let p = D.past (refused e) in (p.1, p.0.same) }
  where
    refused : told a ≡ no 10 → Passes time tick
    refused e = by_sum time tick (λ h. absurd (no_ten (C.Poll (sum time tick)) s a u (D.taken h).0 e)) (λ h. h)
ten_exactly {q} {time} {tick} {t} {s} {u} {a} (limited {limit}) D =
    record { exactly = (λ e. omega (arith, refused e), λ h. (D.past (omega arith)).0.told); stays = λ e. let p = D.past (refused e) in (p.1, p.0.same) }
  where
    refused : told a ≡ no 10 → Passes time tick
    refused e =
        by_sum time tick (λ h. absurd (no_ten (C.PollSome (now_of (sum time tick) s.hand s.until) limit) s a u (D.taken h).0 e)) (λ h. h)

-- ---- "Polls through this part never meet number 7, except on a store that something else has polled further"

ten_seven : {x : Told} → x ≡ no 10 → x ≡ no 7 → ⊥
ten_seven e f = let q : no 10 ≡ no 7 = sym e ∙ f in let z : ◌≡◌ {A = ℕ} 10 7 = cc in omega arith

-- on a sound store a poll through it answers 7 exactly when the reading is taken, no poll is in hand, and elapsed is over the time after it
pub seven_exactly : {time tick t : ℕ} {s u : QueueWords} {a : Answer} → TickPollClaim time s tick a t u → Sound s
    → (told a ≡ no 7) ↔ ((Passes time tick → ⊥) × AtRest s × (t < elapsed s))
seven_exactly {time} {tick} {t} {s} {u} {a} P S = (over, λ x. ((((P.taken x.0).0.good S).free x.1).back (back x)).told)
  where
    over : told a ≡ no 7 → (Passes time tick → ⊥) × AtRest s × (t < elapsed s)
    over e =
        by_sum time tick
        (λ h. let p = P.taken h in let b = seven_back whole s a u p.0 e in (h, seven_rest S p.0 e, omega (arith, p.1)))
        (λ h. absurd (ten_seven (P.past h).0.told e))

    back : (Passes time tick → ⊥) × AtRest s × (t < elapsed s) → sum time tick < elapsed s
    back x = omega (arith, x.2, (P.taken x.0).1)

-- the store is not polled past the time after it, and its answer is not 7
record Within (t : ℕ) (u : QueueWords) (a : Answer) : Type 0 where
  behind : Behind t u
  another : told a ≡ no 7 → ⊥

one_now : {c : Call} {m n : ℕ} → PollAt c m → PollAt c n → m ≡ n
one_now whole whole = refl
one_now with-limit with-limit = refl

is_poll_lem : {c : Call} {now : ℕ} → PollAt c now → is_poll c ≡ true
is_poll_lem whole = refl
is_poll_lem with-limit = refl

-- a poll that is not before elapsed, at the time after it or before
poll_within : {c : Call} {now t : ℕ} → PollAt c now → (s : QueueWords) (a : Answer) (u : QueueWords) → CallClaim c s a u → elapsed s ≤ now → now ≤ t
    → s.until ≤ t
    → Within t u a
poll_within {c} {now} at s a u A h l k =
    record {
      behind = record {
        clock = omega (arith, poll_not_past at s a u A h);
        until = ⊎_elim (λ e. omega arith) (λ x. ⊎_elim (λ e. omega arith) (λ q. omega (arith, one_now at q)) x) (call_until s a u c A);
      };
      another = λ e. omega (arith, seven_back at s a u A e);
    }

-- nothing is asked of the store
same_within : {time t : ℕ} {s u : QueueWords} {a : Answer} → u ≡ s → time ≤ t → Behind time s → (told a ≡ no 7 → ⊥) → Within t u a
same_within {time} {t} {a = a} e l B f =
    subst (λ v. Within t v a) (sym e) (record { behind = record { clock = omega (arith, B.clock); until = omega (arith, B.until) }; another = f })

two_seven : {x : Told} → x ≡ no 2 → x ≡ no 7 → ⊥
two_seven e f = let q : no 2 ≡ no 7 = sym e ∙ f in let z : ◌≡◌ {A = ℕ} 2 7 = cc in omega arith

-- with a limit: with no poll in hand as any poll, and else at its now, which is not before elapsed (`taken_later`) nor past the time
some_within : {time now limit : ℕ} (s : QueueWords) (a : Answer) (u : QueueWords) → PollSomeClaim s (now_of now s.hand s.until) limit a u → Behind time s
    → time ≤ now
    → Within now u a
some_within {time} {now} {limit} s a u P B l =
    by_cases (ℕ_discrete s.hand nobody)
    (λ z. poll_within with-limit s a u (at (now_rest now s.hand s.until z)) (omega (arith, B.clock)) (omega arith) (omega (arith, B.until)))
    (λ d.
    by_cases (sound_dec s)
    (λ S.
    poll_within with-limit s a u (at (now_mid now s.hand s.until d)) (taken_later S (record { same = λ _. refl; later = λ z. absurd (d z) }))
    (omega (arith, B.until))
    (omega (arith, B.until)))
    (λ n. same_within (P.bad n).same l B (two_seven (P.bad n).told)))
  where
    at : {m : ℕ} → now_of now s.hand s.until ≡ m → PollSomeClaim s m limit a u
    at e = subst (λ m. PollSomeClaim s m limit a u) e P

within : (q : Deed) (time : ℕ) (s : QueueWords) (a : Answer) (t : ℕ) (u : QueueWords) → DeedClaim q time s a t u → Through q → Behind time s
    → Within t u a
within (reads tick) time s a t u D T B =
    by_sum time tick
    (λ g. let p = D.0.taken g in same_within D.1 (omega (arith, p.1)) B (ok_no p.0))
    (λ g. let p = D.0.past g in same_within D.1 (omega (arith, p.1)) B (ten_seven p.0))
within (polls tick) time s a t u D T B =
    by_sum time tick
    (λ g.
    let p = D.taken g in
    poll_within whole s a u p.0 (omega (arith, B.clock)) (omega (arith, p.1)) (omega (arith, p.1, B.until)))
    (λ g. let p = D.past g in same_within p.0.same (omega (arith, p.1)) B (ten_seven p.0.told))
within (polls_some tick limit) time s a t u D T B =
    by_sum time tick
    (λ g. let p = D.taken g in subst (λ n. Within n u a) (sym p.1) (some_within s a u p.0 B (omega arith)))
    (λ g. let p = D.past g in same_within p.0.same (omega (arith, p.1)) B (ten_seven p.0.told))
within (calls c) time s a t u D T B =
    record {
      behind = record {
        clock = ⊎_elim (λ e. omega (arith, D.1, B.clock)) (λ e. omega arith) (other_stands c s a u D.0 T);
        until = ⊎_elim (λ e. omega (arith, D.1, B.until))
            (λ x. ⊎_elim (λ e. omega arith) (λ q. absurd (true≢false (sym (is_poll_lem q) ∙ T))) x) (call_until s a u c D.0);
      };
      another = seven_polls c s a u D.0 T;
    }

-- from any store that is not polled further than the front part's time, over any run in which every poll goes through it: nothing answers 7
pub never_seven : {time : ℕ} {s u : QueueWords} {l : List Did} → Behind time s → Boards time s l u → AllThrough (deeds l)
    → All (λ x. told x.answer ≡ no 7 → ⊥) l
never_seven h rest T = tt
never_seven h (next {time} {time'} {s} {t} {q = q} {a} D r) T =
    let w = within q time s a time' t D T.0 h in
    (w.another, never_seven w.behind r T.1)

-- ---- 02 [10]: "polls with another now are refused with 12"

ten_twelve : {x : Told} → x ≡ no 10 → x ≡ no 12 → ⊥
ten_twelve e f = let q : no 10 ≡ no 12 = sym e ∙ f in let z : ◌≡◌ {A = ℕ} 10 12 = cc in omega arith

-- a poll with a limit through this part never is, whatever store it finds
pub never_twelve : {time tick limit t : ℕ} {s u : QueueWords} {a : Answer} → TickSomeClaim time s tick limit a t u → told a ≡ no 12 → ⊥
never_twelve {time} {tick} {limit} {s = s} {u} {a} P e =
    by_sum time tick
    (λ h.
    let M = (twelve_exactly (C.PollSome (now_of (sum time tick) s.hand s.until) limit) s a u (P.taken h).0).1 e in
    M.call (now_mid (sum time tick) s.hand s.until M.mid))
    (λ h. ten_twelve (P.past h).0.told e)
