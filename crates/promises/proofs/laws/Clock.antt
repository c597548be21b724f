-- The store's clock: a poll takes it no further than its now, and every other call keeps it or sets it to 0. And which calls answer 7: polls at a time
-- before it, and nothing else.
use mathlib.Core.Path.{◌≡◌, refl, sym, ap, ◌∙◌, subst}
use mathlib.Core.Logic.{◌≢◌, ◌⊎◌, inl, inr, ⊎_elim, by_cases}
use mathlib.Core.Bool.{true, false, true≢false}
use Prim.Native.Nat.{ℕ, ◌≤◌, ◌<◌}
use native.Mathlib.Decide.{ℕ_discrete}
use native.Mathlib.Omega.{arith}
use Rattle.links.specs.Lists.{nobody, Mem}
use Rattle.queue.specs.Steps.{GoesOn, PollsRest, handed_rest, nothing_rest, polled_some, PollsSome, handed_some, nothing_some, not_yet}
use Rattle.pausing.proofs.laws.Pausing.{rule_now, yet_hand}
use Rattle.records.specs.View.{View}
use Rattle.records.specs.Records.{left, placed}
use Rattle.records.specs.Words.{QueueWords, elapsed, view, AtRest, Sound}
use Rattle.queue.specs.declared.Answer.{Answer}
use Rattle.queue.specs.Told.{Told, told, handing}
use Rattle.queue.specs.Told as T
use Rattle.delay_queue.specs.declared.Call.{Call}
use Rattle.delay_queue.specs.declared.Call.TheVariants as C
use Rattle.delay_queue.specs.Claims.{FormatClaim, PollClaim, CallClaim}
use Rattle.promises.specs.Runs.{is_poll}
use Rattle.promises.specs.Refused.{lines_of, numbers}
use Rattle.promises.proofs.laws.Decided.{sound_dec, fits_dec, range_dec}
use Rattle.pausing.specs.Pausing.{PollTaken}
use Rattle.promises.specs.Polls.{PollAt, whole, limited}
use Rattle.promises.proofs.laws.Does.{poll_done, poll_taken}
use Rattle.promises.proofs.laws.TakesOut.{taken_later}
use Rattle.promises.proofs.laws.Polling.{freed_beside, takes_works, goes_on_clock, goes_on_says, none_out}
use Rattle.promises.proofs.laws.Refused.{refused_exactly, refused_listed, another}
use Rattle.promises.proofs.laws.Views.{ViewGoes, refuses, formats, inserts, resets, removes, polls, wakes, counts, clears, call_goes}

-- ---- a poll

not_past : {s : QueueWords} → Sound s → {now limit : ℕ} → PollTaken (view s) now → {x : Told} {w : View} → PollsSome (view s) now limit x w → w.elapsed ≤ now
not_past {s} S {now} h {w = w} (handed_some T G) =
    let B = takes_works S h T in
    subst (λ e. e ≤ now) (sym (goes_on_clock G ∙ B.clock)) (omega (arith, B.fair.1, taken_later S h))
not_past {s} S {now} h (nothing_some T) = subst (λ e. e ≤ now) (sym (takes_works S h T).clock) (omega arith)
not_past {s} S {now} h (not_yet (polled_some empty r)) =
    let I = yet_hand (rule_now S h) empty h.later r in omega (arith, I.late, I.due)

-- elapsed is not past now after a poll, if it was not before
pub poll_not_past : {c : Call} {now : ℕ} → PollAt c now → (s : QueueWords) (a : Answer) (t : QueueWords) → CallClaim c s a t → elapsed s ≤ now
    → elapsed t ≤ now
poll_not_past {c} {now} at s a t P h =
    by_cases (sound_dec s)
    (λ S.
    ⊎_elim (λ r. let e : elapsed t ≡ elapsed s = ap (λ u. elapsed u) r.1.same in omega arith) (λ K. not_past S K (poll_done S at K a t P).1)
    (poll_taken S at P))
    (λ n. let e : elapsed t ≡ elapsed s = ap (λ u. elapsed u) (unsound_same at P n) in omega arith)
  where
    unsound_same : {c : Call} {now : ℕ} → PollAt c now → CallClaim c s a t → (Sound s → ⊥) → t ≡ s
    unsound_same whole P n = (P.bad n).same
    unsound_same limited P n = (P.bad n).same

-- ---- any other call

-- kept, or 0
abbrev pub Stands : ℕ → ℕ → Type 0
Stands e e' = (e' ≡ e) ⊎ (e' ≡ 0)

left_clock : (p r : ℕ) (v : View) → (left p r v).elapsed ≡ v.elapsed
unfolding left
left_clock p r v = refl

placed_clock : (r when : ℕ) (v : View) → (placed r when v).elapsed ≡ v.elapsed
unfolding placed
placed_clock r when v = refl

goes_stands : {v : View} {c : Call} {x : Told} {w : View} → ViewGoes v c x w → is_poll c ≡ false → Stands v.elapsed w.elapsed
goes_stands refuses f = inl refl
goes_stands formats f = inr refl
goes_stands (inserts {when = when} {r = r} e) f = inl (placed_clock r when _)
goes_stands {v} (resets {when = when} {r = r} {p = p} N) f = inl (placed_clock r when (left p r v) ∙ left_clock p r v)
goes_stands {v} (removes {r = r} {p = p} N) f = inl ((freed_beside r (left p r v)).elapsed ∙ left_clock p r v)
goes_stands (polls whole h Q) f = absurd (true≢false f)
goes_stands (polls limited h Q) f = absurd (true≢false f)
goes_stands (wakes W) f = inl refl
goes_stands counts f = inl refl
goes_stands (clears r) f = inr refl

same_stands : {s t : QueueWords} → t ≡ s → Stands (elapsed s) (elapsed t)
same_stands e = inl (ap (λ u. elapsed u) e)

format_stands : {n turn : ℕ} {s t : QueueWords} {a : Answer} → FormatClaim s n turn a t → Stands (elapsed s) (elapsed t)
format_stands {n} {turn} {s} F =
    by_cases (fits_dec s n)
    (λ x.
    by_cases (range_dec turn)
    (λ y. inr (ap (λ v. v.elapsed) (F.done x y).view))
    (λ f. same_stands (F.outside x f).same))
    (λ f. same_stands (F.short f).same)

-- on a store that is not sound every call but format is refused
unsound_stands : (c : Call) (s : QueueWords) (a : Answer) (t : QueueWords) → (Sound s → ⊥) → CallClaim c s a t → Stands (elapsed s) (elapsed t)
unsound_stands (C.Format n turn) s a t f A = format_stands A
unsound_stands (C.Insert value when period) s a t f A = same_stands (A.bad f).same
unsound_stands (C.Reset key when) s a t f A = same_stands (A.bad f).same
unsound_stands (C.Remove key) s a t f A = same_stands (A.bad f).same
unsound_stands (C.Poll now) s a t f A = same_stands (A.bad f).same
unsound_stands (C.PollSome now limit) s a t f A = same_stands (A.bad f).same
unsound_stands C.Wake s a t f A = same_stands A.1
unsound_stands C.Length s a t f A = same_stands A.1
unsound_stands C.Clear s a t f A = same_stands (A.bad f).same

-- "Format sets .. elapsed to 0", "Clear .. sets elapsed to 0": every call but a poll does that or keeps it
pub other_stands : (c : Call) (s : QueueWords) (a : Answer) (t : QueueWords) → CallClaim c s a t → is_poll c ≡ false → Stands (elapsed s) (elapsed t)
other_stands c s a t A f =
    by_cases (sound_dec s) (λ S. goes_stands (call_goes c s a t S A) f) (λ n. unsound_stands c s a t n A)

-- ---- who answers 7, and that nobody answers 10

-- past 6 the table has 8, 11 and 12 alone, and 7 for a poll
unlisted : (k : ℕ) → 6 < k → k ≢ 8 → k ≢ 11 → k ≢ 12 → (c : Call) (s : QueueWords) → (is_poll c ≡ true → k ≢ 7) → Mem k (numbers (lines_of c s)) → ⊥
unlisted k h d o w (C.Format n turn) s f = another (λ e. omega arith) (another d (λ x. x))
unlisted k h d o w (C.Insert value when period) s f =
    another (λ e. omega arith) (another w (another (λ e. omega arith) (another o (another (λ e. omega arith) (λ x. x)))))
unlisted k h d o w (C.Reset key when) s f =
    another (λ e. omega arith) (another w (another (λ e. omega arith) (another o (another (λ e. omega arith) (λ x. x)))))
unlisted k h d o w (C.Remove key) s f = another (λ e. omega arith) (another w (another (λ e. omega arith) (λ x. x)))
unlisted k h d o w (C.Poll now) s f = another (λ e. omega arith) (another w (another (f refl) (λ x. x)))
unlisted k h d o w (C.PollSome now limit) s f = another (λ e. omega arith) (another w (another (f refl) (λ x. x)))
unlisted k h d o w C.Wake s f = another (λ e. omega arith) (another w (λ x. x))
unlisted k h d o w C.Length s f = another (λ e. omega arith) (λ x. x)
unlisted k h d o w C.Clear s f = another (λ e. omega arith) (λ x. x)

-- 7 is answered by a poll alone
pub seven_polls : (c : Call) (s : QueueWords) (a : Answer) (t : QueueWords) → CallClaim c s a t → is_poll c ≡ false → told a ≡ T.no 7 → ⊥
seven_polls c s a t A f e =
    unlisted 7 (omega arith) (λ q. omega arith) (λ q. omega arith) (λ q. omega arith) c s (λ g. absurd (true≢false (sym g ∙ f))) (refused_listed c s a t A 7 e)

-- and only at a time that is before the store's
pub seven_back : {c : Call} {now : ℕ} → PollAt c now → (s : QueueWords) (a : Answer) (t : QueueWords) → CallClaim c s a t → told a ≡ T.no 7
    → now < elapsed s
seven_back (whole {now}) s a t P e =
    ⊎_elim (λ x. absurd (omega (arith, x.0)))
    (λ x. ⊎_elim (λ y. absurd (omega (arith, y.0))) (λ y. ⊎_elim (λ z. z.1) (λ z. absurd z.1) y.1) x.1) ((refused_exactly (C.Poll now) s a t P 7).1 e)
seven_back (limited {now} {limit}) s a t P e =
    ⊎_elim (λ x. absurd (omega (arith, x.0)))
    (λ x. ⊎_elim (λ y. absurd (omega (arith, y.0))) (λ y. ⊎_elim (λ z. z.1) (λ z. absurd z.1) y.1) x.1)
    ((refused_exactly (C.PollSome now limit) s a t P 7).1 e)

-- with no poll in hand: a sound store gives 12 before 7
pub seven_rest : {s t : QueueWords} {a : Answer} {now : ℕ} → Sound s → PollClaim s now a t → told a ≡ T.no 7 → AtRest s
seven_rest {s} {t} {a} {now} S P e =
    by_cases (ℕ_discrete s.hand nobody) (λ z. z)
    (λ d.
    let K : now ≢ s.until → ⊥ = λ n. let q = sym ((P.good S).other d n).told ∙ e in let y : ◌≡◌ {A = ℕ} 12 7 = cc in omega arith in
    by_cases (ℕ_discrete now s.until) (λ u. absurd (rest_seven ((P.good S).same d u).1 e)) (λ n. absurd (K n)))
  where
    goes_seven : {r m n : ℕ} {u : View} {x : Told} {w : View} → GoesOn (view s) r m n u x w → x ≡ T.no 7 → ⊥
    goes_seven G f = none_out (ap handing (sym f) ∙ goes_on_says G)

    rest_seven : {x : Told} {w : View} → PollsRest (view s) now x w → x ≡ T.no 7 → ⊥
    rest_seven (handed_rest T G) f = goes_seven G f
    rest_seven (nothing_rest T) f = let y : ◌≡◌ {A = ℕ} 0 1 = cc in omega arith

-- number 10 is none of the store's own
pub no_ten : (c : Call) (s : QueueWords) (a : Answer) (t : QueueWords) → CallClaim c s a t → told a ≡ T.no 10 → ⊥
no_ten c s a t A e = unlisted 10 (omega arith) (λ q. omega arith) (λ q. omega arith) (λ q. omega arith) c s (λ g q. omega arith) (refused_listed c s a t A 10 e)
