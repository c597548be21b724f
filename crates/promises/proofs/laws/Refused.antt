-- Each refusal has its own number, is given exactly when the table of document 01 says, in its order, and changes nothing.
use mathlib.Core.Path.{◌≡◌, refl, sym, ap, ◌∙◌}
use mathlib.Core.Logic.{◌≢◌, ◌⊎◌, inl, inr, ⊎_elim, by_cases}
use mathlib.Core.Bool.{false, true≢false}
use mathlib.Core.List.{List, [], ◌∷◌, nil≢cons}
use Prim.Native.Nat.{ℕ, ◌≤◌, ◌<◌}
use native.Mathlib.Decide.{ℕ_discrete, dec_lt}
use native.Mathlib.Omega.{arith}
use Rattle.links.specs.Links.{at}
use Rattle.links.specs.Lists.{Mem, nobody}
use Rattle.places.specs.Places.{expired, free}
use Rattle.queue.specs.declared.Answer.{Answer}
use Rattle.queue.specs.Told.{Told, told}
use Rattle.queue.specs.Told as T
use Rattle.records.specs.View.{View}
use Rattle.records.specs.Records.{Names, TooOld, TooFar, Takes, number_in, turn_in}
use Rattle.records.specs.Words.{QueueWords, count, elapsed, mark_of, view, slices, AtRest, MidPoll, Sound, PastKept}
use Rattle.records.specs.Slices.{Room}
use Rattle.records.specs.Format.{InRange}
use Rattle.records.proofs.laws.Words.{past_refl}
use Rattle.queue.specs.Calls.{Refused, Answered, InsertOn, Freely, Resuming}
use Rattle.records.proofs.laws.Found.{key_names}
use Rattle.records.proofs.laws.Inner.{mark_at, left_size, placed_size, freed_size}
use Rattle.delay_queue.specs.declared.Call.{Call}
use Rattle.delay_queue.specs.declared.Call.TheVariants as C
use Rattle.delay_queue.specs.Claims.{FormatClaim, Judging, InsertClaim, ResetClaim, PollClaim, CallClaim}
use Rattle.records.proofs.laws.Cases.{by_deadline}
use Rattle.promises.proofs.laws.Decided.{sound_dec, fits_dec, range_dec}
use Rattle.promises.proofs.laws.Quiet.{expired_shown}
use Rattle.promises.specs.OneCall.{is_no, reach}
use Rattle.promises.specs.Runs.{is_format}
use Rattle.promises.proofs.laws.OneCall.{polls_says, some_says, rest_says, wakes_says, refusal_same}
use Rattle.queue.proofs.laws.Polls.{polls_size, some_size, rest_size, clears_size}
use Rattle.promises.specs.Refused.{NoSuchKey, absent, beyond, stale, Lines, end, line, deadline_lines, lines_of, FirstMet, numbers, RefusedBy, Settled, accepted, refused, when_of}

-- ---- the table

first_once : (l : Lines) {j k : ℕ} → FirstMet l j → FirstMet l k → j ≡ k
first_once end x y = absurd x
first_once (line n P l) (inl a) (inl b) = a.0 ∙ sym b.0
first_once (line n P l) (inl a) (inr b) = absurd (b.0 a.1)
first_once (line n P l) (inr a) (inl b) = absurd (a.0 b.1)
first_once (line n P l) (inr a) (inr b) = first_once l a.1 b.1

-- "each gets its own number": the table gives no call two
pub refused_once : (c : Call) (s : QueueWords) {j k : ℕ} → RefusedBy c s j → RefusedBy c s k → j ≡ k
refused_once c s x y = first_once (lines_of c s) x y

first_listed : (l : Lines) (k : ℕ) → FirstMet l k → Mem k (numbers l)
first_listed end k x = x
first_listed (line j P l) k (inl x) = inl x.0
first_listed (line j P l) k (inr x) = inr (first_listed l k x.1)

-- ---- how the lines and the claims go together

-- a key names a pending record, or is dead
names_or_dead : {s : QueueWords} → Sound s → (key : ℕ) → NoSuchKey (view s) key ⊎ ((r : ℕ) × (p : ℕ) × Names (view s) key r p)
names_or_dead {s} S key =
    let i = number_in key in
    by_cases (dec_lt i (count s))
    (λ b.
    by_cases (dec_lt (mark_of s i) free)
    (λ m.
    by_cases (ℕ_discrete (at s.turns i) (turn_in key))
    (λ t. inr (i, mark_of s i, key_names S key (record { number = refl; below = b; pending = m; turn = t })))
    (λ d. inl (stale d)))
    (λ m. inl (absent (λ p a. m (omega (arith, mark_at S.standing a))))))
    (λ b. inl (beyond (omega arith)))

pub dead_names : {v : View} {key : ℕ} → NoSuchKey v key → (r p : ℕ) → Names v key r p → ⊥
dead_names (beyond h) r p N = omega arith
dead_names {v} (absent f) r p N = f p (rw N.number at N.pending)
dead_names {v} (stale d) r p N = d (rw N.number at N.turn)

module _ {n : ℕ} {s t : QueueWords} {a : Answer} where
  -- a line is met
  stop : {k : ℕ} {P : Type 0} {l : Lines} → P → Refused k s a t → Settled n s a t (line k P l)
  stop p R = refused (inl (refl, p)) R

  -- or passed
  pass : {k : ℕ} {P : Type 0} {l : Lines} → (P → ⊥) → Settled n s a t l → Settled n s a t (line k P l)
  pass f (refused x R) = refused (inr (f, x)) R
  pass f (accepted g e c K) = accepted (λ k. ⊎_elim (λ x. f x.1) (λ x. g k x.1)) e c K

module _ {s t : QueueWords} {a : Answer} where
  done_so : {x : Told} {v : View} → is_no x ≡ false → v.n ≡ count s → Answered s a x v t → Settled (count s) s a t end
  done_so e n A = accepted (λ k x. x) (ap is_no A.told ∙ e) (ap (λ v. v.n) A.view ∙ n) A.kept

  -- "Every call but format judges this first"
  judged : {On : Type 0} {l : Lines} → Judging s a t On → (Sound s → On → Settled (count s) s a t l)
      → Settled (count s) s a t (line 2 (Sound s → ⊥) l)
  judged J f = by_cases (sound_dec s) (λ S. pass (λ n. n S) (f S (J.good S))) (λ n. stop n (J.bad n))

  -- "judged after 2": 12
  freely : {On : Type 0} {l : Lines} → Freely s a t On → (On → Settled (count s) s a t l) → Settled (count s) s a t (line 12 (MidPoll s) l)
  freely J f = by_cases (ℕ_discrete s.hand nobody) (λ z. pass (λ d. d z) (f (J.free z))) (λ d. stop d (J.held d))

  -- 12 and 7 of a poll: the now of a poll in hand is not below elapsed
  polling : {now : ℕ} {On Rest : Type 0} → Sound s → Resuming s now a t On Rest → (On → now < elapsed s → Refused 7 s a t)
      → (On → elapsed s ≤ now → Settled (count s) s a t end) → (Rest → Settled (count s) s a t end)
      → Settled (count s) s a t (line 12 (MidPoll s × (now ≢ s.until)) (line 7 (now < elapsed s) end))
  polling {now} S J back done rest =
      by_cases (ℕ_discrete s.hand nobody)
      (λ z.
      pass (λ x. x.0 z)
      (by_cases (dec_lt now (elapsed s))
      (λ h. stop h (back (J.free z) h))
      (λ h. pass h (done (J.free z) (omega arith)))))
      (λ d.
      by_cases (ℕ_discrete now s.until)
      (λ e.
      let I = S.rule.inside d in
      pass (λ x. x.1 e) (pass (λ h. omega (arith, h, I.late, I.due, e)) (rest (J.same d e))))
      (λ n. stop (d, n) (J.other d n)))

  -- 11 and 4
  by_when : (w : ℕ) → (TooOld (elapsed s) w → Refused 11 s a t) → (TooFar (elapsed s) w → Refused 4 s a t)
      → (Takes (elapsed s) w → Settled (count s) s a t end)
      → Settled (count s) s a t (deadline_lines (elapsed s) w)
  by_when w o f h =
      by_deadline (elapsed s) w
      (λ x. stop x (o x))
      (λ x. pass (λ y. omega arith) (stop x (f x)))
      (λ x. pass x.recent (pass (λ y. far_not y x) (h x)))
    where
      far_not : TooFar (elapsed s) w → Takes (elapsed s) w → ⊥
      far_not y x = omega (arith, y.1, x.near y.0)

  format_settled : {n turn : ℕ} → FormatClaim s n turn a t → Settled n s a t (lines_of (C.Format n turn) s)
  format_settled {n} {turn} F =
      by_cases (fits_dec s n)
      (λ x.
      pass (λ f. f x)
      (by_cases (range_dec turn)
      (λ y.
      let D = F.done x y in
      pass (λ f. f y) (accepted (λ k z. z) (ap is_no D.told) (ap (λ v. v.n) D.view) D.kept))
      (λ f. stop f (F.outside x f))))
      (λ f. stop f (F.short f))

  insert_settled : {value when period : ℕ} → InsertClaim s value when period a t → Settled (count s) s a t (lines_of (C.Insert value when period) s)
  insert_settled {value} {when} {period} J = judged J (λ S F. freely F (λ I. by I ((view s).lists free) refl))
    where
      some : {r : ℕ} {l : List ℕ} → (view s).lists free ≡ r ∷ l → (view s).lists free ≡ [] → ⊥
      some e f = let z : ◌≡◌ {A = ℕ} 0 1 = cc in omega arith

      by : InsertOn s value when period a t → (l : List ℕ) → (view s).lists free ≡ l
          → Settled (count s) s a t (line 3 ((view s).lists free ≡ []) (deadline_lines (elapsed s) when))
      by I [] e = stop e (I.full e)
      by I (r ∷ l) e = pass (some e) (by_when when (I.old r l e) (I.far r l e)
          (λ x. done_so refl (placed_size r when _) (I.done r l e x)))

  -- 6
  by_names : {l : Lines} → Sound s → (key : ℕ) → (((r p : ℕ) → Names (view s) key r p → ⊥) → Refused 6 s a t)
      → ((r p : ℕ) → Names (view s) key r p → Settled (count s) s a t l) → Settled (count s) s a t (line 6 (NoSuchKey (view s) key) l)
  by_names S key f g =
      ⊎_elim
      (λ d. stop d (f (dead_names d)))
      (λ x. pass (λ d. dead_names d x.0 x.1 x.2) (g x.0 x.1 x.2))
      (names_or_dead S key)

-- next wake and length leave what they find
looked : {s : QueueWords} {a : Answer} → is_no (told a) ≡ false → Settled (count s) s a s end
looked {s} e = accepted (λ k x. x) e refl (past_refl (count s) s)

looks : {s t : QueueWords} {a : Answer} {l : Lines} → t ≡ s → Settled (count s) s a s l → Settled (count s) s a t l
looks {s} {t} {a} {l} e E = rw e E

settled : (c : Call) (s : QueueWords) (a : Answer) (t : QueueWords) → CallClaim c s a t → Settled (reach c s) s a t (lines_of c s)
settled (C.Format n turn) s a t A = format_settled A
settled (C.Insert value when period) s a t A = insert_settled A
settled (C.Reset key when) s a t A =
    judged A (λ S F. freely F (λ R. by_names S key R.dead (λ r p N. by_when when (R.old r p N) (R.far r p N)
    (λ x. done_so refl (placed_size r when _ ∙ left_size p r (view s)) (R.done r p N x)))))
settled (C.Remove key) s a t A = judged A (λ S F. freely F (λ R. by_names S key R.dead
    (λ r p N. done_so refl (freed_size r _ ∙ left_size p r (view s)) (R.done r p N))))
settled (C.Poll now) s a t A =
    judged A (λ S F.
    polling S F (λ P h. P.back h)
    (λ P h. let d = P.done h in accepted (λ k x. x) (polls_says d.1) (polls_size d.1) d.2)
    (λ d. accepted (λ k x. x) (rest_says d.1) (rest_size d.1) d.2))
settled (C.PollSome now limit) s a t A =
    judged A (λ S F.
    polling S F (λ P h. P.back h)
    (λ P h. let d = P.done h in accepted (λ k x. x) (some_says d.1) (some_size d.1) d.2)
    (λ d. accepted (λ k x. x) (some_says d.1) (some_size d.1) d.2))
settled C.Wake s a t A = looks A.1 (judged A.0 (λ S F. freely F (λ W. looked (wakes_says W.done))))
settled C.Length s a t A = looks A.1 (judged A.0 (λ S W. looked (ap is_no W.done)))
settled C.Clear s a t A = judged A (λ S K. done_so refl (clears_size K.clears) K.done)

-- ---- the promises

module _ (c : Call) (s : QueueWords) (a : Answer) (t : QueueWords) (A : CallClaim c s a t) where
  -- "Given exactly when": a call answers `no k` just where the table says k, and then "every lent slice stays word for word the same, and the state that
  -- went in by value is handed back equal"
  pub refused_exactly : (k : ℕ) → (RefusedBy c s k → (told a ≡ T.no k) × (t ≡ s)) × (told a ≡ T.no k → RefusedBy c s k)
  refused_exactly k = by (settled c s a t A)
    where
      by : Settled (reach c s) s a t (lines_of c s) → (RefusedBy c s k → (told a ≡ T.no k) × (t ≡ s)) × (told a ≡ T.no k → RefusedBy c s k)
      by (refused {k = j} x R) = (
        λ y. let e : j ≡ k = refused_once c s x y in (R.told ∙ ap T.no e, R.same),
        λ e. let q : T.no j ≡ T.no k = sym R.told ∙ e in let z : j ≡ k = cc in rw (← z) x,
      )
      by (accepted f e n K) = (λ y. absurd (f k y), λ q. absurd (true≢false (sym (ap is_no q) ∙ e)))

  -- a call answers no number but those that the order has for it
  pub refused_listed : (k : ℕ) → told a ≡ T.no k → Mem k (numbers (lines_of c s))
  refused_listed k e = first_listed (lines_of c s) k ((refused_exactly k).1 e)

  -- and a call that meets no line of the table is not refused
  pub accepted_exactly : (((k : ℕ) → RefusedBy c s k → ⊥) → is_no (told a) ≡ false) × (is_no (told a) ≡ false → (k : ℕ) → RefusedBy c s k → ⊥)
  accepted_exactly = by (settled c s a t A)
    where
      by : Settled (reach c s) s a t (lines_of c s)
          → (((k : ℕ) → RefusedBy c s k → ⊥) → is_no (told a) ≡ false) × (is_no (told a) ≡ false → (k : ℕ) → RefusedBy c s k → ⊥)
      by (refused {k = j} x R) = (λ f. absurd (f j x), λ e k y. true≢false (sym (ap is_no R.told) ∙ e))
      by (accepted f e n K) = (λ g. e, λ q. f)

  -- what a call leaves has the size that it reached, unless it was refused
  pub call_size : (t ≡ s) ⊎ ((is_no (told a) ≡ false) × (count t ≡ reach c s) × PastKept (reach c s) s t)
  call_size = by (settled c s a t A)
    where
      by : Settled (reach c s) s a t (lines_of c s) → (t ≡ s) ⊎ ((is_no (told a) ≡ false) × (count t ≡ reach c s) × PastKept (reach c s) s t)
      by (refused x R) = inl R.same
      by (accepted f e n K) = inr (e, n, K)

two : (c : Call) (s : QueueWords) → is_format c ≡ false → (Sound s → ⊥) → RefusedBy c s 2
two (C.Format n turn) s e f = absurd (true≢false e)
two (C.Insert value when period) s e f = inl (refl, f)
two (C.Reset key when) s e f = inl (refl, f)
two (C.Remove key) s e f = inl (refl, f)
two (C.Poll now) s e f = inl (refl, f)
two (C.PollSome now limit) s e f = inl (refl, f)
two C.Wake s e f = inl (refl, f)
two C.Length s e f = inl (refl, f)
two C.Clear s e f = inl (refl, f)

-- "Every call but format judges this first": 2 is "slices too short or store not sound"
pub unsound_refused : (c : Call) (s : QueueWords) (a : Answer) (t : QueueWords) → CallClaim c s a t → is_format c ≡ false → (Sound s → ⊥)
    → (told a ≡ T.no 2) × (t ≡ s)
unsound_refused c s a t A e f = (refused_exactly c s a t A 2).0 (two c s e f)

-- 02 [5]: "Raise N to 65,535 .. Refusal 1 moves to the new limit": both sides of it
pub one_at_the_limit : (s : QueueWords) (turn : ℕ) → RefusedBy (C.Format 65536 turn) s 1
    × (Room 65535 (slices s) → RefusedBy (C.Format 65535 turn) s 1 → ⊥)
one_at_the_limit s turn = (
  inl (refl, λ F. omega (arith, F.few)),
  λ R x. ⊎_elim (λ y. y.1 (record { some = omega arith; few = omega arith; room = R })) (λ y. passed_eight y.1) x,
)
  where
    passed_eight : FirstMet (line 8 (InRange turn → ⊥) end) 1 → ⊥
    passed_eight x = ⊎_elim (λ y. omega (arith, y.0)) (λ y. y.1) x

-- 02 [5]: "record number 65,535 means nobody": a key with it is refused with 6 by every reset and remove, whatever N and its turn
pub nobody_refused : {s : QueueWords} → Sound s → AtRest s → (key : ℕ) → number_in key ≡ nobody
    → RefusedBy (C.Remove key) s 6 × ((when : ℕ) → RefusedBy (C.Reset key when) s 6)
nobody_refused {s} S rest key e =
    let x : NoSuchKey (view s) key = beyond (omega (arith, S.standing.fits.few, e)) in
    (inr (λ f. f S, inr (λ d. d rest, inl (refl, x))), λ when. inr (λ f. f S, inr (λ d. d rest, inl (refl, x))))

-- "Number 7 is judged even with an expired timer waiting."
pub seven_though_waiting : {s t : QueueWords} {a : Answer} {now : ℕ} → PollClaim s now a t → Sound s → {r : ℕ} {l : List ℕ}
    → (view s).lists expired ≡ r ∷ l
    → now < elapsed s → (told a ≡ T.no 7) × (t ≡ s)
seven_though_waiting {s} {t} {a} {now} P S e h =
    let rest : AtRest s = by_cases (ℕ_discrete s.hand nobody) (λ z. z) (λ d. absurd (nil≢cons (sym (S.rule.inside d).expired ∙ e))) in
    (refused_exactly (C.Poll now) s a t P 7).0 (inr (λ f. f S, inr (λ x. x.0 rest, inl (refl, h))))

-- a store where that happens
pub seven_shown : (s : QueueWords) × Sound s × (0 < elapsed s) × ((r : ℕ) × (l : List ℕ) × ((view s).lists expired ≡ r ∷ l))
seven_shown = let x = expired_shown 1 in (x.0, x.1, omega arith, (x.3.0, [], x.3.1))

-- a line of another number is not met, and passed
pub behind : {j k : ℕ} {P Q : Type 0} → k ≢ j → ((k ≡ j) × P) ⊎ ((P → ⊥) × Q) → (P → ⊥) × Q
behind d x = ⊎_elim (λ y. absurd (d y.0)) (λ y. y) x

passed : {j k : ℕ} {P Q : Type 0} → k ≢ j → ((k ≡ j) × P) ⊎ ((P → ⊥) × Q) → Q
passed d x = (behind d x).1

far : {e w k : ℕ} → k < 6 → FirstMet (deadline_lines e w) k → e < w
far h x = ⊎_elim (λ y. y.1.0) (λ y. absurd y.1) (passed (omega arith) x)

later : (c : Call) (s : QueueWords) (k : ℕ) → 3 < k → k < 6 → RefusedBy c s k → elapsed s < when_of c
later (C.Format n turn) s k h g x = absurd (passed (omega arith) (passed (omega arith) x))
later (C.Insert value when period) s k h g x = far g (passed (omega arith) (passed (omega arith) (passed (omega arith) x)))
later (C.Reset key when) s k h g x = far g (passed (omega arith) (passed (omega arith) (passed (omega arith) x)))
later (C.Remove key) s k h g x = absurd (passed (omega arith) (passed (omega arith) (passed (omega arith) x)))
later (C.Poll now) s k h g x = absurd (passed (omega arith) (passed (omega arith) (passed (omega arith) x)))
later (C.PollSome now limit) s k h g x = absurd (passed (omega arith) (passed (omega arith) (passed (omega arith) x)))
later C.Wake s k h g x = absurd (passed (omega arith) (passed (omega arith) x))
later C.Length s k h g x = absurd (passed (omega arith) x)
later C.Clear s k h g x = absurd (passed (omega arith) x)

-- "Numbers 4 and 5 are judged only when w is over e": whichever call answers 4 asks for a deadline past elapsed
pub four_only_later : (c : Call) (s : QueueWords) (a : Answer) (t : QueueWords) → CallClaim c s a t → told a ≡ T.no 4 → elapsed s < when_of c
four_only_later c s a t A e = later c s 4 (omega arith) (omega arith) ((refused_exactly c s a t A 4).1 e)

-- k is not the first of these numbers, and none of the others
pub another : {j k : ℕ} {B : Type 0} → k ≢ j → (B → ⊥) → (k ≡ j) ⊎ B → ⊥
another d f x = ⊎_elim d f x

-- 02 [12]: "Refusal 5 is then never given": by no call, on no store
pub never_five : (c : Call) (s : QueueWords) (a : Answer) (t : QueueWords) → CallClaim c s a t → told a ≡ T.no 5 → ⊥
never_five c s a t A e = unlisted c (refused_listed c s a t A 5 e)
  where
    unlisted : (c : Call) → Mem 5 (numbers (lines_of c s)) → ⊥
    unlisted (C.Format n turn) = another (omega arith) (another (omega arith) (λ x. x))
    unlisted (C.Insert value when period) =
        another (omega arith) (another (omega arith) (another (omega arith) (another (omega arith) (another (omega arith) (λ x. x)))))
    unlisted (C.Reset key when) =
        another (omega arith) (another (omega arith) (another (omega arith) (another (omega arith) (another (omega arith) (λ x. x)))))
    unlisted (C.Remove key) = another (omega arith) (another (omega arith) (another (omega arith) (λ x. x)))
    unlisted (C.Poll now) = another (omega arith) (another (omega arith) (another (omega arith) (λ x. x)))
    unlisted (C.PollSome now limit) = another (omega arith) (another (omega arith) (another (omega arith) (λ x. x)))
    unlisted C.Wake = another (omega arith) (another (omega arith) (λ x. x))
    unlisted C.Length = another (omega arith) (λ x. x)
    unlisted C.Clear = another (omega arith) (λ x. x)

-- "Unlinking on a reset before judging 4 and 5. ..; here the timer stays put": a refused reset leaves its timer pending in its place, under its key, and
-- every word as it was
pub refused_reset_stays : {s t : QueueWords} {a : Answer} {key when k : ℕ} → ResetClaim s key when a t → told a ≡ T.no k
    → (r p : ℕ) → Names (view s) key r p → Names (view t) key r p × ((view t).lists p ≡ (view s).lists p)
    × ((view t).deadline r ≡ (view s).deadline r) × (t ≡ s)
refused_reset_stays {s} {t} {a} {key} {when} {k} R e r p N =
    let q : t ≡ s = refusal_same (C.Reset key when) s a t R k e in
    (rw q N, rw q, rw q, q)
