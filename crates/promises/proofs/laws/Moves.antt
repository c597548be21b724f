-- The moves that polls report: of one poll, the levels that the pending timers lost; of a run, at most six for each accepted insert or reset.
use mathlib.Core.Path.{◌≡◌, refl, ap, ◌∙◌, sym}
use mathlib.Core.Logic.{by_cases, ⊎_elim, inl, inr, ◌≢◌}
use mathlib.Core.Bool.{not, ◌&&◌, cond}
use mathlib.Core.List.{List, [], ◌∷◌}
use Prim.Native.Nat.{ℕ, zero, suc, ◌+◌, ◌*◌, ◌≤◌, max}
use native.Mathlib.Decide.{ℕ_discrete, dec_lt}
use native.Mathlib.Omega.{arith}
use borrow.Author.Tests.{eq-eqb, ne_eqb, lt-ltb, le-ltb}
use Rattle.links.specs.Lists.{without, change, Mem}
use Rattle.links.proofs.laws.Lists.{change_same, change_other}
use Rattle.places.specs.Places.{expired, free, put, level_at, top_height}
use Rattle.places.specs.Format.{range}
use Rattle.wheel.specs.Wheel.{Lists}
use Rattle.wheel.specs.Sums.{sum_of, total}
use Rattle.wheel.proofs.laws.Sums.{total_ext, total_more, mem_joined}
use Rattle.wheel.specs.Drain.{heights}
use Rattle.queue.specs.declared.Answer.{Answer}
use Rattle.queue.specs.Told.{Told, told, timer}
use Rattle.records.specs.View.{View, with_value, upd, with_period}
use Rattle.records.specs.Records.{taken, left, target, placed, freed, At, key_of, number_in}
use Rattle.queue.specs.Steps.{sleeps, starts, NextWake, at_once, from_wheel, Clears, begun, kept, gave, GoesOn, PollsSome, TakesSome, nothing_some, not_yet, once, again, handed_some, ended}
use Rattle.records.specs.Words.{QueueWords, view, Sound}
use Rattle.wheel.specs.Limited.{ended as stopped}
use Rattle.pausing.specs.Pausing.{PollTaken}
use Rattle.queue.specs.Calls.{Answered}
use Rattle.delay_queue.specs.declared.Call.{Call}
use Rattle.delay_queue.specs.Claims.{Formatted, CallClaim}
use Rattle.promises.specs.Does.{Does, refused, formatted, inserted, replaced, removed, polled, woke, measured, cleared}
use Rattle.promises.specs.Polls.{PollAt}
use Rattle.promises.proofs.laws.Does.{does, poll_done}
use Rattle.promises.specs.OneCall.{is_no}
use Rattle.promises.proofs.laws.OneCall.{call_sound}
use Rattle.promises.specs.Runs.{Asked, Runs, rest, next, is_placing, tally, moves_of, moves, resetting, resettings}
use Rattle.promises.proofs.laws.Polling.{freed_beside, takes_works, goes_on_counts, goes_on_says, none_out, no_last, placed_else}
use Rattle.promises.specs.Polling.{Finished}
use Rattle.promises.specs.Bounded.{height_at, IsSetAgain}
use Rattle.promises.proofs.laws.TakesOut.{key_of_names, taken_out}
use mathlib.Core.Option.{some}
use Rattle.promises.specs.KeysStay.{HandsKey}
use Rattle.promises.proofs.laws.Outs.{set_counts}

-- ---- sums over lists that lose some

sum_without : (f : ℕ → ℕ) (i : ℕ) (l : List ℕ) → sum_of f (without i l) ≤ sum_of f l
sum_without f i [] = omega arith
sum_without f i (x ∷ l) =
    by_cases (ℕ_discrete x i)
    (λ e. rw (eq-eqb x i e) (omega arith))
    (λ d. rw (ne_eqb x i d) (omega (arith, sum_without f i l)))

total_fewer : (u : ℕ → ℕ → ℕ) (n : ℕ) (L M : Lists) → ((p : ℕ) → sum_of (u p) (M p) ≤ sum_of (u p) (L p)) → total u n M ≤ total u n L
unfolding total
total_fewer u zero L M h = omega arith
total_fewer u (suc n) L M h = omega (arith, total_fewer u n L M h, h n)

pub total_none : (u : ℕ → ℕ → ℕ) (n : ℕ) → total u n (λ p. []) ≡ 0
unfolding total
total_none u zero = refl
total_none u (suc n) = omega (arith, total_none u n)

-- ---- one record leaves, is freed, is placed: what that makes of a sum over the first n places

pub left_total : (u : ℕ → ℕ → ℕ) (n p r : ℕ) (v : View) → total u n (left p r v).lists ≤ total u n v.lists
unfolding left
left_total u n p r v =
    let L = v.lists in
    total_fewer u n L (change L p (without r (L p)))
    (λ q.
    by_cases (ℕ_discrete q p)
    (λ e. rw (e, change_same) (sum_without (u p) r (L p)))
    (λ d. rw (change_other L p (without r (L p)) q d) (omega arith)))

pub freed_total : (u : ℕ → ℕ → ℕ) (n r : ℕ) (v : View) → n ≤ free → total u n (freed r v).lists ≡ total u n v.lists
freed_total u n r v h = total_ext u n (freed r v).lists v.lists (λ p k. (freed_beside r v).lists p (omega arith))

-- ---- heights

placed_heights : (r when : ℕ) (v : View) → heights (placed r when v).lists ≤ heights v.lists + top_height
unfolding placed heights
placed_heights r when v =
    let p = target v.elapsed (max when v.elapsed) in
    let L = v.lists in
    by_cases (dec_lt p expired)
    (λ h. omega (arith, total_more (λ q x. level_at q) expired L p r h))
    (λ h.
    omega (
      arith,
      total_ext (λ q x. level_at q) expired (change L p (put p r (L p))) L
          (λ q k. change_other L p (put p r (L p)) q (omega (arith, h, k))),
    ))

taken_heights : (l : List ℕ) (v : View) → heights (taken l v).lists ≡ heights v.lists
unfolding heights
taken_heights l v = total_ext (λ q x. level_at q) expired (change v.lists free l) v.lists
    (λ q k. change_other v.lists free l q (omega arith))

left_heights : (p r : ℕ) (v : View) → heights (left p r v).lists ≤ heights v.lists
unfolding heights
left_heights p r v = left_total (λ q x. level_at q) expired p r v

freed_heights : (r : ℕ) (v : View) → heights (freed r v).lists ≡ heights v.lists
unfolding heights
freed_heights r v = freed_total (λ q x. level_at q) expired r v (omega arith)

clears_heights : {v u : View} {k : ℕ} → Clears v k u → heights u.lists ≤ heights v.lists
clears_heights begun = omega arith
clears_heights (kept r n) = clears_heights r
clears_heights (gave {k} {p} {u} r a) = omega (arith, freed_heights k (left p k u), left_heights p k u, clears_heights r)

fresh_heights : (l : List ℕ) → heights (change (λ p. []) free l) ≡ 0
unfolding heights
fresh_heights l =
    total_ext (λ q x. level_at q) expired (change (λ p. []) free l) (λ p. []) (λ q k. change_other (λ p. []) free l q (omega arith))
    ∙ total_none (λ q x. level_at q) expired

formatted_heights : {s : QueueWords} {n turn : ℕ} {a : Answer} {t : QueueWords} → Formatted s n turn a t → heights (view t).lists ≡ 0
formatted_heights {n = n} F = ap (λ v. heights v.lists) F.view ∙ fresh_heights (range n 0)

-- ---- a poll

-- what is placed adds the height of its place
pub placed_rises : (r when : ℕ) (v : View)
    → heights (placed r when v).lists ≡ heights v.lists + height_at (target v.elapsed (max when v.elapsed))
unfolding placed heights
placed_rises r when v =
    let p = target v.elapsed (max when v.elapsed) in
    by_cases (dec_lt p expired)
    (λ h. rw (lt-ltb p expired h) (total_more (λ q x. level_at q) expired v.lists p r h))
    (λ h.
    rw (le-ltb p expired (omega arith))
    (omega (
      arith,
      total_ext (λ q x. level_at q) expired (change v.lists p (put p r (v.lists p))) v.lists
          (λ q k. change_other v.lists p (put p r (v.lists p)) q (omega arith)),
    )))

-- the record that is handed out is freed, and no height changes; or it is set again, and its height is added
pub data Risen (v : View) (r : ℕ) (u : View) (x : Told) (w : View) : Type 0 where
  stays : Finished v r x → heights w.lists ≡ heights u.lists → Risen v r u x w
  rises : (Finished v r x → ⊥) → w ≡ placed r (v.deadline r + v.period r) u
      → heights w.lists ≡ heights u.lists + height_at (target u.elapsed (max (v.deadline r + v.period r) u.elapsed)) → Risen v r u x w

pub goes_on_heights : {v : View} {r m n : ℕ} {u : View} {x : Told} {w : View} → GoesOn v r m n u x w → Risen v r u x w
goes_on_heights {r = r} {u = u} (once z) = stays (inl z) (freed_heights r u)
goes_on_heights {v} {r} {u = u} (again p f) =
    rises (⊎_elim (λ z. omega arith) (λ y. let e = y.5 in let z : ◌≡◌ {A = ℕ} 0 1 = cc in omega arith)) refl
    (placed_rises r (v.deadline r + v.period r) u)
goes_on_heights {r = r} {u = u} (ended p f) = stays (inr (_, _, _, _, _, refl)) (freed_heights r u)

-- who is in no list, and placed, lies where it is placed
placed_at : {r q : ℕ} (when : ℕ) (u : View) → ((p : ℕ) → Mem r (u.lists p) → ⊥) → At (placed r when u) r q
    → q ≡ target u.elapsed (max when u.elapsed)
unfolding placed
placed_at {r} {q} when u out a =
    ⊎_elim (λ z. z.0) (λ m. absurd (out q m)) (mem_joined u.lists (target u.elapsed (max when u.elapsed)) r q r a.member)

-- who is set again is the one that is handed out
set_is : {s : QueueWords} → Sound s → {r p m n y : ℕ} {u : View} {x : Told} {w : View} → At (view s) r p → GoesOn (view s) r m n u x w
    → IsSetAgain (view s) x y → y ≡ r
set_is {s} S {r} {p} {m} {n} {y} a G (k, v, d, m₁, n₁, z, e, f) =
    let q : timer (key_of (view s) r) ((view s).value r) ((view s).deadline r) m n ≡ timer k v d m₁ n₁ = sym (goes_on_says G) ∙ z in
    let c : key_of (view s) r ≡ k = cc in
    e ∙ ap (λ i. number_in i) (sym c) ∙ sym (key_of_names S a).number

-- by the moves the heights are less, where the height of a timer that is set again is added after
pub view_heights : {s : QueueWords} → Sound s → {now limit : ℕ} → PollTaken (view s) now → {x : Told} {w : View} → PollsSome (view s) now limit x w
    → (added : ℕ) × (moves_of x + heights w.lists ≡ heights (view s).lists + added)
    × (((y : ℕ) → IsSetAgain (view s) x y → ⊥) → added ≡ 0) × ((y q : ℕ) → IsSetAgain (view s) x y → At w y q → added ≡ height_at q)
view_heights {s} S {now} {limit} h P = of P
  where
    Adds : Told → View → Type 0
    Adds x w =
        (added : ℕ) × (moves_of x + heights w.lists ≡ heights (view s).lists + added)
        × (((y : ℕ) → IsSetAgain (view s) x y → ⊥) → added ≡ 0) × ((y q : ℕ) → IsSetAgain (view s) x y → At w y q → added ≡ height_at q)

    on : {r m n : ℕ} {u : View} {x : Told} {w : View} → TakesSome (view s) now limit (stopped (some r)) m n u → GoesOn (view s) r m n u x w
        → Risen (view s) r u x w
        → Adds x w
    on {r} {u = u} {x = x} T G (stays d e) =
        let O = taken_out S h T in (
          0,
          omega (arith, (takes_works S h T).counted, e, (goes_on_counts G).0),
          λ f. refl,
          λ y q z c. absurd (z.7 (rw (set_is S (O.out r refl).1 G z) d)),
        )
    on {r} {u = u} {x = x} T G (rises d q e) =
        let O = taken_out S h T in
        let N = key_of_names S (O.out r refl).1 in
        let o : IsSetAgain (view s) x r = (_, _, _, _, _, goes_on_says G, N.number, d) in
        let added = height_at (target u.elapsed (max ((view s).deadline r + (view s).period r) u.elapsed)) in (
          added,
          omega (arith, (takes_works S h T).counted, e, (goes_on_counts G).0),
          λ f. absurd (f r o),
          λ y p z c.
              let is : y ≡ r = set_is S (O.out r refl).1 G z in
              let there : At (placed r ((view s).deadline r + (view s).period r) u) r p = rw (← q, ← is) c in
              ap (λ (j : ℕ). height_at j) (sym (placed_at ((view s).deadline r + (view s).period r) u (O.gone r refl) there)),
        )

    of : {x : Told} {w : View} → PollsSome (view s) now limit x w → Adds x w
    of (nothing_some T) =
        (0, omega (arith, (takes_works S h T).counted), λ f. refl, λ y q z c. absurd (none_out z.5))
    of (not_yet T) =
        (0, omega (arith, (takes_works S h T).counted), λ f. refl, λ y q z c. absurd (none_out z.5))
    of (handed_some T G) = on T G (goes_on_heights G)

-- "The moves a poll reports are the heights before less the heights after": "Each poll reports as many moves as the pending timers lost in levels"; of every
-- poll that is taken, whole or with a limit, begun or gone on with
pub moves_are_heights : {s : QueueWords} → Sound s → {c : Call} {now : ℕ} → PollAt c now → PollTaken (view s) now → (a : Answer) (t : QueueWords)
    → CallClaim c s a t
    → (added : ℕ) × (moves_of (told a) + heights (view t).lists ≡ heights (view s).lists + added)
    × (((y : ℕ) → IsSetAgain (view s) (told a) y → ⊥) → added ≡ 0)
    × ((y q : ℕ) → IsSetAgain (view s) (told a) y → At (view t) y q → added ≡ height_at q)
moves_are_heights S p K a t P = view_heights S K (poll_done S p K a t P).1

-- whoever is not set again keeps its deadline
pub goes_deadline : {s : QueueWords} (S : Sound s) {now limit : ℕ} (h : PollTaken (view s) now) {r m n : ℕ} {u : View} {x : Told} {w : View}
    → TakesSome (view s) now limit (stopped (some r)) m n u → GoesOn (view s) r m n u x w → (y : ℕ) → (IsSetAgain (view s) x y → ⊥)
    → w.deadline y ≡ (view s).deadline y
goes_deadline S h {r} {u = u} T (once z) y f = ap (λ g. g y) ((freed_beside r u).deadline ∙ (taken_out S h T).deadline)
goes_deadline {s} S h {r} {m} {n} {u} T (again p g) y f =
    let O = taken_out S h T in
    let N = key_of_names S (O.out r refl).1 in
    let more : y ≡ r → (view s).period y ≡ 0 → ⊥ = λ e z. omega (arith, ap (view s).period e, p) in
    let d : y ≢ r = λ e. f (_, _, _, _, _, refl, e ∙ N.number, ⊎_elim (more e) no_last) in
    (placed_else r ((view s).deadline r + (view s).period r) u y d).0 ∙ ap (λ k. k y) O.deadline
goes_deadline S h {r} {u = u} T (ended p g) y f = ap (λ k. k y) ((freed_beside r u).deadline ∙ (taken_out S h T).deadline)

-- the moves are paid for by the heights lost, and six for a timer that is set again
poll_paid : {s : QueueWords} → Sound s → {now limit : ℕ} → PollTaken (view s) now → {x : Told} {w : View} → PollsSome (view s) now limit x w
    → moves_of x + heights w.lists ≤ heights (view s).lists + top_height * resetting s x
poll_paid {s} S h (nothing_some T) = omega (arith, (takes_works S h T).counted)
poll_paid {s} S h (not_yet T) = omega (arith, (takes_works S h T).counted)
poll_paid {s} S h {x} {w} (handed_some {r} {m} {n} {u} T G) = by (goes_on_heights G)
  where
    B : m + heights u.lists ≡ heights (view s).lists
    B = (takes_works S h T).counted

    by : Risen (view s) r u x w → moves_of x + heights w.lists ≤ heights (view s).lists + top_height * resetting s x
    by (stays d e) = omega (arith, B, e, (goes_on_counts G).0)
    by (rises d q e) =
        let N = key_of_names S ((taken_out S h T).out r refl).1 in
        let o : HandsKey (key_of (view s) r) x = (_, _, _, _, goes_on_says G) in
        rw (set_counts s x N o d)
        (omega (arith, B, (goes_on_counts G).0, ap (λ v. heights v.lists) q, placed_heights r ((view s).deadline r + (view s).period r) u))

-- ---- one call

-- an accepted insert or reset
abbrev pays : Call → Told → ℕ
pays c x = cond (is_placing c && not (is_no x)) 1 0

-- the moves are paid for by the heights lost, and six for each accepted insert or reset and each timer that is set again
abbrev Paid : QueueWords → Answer → QueueWords → Call → Type 0
Paid s a t c = moves_of (told a) + heights (view t).lists ≤ heights (view s).lists + top_height * (pays c (told a) + resetting s (told a))

wakes_moves : {v : View} {x : Told} → NextWake v x → moves_of x ≡ 0
wakes_moves (at_once e) = refl
wakes_moves (from_wheel e (sleeps E)) = refl
wakes_moves (from_wheel e (starts F)) = refl

module _ (s : QueueWords) (a : Answer) (t : QueueWords) where
  same_paid : (c : Call) → t ≡ s → moves_of (told a) ≡ 0 → Paid s a t c
  same_paid c e m = omega (arith, ap (λ z. heights (view z).lists) e)

  -- it is answered, and the heights have risen by no more than it pays for
  answered_paid : (c : Call) {x : Told} {v : View} → Answered s a x v t → moves_of x ≡ 0
      → heights v.lists ≤ heights (view s).lists + top_height * pays c x
      → Paid s a t c
  answered_paid c {x} {v} A m h =
      omega (arith, ap moves_of A.told, ap (pays c) A.told, ap (λ w. heights w.lists) A.view)

  does_paid : (c : Call) → Sound s → Does s a t c → Paid s a t c
  does_paid c S (refused R) = same_paid c R.same (ap moves_of R.told)
  does_paid c S (formatted F) = omega (arith, ap moves_of F.told, formatted_heights F)
  does_paid c S (inserted {value} {when} {period} {r} {l} e n A) =
      let v = with_period (upd (view s).period r period) (with_value (upd (view s).value r value) (taken l (view s))) in
      answered_paid c A refl (omega (arith, placed_heights r when v, taken_heights l (view s)))
  does_paid c S (replaced {key} {when} {r} {p} N n A) =
      answered_paid c A refl (omega (arith, placed_heights r when (left p r (view s)), left_heights p r (view s)))
  does_paid c S (removed {key} {r} {p} N A) =
      answered_paid c A refl (omega (arith, freed_heights r (left p r (view s)), left_heights p r (view s)))
  does_paid c S (polled at h P) = omega (arith, poll_paid S h P)
  does_paid c S (woke W e) = same_paid c e (wakes_moves W)
  does_paid c S (measured m e) = same_paid c e (ap moves_of m)
  does_paid c S (cleared K) = answered_paid c K.done refl (omega (arith, clears_heights K.clears))

-- ---- a run

-- from any sound store: what is left of the heights and six for each accepted insert or reset, a re-placing among them, pay for all moves
pub run_paid : {s u : QueueWords} {l : List Asked} → Sound s → (R : Runs s l u)
    → moves l + heights (view u).lists ≤ heights (view s).lists + top_height * (tally is_placing l + resettings R)
run_paid S rest = omega arith
run_paid S (next {s} {t} {u} {x} {l} A R) =
    omega (arith, does_paid s x.answer t x.call S (does S x.call A), run_paid (call_sound x.call s x.answer t A S) R)

-- from a fresh store, over any run: "all moves come to at most five for each accepted insert or reset", 02 [7]: "a re-placing counts as an insert",
-- 02 [12]: "Demand 3's five becomes six"
pub moves_bounded : {s t u : QueueWords} {n turn : ℕ} {a : Answer} {l : List Asked} → Formatted s n turn a t → (R : Runs t l u)
    → moves l ≤ 6 * (tally is_placing l + resettings R)
moves_bounded F R = omega (arith, run_paid F.sound R, formatted_heights F)
