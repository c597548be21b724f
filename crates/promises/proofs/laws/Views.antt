-- What a call on a sound store does, as one step of the view, whatever the call: one case for each way that it can end.
use mathlib.Core.Path.{◌≡◌, refl, ◌∙◌}
use mathlib.Core.Logic.{by_cases}
use mathlib.Core.List.{List, ◌∷◌}
use mathlib.Core.Option.{Option}
use Prim.Native.Nat.{ℕ, ◌+◌}
use native.Mathlib.Decide.{ℕ_discrete}
use native.Mathlib.Omega.{arith}
use borrow.Author.Tests.{eq-eqb, ne_eqb}
use Rattle.wheel.specs.Limited.{ended as stopped}
use Rattle.pausing.specs.Pausing.{SaysYet, PollTaken}
use Rattle.links.specs.Lists.{nobody}
use Rattle.places.specs.Places.{free}
use Rattle.records.specs.View.{View, with_elapsed, with_value, with_hand, upd, with_period}
use Rattle.records.specs.Records.{last_turn, key_of, Names, taken, left, placed, freed}
use Rattle.records.specs.Words.{QueueWords, view, Sound}
use Rattle.queue.specs.declared.Answer.{Answer}
use Rattle.queue.specs.Told.{Told, told, Hands}
use Rattle.queue.specs.Told as T
use Rattle.queue.specs.Steps.{TakesSome, popped_some, polled_some, GoesOn, PollsSome, handed_some, nothing_some, not_yet, sleeps, starts, NextWake, at_once, from_wheel, pending, Clears, once, again, ended}
use Rattle.delay_queue.specs.declared.Call.{Call}
use Rattle.delay_queue.specs.declared.Call.TheVariants as C
use Rattle.delay_queue.specs.Claims.{fresh, CallClaim}
use Rattle.promises.specs.Does.{Does, refused, formatted, inserted, replaced, removed, polled, woke, measured, cleared}
use Rattle.promises.specs.Polls.{PollAt}
use Rattle.promises.proofs.laws.Does.{does}

-- the call, its answer and the view after it
pub data ViewGoes (v : View) : Call → Told → View → Type 0 where
  refuses : {c : Call} {k : ℕ} → ViewGoes v c (T.no k) v
  formats : {n turn : ℕ} → ViewGoes v (C.Format n turn) T.ok (fresh n turn v)
  inserts : {value when period r : ℕ} {l : List ℕ} → v.lists free ≡ r ∷ l
      → ViewGoes v (C.Insert value when period) (T.key (key_of v r))
      (placed r when (with_period (upd v.period r period) (with_value (upd v.value r value) (taken l v))))
  resets : {k when r p : ℕ} → Names v k r p → ViewGoes v (C.Reset k when) T.ok (placed r when (left p r v))
  removes : {k r p : ℕ} → Names v k r p → ViewGoes v (C.Remove k) (T.gone (v.value r) (v.deadline r)) (freed r (left p r v))
  polls : {c : Call} {now limit : ℕ} {x : Told} {w : View} → PollAt c now → PollTaken v now → PollsSome v now limit x w → ViewGoes v c x w
  wakes : {x : Told} → NextWake v x → ViewGoes v C.Wake x v
  counts : ViewGoes v C.Length (T.len (pending v)) v
  clears : {w : View} → Clears v v.n w → ViewGoes v C.Clear T.ok (with_hand nobody 0 (with_elapsed 0 w))

-- every call on a sound store takes such a step
pub call_goes : (c : Call) (s : QueueWords) (a : Answer) (t : QueueWords) → Sound s → CallClaim c s a t
    → ViewGoes (view s) c (told a) (view t)
call_goes c s a t S A = of (does S c A)
  where
    of : {c : Call} → Does s a t c → ViewGoes (view s) c (told a) (view t)
    of (refused R) = rw (R.told, R.same) refuses
    of (formatted F) = rw (F.told, F.view) formats
    of (inserted e n B) = rw (B.told, B.view) (inserts e)
    of (replaced N n B) = rw (B.told, B.view) (resets N)
    of (removed N B) = rw (B.told, B.view) (removes N)
    of (polled c h P) = polls c h P
    of (woke W e) = rw e (wakes W)
    of (measured m e) = rw (e, m) counts
    of (cleared K) = rw (K.done.told, K.done.view) (clears K.clears)

-- ---- who answers so

goes_no_key : {v : View} {r m n : ℕ} {u : View} {x : Told} {w : View} → GoesOn v r m n u x w → {k : ℕ} → x ≡ T.key k → ⊥
goes_no_key (once p) z = let y : ◌≡◌ {A = ℕ} 0 1 = cc in omega arith
goes_no_key (again p f) z = let y : ◌≡◌ {A = ℕ} 0 1 = cc in omega arith
goes_no_key (ended p f) z = let y : ◌≡◌ {A = ℕ} 0 1 = cc in omega arith

poll_no_key : {v : View} {now limit : ℕ} {x : Told} {w : View} → PollsSome v now limit x w → {k : ℕ} → x ≡ T.key k → ⊥
poll_no_key (handed_some T G) z = goes_no_key G z
poll_no_key (nothing_some T) z = let y : ◌≡◌ {A = ℕ} 0 1 = cc in omega arith
poll_no_key (not_yet T) z = let y : ◌≡◌ {A = ℕ} 0 1 = cc in omega arith

wake_no_key : {v : View} {x : Told} → NextWake v x → {k : ℕ} → x ≡ T.key k → ⊥
wake_no_key (at_once e) z = let y : ◌≡◌ {A = ℕ} 0 1 = cc in omega arith
wake_no_key (from_wheel e (sleeps E)) z = let y : ◌≡◌ {A = ℕ} 0 1 = cc in omega arith
wake_no_key (from_wheel e (starts F)) z = let y : ◌≡◌ {A = ℕ} 0 1 = cc in omega arith

wake_no_out : {v : View} {x : Told} → NextWake v x → {k a d m n : ℕ} → Hands x k a d m n → ⊥
wake_no_out (at_once e) z = let y : ◌≡◌ {A = ℕ} 0 1 = cc in omega arith
wake_no_out (from_wheel e (sleeps E)) z = let y : ◌≡◌ {A = ℕ} 0 1 = cc in omega arith
wake_no_out (from_wheel e (starts F)) z = let y : ◌≡◌ {A = ℕ} 0 1 = cc in omega arith

-- a key is answered by an insert alone
pub key_inserts : {v : View} {c : Call} {x : Told} {w : View} → ViewGoes v c x w → {k : ℕ} → x ≡ T.key k
    → (value : ℕ) × (when : ℕ) × (period : ℕ) × (c ≡ C.Insert value when period)
key_inserts refuses z = let y : ◌≡◌ {A = ℕ} 0 1 = cc in absurd (omega arith)
key_inserts formats z = let y : ◌≡◌ {A = ℕ} 0 1 = cc in absurd (omega arith)
key_inserts (inserts {value} {when} {period} e) z = (value, when, period, refl)
key_inserts (resets N) z = let y : ◌≡◌ {A = ℕ} 0 1 = cc in absurd (omega arith)
key_inserts (removes N) z = let y : ◌≡◌ {A = ℕ} 0 1 = cc in absurd (omega arith)
key_inserts (polls c h Q) z = absurd (poll_no_key Q z)
key_inserts (wakes W) z = absurd (wake_no_key W z)
key_inserts counts z = let y : ◌≡◌ {A = ℕ} 0 1 = cc in absurd (omega arith)
key_inserts (clears r) z = let y : ◌≡◌ {A = ℕ} 0 1 = cc in absurd (omega arith)

-- a timer is handed out by a poll alone
pub out_polls : {v : View} {c : Call} {x : Told} {w : View} → ViewGoes v c x w → {k a d m n : ℕ} → Hands x k a d m n
    → (now : ℕ) × PollTaken v now × ((limit : ℕ) × PollsSome v now limit x w) × PollAt c now
out_polls refuses z = let y : ◌≡◌ {A = ℕ} 0 1 = cc in absurd (omega arith)
out_polls formats z = let y : ◌≡◌ {A = ℕ} 0 1 = cc in absurd (omega arith)
out_polls (inserts e) z = let y : ◌≡◌ {A = ℕ} 0 1 = cc in absurd (omega arith)
out_polls (resets N) z = let y : ◌≡◌ {A = ℕ} 0 1 = cc in absurd (omega arith)
out_polls (removes N) z = let y : ◌≡◌ {A = ℕ} 0 1 = cc in absurd (omega arith)
out_polls (polls {now = now} {limit = limit} c h Q) z = (now, h, (limit, Q), c)
out_polls (wakes W) z = absurd (wake_no_out W z)
out_polls counts z = let y : ◌≡◌ {A = ℕ} 0 1 = cc in absurd (omega arith)
out_polls (clears r) z = let y : ◌≡◌ {A = ℕ} 0 1 = cc in absurd (omega arith)

-- ---- no poll in hand, and none after it but of a poll that answers "not yet"

pub placed_hand : (r when : ℕ) (v : View) → (placed r when v).hand ≡ v.hand
unfolding placed
placed_hand r when v = refl

pub left_hand : (p r : ℕ) (v : View) → (left p r v).hand ≡ v.hand
unfolding left
left_hand p r v = refl

pub freed_hand : (r : ℕ) (v : View) → (freed r v).hand ≡ v.hand
unfolding freed
freed_hand r v =
    by_cases (ℕ_discrete (v.turn r) last_turn)
    (λ z. rw (eq-eqb (v.turn r) last_turn z) refl)
    (λ z. rw (ne_eqb (v.turn r) last_turn z) refl)

pub goes_on_hand : {v : View} {r m n : ℕ} {u : View} {x : Told} {w : View} → GoesOn v r m n u x w → w.hand ≡ u.hand
goes_on_hand {r = r} {u = u} (once z) = freed_hand r u
goes_on_hand {v} {r} {u = u} (again p f) = placed_hand r (v.deadline r + v.period r) u
goes_on_hand {r = r} {u = u} (ended p f) = freed_hand r u

takes_hand : {v : View} {now limit m n : ℕ} {g : Option ℕ} {u : View} → TakesSome v now limit (stopped g) m n u → v.hand ≡ nobody → u.hand ≡ nobody
takes_hand (popped_some e) z = z
takes_hand (polled_some e r) z = refl

pub goes_rest : {v : View} {c : Call} {x : Told} {w : View} → ViewGoes v c x w → (SaysYet x → ⊥) → v.hand ≡ nobody → w.hand ≡ nobody
goes_rest refuses f z = z
goes_rest formats f z = refl
goes_rest (inserts {when = when} {r = r} e) f z = placed_hand r when _ ∙ z
goes_rest {v} (resets {when = when} {r = r} {p = p} N) f z = placed_hand r when (left p r v) ∙ left_hand p r v ∙ z
goes_rest {v} (removes {r = r} {p = p} N) f z = freed_hand r (left p r v) ∙ left_hand p r v ∙ z
goes_rest (polls c h (handed_some T G)) f z = goes_on_hand G ∙ takes_hand T z
goes_rest (polls c h (nothing_some T)) f z = takes_hand T z
goes_rest (polls c h (not_yet {m = m} {n = n} T)) f z = absurd (f (m, n, refl))
goes_rest (wakes W) f z = z
goes_rest counts f z = z
goes_rest (clears r) f z = refl
