-- Words of a slice past what N records need, and the lengths of all slices, over a run of any calls.
use mathlib.Core.Path.{◌≡◌, sym, ap, ◌∙◌}
use mathlib.Core.Logic.{⊎_elim}
use mathlib.Core.Bool.{Bool, true, false, not, ◌&&◌, true≢false}
use mathlib.Core.List.{List, [], ◌∷◌}
use Prim.Native.Nat.{ℕ, ◌≤◌}
use native.Mathlib.Omega.{arith}
use Rattle.links.specs.Whole.{Kept}
use Rattle.records.specs.Words.{QueueWords, count, PastKept}
use Rattle.records.proofs.laws.Words.{past_refl, past_trans}
use Rattle.delay_queue.specs.declared.Call.{Call}
use Rattle.delay_queue.specs.declared.Call.TheVariants as C
use Rattle.delay_queue.specs.Claims.{CallClaim}
use Rattle.promises.specs.OneCall.{reach}
use Rattle.promises.proofs.laws.Refused.{call_size}
use Rattle.promises.specs.Runs.{Asked, Runs, rest, next, All, NoFormat, accepted, is_format}
use Rattle.promises.specs.Past.{size_of}

reach_within : (c : Call) (s : QueueWords) {m : ℕ} → count s ≤ m → size_of c ≤ m → reach c s ≤ m
reach_within (C.Format n turn) s h g = g
reach_within (C.Insert value when period) s h g = h
reach_within (C.Reset key when) s h g = h
reach_within (C.Remove key) s h g = h
reach_within (C.Poll now) s h g = h
reach_within (C.PollSome now limit) s h g = h
reach_within C.Wake s h g = h
reach_within C.Length s h g = h
reach_within C.Clear s h g = h

kept_beyond : {n m : ℕ} {l k : List ℕ} → n ≤ m → Kept n l k → Kept m l k
kept_beyond h K = record { size = K.size; past = λ j g. K.past j (omega arith) }

past_beyond : {n m : ℕ} {s t : QueueWords} → n ≤ m → PastKept n s t → PastKept m s t
past_beyond h P =
    record {
      links = record {
        nexts = kept_beyond h P.links.nexts;
        prevs = kept_beyond h P.links.prevs;
        marks = kept_beyond h P.links.marks;
      };
      values = kept_beyond (omega arith) P.values;
      deadlines = kept_beyond h P.deadlines;
      turns = kept_beyond h P.turns;
    }

-- one call: what it leaves is no larger than m, and words past m are kept
call_past : (m : ℕ) (s t : QueueWords) (x : Asked) → CallClaim x.call s x.answer t → count s ≤ m
    → (accepted x ≡ true → size_of x.call ≤ m)
    → (count t ≤ m) × PastKept m s t
call_past m s t x A h f =
    ⊎_elim
    (λ e. rw e (h, past_refl m s))
    (λ y. let g : reach x.call s ≤ m = reach_within x.call s h (f (ap not y.0)) in (omega arith, past_beyond g y.2))
    (call_size x.call s x.answer t A)

-- "Words of a slice past what N records need are never changed by any call": whatever formats the run has, words past m are kept, and all lengths, where no
-- N is over m
pub run_past : (m : ℕ) {s t : QueueWords} {l : List Asked} → Runs s l t → count s ≤ m
    → All (λ x. accepted x ≡ true → size_of x.call ≤ m) l
    → PastKept m s t
run_past m (rest {s}) h f = past_refl m s
run_past m (next {s} {t} {u} {x} c r) h f =
    let p = call_past m s t x c h f.0 in
    past_trans p.1 (run_past m r p.0 f.1)

-- a call that is no accepted format asks for no records
size_none : (c : Call) {b : Bool} {m : ℕ} → (is_format c && b) ≡ false → b ≡ true → size_of c ≤ m
size_none (C.Format n turn) e f = absurd (true≢false (sym f ∙ e))
size_none (C.Insert value when period) e f = omega arith
size_none (C.Reset key when) e f = omega arith
size_none (C.Remove key) e f = omega arith
size_none (C.Poll now) e f = omega arith
size_none (C.PollSome now limit) e f = omega arith
size_none C.Wake e f = omega arith
size_none C.Length e f = omega arith
size_none C.Clear e f = omega arith

sizes_none : (m : ℕ) (l : List Asked) → NoFormat l → All (λ x. accepted x ≡ true → size_of x.call ≤ m) l
sizes_none m [] f = tt
sizes_none m (x ∷ l) f = (size_none x.call f.0, sizes_none m l f.1)

-- "until the next format": the run has no accepted format, so m is N
pub run_past_same : {s t : QueueWords} {l : List Asked} → Runs s l t → NoFormat l → PastKept (count s) s t
run_past_same {s} {t} {l} r f = run_past (count s) r (omega arith) (sizes_none (count s) l f)
