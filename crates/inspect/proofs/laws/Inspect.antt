-- What the program writes: for the lines of what it read, however that was cut into chunks, what is to be said of them.
use mathlib.Core.Path.{◌≡◌, sym, subst}
use mathlib.Core.Bool.{true}
use mathlib.Core.List.{List, [], ◌∷◌}
use Prim.Native.Nat.{ℕ, ◌≤◌}
use native.Mathlib.Omega.{arith}
use lib.ListN.{length, take}
use lib.Seq.{take_all}
use Rattle.lines.specs.Lines.{lines_of, firsts, joined}
use Rattle.lines.specs.Running.{none, more, ProgramRan}
use Rattle.lines.proofs.laws.Lines.{whole_line}
use Rattle.lines.proofs.laws.Running.{ran_all}
use Rattle.inspector.specs.declared.State.{State}
use Rattle.inspector.specs.declared.State.TheVariants as S
use Rattle.inspector.specs.Log.{Store}
use Rattle.inspector.specs.Verdict.{Right, most, VerdictClaim}
use Rattle.inspector.specs.Words.{InspectClaim, Words, words, Inspected, AllInspected}
use Rattle.inspector.proofs.laws.Verdict.{accepts_exactly}

-- ---- 81 bytes are enough to see of a line: one that says anything has at most 80

right_81 : {m : ℕ} (l : List ℕ) {s s' : Store} → Right m (take 81 l) s s' → Right m l s s'
right_81 {m} l {s} {s'} r =
    subst (λ (x : List ℕ). Right m x s s') (whole_line 81 l (omega (arith, r.says.short))) r

81-right : {m : ℕ} (l : List ℕ) {s s' : Store} → Right m l s s' → Right m (take 81 l) s s'
81-right {m} l {s} {s'} r = subst (λ (x : List ℕ). Right m x s s') (sym (take_all 81 l (omega (arith, r.says.short)))) r

inspected_81 : (l : List ℕ) (w w' : Words) → Inspected (take 81 l) w w' → Inspected l w w'
inspected_81 l w w' p = by w.state p
  where
    by : (t : State) → InspectClaim t w.keys w.deadlines (take 81 l) w'.state w'.keys w'.deadlines
        → InspectClaim t w.keys w.deadlines l w'.state w'.keys w'.deadlines
    by (S.Good n clock m) c = record { right = λ s r. c.right s (81-right l r); wrong = λ f. c.wrong (λ s r. f s (right_81 l r)) }
    by (S.Bad m) c = c

all_81 : (ls : List (List ℕ)) {w w' : Words} → AllInspected (firsts 81 ls) w w' → AllInspected ls w w'
all_81 [] none = none
all_81 (l ∷ ls) (more {a = w} {b = w₁} p r) = more {b = w₁} (inspected_81 l w w₁ p) (all_81 ls r)

-- Where a run has read its input to the end, with 1,024 words or more for keys and deadlines, the lines have come to what is to be said of them,
-- whatever chunks they came in.
pub all_read : {ks ds : List ℕ} {n : ℕ} {w : Words} → most ≤ length ks → most ≤ length ds → ProgramRan Inspected 81 [] (words (S.Good 0 0 0) ks ds) n true w
    → (cs : List (List ℕ)) × (length (joined cs) ≡ n) × VerdictClaim (lines_of (joined cs)) w.state
all_read {ks} {ds} {w = w} h k R =
    let x = ran_all (omega arith) R in
    let ls = lines_of (joined x.0) in
    (x.0, x.1, accepts_exactly ls ks ds w h k (all_81 ls x.2))
