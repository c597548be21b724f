-- What the code has done with a line: a step, whose bytes have room in 36, or nothing.
use mathlib.Core.Path.{◌≡◌, ap, subst}
use mathlib.Core.Bool.{Bool, true, false, cond}
use mathlib.Core.List.{List, []}
use Prim.Native.Nat.{ℕ, zero, suc, ◌≤◌}
use native.Mathlib.Omega.{arith}
use lib.ListN.{length, length-append}
use Rattle.std.specs.Prelude.{Some, None}
use Rattle.wheel.specs.declared.Wheel.{Wheel}
use Rattle.queue.specs.declared.Answer.{Answer}
use Rattle.queue.specs.Told.{Told, told}
use Rattle.records.specs.Words.{QueueWords, words}
use Rattle.delay_queue.specs.declared.Call.TheVariants as C
use Rattle.answering.specs.Text.{WriteClaim, BadClaim}
use Rattle.writing.specs.Writing.{Wrote}
use Rattle.entries.specs.declared.Step.{Step}
use Rattle.entries.specs.declared.Step.TheVariants as S
use Rattle.entries.specs.Entries.{entry, step_bytes}
use Rattle.entries.proofs.laws.Writing.{entry_length}
use Rattle.journal.specs.Journal.{Acts, unwritten, written, ActClaim}
use Rattle.noting.specs.Means.{SaidClaim}
use Rattle.noting.specs.Line.{Desk, desk, note_room, Does, does, LineClaim, step, bad}
use Rattle.noting.proofs.laws.Means.{said_means, said_none}

-- ---- no step writes more than 36 bytes

step_size : (x : Step) → length (step_bytes x) ≤ 36
step_size (S.Asks (C.Format n turn)) = omega (arith, entry_length 1 n turn)
step_size (S.Asks (C.Insert value when zero)) = omega (arith, entry_length 2 value when)
step_size (S.Asks (C.Insert value when (suc p))) =
    omega (
      arith,
      length-append (entry 9 value when) (entry 10 (suc p) 0),
      entry_length 9 value when,
      entry_length 10 (suc p) 0,
    )
step_size (S.Asks (C.Reset key when)) = omega (arith, entry_length 3 key when)
step_size (S.Asks (C.Remove key)) = omega (arith, entry_length 4 key 0)
step_size (S.Asks (C.Poll now)) = omega (arith, entry_length 5 now 0)
step_size (S.Asks (C.PollSome now limit)) = omega (arith, entry_length 11 now limit)
step_size (S.Asks C.Wake) = omega arith
step_size (S.Asks C.Length) = omega arith
step_size (S.Asks C.Clear) = omega (arith, entry_length 6 0 0)
step_size S.Open = omega (arith, entry_length 7 0 0)
step_size S.Close = omega (arith, entry_length 8 0 0)

or_none : (b : Bool) (l : List ℕ) → length l ≤ 36 → length (cond b [] l) ≤ 36
or_none true l h = omega arith
or_none false l h = h

pub written_size : (x : Step) (t : Told) → length (written x t) ≤ note_room
unfolding written
written_size x t = or_none (unwritten t) (step_bytes x) (step_size x)

-- what `act` leaves to be written has room
pub act_size : {p p' : Bool} {s s' : QueueWords} {x : Step} {y : Answer} {b : List ℕ} → ActClaim p s x y p' s' b → length b ≤ note_room
act_size {x = x} {y} A = omega (arith, ap (λ (l : List ℕ). length l) A.writes, written_size x (told y))

-- ---- for the code

-- a step was done; the heads came as an array
pub step_done : {x : Step} {p : Bool} (w : Wheel) {hh hh' : List (List ℕ)} (vs ds ns ps ts ms : List ℕ) {p' : Bool} {s' : QueueWords} {y : Answer}
    {b n : List ℕ} {k : ℕ} {o : List ℕ} {at : ℕ} {n' : List ℕ} {k' : ℕ} {o' : List ℕ} {e : ℕ} → hh ≡ hh'
    → ActClaim p (words w hh vs ds ns ps ts ms) x y p' s' b → Wrote n k b k' n' → WriteClaim y o at e o'
    → Does x (desk p (words w hh' vs ds ns ps ts ms) n k o at) (desk p' s' n' k' o' e)
step_done {x} {p} w vs ds ns ps ts ms {p'} {s'} {y} {n = n} {k} {o} {at} {n'} {k'} q A W C =
    does (subst (λ (h : List (List ℕ)). Acts p (words w h vs ds ns ps ts ms) x y p' s') q A.acts)
    (subst (λ (t : List ℕ). Wrote n k t k' n') A.writes W)
    C

module _ {l : List ℕ} {a : Desk} where
  pub line_step : {x : Step} {b : Desk} → SaidClaim l (Some x) → Does x a b → LineClaim l a b
  line_step R x = step (said_means R) x

  pub line_bad : {o : List ℕ} {e : ℕ} → SaidClaim l None → BadClaim a.out a.at e o
      → LineClaim l a (desk a.patch a.store a.notes a.noted o e)
  line_bad R x = bad (said_none R) x
