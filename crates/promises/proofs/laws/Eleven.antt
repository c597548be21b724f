-- Refusal 11, "Deadlines from a dead patch" (02 [8]): given exactly when a deadline is more than 3,600,000 below elapsed, by insert and reset alone.
use mathlib.Core.Path.{◌≡◌, refl, sym, ap, ◌∙◌}
use mathlib.Core.Logic.{⊎_elim, by_cases, inl, inr}
use mathlib.Core.List.{nil≢cons}
use Prim.Native.Nat.{ℕ, ◌+◌}
use native.Mathlib.Omega.{arith}
use native.Mathlib.Decide.{ℕ_discrete}
use Rattle.links.specs.Lists.{nobody}
use Rattle.places.specs.Places.{expired}
use Rattle.queue.specs.declared.Answer.{Answer}
use Rattle.queue.specs.Told.{told}
use Rattle.queue.specs.Told as T
use Rattle.records.specs.Records.{TooOld, Names, key_of, At}
use Rattle.records.specs.Words.{QueueWords, view, AtRest, MidPoll, Sound}
use Rattle.records.proofs.laws.Cases.{takes_so}
use Rattle.delay_queue.specs.declared.Call.{Call}
use Rattle.delay_queue.specs.declared.Call.TheVariants as C
use Rattle.delay_queue.specs.Claims.{CallClaim}
use Rattle.promises.specs.OneCall.{is_no}
use Rattle.promises.specs.Refused.{FirstMet, deadline_lines, RefusedBy}
use Rattle.promises.specs.Eleven.{AsksOld, AtTheHour}
use Rattle.promises.proofs.laws.Decided.{sound_dec}
use Rattle.promises.proofs.laws.Refused.{behind, dead_names, refused_exactly}
use Rattle.promises.proofs.laws.TakesOut.{key_of_names}
use Rattle.promises.proofs.laws.Quiet.{quiet_rest, quiet_shown, expired_shown}

-- ---- exactly

pub sound_so : (s : QueueWords) → ((Sound s → ⊥) → ⊥) → Sound s
sound_so s f = by_cases (sound_dec s) (λ S. S) (λ n. absurd (f n))

rest_so : (s : QueueWords) → (MidPoll s → ⊥) → AtRest s
rest_so s f = by_cases (ℕ_discrete s.hand nobody) (λ z. z) (λ d. absurd (f d))

-- of a deadline's lines the first is met
old_line : {e w : ℕ} → FirstMet (deadline_lines e w) 11 → TooOld e w
old_line x = ⊎_elim (λ y. y.1) (λ y. absurd (behind (omega arith) y.1).1) x

asks_old : (c : Call) (s : QueueWords) → RefusedBy c s 11 → AsksOld c s
asks_old (C.Format n turn) s x = absurd (behind (omega arith) (behind (omega arith) x).1).1
asks_old (C.Insert value when period) s x =
    let y = behind (omega arith) x in
    let w = behind (omega arith) y.1 in
    let z = behind (omega arith) w.1 in
    record { sound = sound_so s y.0; at_rest = rest_so s w.0; timer = z.0; old = old_line z.1 }
asks_old (C.Reset key when) s x =
    let y = behind (omega arith) x in
    let w = behind (omega arith) y.1 in
    let z = behind (omega arith) w.1 in
    record { sound = sound_so s y.0; at_rest = rest_so s w.0; timer = z.0; old = old_line z.1 }
asks_old (C.Remove key) s x = absurd (behind (omega arith) (behind (omega arith) (behind (omega arith) x).1).1).1
asks_old (C.Poll now) s x = absurd (behind (omega arith) (behind (omega arith) (behind (omega arith) x).1).1).1
asks_old (C.PollSome now limit) s x = absurd (behind (omega arith) (behind (omega arith) (behind (omega arith) x).1).1).1
asks_old C.Wake s x = absurd (behind (omega arith) (behind (omega arith) x).1).1
asks_old C.Length s x = absurd (behind (omega arith) x).1
asks_old C.Clear s x = absurd (behind (omega arith) x).1

old_asked : (c : Call) (s : QueueWords) → AsksOld c s → RefusedBy c s 11
old_asked (C.Format n turn) s A = absurd A.timer
old_asked (C.Insert value when period) s A = inr (λ f. f A.sound, inr (λ d. d A.at_rest, inr (A.timer, inl (refl, A.old))))
old_asked (C.Reset key when) s A = inr (λ f. f A.sound, inr (λ d. d A.at_rest, inr (A.timer, inl (refl, A.old))))
old_asked (C.Remove key) s A = absurd A.timer
old_asked (C.Poll now) s A = absurd A.timer
old_asked (C.PollSome now limit) s A = absurd A.timer
old_asked C.Wake s A = absurd A.timer
old_asked C.Length s A = absurd A.timer
old_asked C.Clear s A = absurd A.timer

-- "An insert or reset whose deadline is more than 3,600,000 below elapsed is refused with 11, judged after 3 or 6 and before 4": exactly then, by whichever
-- call, and then nothing is changed
pub eleven_exactly : (c : Call) (s : QueueWords) (a : Answer) (t : QueueWords) → CallClaim c s a t
    → (AsksOld c s → (told a ≡ T.no 11) × (t ≡ s)) × (told a ≡ T.no 11 → AsksOld c s)
eleven_exactly c s a t A = let R = refused_exactly c s a t A 11 in (λ O. R.0 (old_asked c s O), λ e. asks_old c s (R.1 e))

-- ---- both sides of the boundary

-- an insert into a store where nothing is pending, at any time past an hour
pub insert_at_the_hour : (w value period : ℕ) → AtTheHour w (λ when. C.Insert value when period)
insert_at_the_hour w value period =
    let q = quiet_shown (w + 3600001) in
    let Q = q.1 in
    record {
      store = q.0;
      clock = Q.clock;
      refused = λ a t I.
          (eleven_exactly (C.Insert value w period) q.0 a t I).0
          (record { sound = Q.sound; at_rest = quiet_rest Q; timer = λ e. nil≢cons (sym e ∙ Q.first); old = omega (arith, Q.clock) });
      taken = λ a t I.
          ap is_no
          (((I.good Q.sound).free (quiet_rest Q)).done Q.item Q.rest Q.first
          (takes_so (omega (arith, Q.clock)) (λ h. absurd (omega (arith, Q.clock))))).told;
    }

-- and a reset of a timer that waits there
pub reset_at_the_hour : (w : ℕ) → (key : ℕ) × AtTheHour w (λ when. C.Reset key when)
reset_at_the_hour w =
    let x = expired_shown (w + 3600001) in
    let s = x.0 in
    let r = x.3.0 in
    let at : At (view s) r expired = record { timed = omega arith; member = rw x.3.1 (inl refl) } in
    let rest : AtRest s = rest_so s (λ d. nil≢cons (sym (x.1.rule.inside d).expired ∙ x.3.1)) in
    let N : Names (view s) (key_of (view s) r) r expired = key_of_names x.1 at in (
      key_of (view s) r,
      record {
        store = s;
        clock = x.2;
        refused = λ a t R.
            (eleven_exactly (C.Reset (key_of (view s) r) w) s a t R).0
            (record { sound = x.1; at_rest = rest; timer = λ d. dead_names d r expired N; old = omega (arith, x.2) });
        taken = λ a t R.
            ap is_no
            (((R.good x.1).free rest).done r expired N (takes_so (omega (arith, x.2)) (λ h. absurd (omega (arith, x.2))))).told;
      },
    )
