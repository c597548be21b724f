-- What a poll hands out is due (`poll_least`), so that its lateness is now less deadline, and never negative.
use mathlib.Core.Path.{◌≡◌, sym, ap, ◌∙◌}
use mathlib.Core.Logic.{⊎_elim, by_cases}
use Prim.Native.Nat.{ℕ, ◌≤◌}
use native.Mathlib.Decide.{dec_le}
use native.Mathlib.Omega.{arith}
use Rattle.records.specs.Words.{QueueWords, Sound}
use Rattle.queue.specs.declared.Answer.{Answer}
use Rattle.queue.specs.Told.{Told, told, no, timer, no_timer, handing, Hands}
use Rattle.delay_queue.specs.Claims.{PollClaim}
use Rattle.promises.specs.Polls.{whole}
use Rattle.promises.proofs.laws.Does.{poll_taken}
use Rattle.promises.proofs.laws.Polling.{poll_least, whole_no_yet}
use Rattle.gauge.specs.declared.Gauge.{Gauge}
use Rattle.gauge.specs.Gauge.{AnswerClaim}
use Rattle.gauge.specs.Exactly.{HandedLate}
use Rattle.gauge.proofs.laws.Floats.{not_negative}

no_out : {x : Told} {n k v d i j : ℕ} → x ≡ no n → Hands x k v d i j → ⊥
no_out {x} {n} {k} {v} {d} {i} {j} e h =
    let q : no_timer ≡ timer k v d i j = sym (ap handing e) ∙ h in
    let z : ◌≡◌ {A = ℕ} 0 1 = cc in
    omega arith

module _ {s t : QueueWords} {now : ℕ} {a : Answer} (P : PollClaim s now a t) {k v d m n : ℕ} (H : Hands (told a) k v d m n) where
  -- a store that is not sound, a time before its clock, and another than that of the poll in hand get a number
  handed_due : d ≤ now
  handed_due = by_cases (dec_le d now) (λ h. h) (λ f. absurd (no_out (P.bad (λ S. f (sound S))).told H))
    where
      sound : Sound s → d ≤ now
      sound S =
          ⊎_elim (λ r. absurd (no_out r.1.told H)) (λ K. ((poll_least S whole K a t P (whole_no_yet S K P)).out k v d m n H).due)
          (poll_taken S whole P)

  -- whatever store was polled
  pub handed_late : {g g' : Gauge} → AnswerClaim g now (told a) g' → HandedLate now d g g'
  handed_late C =
      let e = handed_due in
      record { due = e; difference = omega arith; not_negative = not_negative _; noted = C.handed k v d m n H }
