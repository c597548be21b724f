-- What the promises ask can be met, and the cases that they speak of happen.
use Rattle.std.proofs.Common.{◌≡◌, ℕ, List, [], ◌∷◌, sym, refl, ap, subst, arith}
use Rattle.queue.specs.declared.Answer.{Answer}
use Rattle.queue.specs.declared.Answer.TheVariants as A
use Rattle.queue.specs.Told.{told, no}
use Rattle.records.specs.Words.{QueueWords, Sound}
use Rattle.promises.specs.OneCall.{one}
use Rattle.promises.proofs.laws.Quiet.{quiet_shown, quiet_rest}
use Rattle.tick.specs.Claims.{Passes, ReadClaim, TickPollClaim}
use Rattle.tick.specs.Boards.{polls, Did, Boards, AllThrough, Behind, deeds, ticks, times, Steady}
use Rattle.tick.specs.Shown.{clock, round, day}
use Rattle.tick.proofs.laws.Reading.{read_past, read_taken}
use Rattle.tick.proofs.laws.Once.{deed_met}
use Rattle.tick.proofs.laws.Boards.{boards_met}
use Rattle.tick.proofs.laws.Promises.{true_time, seven_exactly}

-- ---- *true_time*: ticks 0, 4294967295, 0, 5

steady : Steady 0 clock
steady = (
  omega arith,
  omega arith,
  omega arith,
  (omega arith, omega arith, omega arith, (omega arith, omega arith, omega arith, (omega arith, omega arith, omega arith, tt))),
)

pub true_shown : (l : List Did) × (u : QueueWords) × Boards 0 one l u × (ticks (deeds l) ≡ 0 ∷ 4294967295 ∷ 0 ∷ 5 ∷ []) × (times l ≡ clock)
true_shown =
    let m = boards_met round 0 one in
    let e = ap ticks m.3 in
    (m.0, m.1, m.2, e, true_time clock m.2 steady e)

-- ---- *unseen*: a gap of just 2^32 adds nothing

pub unseen_shown : ReadClaim 5 5 A.Done 5
unseen_shown = read_taken 5 5 (λ p. omega arith) refl

-- ---- *ten_exactly*: the last reading before 2^64, and the one after it

pub last_shown : ReadClaim 18446744073709551610 4294967295 A.Done 18446744073709551615
last_shown = read_taken 18446744073709551610 4294967295 (λ p. omega arith) refl

pub ten_shown : ReadClaim 18446744073709551615 0 (A.No 10) 18446744073709551615
ten_shown = read_past 18446744073709551615 0 (omega arith)

-- ---- *never_seven*: a fresh store and a fresh front part

pub never_shown : Behind 0 one × ((l : List Did) × (u : QueueWords) × Boards 0 one l u × AllThrough (deeds l) × (deeds l ≡ day))
never_shown =
    let m = boards_met day 0 one in
    (record { clock = omega arith; until = omega arith }, (m.0, m.1, m.2, subst AllThrough (sym m.3) (refl, (tt, (tt, (tt, (refl, (tt, tt)))))), m.3))

-- and 7 where something else polled a sound store on to 5
pub seven_shown : (s : QueueWords) × Sound s × ((a : Answer) × (t : ℕ) × (u : QueueWords) × TickPollClaim 0 s 0 a t u × (told a ≡ no 7))
seven_shown =
    let q = quiet_shown 5 in
    let m = deed_met (polls 0) 0 q.0 in
    let h : Passes 0 0 → ⊥ = λ p. omega arith in
    (q.0, q.1.sound, (m.0, m.1, m.2, m.3, (seven_exactly m.3 q.1.sound).1 (h, quiet_rest q.1, omega (arith, (m.3.taken h).1, q.1.clock))))
