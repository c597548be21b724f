-- Why a run stops: never at a command with room for its answer (`goes_on`), so that commands alone with room for all their answers are all answered
-- (`run_all`); and for one reason (`one_reason`).
use mathlib.Core.Path.{◌≡◌, refl, ap, ◌∙◌, subst}
use mathlib.Core.List.{List, ◌++◌}
use Prim.Native.Nat.{ℕ, ◌+◌, ◌*◌, ◌/◌, ◌≤◌}
use native.Mathlib.Omega.{arith}
use lib.ListN.{length, drop, length-append, length-take, length-drop}
use Rattle.records.specs.Words.{QueueWords}
use Rattle.delay_queue.specs.declared.Call.{Call}
use Rattle.run.specs.declared.Why.{Why}
use Rattle.run.specs.declared.Why.TheVariants as W
use Rattle.run.specs.Groups.{command_words}
use Rattle.run.specs.Run.{commands_of, next_four, StopsAt, RunClaim}
use Rattle.run.proofs.laws.Groups.{words_length}
use Rattle.run.proofs.laws.Run.{commands_length}

module _ (cs : List ℕ) (n : ℕ) where
  -- a command has four words
  four_left : (c : Call) → next_four cs n ≡ command_words c → 4 * n + 4 ≤ length cs
  four_left c e =
      let w : length (next_four cs n) ≡ 4 = ap (λ (l : List ℕ). length l) e ∙ words_length c in
      let v = length-take 4 (drop (4 * n) cs) in
      let u = length-drop (4 * n) cs in
      omega (arith, w, v, u)

  pub goes_on : (out : List ℕ) (why : Why) (c : Call) → next_four cs n ≡ command_words c → 6 * n + 6 ≤ length out → StopsAt cs out n why → ⊥
  goes_on out W.NoWords c e h S = omega (arith, S, four_left c e)
  goes_on out W.NoCommand c e h S = S.1 c e
  goes_on out W.NoRoom c e h S = omega (arith, S.0, h)

pub one_reason : (cs out : List ℕ) (n : ℕ) (y z : Why) → StopsAt cs out n y → StopsAt cs out n z → y ≡ z
one_reason cs out n W.NoWords W.NoWords S T = refl
one_reason cs out n W.NoWords W.NoCommand S T = absurd (omega (arith, S, T.0))
one_reason cs out n W.NoWords W.NoRoom S T = absurd (omega (arith, S, four_left cs n T.1.0 T.1.1))
one_reason cs out n W.NoCommand W.NoWords S T = absurd (omega (arith, S.0, T))
one_reason cs out n W.NoCommand W.NoCommand S T = refl
one_reason cs out n W.NoCommand W.NoRoom S T = absurd (S.1 T.1.0 T.1.1)
one_reason cs out n W.NoRoom W.NoWords S T = absurd (omega (arith, T, four_left cs n S.1.0 S.1.1))
one_reason cs out n W.NoRoom W.NoCommand S T = absurd (T.1 S.1.0 S.1.1)
one_reason cs out n W.NoRoom W.NoRoom S T = refl

module _ {s t : QueueWords} {cs out o : List ℕ} {n : ℕ} {why : Why} (A : RunClaim s cs out n why t o) where
  enough : 4 * n ≤ length cs
  enough =
      let a = A.answered in
      let e : length cs ≡ length (commands_of a.calls ++ drop (4 * n) cs) = ap (λ (l : List ℕ). length l) a.read in
      omega (arith, e, length-append (commands_of a.calls) (drop (4 * n) cs), commands_length a.calls, a.many)

  because : {y : Why} → why ≡ y → StopsAt cs out n y
  because e = subst (λ (w : Why). StopsAt cs out n w) e A.stops

  -- why it stopped: as many are answered as there are groups of four words; or the next group is no command; or as many as there is room for
  pub run_ends : (why ≡ W.NoWords → n ≡ length cs / 4) × (why ≡ W.NoCommand → (c : Call) → next_four cs n ≡ command_words c → ⊥)
      × (why ≡ W.NoRoom → n ≡ length out / 6)
  run_ends = (
    λ e. omega (arith, enough, because e),
    λ e. (because e).1,
    λ e. omega (arith, A.answered.room, (because e).0),
  )

  -- commands alone, and room for all their answers: all are answered
  pub run_all : ((i : ℕ) → 4 * i + 4 ≤ length cs → (c : Call) × (next_four cs i ≡ command_words c)) → 6 * (length cs / 4) ≤ length out
      → (n ≡ length cs / 4) × (why ≡ W.NoWords)
  run_all f h = by why A.stops
    where
      by : (y : Why) → StopsAt cs out n y → (n ≡ length cs / 4) × (y ≡ W.NoWords)
      by W.NoWords S = (omega (arith, enough, S), refl)
      by W.NoCommand S = let r = f n S.0 in absurd (S.1 r.0 r.1)
      by W.NoRoom S = absurd (omega (arith, h, S.0, four_left cs n S.1.0 S.1.1))
