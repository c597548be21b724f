-- "Past the block end" (02 [12]), over any run: a timer that was set comes out from its deadline on and never before, and nothing here asks in which block
-- that lies, so the store crosses a block's end as if there were none. It is `poll_least` of the timer that a key reaches, parked or not.
use mathlib.Core.Path.{◌≡◌, sym, ap, ◌∙◌}
use mathlib.Core.Logic.{⊎_elim}
use mathlib.Core.Bool.{true, true≢false}
use mathlib.Core.List.{List}
use Prim.Native.Nat.{ℕ, ◌≤◌, max}
use native.Mathlib.Omega.{arith}
use Rattle.queue.specs.declared.Answer.{Answer}
use Rattle.queue.specs.Told.{told, timer, Hands, handing}
use Rattle.queue.specs.Told as T
use Rattle.records.specs.Records.{key_of, number_in}
use Rattle.records.specs.Words.{QueueWords, elapsed, view, Sound}
use Rattle.delay_queue.specs.declared.Call.{Call}
use Rattle.delay_queue.specs.declared.Call.TheVariants as C
use Rattle.delay_queue.specs.Claims.{CallClaim}
use Rattle.pausing.specs.Pausing.{PollTaken}
use Rattle.promises.specs.Runs.{Asked, Runs, All, ends}
use Rattle.promises.specs.Polls.{PollAt}
use Rattle.promises.specs.Polling.{IsPending, SaysOut, HandsLeast, PollLeast}
use Rattle.promises.specs.KeysStay.{HandsKey}
use Rattle.promises.specs.KeysReach.{Reaches, Spares}
use Rattle.promises.proofs.laws.OneCall.{call_sound}
use Rattle.promises.proofs.laws.Runs.{run_sound}
use Rattle.promises.proofs.laws.Does.{poll_taken}
use Rattle.promises.proofs.laws.Polling.{none_out, poll_least}
use Rattle.promises.proofs.laws.KeysStay.{key_is}
use Rattle.promises.proofs.laws.KeysReach.{key_reaches, out_tells}

-- ---- one poll

-- the key k reaches a timer of u, and a poll of u is answered b and leaves w
module _ {u : QueueWords} (U : Sound u) {k x q d : ℕ} (R : Reaches (view u) k x q d) {c : Call} {now : ℕ} (at : PollAt c now) (b : Answer) (w : QueueWords)
    (P : CallClaim c u b w) where
  not_before : HandsKey k (told b) → d ≤ now
  not_before o =
      let says = o.4 in
      let K = ⊎_elim (λ n. absurd (none_out (ap handing (sym n.1.told) ∙ says))) (λ z. z) (poll_taken {a = b} {t = w} U at P) in
      let H = (poll_least U at K b w P (λ y. none_out (ap handing (sym y.2) ∙ says))).out k o.0 o.1 o.2 o.3 says in
      omega (arith, H.due, (out_tells U c b w P R says).1)

  module _ (due : d ≤ now) (ended : ends (told b) ≡ true) where
    K : PollTaken (view u) now
    K = ⊎_elim (λ n. absurd (true≢false (sym ended ∙ ap ends n.1.told))) (λ z. z) (poll_taken {a = b} {t = w} U at P)

    fair : PollLeast (view u) now (told b) (view w)
    fair = poll_least U at K b w P (λ y. true≢false (sym ended ∙ ap ends y.2))

    says : SaysOut (told b)
    says = fair.hands_out.1 (R.number, (R.place, R.names.pending), omega (arith, R.deadline, due))

    got : HandsLeast (view u) now says.0 says.1 says.2 (told b) (view w)
    got = fair.out says.0 says.1 says.2 says.3 says.4 says.5

    by_then : (j y e m n : ℕ) × Hands (told b) j y e m n × (e ≤ d)
    by_then =
        (says.0, says.1, says.2, says.3, says.4, says.5, omega (arith, got.least R.number (R.place, R.names.pending), R.deadline))

    alone : ((y : ℕ) → IsPending (view u) y → (view u).deadline y ≤ now → y ≡ number_in k) → (m n : ℕ) × Hands (told b) k x d m n
    alone f =
        let is : got.timer ≡ R.number
        = f got.timer (got.place, got.names.pending) (omega (arith, got.due, got.deadline)) ∙ sym R.names.number in
        let key : says.0 ≡ k = key_is got.names ∙ ap (key_of (view u)) is ∙ sym (key_is R.names) in
        let value : says.1 ≡ x = got.value ∙ ap (view u).value is ∙ R.value in
        let deadline : says.2 ≡ d = got.deadline ∙ ap (view u).deadline is ∙ R.deadline in
        (says.3, says.4, says.5 ∙ (λ i. timer (key i) (value i) (deadline i) says.3 says.4))

-- ---- over any run

-- a timer is set, any calls that leave it alone follow, then a poll
module _ {s t u : QueueWords} {value when period k : ℕ} {a : Answer} {l : List Asked} (S : Sound s) (I : CallClaim (C.Insert value when period) s a t)
    (answer : told a ≡ T.key k) (r : Runs t l u) (spared : All (Spares k) l) {c : Call} {now : ℕ} (at : PollAt c now) (b : Answer) (w : QueueWords)
    (P : CallClaim c u b w) where
  U : Sound u
  U = run_sound (call_sound (C.Insert value when period) s a t I S) r

  R : Reaches (view u) k value period (max when (elapsed s))
  R = key_reaches S I answer r spared

  -- no poll hands it out before its deadline
  pub never_early : HandsKey k (told b) → max when (elapsed s) ≤ now
  never_early = not_before U R at b w P

  -- every poll from then on that ends hands out a timer: this, or one that is due no later
  pub out_by_then : max when (elapsed s) ≤ now → ends (told b) ≡ true → (j x d m n : ℕ) × Hands (told b) j x d m n × (d ≤ max when (elapsed s))
  out_by_then = by_then U R at b w P

  -- and where no other is due, this: the block's end is crossed as if there were none
  pub out_on_time : max when (elapsed s) ≤ now → ends (told b) ≡ true
      → ((y : ℕ) → IsPending (view u) y → (view u).deadline y ≤ now → y ≡ number_in k) → (m n : ℕ) × Hands (told b) k value (max when (elapsed s)) m n
  out_on_time = alone U R at b w P
