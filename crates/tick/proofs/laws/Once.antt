-- Each claim of the front part allows one answer, one time and one final content, and there is one: for every input, refused readings too.
use Rattle.std.proofs.Common.{◌≡◌, ℕ, sym, refl, ◌∙◌}
use Rattle.queue.specs.declared.Answer.{Answer}
use Rattle.queue.specs.declared.Answer.TheVariants as A
use Rattle.records.specs.Words.{QueueWords}
use Rattle.promises.proofs.laws.Once.{told_one, poll_once, limited_once}
use Rattle.promises.proofs.laws.Met.{poll_met, limited_met}
use Rattle.promises.proofs.laws.OneCall.{call_once, call_met}
use Rattle.tick.specs.Claims.{sum, StartClaim, ReadClaim, TickPollClaim, now_of, TickSomeClaim}
use Rattle.tick.specs.Boards.{Deed, reads, polls, polls_some, calls, DeedClaim}
use Rattle.tick.proofs.laws.Reading.{by_sum, read_past, read_taken}

-- ---- one outcome

pub start_once : {t t' : ℕ} → StartClaim t → StartClaim t' → t ≡ t'
start_once S Q = S ∙ sym Q

module _ {time tick : ℕ} {a a' : Answer} {t t' : ℕ} where
  pub read_once : ReadClaim time tick a t → ReadClaim time tick a' t' → (a ≡ a') × (t ≡ t')
  read_once R Q =
      by_sum time tick
      (λ h. (told_one a a' ((R.taken h).0 ∙ sym (Q.taken h).0), (R.taken h).1 ∙ sym (Q.taken h).1))
      (λ h. (told_one a a' ((R.past h).0 ∙ sym (Q.past h).0), (R.past h).1 ∙ sym (Q.past h).1))

  pub tick_poll_once : {s u u' : QueueWords} → TickPollClaim time s tick a t u → TickPollClaim time s tick a' t' u' → (a ≡ a') × (t ≡ t') × (u ≡ u')
  tick_poll_once P Q =
      by_sum time tick
      (λ h. let e = poll_once (P.taken h).0 (Q.taken h).0 in (e.0, (P.taken h).1 ∙ sym (Q.taken h).1, e.1))
      (λ h.
      let p = P.past h in
      let q = Q.past h in
      (told_one a a' (p.0.told ∙ sym q.0.told), p.1 ∙ sym q.1, p.0.same ∙ sym q.0.same))

  pub tick_some_once : {limit : ℕ} {s u u' : QueueWords} → TickSomeClaim time s tick limit a t u → TickSomeClaim time s tick limit a' t' u'
      → (a ≡ a') × (t ≡ t') × (u ≡ u')
  tick_some_once P Q =
      by_sum time tick
      (λ h. let e = limited_once (P.taken h).0 (Q.taken h).0 in (e.0, (P.taken h).1 ∙ sym (Q.taken h).1, e.1))
      (λ h.
      let p = P.past h in
      let q = Q.past h in
      (told_one a a' (p.0.told ∙ sym q.0.told), p.1 ∙ sym q.1, p.0.same ∙ sym q.0.same))

-- whatever a board does
pub deed_once : (q : Deed) (time : ℕ) (s : QueueWords) (a a' : Answer) (t t' : ℕ) (u u' : QueueWords) → DeedClaim q time s a t u
    → DeedClaim q time s a' t' u'
    → (a ≡ a') × (t ≡ t') × (u ≡ u')
deed_once (reads tick) time s a a' t t' u u' D E = let e = read_once D.0 E.0 in (e.0, e.1, D.1 ∙ sym E.1)
deed_once (polls tick) time s a a' t t' u u' D E = tick_poll_once D E
deed_once (polls_some tick limit) time s a a' t t' u u' D E = tick_some_once D E
deed_once (calls c) time s a a' t t' u u' D E = let e = call_once c s a a' u u' D.0 E.0 in (e.0, D.1 ∙ sym E.1, e.1)

-- ---- and there is one

read_met : (time tick : ℕ) → (a : Answer) × (t : ℕ) × ReadClaim time tick a t
read_met time tick = by_sum time tick (λ h. (A.Done, sum time tick, read_taken time tick h refl)) (λ h. (A.No 10, time, read_past time tick h))

tick_poll_met : (time tick : ℕ) (s : QueueWords) → (a : Answer) × (t : ℕ) × (u : QueueWords) × TickPollClaim time s tick a t u
tick_poll_met time tick s =
    by_sum time tick
    (λ h. let m = poll_met s (sum time tick) in (m.0, sum time tick, m.1, record { past = λ g. absurd (h g); taken = λ g. (m.2, refl) }))
    (λ h. (A.No 10, time, s, record { past = λ g. (record { told = refl; same = refl }, refl); taken = λ g. absurd (g h) }))

tick_some_met : (time tick limit : ℕ) (s : QueueWords) → (a : Answer) × (t : ℕ) × (u : QueueWords) × TickSomeClaim time s tick limit a t u
tick_some_met time tick limit s =
    by_sum time tick
    (λ h.
    let m = limited_met s (now_of (sum time tick) s.hand s.until) limit in
    (m.0, sum time tick, m.1, record { past = λ g. absurd (h g); taken = λ g. (m.2, refl) }))
    (λ h. (A.No 10, time, s, record { past = λ g. (record { told = refl; same = refl }, refl); taken = λ g. absurd (g h) }))

pub deed_met : (q : Deed) (time : ℕ) (s : QueueWords) → (a : Answer) × (t : ℕ) × (u : QueueWords) × DeedClaim q time s a t u
deed_met (reads tick) time s = let m = read_met time tick in (m.0, m.1, s, (m.2, refl))
deed_met (polls tick) time s = tick_poll_met time tick s
deed_met (polls_some tick limit) time s = tick_some_met time tick limit s
deed_met (calls c) time s = let m = call_met c s in (m.0, time, m.1, (m.2, refl))
