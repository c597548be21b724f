-- A poll whose limit lies past all heights ends: with no poll in hand it is document 01's poll (`whole_on`), and with one in hand it goes on to its end
-- (`rest_on`).
use mathlib.Core.Path.{◌≡◌, subst}
use mathlib.Core.Option.{Option, none}
use Prim.Native.Nat.{ℕ, ◌≤◌, ◌<◌}
use native.Mathlib.Omega.{arith}
use Rattle.links.specs.Lists.{nobody}
use Rattle.places.specs.Places.{most_heights}
use Rattle.wheel.specs.Limited.{ended as stopped, yet, Limited}
use Rattle.wheel.specs.Midway.{Obeys}
use Rattle.wheel.proofs.laws.Limited.{yet_all, limited_polls}
use Rattle.wheel.proofs.laws.Moves.{got_none, heights_small}
use Rattle.wheel.proofs.laws.Passed.{limited_passed}
use Rattle.records.specs.View.{View, with_elapsed, with_lists, with_hand}
use Rattle.records.specs.Words.{QueueWords, elapsed, view, AtRest, MidPoll, Sound}
use Rattle.queue.specs.declared.Answer.{Answer}
use Rattle.queue.specs.Told.{Told}
use Rattle.queue.specs.Steps.{TakesOut, popped, polled, QueuePolls, handed, nothing}
use Rattle.queue.specs.Steps.{TakesSome, popped_some, polled_some, PollsSome, handed_some, nothing_some, not_yet, PollsRest, handed_rest, nothing_rest}
use Rattle.queue.specs.Calls.{PollOn, RestOn, PollsOn, Resuming}

module _ {s : QueueWords} (S : Sound s) {now limit : ℕ} (many : most_heights < limit)
    (rule : Obeys (view s).deadline now s.hand (elapsed s) (view s).lists) (back : AtRest s → elapsed s ≤ now) where
  -- it does not stop
  never_yet : {p m n : ℕ} {u : View} → TakesSome (view s) now limit (yet p) m n u → ⊥
  never_yet (polled_some {m = m} e r) =
      omega (arith, many, yet_all r, (limited_passed rule e back (yet _) r).counted, heights_small S.standing.whole)

  pub some_rest : {x : Told} {w : View} → PollsSome (view s) now limit x w → PollsRest (view s) now x w
  some_rest (handed_some T G) = handed_rest T G
  some_rest (nothing_some T) = nothing_rest T
  some_rest (not_yet T) = absurd (never_yet T)

  module _ (rest : AtRest s) where
    -- no poll is in hand before it, and none is after it
    taken_whole : {got : Option ℕ} {m n : ℕ} {u : View} → TakesSome (view s) now limit (stopped got) m n u → TakesOut (view s) now got m n u
    taken_whole (popped_some e) = popped e
    taken_whole {got} (polled_some {m = m} {n = n} {e = c} {L = L} e r) =
        let v : View = with_elapsed c (with_lists L (view s)) in
        let q : Limited (view s).deadline now none limit (view s).elapsed (view s).lists (stopped got) m n c L
        = subst (λ (h : Option ℕ). Limited (view s).deadline now h limit (view s).elapsed (view s).lists (stopped got) m n c L)
        (got_none s.hand rest) r in
        let same : v ≡ with_hand nobody 0 v = λ i. with_hand (rest i) (S.no_now rest i) v in
        subst (TakesOut (view s) now got m n) same (polled e (limited_polls q))

    pub some_whole : {x : Told} {w : View} → PollsSome (view s) now limit x w → QueuePolls (view s) now x w
    some_whole (handed_some T G) = handed (taken_whole T) G
    some_whole (nothing_some T) = nothing (taken_whole T)
    some_whole (not_yet T) = absurd (never_yet T)

-- ---- what the calls owe

pub polls_whole : {s s' : QueueWords} (S : Sound s) {now limit : ℕ} → most_heights < limit → {a : Answer} → PollsOn s now limit a s'
    → Resuming s now a s' (PollOn s now a s') (RestOn s now a s')
polls_whole {s} {s'} S {now} {limit} many {a} P =
    record {
      other = P.other;
      same = λ d e. let x = P.same d e in (x.0, some_rest S many (mid d e) (λ z. absurd (d z)) x.1, x.2);
      free = λ z. record {
        back = (P.free z).back;
        done = λ h. let x = (P.free z).done h in (x.0, some_whole S many (free z) (λ _. h) z x.1, x.2);
      };
    }
  where
    free : AtRest s → Obeys (view s).deadline now s.hand (elapsed s) (view s).lists
    free z = record { free = S.rule.free; inside = λ d. absurd (d z) }

    mid : MidPoll s → now ≡ s.until → Obeys (view s).deadline now s.hand (elapsed s) (view s).lists
    mid d e = record { free = λ z. absurd (d z); inside = λ h. rw e (S.rule.inside h) }
