-- The now that a store remembers: every call keeps it or puts it to 0, but a poll, which may leave its own.
use Rattle.std.proofs.Common.{◌≡◌, ℕ, ◌+◌, Bool, true, false, ◌⊎◌, refl, ap, ◌∙◌, inl, inr, eq-eqb, ne_eqb}
use mathlib.Core.Logic.{by_cases}
use native.Mathlib.Decide.{ℕ_discrete}
use Rattle.records.specs.View.{View}
use Rattle.records.specs.Records.{last_turn, left, placed, freed}
use Rattle.records.specs.Words.{QueueWords, Sound}
use Rattle.queue.specs.declared.Answer.{Answer}
use Rattle.queue.specs.Told.{Told, told}
use Rattle.queue.specs.Steps.{popped_some, polled_some, GoesOn, handed_some, nothing_some, not_yet, once, again, ended}
use Rattle.delay_queue.specs.declared.Call.{Call}
use Rattle.delay_queue.specs.declared.Call.TheVariants as C
use Rattle.delay_queue.specs.Claims.{CallClaim}
use Rattle.promises.specs.OneCall.{is_no}
use Rattle.promises.specs.Polls.{PollAt}
use Rattle.promises.specs.Twelve.{formats as formatting}
use Rattle.promises.proofs.laws.Decided.{sound_dec}
use Rattle.promises.proofs.laws.Twelve.{ends_it, refused_format_keeps}
use Rattle.promises.proofs.laws.Views.{ViewGoes, refuses, formats, inserts, resets, removes, polls, wakes, counts, clears, call_goes}

-- from u to u', by the call c
abbrev pub Remembered : Call → ℕ → ℕ → Type 0
Remembered c u u' = (u' ≡ u) ⊎ ((u' ≡ 0) ⊎ PollAt c u')

placed_until : (r when : ℕ) (v : View) → (placed r when v).until ≡ v.until
unfolding placed
placed_until r when v = refl

left_until : (p r : ℕ) (v : View) → (left p r v).until ≡ v.until
unfolding left
left_until p r v = refl

freed_until : (r : ℕ) (v : View) → (freed r v).until ≡ v.until
unfolding freed
freed_until r v =
    by_cases (ℕ_discrete (v.turn r) last_turn)
    (λ z. rw (eq-eqb (v.turn r) last_turn z) refl)
    (λ z. rw (ne_eqb (v.turn r) last_turn z) refl)

goes_on_until : {v : View} {r m n : ℕ} {u : View} {x : Told} {w : View} → GoesOn v r m n u x w → w.until ≡ u.until
goes_on_until {r = r} {u = u} (once z) = freed_until r u
goes_on_until {v} {r} {u = u} (again p f) = placed_until r (v.deadline r + v.period r) u
goes_on_until {r = r} {u = u} (ended p f) = freed_until r u

goes_until : {v : View} {c : Call} {x : Told} {w : View} → ViewGoes v c x w → Remembered c v.until w.until
goes_until refuses = inl refl
goes_until formats = inr (inl refl)
goes_until (inserts {when = when} {r = r} e) = inl (placed_until r when _)
goes_until {v} (resets {when = when} {r = r} {p = p} N) = inl (placed_until r when (left p r v) ∙ left_until p r v)
goes_until {v} (removes {r = r} {p = p} N) = inl (freed_until r (left p r v) ∙ left_until p r v)
goes_until (polls at h (handed_some (popped_some e) G)) = inl (goes_on_until G)
goes_until (polls at h (handed_some (polled_some e l) G)) = inr (inl (goes_on_until G))
goes_until (polls at h (nothing_some (polled_some e l))) = inr (inl refl)
goes_until (polls at h (not_yet (polled_some e l))) = inr (inr at)
goes_until (wakes W) = inl refl
goes_until counts = inl refl
goes_until (clears r) = inr (inl refl)

module _ (s : QueueWords) (a : Answer) (t : QueueWords) where
  same_until : (c : Call) → t ≡ s → Remembered c s.until t.until
  same_until c e = inl (ap (λ u. u.until) e)

  format_until : (n turn : ℕ) → CallClaim (C.Format n turn) s a t → (b : Bool) → is_no (told a) ≡ b → Remembered (C.Format n turn) s.until t.until
  format_until n turn A true e = same_until (C.Format n turn) (refused_format_keeps n turn s a t A e)
  format_until n turn A false e = inr (inl (ends_it (C.Format n turn) s a t formatting A e).1)

  -- on a store that is not sound every call but format is refused
  unsound_until : (c : Call) → (Sound s → ⊥) → CallClaim c s a t → Remembered c s.until t.until
  unsound_until (C.Format n turn) f A = format_until n turn A (is_no (told a)) refl
  unsound_until (C.Insert value when period) f A = same_until (C.Insert value when period) (A.bad f).same
  unsound_until (C.Reset key when) f A = same_until (C.Reset key when) (A.bad f).same
  unsound_until (C.Remove key) f A = same_until (C.Remove key) (A.bad f).same
  unsound_until (C.Poll now) f A = same_until (C.Poll now) (A.bad f).same
  unsound_until (C.PollSome now limit) f A = same_until (C.PollSome now limit) (A.bad f).same
  unsound_until C.Wake f A = same_until C.Wake A.1
  unsound_until C.Length f A = same_until C.Length A.1
  unsound_until C.Clear f A = same_until C.Clear (A.bad f).same

  pub call_until : (c : Call) → CallClaim c s a t → Remembered c s.until t.until
  call_until c A = by_cases (sound_dec s) (λ S. goes_until (call_goes c s a t S A)) (λ n. unsound_until c n A)
