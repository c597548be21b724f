-- Refusal 12, "A poll that can pause" (02 [10]): given exactly while a poll is in hand, to the calls that would come between; and what ends that poll.
use mathlib.Core.Path.{◌≡◌, refl, sym, ap, ◌∙◌}
use mathlib.Core.Logic.{◌≢◌, ◌⊎◌, inl, inr, ⊎_elim, by_cases}
use mathlib.Core.Bool.{true, false, true≢false}
use Prim.Native.Nat.{ℕ}
use native.Mathlib.Omega.{arith}
use Rattle.queue.specs.declared.Answer.{Answer}
use Rattle.queue.specs.Told.{told}
use Rattle.queue.specs.Told as T
use Rattle.records.specs.Words.{QueueWords, AtRest, Sound}
use Rattle.delay_queue.specs.declared.Call.{Call}
use Rattle.delay_queue.specs.declared.Call.TheVariants as C
use Rattle.delay_queue.specs.Claims.{CallClaim}
use Rattle.promises.specs.OneCall.{is_no, Ends, accepted, refused}
use Rattle.promises.specs.Refused.{FirstMet, deadline_lines, RefusedBy}
use Rattle.promises.specs.Twelve.{AsksMidPoll, Ending, clears, formats}
use Rattle.promises.proofs.laws.Decided.{sound_dec}
use Rattle.promises.proofs.laws.OneCall.{call_ends}
use Rattle.promises.proofs.laws.Refused.{behind, refused_exactly}
use Rattle.promises.proofs.laws.Eleven.{sound_so}
use Rattle.promises.proofs.laws.Alike.{format_taken}

-- ---- exactly

-- of the lines behind that of 2 the first is met: none behind it has the number
midway_line : (s : QueueWords) {k : ℕ} {P Q : Type 0}
    → ((k ≡ 2) × (Sound s → ⊥)) ⊎ (((Sound s → ⊥) → ⊥) × (((k ≡ 12) × P) ⊎ ((P → ⊥) × Q))) → k ≢ 2 → (Q → ⊥) → Sound s × P
midway_line s x d f =
    let y = behind d x in
    (sound_so s y.0, ⊎_elim (λ z. z.1) (λ z. absurd (f z.1)) y.1)

no_deadline : {e w : ℕ} → FirstMet (deadline_lines e w) 12 → ⊥
no_deadline x = (behind (omega arith) (behind (omega arith) x).1).1

asks_mid : (c : Call) (s : QueueWords) → RefusedBy c s 12 → AsksMidPoll c s
asks_mid (C.Format n turn) s x = absurd (behind (omega arith) (behind (omega arith) x).1).1
asks_mid (C.Insert value when period) s x =
    let y = midway_line s x (omega arith) (λ z. no_deadline (behind (omega arith) z).1) in
    record { sound = y.0; mid = y.1; call = tt }
asks_mid (C.Reset key when) s x =
    let y = midway_line s x (omega arith) (λ z. no_deadline (behind (omega arith) z).1) in
    record { sound = y.0; mid = y.1; call = tt }
asks_mid (C.Remove key) s x = let y = midway_line s x (omega arith) (λ z. (behind (omega arith) z).1) in record { sound = y.0; mid = y.1; call = tt }
asks_mid (C.Poll now) s x =
    let y = midway_line s x (omega arith) (λ z. (behind (omega arith) z).1) in
    record { sound = y.0; mid = y.1.0; call = y.1.1 }
asks_mid (C.PollSome now limit) s x =
    let y = midway_line s x (omega arith) (λ z. (behind (omega arith) z).1) in
    record { sound = y.0; mid = y.1.0; call = y.1.1 }
asks_mid C.Wake s x = let y = midway_line s x (omega arith) (λ z. z) in record { sound = y.0; mid = y.1; call = tt }
asks_mid C.Length s x = absurd (behind (omega arith) x).1
asks_mid C.Clear s x = absurd (behind (omega arith) x).1

mid_asked : (c : Call) (s : QueueWords) → AsksMidPoll c s → RefusedBy c s 12
mid_asked (C.Format n turn) s A = absurd A.call
mid_asked (C.Insert value when period) s A = inr (λ f. f A.sound, inl (refl, A.mid))
mid_asked (C.Reset key when) s A = inr (λ f. f A.sound, inl (refl, A.mid))
mid_asked (C.Remove key) s A = inr (λ f. f A.sound, inl (refl, A.mid))
mid_asked (C.Poll now) s A = inr (λ f. f A.sound, inl (refl, (A.mid, A.call)))
mid_asked (C.PollSome now limit) s A = inr (λ f. f A.sound, inl (refl, (A.mid, A.call)))
mid_asked C.Wake s A = inr (λ f. f A.sound, inl (refl, A.mid))
mid_asked C.Length s A = absurd A.call
mid_asked C.Clear s A = absurd A.call

-- "Until that poll ends, insert, remove, reset, next wake and polls with another now are refused with 12, judged after 2": exactly then, whatever the call
-- and whatever is lent, and then nothing is changed
pub twelve_exactly : (c : Call) (s : QueueWords) (a : Answer) (t : QueueWords) → CallClaim c s a t
    → (AsksMidPoll c s → (told a ≡ T.no 12) × (t ≡ s)) × (told a ≡ T.no 12 → AsksMidPoll c s)
twelve_exactly c s a t A = let R = refused_exactly c s a t A 12 in (λ M. R.0 (mid_asked c s M), λ e. asks_mid c s (R.1 e))

-- ---- what ends it

-- "clear or format ends it": one that is not refused leaves no poll in hand, and remembers no now
pub ends_it : (c : Call) (s : QueueWords) (a : Answer) (t : QueueWords) → Ending c → CallClaim c s a t → is_no (told a) ≡ false
    → AtRest t × (t.until ≡ 0)
ends_it c s a t clears A e =
    by_cases (sound_dec s)
    (λ S. let v = (A.good S).done.view in (ap (λ u. u.hand) v, ap (λ u. u.until) v))
    (λ n. absurd (true≢false (sym (ap is_no (A.bad n).told) ∙ e)))
ends_it c s a t formats A e =
    let x = format_taken A e in
    let v = (A.done x.0 x.1).view in
    (ap (λ u. u.hand) v, ap (λ u. u.until) v)

-- a clear of a sound store is not refused
pub clear_ends_it : (s : QueueWords) (a : Answer) (t : QueueWords) → Sound s → CallClaim C.Clear s a t → AtRest t × (t.until ≡ 0)
clear_ends_it s a t S A = ends_it C.Clear s a t clears A (ap is_no (A.good S).done.told)

-- a format that is refused leaves it, word for word
pub refused_format_keeps : (n turn : ℕ) (s : QueueWords) (a : Answer) (t : QueueWords) → CallClaim (C.Format n turn) s a t → is_no (told a) ≡ true → t ≡ s
refused_format_keeps n turn s a t A e = by (call_ends (C.Format n turn) s a t A)
  where
    by : Ends n s a t → t ≡ s
    by (refused k R) = R.same
    by (accepted B) = absurd (true≢false (sym e ∙ B.says))
