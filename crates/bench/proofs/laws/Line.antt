-- A line answered is a call claimed, or `bad`.
use mathlib.Core.Path.{◌≡◌, refl, subst}
use mathlib.Core.Bool.{Bool}
use mathlib.Core.Logic.{by_cases}
use mathlib.Core.List.{List}
use Prim.Native.Nat.{ℕ, ◌≤◌}
use native.Mathlib.Decide.{dec_le}
use lib.ListN.{length}
use Rattle.wheel.specs.declared.Wheel.{Wheel}
use Rattle.queue.specs.declared.Answer.{Answer}
use Rattle.records.specs.Words.{QueueWords, words}
use Rattle.delay_queue.specs.declared.Call.{Call}
use Rattle.delay_queue.specs.Claims.{CallClaim}
use Rattle.std.specs.Prelude.{Option, Some, None}
use Rattle.answering.specs.Text.{WriteClaim, BadClaim}
use Rattle.asking.proofs.laws.Asking.{one_call}
use Rattle.answering.proofs.laws.Answering.{within}
use Rattle.bench.specs.Line.{Asks, LineClaim}
use Rattle.bench.specs.Parts.{Heard}
use Rattle.bench.proofs.laws.Hearing.{heard_asks, heard_bad}

module _ {limits : Bool} {l o : List ℕ} {s : QueueWords} {at : ℕ} {o' : List ℕ} {end : ℕ} where
  -- the line was heard as a call
  pub line_asks : {s' : QueueWords} {r : Option Call} (c : Call) → Heard limits l r → r ≡ Some c → (a : Answer) → CallClaim c s a s'
      → WriteClaim a o at end o' → LineClaim limits l s o at s' o' end
  line_asks {s'} c H e a x w =
      let y : Asks limits l c = heard_asks H e in
      record {
        asks = λ d z. record { answer = a; done = subst (λ (k : Call). CallClaim k s a s') (one_call y.says z.says) x; written = w };
        bad = λ f. absurd (f c y);
      }

-- the heads, handed on as their rows
pub line_heads : {limits : Bool} {l o o' : List ℕ} {at end : ℕ} {s' : QueueWords} (w : Wheel) {hh hh' : List (List ℕ)} (vs ds ns ps ts ms : List ℕ) → hh ≡ hh'
    → LineClaim limits l (words w hh vs ds ns ps ts ms) o at s' o' end → LineClaim limits l (words w hh' vs ds ns ps ts ms) o at s' o' end
line_heads {limits} {l} {o} {o'} {at} {end} {s'} w vs ds ns ps ts ms e C =
    subst (λ (h : List (List ℕ)). LineClaim limits l (words w h vs ds ns ps ts ms) o at s' o' end) e C

-- it asks no call
pub line_not : {limits : Bool} {l o o' : List ℕ} {at end : ℕ} {r : Option Call} {s : QueueWords} → Heard limits l r → r ≡ None → BadClaim o at end o'
    → LineClaim limits l s o at s o' end
line_not H e x = record { asks = λ c z. absurd (heard_bad H e c z); bad = λ f. (refl, x) }

-- the place that comes back lies within what was lent
pub line_within : {limits : Bool} {l o o' : List ℕ} {s s' : QueueWords} {at end : ℕ} → LineClaim limits l s o at s' o' end → at ≤ length o
    → end ≤ length o
line_within {limits} {l} {o} {o'} {s} {s'} {at} {end} C h =
    by_cases (dec_le end (length o)) (λ k. k) (λ k. absurd (k (within (C.bad (λ c x. k (within (C.asks c x).written h).1)).1 h).1))
