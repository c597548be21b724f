-- Words of the promises on refusal 12 and on what ends a poll in hand (02 [10]).
use Rattle.std.specs.Prelude.{◌≢◌, ℕ}
use Rattle.records.specs.Words.{QueueWords, MidPoll, Sound}
use Rattle.delay_queue.specs.declared.Call.{Call}
use Rattle.delay_queue.specs.declared.Call.TheVariants as C

-- "insert, remove, reset, next wake and polls with another now"
abbrev pub Interrupts : Call → QueueWords → Type 0
Interrupts (C.Format n turn) s = ⊥
Interrupts (C.Insert value when period) s = Unit {0}
Interrupts (C.Reset key when) s = Unit {0}
Interrupts (C.Remove key) s = Unit {0}
Interrupts (C.Poll now) s = now ≢ s.until
Interrupts (C.PollSome now limit) s = now ≢ s.until
Interrupts C.Wake s = Unit {0}
Interrupts C.Length s = ⊥
Interrupts C.Clear s = ⊥

-- one of those, of a sound store with a poll in hand: "Until that poll ends, .. are refused with 12, judged after 2"
pub record AsksMidPoll (c : Call) (s : QueueWords) : Type 0 where
  pub sound : Sound s
  pub mid : MidPoll s
  pub call : Interrupts c s

-- "clear or format ends it"
pub data Ending : Call → Type 0 where
  clears : Ending C.Clear
  formats : {n turn : ℕ} → Ending (C.Format n turn)
