-- The cases of a call's claim on a sound store, one constructor each.
use Rattle.std.specs.Prelude.{◌≡◌, List, ◌∷◌, ℕ}
use Rattle.places.specs.Places.{free}
use Rattle.queue.specs.declared.Answer.{Answer}
use Rattle.queue.specs.Told.{told}
use Rattle.queue.specs.Told as T
use Rattle.records.specs.View.{with_value, with_period, upd}
use Rattle.records.specs.Records.{key_of, Names, Takes, taken, left, placed, freed}
use Rattle.queue.specs.Steps.{PollsSome, NextWake, pending}
use Rattle.records.specs.Words.{QueueWords, elapsed, view}
use Rattle.queue.specs.Calls.{Refused, Answered, ClearOn}
use Rattle.delay_queue.specs.declared.Call.{Call}
use Rattle.delay_queue.specs.declared.Call.TheVariants as C
use Rattle.delay_queue.specs.Claims.{Formatted}
use Rattle.pausing.specs.Pausing.{PollTaken}
use Rattle.promises.specs.Polls.{PollAt}

pub data Does (s : QueueWords) (a : Answer) (t : QueueWords) : Call → Type 0 where
  refused : {c : Call} {k : ℕ} → Refused k s a t → Does s a t c
  formatted : {n turn : ℕ} → Formatted s n turn a t → Does s a t (C.Format n turn)
  inserted : {value when period r : ℕ} {l : List ℕ} → (view s).lists free ≡ r ∷ l → Takes (elapsed s) when
      → Answered s a (T.key (key_of (view s) r))
      (placed r when (with_period (upd (view s).period r period) (with_value (upd (view s).value r value) (taken l (view s))))) t
      → Does s a t (C.Insert value when period)
  replaced : {key when r p : ℕ} → Names (view s) key r p → Takes (elapsed s) when → Answered s a T.ok (placed r when (left p r (view s))) t
      → Does s a t (C.Reset key when)
  removed : {key r p : ℕ} → Names (view s) key r p
      → Answered s a (T.gone ((view s).value r) ((view s).deadline r)) (freed r (left p r (view s))) t → Does s a t (C.Remove key)
  polled : {c : Call} {now limit : ℕ} → PollAt c now → PollTaken (view s) now → PollsSome (view s) now limit (told a) (view t)
      → Does s a t c
  woke : NextWake (view s) (told a) → t ≡ s → Does s a t C.Wake
  measured : told a ≡ T.len (pending (view s)) → t ≡ s → Does s a t C.Length
  cleared : ClearOn s a t → Does s a t C.Clear
