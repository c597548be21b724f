-- Words of the promises on keys: by which calls a timer leaves, which calls use a key.
use Rattle.std.specs.Prelude.{◌≡◌, List, [], ◌∷◌, ℕ}
use Rattle.queue.specs.declared.Answer.{Answer}
use Rattle.queue.specs.declared.Answer.TheVariants as A
use Rattle.queue.specs.Told.{Told, Hands}
use Rattle.queue.specs.Told as T
use Rattle.records.specs.Records.{Names}
use Rattle.records.specs.Words.{QueueWords, view}
use Rattle.queue.specs.Calls.{Refused, Freely}
use Rattle.delay_queue.specs.declared.Call.{Call}
use Rattle.delay_queue.specs.declared.Call.TheVariants as C
use Rattle.delay_queue.specs.Claims.{CallClaim}
use Rattle.promises.specs.Polls.{PollAt}
use Rattle.promises.specs.Runs.{Asked}
use Rattle.promises.specs.Polling.{Finished}

-- ---- what is said

-- "6 | remove, reset: record number N or above, record not pending, or turn differs": every reset and remove of k gets it, and nothing changes; 02 [10]: 12
-- before it, while a poll is in hand
pub record Refuses (s : QueueWords) (k : ℕ) : Type 0 where
  pub reset : (when : ℕ) (a : Answer) (t : QueueWords) → CallClaim (C.Reset k when) s a t → Freely s a t (Refused 6 s a t)
  pub remove : (a : Answer) (t : QueueWords) → CallClaim (C.Remove k) s a t → Freely s a t (Refused 6 s a t)

-- "A record that leaves (polled, removed, cleared)": by this call, answered x, the record of the key k does. A timer that is handed out and set again does
-- not leave. A clear of a sound store is never refused
pub data Leaves (s : QueueWords) (k : ℕ) (x : Told) : Call → Type 0 where
  polled : {c : Call} {now v d m n r p : ℕ} → PollAt c now → Hands x k v d m n → Names (view s) k r p → Finished (view s) r x
      → Leaves s k x c
  removed : {v d : ℕ} → x ≡ T.gone v d → Leaves s k x (C.Remove k)
  cleared : {r p : ℕ} → Names (view s) k r p → Leaves s k x C.Clear

-- the call is made with the key k
abbrev pub Uses : ℕ → Call → Type 0
Uses k (C.Format n turn) = ⊥
Uses k (C.Insert value when period) = ⊥
Uses k (C.Reset key when) = key ≡ k
Uses k (C.Remove key) = key ≡ k
Uses k (C.Poll now) = ⊥
Uses k (C.PollSome now limit) = ⊥
Uses k C.Wake = ⊥
Uses k C.Length = ⊥
Uses k C.Clear = ⊥

-- ---- such runs there are

abbrev pub asked : Call → Answer → Asked
asked c a = record { call = c; answer = a }

-- one record, given under the key 65536 and removed, then given under the next key: the first key is refused
abbrev pub morning : List Asked
morning =
    asked (C.Insert 7 70 0) (A.Key 65536) ∷ asked (C.Remove 65536) (A.Gone 7 70) ∷ asked (C.Insert 8 0 0) (A.Key 131072) ∷ asked
    (C.Remove 65536) (A.No 6) ∷ []
