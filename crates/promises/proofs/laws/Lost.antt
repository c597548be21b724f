-- A store with a lost timer is not sound, so that every call but format refuses it with number 2. Such a store is what the first half
-- of any reset leaves.
use mathlib.Core.Path.{◌≡◌}
use mathlib.Core.Logic.{◌↔◌}
use mathlib.Core.Bool.{false}
use Prim.Native.Nat.{ℕ, ◌<◌}
use native.Mathlib.Omega.{arith}
use Rattle.links.specs.Lists.{nobody, Mem}
use Rattle.places.specs.Places.{retired}
use Rattle.places.proofs.laws.Whole as place_laws
use Rattle.queue.specs.declared.Answer.{Answer}
use Rattle.queue.specs.Told.{told}
use Rattle.queue.specs.Told as T
use Rattle.records.specs.Records.{last_turn}
use Rattle.records.specs.Words.{QueueWords, count, mark_of, view, Sound}
use Rattle.records.proofs.laws.Inner.{unmarked_out, sound_retired}
use Rattle.delay_queue.specs.declared.Call.{Call}
use Rattle.delay_queue.specs.Claims.{CallClaim}
use Rattle.promises.specs.Runs.{is_format}
use Rattle.promises.specs.Lost.{Lost}
use Rattle.promises.proofs.laws.Refused.{unsound_refused}

pub lost_unsound : {s : QueueWords} {i : ℕ} → Lost s i → Sound s → ⊥
lost_unsound {s} {i} L S =
    L.mark (sound_retired S i L.below (place_laws.unlisted_mark S.standing.whole.places i L.below L.nowhere)).0

-- no timer is lost in silence
pub lost_refused : {s : QueueWords} {i : ℕ} → Lost s i → (c : Call) (a : Answer) (t : QueueWords) → CallClaim c s a t → is_format c ≡ false
    → (told a ≡ T.no 2) × (t ≡ s)
lost_refused {s} L c a t A e = unsound_refused c s a t A e (lost_unsound L)

-- whatever its turn: the first half of a reset, as of every move, takes the record i out of its list and leaves it the mark nobody
pub half_refused : {s : QueueWords} {i : ℕ} → i < count s → mark_of s i ≡ nobody → (c : Call) (a : Answer) (t : QueueWords) → CallClaim c s a t
    → is_format c ≡ false → (told a ≡ T.no 2) × (t ≡ s)
half_refused {s} {i} h m c a t A e = unsound_refused c s a t A e (λ S. omega (arith, m, (sound_retired S i h (omega (arith, m))).0))

-- ---- who is retired

-- a record of a sound store is in no list just if its mark says that it is retired, and then it is at the last turn
pub retired_exactly : {s : QueueWords} → Sound s → (i : ℕ) → i < count s
    → (((p : ℕ) → Mem i ((view s).lists p) → ⊥) ↔ (mark_of s i ≡ retired)) × (mark_of s i ≡ retired → (view s).turn i ≡ last_turn)
retired_exactly S i h =
    let W = S.standing.whole in (
      (λ out. (sound_retired S i h (place_laws.unlisted_mark W.places i h out)).0, λ m. unmarked_out W i (omega (arith, m))),
      λ m. (sound_retired S i h (omega (arith, m))).1,
    )
