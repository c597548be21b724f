-- Before a store is made: `no_store` hands back one state only, and on it, and on any store that is not sound, every call but format answers number 2 and
-- changes nothing.
use mathlib.Core.Path.{◌≡◌, refl, sym, ◌∙◌, subst}
use mathlib.Core.Logic.{⊎_elim}
use mathlib.Core.Bool.{Bool, true, false, not, ◌&&◌, true≢false}
use mathlib.Core.List.{List}
use Prim.Native.Nat.{ℕ}
use native.Mathlib.Omega.{arith}
use lib.ListN.{replicate}
use Rattle.links.specs.Lists.{nobody}
use Rattle.wheel.specs.declared.Wheel.{Wheel}
use Rattle.queue.specs.declared.Answer.{Answer}
use Rattle.queue.specs.Told.{told}
use Rattle.queue.specs.Told as T
use Rattle.records.specs.Words.{QueueWords, words, Sound}
use Rattle.delay_queue.specs.declared.Call.{Call}
use Rattle.delay_queue.specs.Claims.{CallClaim}
use Rattle.delay_queue.specs.NoStore.{NoStoreClaim}
use Rattle.promises.specs.OneCall.{is_no}
use Rattle.promises.specs.Runs.{Asked, Runs, rest, next, is_format, NoFormat, Each}
use Rattle.promises.specs.NoStore.{Answers2}
use Rattle.promises.proofs.laws.Refused.{unsound_refused, call_size}

-- ---- the claim of `no_store` leaves one state, and there is one

pub no_store_once : {w w' : Wheel} → NoStoreClaim w → NoStoreClaim w' → w ≡ w'
no_store_once {w} {w'} A B =
    λ i. record {
      elapsed = (A.elapsed ∙ sym B.elapsed) i;
      occupied = (A.occupied ∙ sym B.occupied) i;
      tops = record {
        n = (A.records ∙ sym B.records) i;
        expired = (A.expired ∙ sym B.expired) i;
        free = (A.free ∙ sym B.free) i;
        parking = (A.parking ∙ sym B.parking) i;
      };
      hand = (A.hand ∙ sym B.hand) i;
      until = (A.until ∙ sym B.until) i;
    }

pub no_store_met : (w : Wheel) × NoStoreClaim w
no_store_met = (
  record { elapsed = 0; occupied = replicate 6 0; tops = record { n = 0; expired = nobody; free = nobody; parking = nobody }; hand = nobody; until = 0 },
  record { elapsed = refl; occupied = refl; records = refl; expired = refl; free = refl; parking = refl; hand = refl; until = refl },
)

-- ---- a store that is not sound

not_sound_call : {s : QueueWords} → (Sound s → ⊥) → (c : Call) (a : Answer) (t : QueueWords) → CallClaim c s a t
    → (is_format c && not (is_no (told a))) ≡ false
    → (is_format c ≡ false → told a ≡ T.no 2) × (t ≡ s)
not_sound_call {s} f c a t A q = (λ e. (unsound_refused c s a t A e f).0, by (is_format c) refl)
  where
    by : (b : Bool) → is_format c ≡ b → t ≡ s
    by false e = (unsound_refused c s a t A e f).1
    by true e = ⊎_elim (λ z. z) (λ y. absurd (true≢false (rw (e, y.0) at q))) (call_size c s a t A)

-- until a format is accepted, every other call answers 2, and no call changes a word
pub not_sound_run : {s u : QueueWords} {l : List Asked} → (Sound s → ⊥) → (R : Runs s l u) → NoFormat l → Each Answers2 R × (u ≡ s)
not_sound_run f rest q = (tt, refl)
not_sound_run f (next {s} {t} {u} {x} {l} A R) q =
    let c = not_sound_call f x.call x.answer t A q.0 in
    let r = not_sound_run (λ T. f (subst Sound c.1 T)) R q.1 in
    ((c, r.0), r.1 ∙ c.1)

-- ---- no store

module _ {w : Wheel} (N : NoStoreClaim w) (hh : List (List ℕ)) (vs ds ns ps ts ms : List ℕ) where
  -- it has no record, whatever heads and slices are lent with it
  no_store_not_sound : Sound (words w hh vs ds ns ps ts ms) → ⊥
  no_store_not_sound S = omega (arith, S.standing.fits.some, N.records)

  -- "Before an accepted f all others answer `no 2`": from what `no_store` hands back, with any heads and any slices
  pub no_store_run : {u : QueueWords} {l : List Asked} (R : Runs (words w hh vs ds ns ps ts ms) l u) → NoFormat l
      → Each Answers2 R × (u ≡ words w hh vs ds ns ps ts ms)
  no_store_run R q = not_sound_run no_store_not_sound R q
