-- How far bytes are read, chunk by chunk, without a store. Which step gets 1, 2 or 13 follows from the lengths of the slices, whether a store was made,
-- and whether a patch is open.
use Rattle.std.specs.Prelude.{◌≡◌, Bool, true, false, cond, ◌&&◌, List, ℕ, ◌+◌, ◌^◌, ◌≤◌, ◌<◌, ltb, length, drop}
use Rattle.std.specs.Prelude.{Option, Some, None, Result, Ok, Err}
use Rattle.records.specs.Slices.{Slices, Fits}
use Rattle.delay_queue.specs.declared.Call.{Call}
use Rattle.delay_queue.specs.declared.Call.TheVariants as C
use Rattle.promises.specs.Runs.{is_format}
use Rattle.entries.specs.declared.Step.{Step}
use Rattle.entries.specs.declared.Step.TheVariants as S
use Rattle.entries.specs.declared.Ending.{Ending}
use Rattle.entries.specs.declared.Ending.TheVariants as E
use Rattle.entries.specs.Reading as read
use Rattle.recover.specs.declared.Seen.{Seen}
use Rattle.recover.specs.Replay.{size}

-- ---- one step

-- 1 for a format that is refused with it
pub data Short (fits : Type 0) : Option ℕ → Type 0 where
  enough : fits → Short fits None
  short : (fits → ⊥) → Short fits (Some 1)

-- "a call that gets 1, 2 or 13": the number of a step, if it gets one of these
pub data NumberOf (l : Slices) (live p : Bool) : Step → Option ℕ → Type 0 where
  formats : {n turn : ℕ} {r : Option ℕ} → Short (Fits l n) r → NumberOf l live p (S.Asks (C.Format n turn)) r
  made : {c : Call} → is_format c ≡ false → live ≡ true → NumberOf l live p (S.Asks c) None
  no_store : {c : Call} → is_format c ≡ false → live ≡ false → NumberOf l live p (S.Asks c) (Some 2)
  opens : p ≡ false → NumberOf l live p S.Open None
  opens_twice : p ≡ true → NumberOf l live p S.Open (Some 13)
  closes : p ≡ true → NumberOf l live p S.Close None
  closes_none : p ≡ false → NumberOf l live p S.Close (Some 13)

-- the step that l begins with, if it gets none of these, or why nothing more is read
pub data Admits (z : Slices) (live p : Bool) (l : List ℕ) : Result Step Ending → Type 0 where
  no_step : {e : Ending} → read.next l ≡ Err e → Admits z live p l (Err e)
  refused : {x : Step} {n : ℕ} → read.next l ≡ Ok x → NumberOf z live p x (Some n) → Admits z live p l (Err (E.Gets n))
  step : {x : Step} → read.next l ≡ Ok x → NumberOf z live p x None → Admits z live p l (Ok x)

-- there is a store after a step that has no such number: an accepted format makes one
abbrev pub live_after : Bool → Step → Bool
live_after live (S.Asks (C.Format n turn)) = cond (ltb 0 turn && ltb turn (2 ^ 48)) true live
live_after live (S.Asks (C.Insert value when period)) = live
live_after live (S.Asks (C.Reset key when)) = live
live_after live (S.Asks (C.Remove key)) = live
live_after live (S.Asks (C.Poll now)) = live
live_after live (S.Asks (C.PollSome now limit)) = live
live_after live (S.Asks C.Wake) = live
live_after live (S.Asks C.Length) = live
live_after live (S.Asks C.Clear) = live
live_after live S.Open = live
live_after live S.Close = live

-- a patch is open after a step
abbrev pub open_after : Bool → Step → Bool
open_after p (S.Asks c) = p
open_after p S.Open = true
open_after p S.Close = false

-- opens and closes are no calls
abbrev pub calls_of : Step → ℕ
calls_of (S.Asks c) = 1
calls_of S.Open = 0
calls_of S.Close = 0

-- ---- how far a journal was read

abbrev pub seen : ℕ → ℕ → ℕ → Bool → Bool → Ending → Seen
seen kept at left live p e = record { kept = kept; at = at; left = left; live = live; patch = p; ending = e }

-- nothing is read yet: no store, and no patch is open
abbrev pub at_start : Seen
at_start = seen 0 0 0 false false E.Cut

-- nothing more is read, by e
abbrev pub stopped_by : Ending → Seen → Seen
stopped_by e s = seen s.kept s.at s.left s.live s.patch e

-- behind the step x: where no patch is open, all is kept
unfoldable pub behind : Step → Seen → Seen
behind x s =
    let p = open_after s.patch x in
    seen (cond p s.kept (s.at + size x)) (s.at + size x) (cond p (s.left + calls_of x) 0) (live_after s.live x) p E.Cut

-- no damage: more bytes may come
abbrev pub is_cut : Ending → Bool
is_cut E.Cut = true
is_cut E.Kind = false
is_cut E.Zero = false
is_cut E.Pair = false
is_cut (E.Gets n) = false

-- ---- a chunk

-- l stands from s.at on: its steps are read one after the other, up to where there is none, or one gets 1, 2 or 13
pub data Scans (z : Slices) : List ℕ → Seen → Seen → Type 0 where
  stops : {l : List ℕ} {s : Seen} {e : Ending} → read.next l ≡ Err e → Scans z l s (stopped_by e s)
  gets : {l : List ℕ} {s : Seen} {x : Step} {n : ℕ} → read.next l ≡ Ok x → NumberOf z s.live s.patch x (Some n)
      → Scans z l s (stopped_by (E.Gets n) s)
  goes : {l : List ℕ} {s s' : Seen} {x : Step} → read.next l ≡ Ok x → NumberOf z s.live s.patch x None
      → Scans z (drop (size x) l) (behind x s) s'
      → Scans z l s s'

-- what can be: no damage was found before, past 2^64-1 there is no place, and no more calls than bytes were read
pub record CanBe (l : List ℕ) (s : Seen) : Type 0 where
  pub cut : is_cut s.ending ≡ true
  pub within : s.at + length l < 2 ^ 64
  pub few : s.left ≤ s.at

-- what `scan` claims: behind damage nothing more is read, nor where s and l cannot be
pub record ScanClaim (z : Slices) (l : List ℕ) (s s' : Seen) : Type 0 where
  pub reads : CanBe l s → Scans z l s s'
  pub stays : (CanBe l s → ⊥) → s' ≡ s
