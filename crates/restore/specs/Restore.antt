-- The two passes over the file of a journal. Which bytes they read is not said, but how many.
use Rattle.std.specs.Prelude.{◌≡◌, Bool, true, cond, List, ℕ, length}
use Rattle.records.specs.Slices.{Slices}
use Rattle.records.specs.Words.{QueueWords}
use Rattle.recover.specs.declared.Seen.{Seen}
use Rattle.recover.specs.Scan.{at_start, is_cut, Scans}
use Rattle.recover.specs.Apply.{Applies}
use Rattle.restore.specs.declared.Scanned.{Scanned}

-- so many bytes were read, and s is what a scan of them finds
pub record ScannedSo (z : Slices) (bytes : ℕ) (s : Seen) : Type 0 where
  pub read : List ℕ
  pub size : length read ≡ bytes
  pub scans : Scans z read at_start s

-- so many bytes were read, and their steps, which use all of them, make s' of s
pub record AppliedSo (bytes : ℕ) (s s' : QueueWords) : Type 0 where
  pub read : List ℕ
  pub size : length read ≡ bytes
  pub applies : Applies read s bytes s'

-- the file has ended behind what was seen, or damage was found before
abbrev pub is_whole : Scanned → Bool
is_whole s = cond (is_cut s.seen.ending) s.last.ended true
