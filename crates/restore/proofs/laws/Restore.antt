-- The steps of the two passes, and what they mean: if the second pass reads again what the first kept, the store is the one that replay finds.
use mathlib.Core.Path.{◌≡◌, refl, sym, ◌∙◌, subst}
use mathlib.Core.Logic.{by_cases}
use mathlib.Core.Bool.{Bool, true, false, cond}
use mathlib.Core.List.{List, [], ◌++◌, append_assoc, append-nil}
use Prim.Native.Nat.{ℕ, ◌+◌, ◌^◌, ◌≤◌, ◌<◌}
use native.Mathlib.Decide.{dec_lt}
use native.Mathlib.Omega.{arith}
use lib.ListN.{length, take, length-append}
use lib.Seq.{length-take-le}
use Rattle.records.specs.Slices.{Slices, slices_of}
use Rattle.records.specs.Words.{QueueWords}
use Rattle.recover.specs.declared.Seen.{Seen}
use Rattle.recover.specs.Scan.{at_start, is_cut, Scans, ScanClaim}
use Rattle.recover.specs.Replay.{without_store, found, ReplayClaim}
use Rattle.recover.specs.Apply.{Applies}
use Rattle.recover.proofs.laws.Scan.{can, scans_came, scans_on}
use Rattle.recover.proofs.laws.Apply.{applies_on, applies_within, nothing_left}
use Rattle.recover.proofs.laws.Parts.{scans_applied}
use Rattle.restore.specs.Restore.{ScannedSo, AppliedSo}

-- ---- a chunk that was read

-- no file has a byte from 2^63 on, and no chunk more than 65,536: it lies within the places
pub chunk_within : {at k n : ℕ} → at < 2 ^ 64 → k ≡ n → n ≤ 65536 → (0 < n → at < 2 ^ 63) → at + k < 2 ^ 64
chunk_within {at} {k} {n} h e g f = by_cases (dec_lt 0 n) (λ p. omega (arith, f p)) (λ p. omega arith)

-- ---- the scan

-- all that was read stands before `at`, and no damage was found; what is read behind it is read as one with it
pub record Scanning (z : Slices) (at : ℕ) (s : Seen) : Type 0 where
  pub read : List ℕ
  pub size : length read ≡ at
  pub place : s.at ≡ at
  pub cut : is_cut s.ending ≡ true
  pub few : s.left ≤ s.at
  pub then : (d : List ℕ) (t : Seen) → Scans z d s t → Scans z (read ++ d) at_start t

pub scanning_start : {z : Slices} {s : Seen} → s ≡ at_start → Scanning z s.at s
scanning_start {z} e =
    subst (λ (s : Seen). Scanning z s.at s) (sym e) (record { read = []; size = refl; place = refl; cut = refl; few = omega arith; then = λ d t S. S })

module _ {z : Slices} {at : ℕ} {s : Seen} (I : Scanning z at s) {c : List ℕ} {t : Seen} (C : ScanClaim z c s t) (h : at + length c < 2 ^ 64) where
  -- the chunk was read
  chunk : Scans z c s t
  chunk = C.reads (can I.cut (omega (arith, I.place)) I.few)

  -- and is the last
  pub scanned_last : {n : ℕ} → n ≡ at + length c → ScannedSo z n t
  scanned_last e =
      record { read = I.read ++ c; size = length-append I.read c ∙ omega (arith, I.size, e); scans = I.then c t chunk }

  pub scanned_to : t.at ≤ at + length c
  scanned_to = let A = scans_came chunk in omega (arith, A.at, A.within, I.place)

  -- or what was used of it stands before the next
  pub scanned_more : is_cut t.ending ≡ true → Scanning z t.at t
  scanned_more e =
      let A = scans_came chunk in
      record {
        read = I.read ++ take A.used c;
        size =
            length-append I.read (take A.used c)
            ∙ omega (arith, I.size, length-take-le A.used c A.within, A.at, I.place);
        place = refl;
        cut = e;
        few = A.left I.few;
        then = λ d u S.
            subst (λ (l : List ℕ). Scans z l at_start u) (sym (append_assoc I.read (take A.used c) d))
            (I.then (take A.used c ++ d) u (scans_on chunk e A.used A.at d S));
      }

-- ---- whether all was seen

pub whole_damaged : {b : Bool} (e : Bool) → b ≡ false → true ≡ cond b e true
whole_damaged {b} e h = rw h refl

pub whole_cut : {b e x : Bool} → b ≡ true → x ≡ e → x ≡ cond b e true
whole_cut {b} {e} {x} h g = rw h g

-- ---- what is kept

pub record Applying (at : ℕ) (s s' : QueueWords) : Type 0 where
  pub read : List ℕ
  pub size : length read ≡ at
  pub then : (d : List ℕ) (n : ℕ) (t : QueueWords) → Applies d s' n t → Applies (read ++ d) s (at + n) t

pub applying_start : {s : QueueWords} → Applying 0 s s
applying_start {s} = record { read = []; size = refl; then = λ d n t A. let e : n ≡ 0 + n = omega arith in subst (λ (i : ℕ). Applies d s i t) e A }

pub applied_more : {at : ℕ} {s s' t : QueueWords} {c : List ℕ} {n : ℕ} → Applying at s s' → Applies c s' n t → Applying (at + n) s t
applied_more {at} {s} {s'} {t} {c} {n} I A =
    record {
      read = I.read ++ take n c;
      size = length-append I.read (take n c) ∙ omega (arith, I.size, length-take-le n c (applies_within A));
      then = λ d m u B.
          let e : at + (n + m) ≡ at + n + m = omega arith in
          subst (λ (w : List ℕ × ℕ). Applies w.0 s w.1 u) (λ i. (sym (append_assoc I.read (take n c) d) i, e i))
          (I.then (take n c ++ d) (n + m) u (applies_on A B));
    }

applied_all : {at : ℕ} {s s' : QueueWords} → Applying at s s' → AppliedSo at s s'
applied_all {at} {s} {s'} I =
    let e : at + 0 ≡ at = omega arith in
    record {
      read = I.read;
      size = I.size;
      applies = subst (λ (w : List ℕ × ℕ). Applies w.0 s w.1 s') (λ i. (append-nil I.read i, e i)) (I.then [] 0 s' nothing_left);
    }

pub applied_up_to : {at kept : ℕ} {s s' : QueueWords} → at ≡ kept → Applying at s s' → AppliedSo kept s s'
applied_up_to {s = s} {s'} e I = subst (λ (n : ℕ). AppliedSo n s s') e (applied_all I)

-- ---- both

-- "replay from no store .. gives the store .. and the length kept": if the second pass read again what the first kept
pub restored : {vs ds ns ps ts ms : List ℕ} {bytes : ℕ} {s : Seen} {t : QueueWords} (S : ScannedSo (slices_of vs ds ns ps ts ms) bytes s)
    (A : AppliedSo s.kept (without_store vs ds ns ps ts ms) t)
    → A.read ≡ take s.kept S.read
    → ReplayClaim S.read (without_store vs ds ns ps ts ms) (found s.kept s.at s.ending t)
restored {vs} {ds} {ns} {ps} {ts} {ms} {s = s} {t} S A e =
    scans_applied vs ds ns ps ts ms S.scans (subst (λ (l : List ℕ). Applies l (without_store vs ds ns ps ts ms) s.kept t) e A.applies)
