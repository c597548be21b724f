-- each chunk is scanned from where the scan stands (`scanned_more`), up to the last (`scanned_last`)
use Rattle.std.proofs.Common.{arith, ◌≡◌, ◌≤◌, ◌<◌, ◌+◌, ◌^◌, ℕ, List, length, take, length-take}
use Rattle.restore.proofs.laws.Restore.{chunk_within, scanned_last, scanned_to, scanned_more}
use Rattle.restore.proofs.scan_file.Goals as goal

-- a chunk that was read lies within the places, and its bytes are as many as were counted
record Chunk (at k : ℕ) (l : List ℕ) : Type 0 where
  pub counted : k ≡ length l
  pub within : at + length l < 2 ^ 64

chunk : {at k n : ℕ} (xs : List ℕ) → at < 2 ^ 64 → k ≡ n → n ≤ length xs → length xs ≡ 65536 → (0 < n → at < 2 ^ 63) → Chunk at k (take k xs)
chunk {at} {k} {n} xs w e p b f =
    let g : length (take k xs) ≡ k = simp length-take (omega arith) in
    let v : at + k < 2 ^ 64 = chunk_within w e (omega arith) f in
    record { counted = omega arith; within = omega arith }

pub returns-then-not-goes_on : goal.returns-then-not-goes_on
returns-then-not-goes_on c =
    let b = c.more_from-got.ensures in
    let h = chunk c.more_from-got.new.buf c.loop-buf.invariant.place c.count-k.ensures b.0.0 c.if-not-goes_on.array_long b.1 in
    scanned_last c.loop-buf.invariant.scanning c.scan-seen.ensures h.within (omega (arith, h.counted))

pub loop-buf-preserved : goal.loop-buf-preserved
loop-buf-preserved c =
    let b = c.more_from-got.ensures in
    let w = c.goes_on.ensures c.if-not-goes_on.false in
    let h = chunk c.more_from-got.new.buf c.loop-buf.invariant.place c.count-k.ensures b.0.0 c.count-k.array_long b.1 in
    let t = scanned_to c.loop-buf.invariant.scanning c.scan-seen.ensures h.within in
    record { place = omega (arith, h.within, t); scanning = scanned_more c.loop-buf.invariant.scanning c.scan-seen.ensures h.within w.1 }
