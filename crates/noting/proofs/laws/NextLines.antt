-- The steps of `answer_lines`, for the code: one behind the other, and what a caller may count on.
use mathlib.Core.Path.{◌≡◌, subst}
use mathlib.Core.Bool.{Bool, true, false}
use mathlib.Core.List.{List}
use Prim.Native.Nat.{ℕ, ◌≤◌, ◌<◌}
use native.Mathlib.Omega.{arith}
use lib.ListN.{length, take}
use Rattle.queue.specs.Told.{told}
use Rattle.answering.proofs.laws.Answering.{at_most_114}
use Rattle.lines.specs.Taking.{TakeClaim}
use Rattle.lines.proofs.laws.Once.{take_forth}
use Rattle.feed.proofs.laws.Wrote.{put_wrote, some_bytes, bad_4}
use Rattle.noting.specs.Line.{Desk, DeskRoom, does, LineClaim, step, bad, NoteClaim, done, full, LastClaim, none, some}
use Rattle.noting.specs.Feed.{Stand, stand, CanGoOn, NextLine, answered, goes_on, FeedClaim, stops, lines_on}
use Rattle.noting.proofs.laws.Line.{written_size}

-- ---- one line

module _ {got : List ℕ} {from : ℕ} {line : List ℕ} {n : ℕ} {d : Desk} {i k : ℕ} {ended : Bool} {l : List ℕ}
    (T : TakeClaim got from line n i k ended l) where
  -- a line has ended, and is done
  pub next_ended : {e : Desk} → ended ≡ true → LineClaim (take k l) d e → NextLine got (stand from line n d) (stand i l 0 e)
  next_ended h C = answered (subst (λ (b : Bool). TakeClaim got from line n i k b l) h T) C

  -- the chunk has ended
  pub next_kept : ended ≡ false → NextLine got (stand from line n d) (stand i l k d)
  next_kept h = goes_on (subst (λ (b : Bool). TakeClaim got from line n i k b l) h T)

-- ---- the loop

-- whatever comes of b comes of a
pub record Reaches (got : List ℕ) (a b : Stand) : Type 0 where
  pub then : (c : Stand) → FeedClaim got b c → FeedClaim got a c

pub reaches_none : {got : List ℕ} {a : Stand} → Reaches got a a
reaches_none = record { then = λ c f. f }

pub reaches_more : {got : List ℕ} {a b c : Stand} → Reaches got a b → CanGoOn got b → NextLine got b c → Reaches got a c
reaches_more r g t = record { then = λ d f. r.then d (lines_on g t f) }

-- ---- what a caller may count on

pub next_forth : {got : List ℕ} {a b : Stand} → a.next < length got → NextLine got a b → a.next < b.next
next_forth h (answered T C) = take_forth true T h
next_forth h (goes_on T) = take_forth false T h

pub feed_on : {got : List ℕ} {a b : Stand} → FeedClaim got a b → a.next ≤ b.next
feed_on (stops h) = omega arith
feed_on (lines_on g t f) = omega (arith, next_forth g.0 t, feed_on f)

-- it goes forth where it can
pub feed_forth : {got : List ℕ} {a b : Stand} → FeedClaim got a b → CanGoOn got a → a.next < b.next
feed_forth (stops h) g = absurd (h g)
feed_forth (lines_on g t f) k = omega (arith, next_forth g.0 t, feed_on f)

-- the places that come back lie within what was lent
next_fits : {got : List ℕ} {a b : Stand} → NextLine got a b → b.kept ≤ length b.line
next_fits (answered T C) = omega arith
next_fits (goes_on T) = omega (arith, T.fits, T.size)

pub feed_fits : {got : List ℕ} {a b : Stand} → FeedClaim got a b → a.kept ≤ length a.line → b.kept ≤ length b.line
feed_fits (stops h) k = k
feed_fits (lines_on g t f) k = feed_fits f (next_fits t)

abbrev pub Within : Desk → Type 0
Within a = (a.noted ≤ length a.notes) × (a.at ≤ length a.out)

room_within : (a : Desk) → DeskRoom a → Within a
room_within a r = (omega (arith, r.0), omega (arith, r.1))

pub line_room : {l : List ℕ} {a b : Desk} → DeskRoom a → LineClaim l a b → Within b
line_room r (step {x = x} m (does {y = y} A W C)) =
    let p = put_wrote C (some_bytes C.written) (at_most_114 y C.written) r.1 in
    (omega (arith, W.end, W.size, written_size x (told y), r.0), omega (arith, p.room, p.size))
line_room r (bad f C) =
    let p = put_wrote C (some_bytes C.written) (bad_4 C.written) r.1 in
    (omega (arith, r.0), omega (arith, p.room, p.size))

next_room : {got : List ℕ} {a b : Stand} → DeskRoom a.desk → NextLine got a b → Within b.desk
next_room r (answered T C) = line_room r C
next_room {a = a} r (goes_on T) = room_within a.desk r

pub feed_room : {got : List ℕ} {a b : Stand} → FeedClaim got a b → Within a.desk → Within b.desk
feed_room (stops h) k = k
feed_room (lines_on g t f) k = feed_room f (next_room g.1 t)

note_room_lem : {l : List ℕ} {a b : Desk} {d : Bool} → NoteClaim l a d b → Within a → Within b
note_room_lem (done r C) h = line_room r C
note_room_lem (full f) h = h

pub last_room : {l : List ℕ} {a b : Desk} {d : Bool} → LastClaim l a d b → Within a → Within b
last_room (none h) k = k
last_room (some h C) k = note_room_lem C k
