-- The steps of `answer_lines`, for the code: one behind the other, and what a caller may count on.
use mathlib.Core.Path.{◌≡◌, refl, subst}
use mathlib.Core.Bool.{Bool, true, false}
use mathlib.Core.Logic.{by_cases}
use mathlib.Core.List.{List}
use Prim.Native.Nat.{ℕ, ◌+◌, ◌≤◌, ◌<◌}
use native.Mathlib.Decide.{dec_lt}
use native.Mathlib.Omega.{arith}
use lib.ListN.{length, take}
use Rattle.places.specs.declared.Tops.{Tops}
use Rattle.wheel.specs.declared.Wheel.{Wheel}
use Rattle.records.proofs.laws.Lent.{place_words_of, stacked_same}
use Rattle.records.specs.Words.{QueueWords, words}
use Rattle.bench.specs.Line.{LineClaim}
use Rattle.bench.proofs.laws.Line.{line_within}
use Rattle.lines.specs.Taking.{TakeClaim}
use Rattle.lines.proofs.laws.Once.{take_forth}
use Rattle.feed.specs.Feed.{Stand, stand, answer_room, CanGoOn, NextLine, answered, goes_on, FeedClaim, stops, lines_on, LastClaim}
use Rattle.feed.proofs.laws.Wrote.{reply_room, reply_size}

-- the heads, handed on as an array, and the stacks, lent
pub feed_heads : {limits : Bool} {got line o : List ℕ} {i n at : ℕ} {c : Stand} (w : Wheel) {st : Tops} {hh hh' : List (List ℕ)} (vs ds ns ps ts ms : List ℕ)
    → st ≡ w.tops → hh ≡ hh' → FeedClaim limits got (stand i line n (place_words_of st (words w hh vs ds ns ps ts ms)) o at) c
    → FeedClaim limits got (stand i line n (words w hh' vs ds ns ps ts ms) o at) c
feed_heads {limits} {got} {line} {o} {i} {n} {at} {c} w vs ds ns ps ts ms q e C =
    subst (λ (h : List (List ℕ)). FeedClaim limits got (stand i line n (words w h vs ds ns ps ts ms) o at) c) e
    (subst (λ s. FeedClaim limits got (stand i line n s o at) c) (stacked_same q) C)

module _ {limits : Bool} {got : List ℕ} {from : ℕ} {line : List ℕ} {n : ℕ} {w : QueueWords} {o : List ℕ} {at : ℕ} where
  module _ {i k : ℕ} {ended : Bool} {l : List ℕ} (T : TakeClaim got from line n i k ended l) where
    -- a line has ended, and is answered
    pub next_ended : {w' : QueueWords} {o' : List ℕ} {e : ℕ} → ended ≡ true → LineClaim limits (take k l) w o at w' o' e
        → NextLine limits got (stand from line n w o at) (stand i l 0 w' o' e)
    next_ended h C = answered (subst (λ (b : Bool). TakeClaim got from line n i k b l) h T) C

    -- the chunk has ended
    pub next_kept : ended ≡ false → NextLine limits got (stand from line n w o at) (stand i l k w o at)
    next_kept h = goes_on (subst (λ (b : Bool). TakeClaim got from line n i k b l) h T)

-- ---- the loop

-- whatever comes of b comes of a
pub record Reaches (limits : Bool) (got : List ℕ) (a b : Stand) : Type 0 where
  pub then : (c : Stand) → FeedClaim limits got b c → FeedClaim limits got a c

pub reaches_none : {limits : Bool} {got : List ℕ} {a : Stand} → Reaches limits got a a
reaches_none = record { then = λ c f. f }

pub reaches_more : {limits : Bool} {got : List ℕ} {a b c : Stand} → Reaches limits got a b → CanGoOn got b → NextLine limits got b c → Reaches limits got a c
reaches_more r g t = record { then = λ d f. r.then d (lines_on g t f) }

-- ---- what a caller may count on

pub next_forth : {limits : Bool} {got : List ℕ} {a b : Stand} → a.next < length got → NextLine limits got a b → a.next < b.next
next_forth h (answered T C) = take_forth true T h
next_forth h (goes_on T) = take_forth false T h

pub feed_on : {limits : Bool} {got : List ℕ} {a b : Stand} → FeedClaim limits got a b → a.next ≤ b.next
feed_on (stops h) = omega arith
feed_on (lines_on g t f) = omega (arith, next_forth g.0 t, feed_on f)

-- it goes forth where it can
pub feed_forth : {limits : Bool} {got : List ℕ} {a b : Stand} → FeedClaim limits got a b → CanGoOn got a → a.next < b.next
feed_forth (stops h) g = absurd (h g)
feed_forth (lines_on g t f) k = omega (arith, next_forth g.0 t, feed_on f)

-- the places that come back lie within what was lent
next_fits : {limits : Bool} {got : List ℕ} {a b : Stand} → NextLine limits got a b → b.kept ≤ length b.line
next_fits (answered T C) = omega arith
next_fits (goes_on T) = omega (arith, T.fits, T.size)

pub feed_fits : {limits : Bool} {got : List ℕ} {a b : Stand} → FeedClaim limits got a b → a.kept ≤ length a.line → b.kept ≤ length b.line
feed_fits (stops h) k = k
feed_fits (lines_on g t f) k = feed_fits f (next_fits t)

next_room : {limits : Bool} {got : List ℕ} {a b : Stand} → a.at + answer_room ≤ length a.out → NextLine limits got a b → b.at ≤ length b.out
next_room h (answered T C) = omega (arith, reply_room h C, reply_size h C)
next_room h (goes_on T) = omega arith

pub feed_room : {limits : Bool} {got : List ℕ} {a b : Stand} → FeedClaim limits got a b → a.at ≤ length a.out → b.at ≤ length b.out
feed_room (stops h) k = k
feed_room (lines_on g t f) k = feed_room f (next_room g.1 t)

-- ---- the end of the input

module _ {limits : Bool} {l o : List ℕ} {w : QueueWords} where
  pub last_none : length l ≡ 0 → LastClaim limits l w o w o 0
  last_none h = record { none = λ z. (refl, refl, refl); some = λ z. absurd (omega arith) }

  pub last_line : {w' : QueueWords} {o' : List ℕ} {e : ℕ} → 0 < length l → LineClaim limits l w o 0 w' o' e → LastClaim limits l w o w' o' e
  last_line h C = record { none = λ z. absurd (omega arith); some = λ z. C }

  pub last_room : {w' : QueueWords} {o' : List ℕ} {e : ℕ} → LastClaim limits l w o w' o' e → e ≤ length o
  last_room C = by_cases (dec_lt 0 (length l)) (λ h. line_within (C.some h) (omega arith)) (λ h. omega (arith, (C.none (omega arith)).2))
