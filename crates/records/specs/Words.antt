-- The words of a store, when they are sound, their view, and what is kept of them.
use Rattle.std.specs.Prelude.{◌≡◌, ◌≢◌, List, ℕ, ◌*◌, ◌^◌, ◌≤◌, ◌<◌}
use Rattle.links.specs.Lists.{nobody}
use Rattle.links.specs.Links.{links, at}
use Rattle.places.specs.Places.{places, retired}
use Rattle.places.specs.Words.{place_words}
use Rattle.links.specs.Whole.{Kept, LinksKept}
use Rattle.wheel.specs.Wheel.{Rule}
use Rattle.wheel.specs.Midway.{Obeys}
use Rattle.wheel.specs.declared.Wheel.{Wheel}
use Rattle.wheel.specs.Words.{WheelWords, wheel_words, WheelWhole, words as wheeled, lists as listsIn, count as countIn, mark_of as markIn}
use Rattle.records.specs.View.{View, view_of}
use Rattle.records.specs.Records.{last_turn}
use Rattle.records.specs.Slices.{Slices, Fits, value_at, period_at}

pub record QueueWords : Type 0 where
  pub wheel : WheelWords
  pub values : List ℕ
  pub deadlines : List ℕ
  pub turns : List ℕ
  pub hand : ℕ
  pub until : ℕ

abbrev pub queue_words : WheelWords → List ℕ → List ℕ → List ℕ → ℕ → ℕ → QueueWords
queue_words w vs ds ts h u = record { wheel = w; values = vs; deadlines = ds; turns = ts; hand = h; until = u }

-- as the public calls have them, with the wheel by value
abbrev pub words : Wheel → List (List ℕ) → List ℕ → List ℕ → List ℕ → List ℕ → List ℕ → List ℕ → QueueWords
words w hh vs ds ns ps ts ms =
    queue_words (wheel_words w.elapsed w.occupied (place_words w.tops hh (links ns ps ms))) vs ds ts w.hand w.until

-- and as the functions below them have them, in parts, with no poll in hand
abbrev pub parts : ℕ → List ℕ → List ℕ → List (List ℕ) → List ℕ → List ℕ → List ℕ → List ℕ → List ℕ → List ℕ → QueueWords
parts e occ tops hh vs ds ns ps ts ms = queue_words (wheeled e occ tops hh ns ps ms) vs ds ts nobody 0

-- s with the drain of h in hand, of a poll at u
abbrev pub holding : ℕ → ℕ → QueueWords → QueueWords
holding h u s = queue_words s.wheel s.values s.deadlines s.turns h u

abbrev pub count : QueueWords → ℕ
count s = countIn s.wheel

abbrev pub elapsed : QueueWords → ℕ
elapsed s = s.wheel.elapsed

abbrev pub mark_of : QueueWords → ℕ → ℕ
mark_of s i = markIn s.wheel i

abbrev pub view : QueueWords → View
view s =
    view_of (count s) (elapsed s) (listsIn s.wheel) (value_at s.values) (period_at s.values) (at s.deadlines) (at s.turns)
    s.hand s.until

abbrev pub slices : QueueWords → Slices
slices s = record { values = s.values; deadlines = s.deadlines; links = s.wheel.places.links; turns = s.turns }

-- "A store is sound when every record is in exactly one place (free, retired, expired stack or one slot), links agree both ways, occupied bits name
-- exactly the non-empty slots, marks tell the true place, .. and N and turns are in range": all of it but the deadlines. One in no list is retired:
-- its mark says so, and it is "At turn 2^48-1": but for `item`, which is on its way from one list to another
pub record StandingBut (item : ℕ) (s : QueueWords) : Type 0 where
  pub fits : Fits (slices s) (count s)
  pub whole : WheelWhole s.wheel
  pub turns : (i : ℕ) → i < count s → (0 < at s.turns i) × (at s.turns i < 2 ^ 48)
  pub retired : (i : ℕ) → i < count s → i ≢ item → places ≤ mark_of s i → (mark_of s i ≡ retired) × (at s.turns i ≡ last_turn)

-- ".. all pending deadlines obey the rules below": 01's rule between calls, which holds while no poll is in hand
pub record SoundBut (item : ℕ) (s : QueueWords) : Type 0 where
  pub standing : StandingBut item s
  pub rule : Rule (at s.deadlines) (elapsed s) (listsIn s.wheel)

-- nobody is on its way
abbrev pub Standing : QueueWords → Type 0
Standing s = StandingBut nobody s

-- no poll is in hand, or one is
abbrev pub AtRest : QueueWords → Type 0
AtRest s = s.hand ≡ nobody

abbrev pub MidPoll : QueueWords → Type 0
MidPoll s = s.hand ≢ nobody

-- 02 [10]: "Soundness allows exactly the states that the rules of the poll in hand pass through .. in place of 01's level rule between calls." With no poll
-- in hand no now is remembered
pub record Sound (s : QueueWords) : Type 0 where
  pub standing : Standing s
  pub rule : Obeys (at s.deadlines) s.until s.hand (elapsed s) (listsIn s.wheel)
  pub no_now : AtRest s → s.until ≡ 0

-- "Words of a slice past what N records need are never changed by any call": those, and all lengths
pub record PastKept (n : ℕ) (s s' : QueueWords) : Type 0 where
  pub links : LinksKept n s.wheel.places.links s'.wheel.places.links
  pub values : Kept (2 * n) s.values s'.values
  pub deadlines : Kept n s.deadlines s'.deadlines
  pub turns : Kept n s.turns s'.turns
