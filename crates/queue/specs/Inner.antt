-- What the inner functions leave: who is due out of its list, a record handed out, the number of pending ones, one record cleared; and what next wake
-- looks at.
use Rattle.std.specs.Prelude.{◌≡◌, ◌≢◌, List, [], ◌∷◌, ℕ, ◌≤◌, ◌<◌, ltb, length}
use Rattle.links.specs.Lists.{nobody}
use Rattle.links.specs.Links.{at}
use Rattle.links.specs.Count.{cnt}
use Rattle.places.specs.Places.{expired, free}
use Rattle.wheel.specs.Midway.{Obeys}
use Rattle.wheel.specs.Expiration.{Sees}
use Rattle.wheel.specs.Words.{WheelWords, WheelWhole, Pops, lists, count as countIn}
use Rattle.wheel.specs.Moves.{PollsTo}
use Rattle.queue.specs.declared.Answer.{Answer}
use Rattle.queue.specs.Told.{told}
use Rattle.records.specs.View.{View}
use Rattle.records.specs.Records.{At, left, freed}
use Rattle.queue.specs.Steps.{GoesOn}
use Rattle.records.specs.Words.{QueueWords, count, view, Standing, SoundBut, PastKept}
use Rattle.records.specs.Inner.{Stands}

-- ---- who is due leaves its list

pub record CanPollIdx (t : WheelWords) (ds : List ℕ) (hand now : ℕ) : Type 0 where
  pub whole : WheelWhole t
  pub rule : Obeys (at ds) now hand t.elapsed (lists t)
  pub not_back : hand ≡ nobody → t.elapsed ≤ now
  pub deadlines : countIn t ≤ length ds

-- the first of the expired stack; if there is none, whom the wheel hands out, if anybody, or the slot whose drain is in hand
pub data PollsIdx (d : ℕ → ℕ) (now limit hand : ℕ) (t : WheelWords) : ℕ → ℕ → ℕ → ℕ → WheelWords → Type 0 where
  of_expired : {item : ℕ} {t' : WheelWords} → Pops t expired item t' → item ≢ nobody → PollsIdx d now limit hand t item nobody 0 0 t'
  of_wheel : {first item to moves drains : ℕ} {u t' : WheelWords} → Pops t expired first u → first ≡ nobody
      → PollsTo d now limit hand u item to moves drains t' → PollsIdx d now limit hand t item to moves drains t'

-- 12 where another poll is in hand, 7 where the clock went back, and 0 just where it is neither
pub record PollNo (e hand until now r : ℕ) : Type 0 where
  pub other : hand ≢ nobody → now ≢ until → r ≡ 12
  pub back : hand ≡ nobody → now < e → r ≡ 7
  pub same : r ≡ 0 → hand ≢ nobody → now ≡ until
  pub later : r ≡ 0 → hand ≡ nobody → e ≤ now
  pub held : hand ≢ nobody → now ≡ until → r ≡ 0
  pub free : hand ≡ nobody → e ≤ now → r ≡ 0

-- ---- a loose record is handed out, and freed or placed again

pub record HandsOut (s : QueueWords) (i moves drains : ℕ) (a : Answer) (s' : QueueWords) : Type 0 where
  pub goes_on : GoesOn (view s) i moves drains (view s) (told a) (view s')
  pub sound : SoundBut nobody s'
  pub size : count s' ≡ count s
  pub kept : PastKept (count s) s s'

-- ---- next wake

-- the words that next wake is lent are those of v: its clock, what a look sees of its wheel, and the head of its expired stack, nobody if that is empty
pub record Shows (e : ℕ) (occ ds : List ℕ) (head parked : ℕ) (v : View) : Type 0 where
  pub elapsed : v.elapsed ≡ e
  pub wheel : Sees (at ds) e occ parked v.lists
  pub empty : head ≡ nobody → v.lists expired ≡ []
  pub first : head ≢ nobody → (l : List ℕ) × (v.lists expired ≡ head ∷ l)

-- ---- length

-- the records whose mark is a list of timers
unfoldable pub pending_in : (ℕ → ℕ) → ℕ → ℕ
pending_in mk n = cnt (λ i. ltb (mk i) free) n

-- ---- clear

-- a record that is pending leaves; another stays
pub record ClearsOne (s : QueueWords) (i : ℕ) (s' : QueueWords) : Type 0 where
  pub stays : ((p : ℕ) → At (view s) i p → ⊥) → s' ≡ s
  pub goes : (p : ℕ) → At (view s) i p → Stands s (freed i (left p i (view s))) s'
  pub gone : (p : ℕ) → At (view s') i p → ⊥
  pub others : (j p : ℕ) → At (view s') j p → At (view s) j p
  pub standing : Standing s'
  pub size : count s' ≡ count s
  pub kept : PastKept (count s) s s'
