-- What the functions that place and free one record ask and leave. A record on its way is in no list, and not retired: the store is sound
-- but for it.
use Rattle.std.specs.Prelude.{◌≡◌, ◌≢◌, List, ℕ, ◌+◌, ◌^◌, ◌<◌, max, length, set}
use Rattle.times.specs.Times.{block}
use Rattle.links.specs.Lists.{nobody, change}
use Rattle.links.specs.Links.{at}
use Rattle.places.specs.Places.{free, retired, put}
use Rattle.wheel.specs.Words.{WheelWords, WheelWhole, Becomes, LooseIn, lists as listsIn, mark_of as markIn}
use Rattle.records.specs.View.{View}
use Rattle.records.specs.Records.{last_turn, Near, target}
use Rattle.records.specs.Words.{QueueWords, count, view, StandingBut, SoundBut, PastKept}

-- the store stands but for item and has the view v now, N and words past it are kept
pub record StandsBut (item : ℕ) (s : QueueWords) (v : View) (s' : QueueWords) : Type 0 where
  pub standing : StandingBut item s'
  pub view : view s' ≡ v
  pub size : count s' ≡ count s
  pub kept : PastKept (count s) s s'

-- and it is sound but for item
pub record GoesBut (item : ℕ) (s : QueueWords) (v : View) (s' : QueueWords) : Type 0 where
  pub sound : SoundBut item s'
  pub view : view s' ≡ v
  pub size : count s' ≡ count s
  pub kept : PastKept (count s) s s'

-- for nobody
abbrev pub Stands : QueueWords → View → QueueWords → Type 0
Stands s v s' = StandsBut nobody s v s'

abbrev pub Goes : QueueWords → View → QueueWords → Type 0
Goes s v s' = GoesBut nobody s v s'

-- the record i is there and in no list
abbrev pub LooseAt : QueueWords → ℕ → Type 0
LooseAt s i = LooseIn s.wheel i

-- ---- placed

-- w is over e, and in its block
abbrev pub HasSlot : ℕ → ℕ → Type 0
HasSlot e w = (e < w) × (block w ≡ block e)

-- what the code leaves: the entry in its list, its deadline in its word
pub record PlacesTo (t : WheelWords) (ds : List ℕ) (i when : ℕ) (t' : WheelWords) (ds' : List ℕ) : Type 0 where
  pub becomes : let p = target t.elapsed (max when t.elapsed) in Becomes t (change (listsIn t) p (put p i (listsIn t p))) t'
  pub deadlines : ds' ≡ set ds i (max when t.elapsed)

pub record CanPlace (t : WheelWords) (ds : List ℕ) (i when : ℕ) : Type 0 where
  pub whole : WheelWhole t
  pub item : LooseIn t i
  pub word : i < length ds
  pub near : Near t.elapsed when

-- ---- freed

pub record LeavesTo (t : WheelWords) (ts : List ℕ) (i : ℕ) (t' : WheelWords) (ts' : List ℕ) : Type 0 where
  pub retired : at ts i ≡ last_turn → Becomes t (listsIn t) t' × (markIn t' i ≡ retired) × (ts' ≡ ts)
  pub given : at ts i ≢ last_turn → Becomes t (change (listsIn t) free (put free i (listsIn t free))) t' × (ts' ≡ set ts i (at ts i + 1))

pub record CanFree (t : WheelWords) (ts : List ℕ) (i : ℕ) : Type 0 where
  pub whole : WheelWhole t
  pub item : LooseIn t i
  pub word : i < length ts
  pub turn : at ts i < 2 ^ 48
