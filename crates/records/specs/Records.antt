-- Records and their keys, and what happens to one record, in document 01's words. What stands between quotation marks is its text.
use Rattle.std.specs.Prelude.{◌≡◌, ◌⊎◌, cond, List, ℕ, ◌+◌, ◌-◌, ◌*◌, ◌/◌, ◌%◌, ◌^◌, ◌≤◌, ◌<◌, max, eqb}
use Rattle.times.specs.Times.{max_duration, block}
use Rattle.links.specs.Lists.{Mem, without, change}
use Rattle.places.specs.Places.{parking, expired, free, put}
use Rattle.wheel.specs.Wheel.{place_for}
use Rattle.records.specs.View.{View, with_lists, with_deadline, with_turn, upd}

-- ---- keys and records

-- "A key is a u64 of packed fields, most significant first: turn in 48 bits, record number in 16."
abbrev pub packed : ℕ → ℕ → ℕ
packed turn number = turn * 65536 + number

abbrev pub turn_in : ℕ → ℕ
turn_in key = key / 65536

abbrev pub number_in : ℕ → ℕ
number_in key = key % 65536

-- the key of the record r
abbrev pub key_of : View → ℕ → ℕ
key_of v r = packed (v.turn r) r

-- "At turn 2^48-1 it is retired instead."
abbrev pub last_turn : ℕ
last_turn = 2 ^ 48 - 1

-- r waits in the place p, a slot, the parking list or the expired stack
pub record At (v : View) (r p : ℕ) : Type 0 where
  pub timed : p < free
  pub member : Mem r (v.lists p)

-- refusal 6 is not given: the key names the record r, which is below N and pending, and whose turn is the key's
pub record Names (v : View) (key r p : ℕ) : Type 0 where
  pub number : r ≡ number_in key
  pub below : r < v.n
  pub pending : At v r p
  pub turn : v.turn r ≡ turn_in key

-- ---- refusal 4: "judged only when w is over e". 02 [12]: "Refusal 5 is then never given; 4 stays."

-- "deadline less elapsed is over 68,719,476,735"
abbrev pub TooFar : ℕ → ℕ → Type 0
TooFar e w = (e < w) × (max_duration < w - e)

abbrev pub Near : ℕ → ℕ → Type 0
Near e w = e < w → w - e ≤ max_duration

-- 02 [7]: "If refusals 4 or 5 would meet that deadline at the elapsed time after the hand-out, or it passes 2^64-1": a timer is not set again to w, which
-- is a number and no word. 5 meets none (02 [12])
abbrev pub NoMore : ℕ → ℕ → Type 0
NoMore e w = (2 ^ 64 ≤ w) ⊎ TooFar e w

-- ---- refusal 11

-- 02 [8]: "An insert or reset whose deadline is more than 3,600,000 below elapsed is refused with 11"; "It applies before raising to elapsed"
abbrev pub TooOld : ℕ → ℕ → Type 0
TooOld e w = w + 3600000 < e

-- the deadline w is taken at elapsed e: no refusal of a deadline is given
pub record Takes (e w : ℕ) : Type 0 where
  pub recent : TooOld e w → ⊥
  pub near : Near e w

-- ---- one record moves. 02 [7]: "a reset or leaving keeps the period"

-- the head of the free list is taken, and l is what is left of it
abbrev pub taken : List ℕ → View → View
taken l v = with_lists (change v.lists free l) v

-- r leaves the list of p
unfoldable pub left : ℕ → ℕ → View → View
left p r v = with_lists (change v.lists p (without r (v.lists p))) v

-- "Insert and reset first raise the deadline to elapsed if it is smaller. A deadline equal to elapsed goes on the expired stack, a later one"
-- to its slot, 02 [12]: "one parking list for deadlines in the next block"
unfoldable pub target : ℕ → ℕ → ℕ
target e w = cond (eqb w e) expired (cond (eqb (block w) (block e)) (place_for e w) parking)

-- "New entries .. now join a list's tail": `put`
unfoldable pub placed : ℕ → ℕ → View → View
placed r when v =
    let w = max when v.elapsed in
    let p = target v.elapsed w in
    with_lists (change v.lists p (put p r (v.lists p))) (with_deadline (upd v.deadline r w) v)

-- "A record that leaves (polled, removed, cleared) has its turn raised by one and is taken next. At turn 2^48-1 it is retired instead."
unfoldable pub freed : ℕ → View → View
freed r v = cond (eqb (v.turn r) last_turn) v (with_lists (change v.lists free (put free r (v.lists free)))
    (with_turn (upd v.turn r (v.turn r + 1)) v))
