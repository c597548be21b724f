-- What insert, a move, a drain and a poll ask and leave, over the words.
use Rattle.std.specs.Prelude.{◌≡◌, ◌≢◌, cond, List, [], ◌∷◌, ℕ, suc, ◌-◌, ◌≤◌, ◌<◌, length, eqb}
use Rattle.std.proofs.Math.Option.{Option, none, some}
use Rattle.times.specs.Times.{block}
use Rattle.links.specs.Lists.{nobody, change}
use Rattle.links.specs.Links.{at}
use Rattle.places.specs.Places.{slot_place, expired}
use Rattle.places.specs.Whole as places
use Rattle.wheel.specs.Wheel.{Lists, arrive}
use Rattle.wheel.specs.Limited.{Outcome, ended, yet, Limited}
use Rattle.wheel.specs.Midway.{Obeys}
use Rattle.wheel.specs.Words.{WheelWords, lists, count, WheelWhole, Becomes, LooseIn}

-- ---- insert: the deadline lies in elapsed's block, so that its level is one of the six

pub record CanInsert (t : WheelWords) (w i : ℕ) : Type 0 where
  pub whole : WheelWhole t
  pub near : block t.elapsed ≡ block w
  pub item : LooseIn t i

-- ---- one move

-- slot s of level k, or the parking list, which is told as slot 0 of level 6
pub record CanTake (t : WheelWords) (k s : ℕ) : Type 0 where
  pub whole : WheelWhole t
  pub slot : s < 64
  pub below : slot_place k s < expired

-- above level 0, and the deadlines of all records at hand
pub record CanMove (t : WheelWords) (ds : List ℕ) (k s : ℕ) : Type 0 where
  pub pop : CanTake t k s
  pub high : 0 < k
  pub deadlines : count t ≤ length ds

-- the head of p goes to its slot of level k, one down; from an empty list nobody does
pub record MovesOne (d : ℕ → ℕ) (t : WheelWords) (k p item : ℕ) (t' : WheelWords) : Type 0 where
  pub none : lists t p ≡ [] → (item ≡ nobody) × Becomes t (lists t) t'
  pub some : (x : ℕ) (l : List ℕ) → lists t p ≡ x ∷ l → (item ≡ x) × Becomes t (arrive k (d x) x (change (lists t) p l)) t'

-- ---- a drain, move by move

-- so many moves out of p, a slot of level k + 1
pub data Shifts (d : ℕ → ℕ) (k p : ℕ) : Lists → ℕ → Lists → Type 0 where
  stays : {L : Lists} → Shifts d k p L 0 L
  shifts : {L M : Lists} {m x : ℕ} {l : List ℕ} → L p ≡ x ∷ l → Shifts d k p (arrive k (d x) x (change L p l)) m M
      → Shifts d k p L (suc m) M

-- p is drained with `limit` moves at most, and `left` more could have been: p is empty, or the limit is used up
pub record DrainsTo (d : ℕ → ℕ) (t : WheelWords) (k p limit left : ℕ) (t' : WheelWords) : Type 0 where
  pub within : left ≤ limit
  pub shifted : Shifts d k p (lists t) (limit - left) (lists t')
  pub becomes : Becomes t (lists t') t'
  pub stopped : left ≢ 0 → lists t' p ≡ []

-- ---- a poll, look by look

pub record CanPoll (t : WheelWords) (ds : List ℕ) (hand now : ℕ) : Type 0 where
  pub whole : WheelWhole t
  pub rule : Obeys (at ds) now hand t.elapsed (lists t)
  pub expired : lists t expired ≡ []
  pub not_back : hand ≡ nobody → t.elapsed ≤ now
  pub deadlines : count t ≤ length ds

-- a record number, or a place, as an answer
abbrev pub gotten : ℕ → Option ℕ
gotten i = cond (eqb i nobody) none (some i)

-- who is handed out, and whose drain is in hand, as an outcome
abbrev pub outcome : ℕ → ℕ → Outcome
outcome item hand = cond (eqb hand nobody) (ended (gotten item)) (yet hand)

-- t was polled with `limit` moves at most, from the drain of `hand` on, and is t' now, with the drain of `to` in hand
pub record PollsTo (d : ℕ → ℕ) (now limit hand : ℕ) (t : WheelWords) (item to moves drains : ℕ) (t' : WheelWords) : Type 0 where
  pub polls : Limited d now (gotten hand) limit t.elapsed (lists t) (outcome item to) moves drains t'.elapsed (lists t')
  pub whole : WheelWhole t'
  pub rule : Obeys d now to t'.elapsed (lists t')
  pub kept : places.PlacesKept t.places t'.places
  pub loose : item ≢ nobody → LooseIn t' item
