-- Words of the promise on order: what a poll does to the lists, among equal deadlines.
use Rattle.std.specs.Prelude.{◌≡◌, Bool, cond, List, [], ◌∷◌, ℕ, ◌<◌, eqb}
use Rattle.times.specs.Times.{slot_of}
use Rattle.places.specs.Places.{slot_place, expired}
use Rattle.queue.specs.Told.{Told, Hands}
use Rattle.records.specs.View.{View}
use Rattle.records.specs.Records.{key_of, Names}

-- ---- what is said

-- those of a list that pass, in their order
abbrev pub keep : (ℕ → Bool) → List ℕ → List ℕ
keep f [] = []
keep f (x ∷ l) = cond (f x) (x ∷ keep f l) (keep f l)

-- those with the deadline w
abbrev pub of_deadline : (ℕ → ℕ) → ℕ → List ℕ → List ℕ
of_deadline d w l = keep (λ x. eqb (d x) w) l

-- "moved" to "its slot one level down": from a list of height k + 1, x goes to the place r
abbrev pub goes_to : (ℕ → ℕ) → ℕ → ℕ → ℕ → Bool
goes_to d k r x = eqb (slot_place k (slot_of (d x) k)) r

-- ---- a poll of the queue

-- "Order among equals": they leave in the order of the lists
pub record PollOrder (v : View) (x : Told) (u : View) : Type 0 where
  -- "Poll pops the expired stack if it isn't empty: elapsed, moves and drains stay as they are, counted 0": its head goes first
  pub popped : (r : ℕ) (l : List ℕ) → v.lists expired ≡ r ∷ l
      → (Hands x (key_of v r) (v.value r) (v.deadline r) 0 0) × (u.lists expired ≡ l) × (u.elapsed ≡ v.elapsed)
  -- "At level 0 the head is handed out": what lay at level 0 was the head of its slot
  pub head : (k w d m n r p : ℕ) → Hands x k w d m n → Names v k r p → p < 64 → (l : List ℕ) × (v.lists p ≡ r ∷ l) × (u.lists p ≡ l)
  -- what lay in any slot, or was parked (02 [12]), was the first of its equals there, and the others lie at level 0 now, in their order
  pub equals : (k w d m n r p : ℕ) → Hands x k w d m n → Names v k r p → p < expired
      → (q : ℕ) × (q < 64) × (of_deadline v.deadline d (v.lists p) ≡ r ∷ of_deadline u.deadline d (u.lists q))
