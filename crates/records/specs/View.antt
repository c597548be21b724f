-- A store as the papers speak of it: elapsed, the list of each place, each record's value, period, deadline and turn, and the poll in hand.
use Rattle.std.specs.Prelude.{cond, ℕ, eqb}
use Rattle.wheel.specs.Wheel.{Lists}

pub record View : Type 0 where
  pub n : ℕ
  pub elapsed : ℕ
  pub lists : Lists
  pub value : ℕ → ℕ
  -- 02 [7]: "A record gains a period, 0 for none."
  pub period : ℕ → ℕ
  pub deadline : ℕ → ℕ
  pub turn : ℕ → ℕ
  -- 02 [10]: "The store remembers the drain in hand and its now": the slot, or nobody, and the poll's now
  pub hand : ℕ
  pub until : ℕ

abbrev pub view_of : ℕ → ℕ → Lists → (ℕ → ℕ) → (ℕ → ℕ) → (ℕ → ℕ) → (ℕ → ℕ) → ℕ → ℕ → View
view_of n e L v p d t h u = record { n = n; elapsed = e; lists = L; value = v; period = p; deadline = d; turn = t; hand = h; until = u }

-- one thing changed, the rest kept
abbrev pub with_elapsed : ℕ → View → View
with_elapsed e v = view_of v.n e v.lists v.value v.period v.deadline v.turn v.hand v.until

abbrev pub with_lists : Lists → View → View
with_lists L v = view_of v.n v.elapsed L v.value v.period v.deadline v.turn v.hand v.until

abbrev pub with_value : (ℕ → ℕ) → View → View
with_value f v = view_of v.n v.elapsed v.lists f v.period v.deadline v.turn v.hand v.until

abbrev pub with_period : (ℕ → ℕ) → View → View
with_period f v = view_of v.n v.elapsed v.lists v.value f v.deadline v.turn v.hand v.until

abbrev pub with_deadline : (ℕ → ℕ) → View → View
with_deadline f v = view_of v.n v.elapsed v.lists v.value v.period f v.turn v.hand v.until

abbrev pub with_turn : (ℕ → ℕ) → View → View
with_turn f v = view_of v.n v.elapsed v.lists v.value v.period v.deadline f v.hand v.until

-- with the drain of h in hand, of a poll at u
abbrev pub with_hand : ℕ → ℕ → View → View
with_hand h u v = view_of v.n v.elapsed v.lists v.value v.period v.deadline v.turn h u

-- f with x at i
unfoldable pub upd : (ℕ → ℕ) → ℕ → ℕ → ℕ → ℕ
upd f i x j = cond (eqb j i) x (f j)
