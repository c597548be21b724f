-- What an entry of a log asks of those before it, in document 02's words.
use Rattle.std.specs.Prelude.{◌≡◌, List, [], ◌∷◌, ◌++◌, ℕ, ◌≤◌, ◌<◌, max, length}
use Rattle.inspector.specs.declared.Entry.{Entry}
use Rattle.inspector.specs.declared.Entry.TheVariants as E

pub record Timer : Type 0 where
  pub key : ℕ
  pub deadline : ℕ

abbrev pub timer : ℕ → ℕ → Timer
timer k d = record { key = k; deadline = d }

-- what the entries so far leave: the timers that are pending, whose order says nothing, and "the inspector's clock"
pub record Store : Type 0 where
  pub pending : List Timer
  pub clock : ℕ

abbrev pub store : List Timer → ℕ → Store
store p c = record { pending = p; clock = c }

-- "0 at first"
abbrev pub start : Store
start = store [] 0

abbrev pub Every : (Timer → Type 0) → List Timer → Type 0
Every P [] = Unit
Every P (t ∷ p) = P t × Every P p

-- key is not pending
abbrev pub Free : ℕ → List Timer → Type 0
Free key p = Every (λ t. t.key ≡ key → ⊥) p

-- key is pending, at this deadline, between these others
pub record Pends (key : ℕ) (p : List Timer) : Type 0 where
  pub front : List Timer
  pub deadline : ℕ
  pub behind : List Timer
  pub is : p ≡ front ++ timer key deadline ∷ behind
  pub first : Free key front

-- After the entries that leave s the entry e is right, and then s' is left, where at most m are to be pending.
-- "one more, a key already pending or a reset or remove of one that isn't is a bad line";
-- "A deadline below the inspector's clock .. is raised to it";
-- "every poll hands out a pending timer of least deadline, at most its now, or none when nothing is due".
-- The clock is "the largest now answered with none".
unfoldable pub Step : ℕ → Store → Entry → Store → Type 0
Step m s (E.Insert key when) s' =
    Free key s.pending × (length s.pending < m) × (s' ≡ store (s.pending ++ timer key (max when s.clock) ∷ []) s.clock)
Step m s (E.Reset key when) s' =
    (h : Pends key s.pending) × (s' ≡ store (h.front ++ timer key (max when s.clock) ∷ h.behind) s.clock)
Step m s (E.Remove key) s' = (h : Pends key s.pending) × (s' ≡ store (h.front ++ h.behind) s.clock)
Step m s (E.Out time key) s' =
    (h : Pends key s.pending) × (h.deadline ≤ time) × Every (λ t. h.deadline ≤ t.deadline) s.pending
    × (s' ≡ store (h.front ++ h.behind) s.clock)
Step m s (E.Nothing time) s' = Every (λ t. time < t.deadline) s.pending × (s' ≡ store s.pending (max s.clock time))
