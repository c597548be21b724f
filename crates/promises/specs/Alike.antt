-- Stores that differ in nothing that their N records have: only past N, and in how long the slices are.
use Rattle.std.specs.Prelude.{◌≡◌, true, List, [], ◌∷◌, ℕ, ◌*◌, ◌<◌, take}
use Rattle.links.specs.Links.{Links, links}
use Rattle.places.specs.Words.{place_words}
use Rattle.wheel.specs.Words.{wheel_words}
use Rattle.records.specs.Slices.{Fits}
use Rattle.records.specs.View.{View}
use Rattle.records.specs.Words.{QueueWords, queue_words, words, count, elapsed, slices, Sound}
use Rattle.queue.specs.declared.Answer.{Answer}
use Rattle.delay_queue.specs.declared.Call.{Call}
use Rattle.delay_queue.specs.Claims.{CallClaim}
use Rattle.promises.specs.OneCall.{zeros}
use Rattle.promises.specs.Past.{size_of}
use Rattle.promises.specs.Runs.{is_format}

-- the links of n records
abbrev pub links_to : ℕ → Links → Links
links_to n s = links (take n s.nexts) (take n s.prevs) (take n s.marks)

-- the store with each slice cut to "what N records need": two words of `values` a record, one of every other slice
unfoldable pub up_to : ℕ → QueueWords → QueueWords
up_to n s =
    let t = s.wheel.places in
    queue_words (wheel_words (elapsed s) s.wheel.occupied (place_words t.tops t.heads (links_to n t.links)))
    (take (2 * n) s.values) (take n s.deadlines) (take n s.turns) s.hand s.until

abbrev pub cut : QueueWords → QueueWords
cut s = up_to (count s) s

-- s and t differ in no word but "Words of a slice past what N records need"
pub record Alike (s t : QueueWords) : Type 0 where
  pub same : cut s ≡ cut t

-- two views that differ in nothing that N records have
pub record AlikeViews (v w : View) : Type 0 where
  pub size : v.n ≡ w.n
  pub elapsed : v.elapsed ≡ w.elapsed
  pub lists : v.lists ≡ w.lists
  pub value : (i : ℕ) → i < v.n → v.value i ≡ w.value i
  pub period : (i : ℕ) → i < v.n → v.period i ≡ w.period i
  pub deadline : (i : ℕ) → i < v.n → v.deadline i ≡ w.deadline i
  pub turn : (i : ℕ) → i < v.n → v.turn i ≡ w.turn i
  pub hand : v.hand ≡ w.hand
  pub until : v.until ≡ w.until

-- neither is sound, as it is where no format was accepted, or they are alike
pub data Matched (s t : QueueWords) : Type 0 where
  neither : (Sound s → ⊥) → (Sound t → ⊥) → Matched s t
  alike : Alike s t → Matched s t

-- ---- the same calls on two stores

-- a format's "lent slice is too short for N" in both or in neither; nothing is asked of any other call
abbrev pub SameRoom : Call → QueueWords → QueueWords → Type 0
SameRoom c s t = is_format c ≡ true
    → (Fits (slices s) (size_of c) → Fits (slices t) (size_of c)) × (Fits (slices t) (size_of c) → Fits (slices s) (size_of c))

-- whatever is called on two stores that R relates, the answers are the same, and what is left R relates again
abbrev pub Lasts : (QueueWords → QueueWords → Type 0) → Type 0
Lasts R =
    (c : Call) (s t s' t' : QueueWords) (a b : Answer) → R s t → SameRoom c s t → CallClaim c s a s' → CallClaim c t b t'
    → (a ≡ b) × R s' t'

-- ---- no store yet, as `blank` of `OneCall`, with a word more in each slice than one record needs

abbrev pub more : List ℕ
more = 0 ∷ 7 ∷ []

abbrev pub longer : QueueWords
longer = words zeros [] (0 ∷ more) more more more more more
