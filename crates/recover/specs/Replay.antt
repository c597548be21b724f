-- What replay finds in bytes, and the store that it leaves, in document 02's words: for any bytes whatever.
use Rattle.std.specs.Prelude.{◌≡◌, Bool, true, false, List, ℕ, ◌+◌, length, drop, replicate, Ok, Err}
use Rattle.links.specs.Lists.{nobody}
use Rattle.places.specs.Heads.{tops_by}
use Rattle.wheel.specs.declared.Wheel.{Wheel}
use Rattle.queue.specs.declared.Answer.{Answer}
use Rattle.queue.specs.Told.{told}
use Rattle.queue.specs.Told as T
use Rattle.records.specs.Words.{QueueWords, words}
use Rattle.entries.specs.declared.Step.{Step}
use Rattle.entries.specs.declared.Ending.{Ending}
use Rattle.entries.specs.declared.Ending.TheVariants as E
use Rattle.entries.specs.Entries.{step_bytes}
use Rattle.entries.specs.Reading as read
use Rattle.journal.specs.Journal.{Acts, unwritten}

-- ---- "from no store"

-- the state that `no_store` hands back
abbrev pub no_wheel : Wheel
no_wheel =
    record { elapsed = 0; occupied = replicate 6 0; tops = tops_by 0 nobody nobody nobody; hand = nobody; until = 0 }

-- nobody is the head of any slot
unfoldable pub no_heads : List (List ℕ)
no_heads = replicate 6 (replicate 64 nobody)

abbrev pub without_store : List ℕ → List ℕ → List ℕ → List ℕ → List ℕ → List ℕ → QueueWords
without_store vs ds ns ps ts ms = words no_wheel no_heads vs ds ns ps ts ms

-- ---- what is found

-- "the length kept", where reading stopped and why, and the store
pub record Found : Type 0 where
  pub kept : ℕ
  pub at : ℕ
  pub ending : Ending
  pub store : QueueWords

abbrev pub found : ℕ → ℕ → Ending → QueueWords → Found
found kept at e t = record { kept = kept; at = at; ending = e; store = t }

abbrev pub size : Step → ℕ
size x = length (step_bytes x)

-- l is what is left from `at` on; p says whether a patch is open, and s is the store. kept is the place behind the last step after which
-- no patch was open, and t the store there: "replay keeps all of them, or none if the close is missing"
pub data Replays : List ℕ → ℕ → Bool → QueueWords → ℕ → QueueWords → Found → Type 0 where
  -- the bytes end, or "a bad kind, a 1 where zero is due, a broken pair": "it names the damage and answers as if cut there"
  stops : {l : List ℕ} {at : ℕ} {p : Bool} {s : QueueWords} {kept : ℕ} {t : QueueWords} {e : Ending} → read.next l ≡ Err e
      → Replays l at p s kept t (found kept at e t)
  -- "or a call that gets 1, 2 or 13"
  gets : {l : List ℕ} {at : ℕ} {p p' : Bool} {s s' : QueueWords} {kept : ℕ} {t : QueueWords} {x : Step} {a : Answer} {n : ℕ}
      → read.next l ≡ Ok x → Acts p s x a p' s' → told a ≡ T.no n → unwritten (told a) ≡ true
      → Replays l at p s kept t (found kept at (E.Gets n) t)
  -- a step of a patch that is not closed by it
  inside : {l : List ℕ} {at : ℕ} {p : Bool} {s s' : QueueWords} {kept : ℕ} {t : QueueWords} {x : Step} {a : Answer} {f : Found}
      → read.next l ≡ Ok x → Acts p s x a true s' → unwritten (told a) ≡ false
      → Replays (drop (size x) l) (at + size x) true s' kept t f
      → Replays l at p s kept t f
  -- a step outside a patch, or the close of one
  outside : {l : List ℕ} {at : ℕ} {p : Bool} {s s' : QueueWords} {kept : ℕ} {t : QueueWords} {x : Step} {a : Answer} {f : Found}
      → read.next l ≡ Ok x → Acts p s x a false s' → unwritten (told a) ≡ false
      → Replays (drop (size x) l) (at + size x) false s' (at + size x) s' f
      → Replays l at p s kept t f

-- all bytes, from s with no patch open
abbrev pub ReplayClaim : List ℕ → QueueWords → Found → Type 0
ReplayClaim l s f = Replays l 0 false s 0 s f
