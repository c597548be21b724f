-- An answer in document 01's words: its number, and its values.
use Rattle.std.specs.Prelude.{◌≡◌, ℕ}
use Rattle.queue.specs.declared.Answer.{Answer}
use Rattle.queue.specs.declared.Answer.TheVariants as A

-- "Answers: `ok` (f, s, c), `key K`, `gone value deadline`, `out key value deadline moves drains`, `none moves drains`, `wake T` or `wake -`,
-- `len n`, `no number`." 02 [7]: "the answer says it was the last time". 02 [10]: "answers "not yet"", with its moves and drains
pub data Told : Type 0 where
  ok : Told
  key : ℕ → Told
  gone : ℕ → ℕ → Told
  out : ℕ → ℕ → ℕ → ℕ → ℕ → Told
  last : ℕ → ℕ → ℕ → ℕ → ℕ → Told
  none : ℕ → ℕ → Told
  yet : ℕ → ℕ → Told
  wake : ℕ → Told
  never : Told
  len : ℕ → Told
  no : ℕ → Told

abbrev pub told : Answer → Told
told A.Done = ok
told (A.Key k) = key k
told (A.Gone v d) = gone v d
told (A.Out k v d m n) = out k v d m n
told (A.Last k v d m n) = last k v d m n
told (A.Nothing m n) = none m n
told (A.NotYet m n) = yet m n
told (A.Wake t) = wake t
told A.NoWake = never
told (A.Length n) = len n
told (A.No n) = no n

-- what an answer hands out, for the last time or not: key, value and deadline, with its moves and drains
pub data Handed : Type 0 where
  timer : ℕ → ℕ → ℕ → ℕ → ℕ → Handed
  no_timer : Handed

abbrev pub handing : Told → Handed
handing ok = no_timer
handing (key k) = no_timer
handing (gone v d) = no_timer
handing (out k v d m n) = timer k v d m n
handing (last k v d m n) = timer k v d m n
handing (none m n) = no_timer
handing (yet m n) = no_timer
handing (wake t) = no_timer
handing never = no_timer
handing (len n) = no_timer
handing (no n) = no_timer

-- the answer hands out this key, value and deadline, with these moves and drains
abbrev pub Hands : Told → ℕ → ℕ → ℕ → ℕ → ℕ → Type 0
Hands x k v d moves drains = handing x ≡ timer k v d moves drains
