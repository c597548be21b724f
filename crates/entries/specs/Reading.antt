-- What bytes say: the step that they begin with, or why there is none.
use Rattle.std.specs.Prelude.{◌≡◌, Bool, true, cond, ◌&&◌, ◌||◌, List, [], ◌∷◌, ℕ, ◌+◌, ◌*◌, ◌/◌, ◌%◌, ◌<◌, eqb, ltb, length, take, drop}
use Rattle.std.specs.Prelude.{Result, Ok, Err}
use Rattle.delay_queue.specs.declared.Call.TheVariants as C
use Rattle.entries.specs.declared.Ending.{Ending}
use Rattle.entries.specs.declared.Step.{Step}
use Rattle.entries.specs.declared.Step.TheVariants as S
use Rattle.entries.specs.declared.Ending.TheVariants as E
use Rattle.entries.specs.declared.Entry.{Entry}

-- ---- bytes

-- each is a byte
abbrev pub Bytes : List ℕ → Type 0
Bytes [] = Unit
Bytes (b ∷ l) = (b < 256) × Bytes l

-- bytes as a number, "most significant first", behind others whose number is acc
unfoldable pub worth : ℕ → List ℕ → ℕ
worth acc [] = acc
worth acc (b ∷ l) = worth (acc * 256 + b) l

-- the n bytes of l from at on, as a number
unfoldable pub word_at : ℕ → ℕ → List ℕ → ℕ
word_at n at l = worth 0 (take n (drop at l))

-- ---- an entry

-- "kind in 4 bits, 12 zero bits, two 64-bit fields": what the first 18 bytes hold there
unfoldable pub entry_in : List ℕ → Entry
entry_in l =
    let head = word_at 2 0 l in
    record { kind = head / 4096; spare = head % 4096; a = word_at 8 2 l; b = word_at 8 10 l }

-- ---- damage that an entry shows by itself

-- "a bad kind": there are 1 to 11
abbrev pub known : ℕ → Bool
known k = ltb 0 k && ltb k 12

-- "6 to 8 carry two zeros"
abbrev pub bare : ℕ → ℕ → Bool
bare a b = eqb a 0 && eqb b 0

-- "4 remove (key, 0), 5 poll (now, 0)", "10 (period over 0, 0)": the second field is 0. Of 1, 2, 3, 9 and 11 both are free
abbrev pub field_zeros : ℕ → ℕ → ℕ → Bool
field_zeros k a b = cond (eqb k 4 || eqb k 5 || eqb k 10) (eqb b 0) (cond (eqb k 6 || eqb k 7 || eqb k 8) (bare a b) true)

-- no "1 where zero is due", in the 12 bits or in the fields
unfoldable pub zeros : Entry → Bool
zeros e = eqb e.spare 0 && field_zeros e.kind e.a e.b

-- a bad kind is named before a 1 where zero is due, and both before what the entry says with others
unfoldable pub checked : {A : Type 0} → Entry → Result A Ending → Result A Ending
checked e x = cond (known e.kind) (cond (zeros e) x (Err E.Zero)) (Err E.Kind)

-- ---- a step

-- "A repeating insert is kind 9 (value, when) followed at once by kind 10 (period over 0, 0), one call together": of kind 9 and the entry
-- behind it
unfoldable pub pair_of : Entry → Entry → Result Step Ending
pair_of e p = cond (eqb p.kind 10 && ltb 0 p.a) (Ok (S.Asks (C.Insert e.a e.b p.a))) (Err E.Pair)

-- "A kind 9 that ends the file without its kind 10 is a cut", as what is left of an entry is
unfoldable pub repeating : Entry → List ℕ → Result Step Ending
repeating e l = cond (ltb (length l) 18) (Err E.Cut) (checked (entry_in l) (pair_of e (entry_in l)))

-- the step of an entry, where l stands behind it. Kind 10 alone is "a broken pair"
unfoldable pub step_of : Entry → List ℕ → Result Step Ending
step_of e l =
    cond (eqb e.kind 1) (Ok (S.Asks (C.Format e.a e.b)))
    (cond (eqb e.kind 2) (Ok (S.Asks (C.Insert e.a e.b 0)))
    (cond (eqb e.kind 3) (Ok (S.Asks (C.Reset e.a e.b)))
    (cond (eqb e.kind 4) (Ok (S.Asks (C.Remove e.a)))
    (cond (eqb e.kind 5) (Ok (S.Asks (C.Poll e.a)))
    (cond (eqb e.kind 6) (Ok (S.Asks C.Clear))
    (cond (eqb e.kind 7) (Ok S.Open)
    (cond (eqb e.kind 8) (Ok S.Close)
    (cond (eqb e.kind 9) (repeating e l)
    (cond (eqb e.kind 11) (Ok (S.Asks (C.PollSome e.a e.b))) (Err E.Pair))))))))))

-- what l begins with: fewer than 18 bytes are a cut, whatever they are
unfoldable pub next : List ℕ → Result Step Ending
next l = cond (ltb (length l) 18) (Err E.Cut) (checked (entry_in l) (step_of (entry_in l) (drop 18 l)))

-- ---- a cut

-- what is left of a step where the file is cut: fewer than 18 bytes, whatever they are, or a kind 9 with its zeros and fewer than 18 bytes,
-- whatever they are, behind it: "A kind 9 that ends the file without its kind 10 is a cut"
pub data Unfinished (l : List ℕ) : Type 0 where
  part : length l < 18 → Unfinished l
  half : (entry_in l).kind ≡ 9 → zeros (entry_in l) ≡ true → length l < 36 → Unfinished l
