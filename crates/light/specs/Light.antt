-- What the program writes for the lines of its input, in document 02's words.
use Rattle.std.specs.Prelude.{◌≡◌, cond, List, [], ◌∷◌, ◌++◌, ℕ, ◌+◌, ◌≤◌, ltb}
use Prim.Native.Char.{code}
use Rattle.decimals.specs.Text.{bytes, Decimal}
use Rattle.writing.specs.Writing.{digits_of}
use Rattle.gauge.specs.declared.Gauge.{Gauge}
use Rattle.gauge.specs.declared.Light.{Light}
use Rattle.gauge.specs.declared.Light.TheVariants as L
use Rattle.gauge.specs.Gauge.{zeros, most, float_of}
use Rattle.gauge.specs.Light.{light_of}
use Rattle.gauge.specs.Bits.{bits_of}
use Rattle.gauge.specs.Many.{noted_all, floats}

-- ---- "A program reads decimals as on the bench, at most 4,294,967,295, one a line"

-- the lines are these numbers
abbrev pub Amounts : List (List ℕ) → List ℕ → Type 0
Amounts [] [] = Unit
Amounts [] (n ∷ ns) = ⊥
Amounts (l ∷ ls) [] = ⊥
Amounts (l ∷ ls) (n ∷ ns) = Decimal l n × (n ≤ most) × Amounts ls ns

-- ---- "It writes the light's word and the bits of smoothed and worst, 16 lower-case hex digits each."

abbrev pub word_of : Light → List ℕ
word_of L.Calm = bytes "calm"
word_of (L.Slow s) = bytes "slow"
word_of (L.Late w) = bytes "late"

-- 0 to 9, then a to f
abbrev pub digit_of : ℕ → ℕ
digit_of d = cond (ltb d 10) (code "0" + d) (87 + d)

-- the last k hex digits of n
abbrev pub hex_of : ℕ → ℕ → List ℕ
hex_of k n = digits_of digit_of 16 k n

unfoldable pub line_of : Light → ℕ → ℕ → List ℕ
line_of light smoothed worst = (word_of light ++ bytes " ") ++ (hex_of 16 smoothed ++ (bytes " " ++ (hex_of 16 worst ++ code "\n" ∷ [])))

-- the line of a gauge at two limits
unfoldable pub shown : ℕ → ℕ → Gauge → List ℕ
shown slow late g = line_of (light_of g (float_of slow) (float_of late)) (bits_of g.smoothed) (bits_of g.worst)

abbrev pub bad : List ℕ
bad = bytes "bad" ++ code "\n" ∷ []

-- "slow limit, late limit, latenesses", and "A bad or missing line writes `bad` alone": to the lines ls the text t is written
pub record Writes (ls : List (List ℕ)) (t : List ℕ) : Type 0 where
  pub right : (s l : ℕ) (ns : List ℕ) → Amounts ls (s ∷ l ∷ ns) → t ≡ shown s l (noted_all zeros (floats ns))
  pub bad : ((s l : ℕ) (ns : List ℕ) → Amounts ls (s ∷ l ∷ ns) → ⊥) → t ≡ bad
