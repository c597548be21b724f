-- What crosses to C as words: of a run, of the journal, of a flag, of a gauge and its light, and of what an inspector keeps from line to line.
use Rattle.std.specs.Prelude.{◌≡◌, Bool, cond, not, List, [], ◌∷◌, ℕ, eqb, Float, Result, Ok, Err}
use Rattle.links.specs.Links.{at}
use Rattle.queue.specs.declared.Answer.{Answer}
use Rattle.queue.specs.Told.{told}
use Rattle.queue.specs.Told as T
use Rattle.run.specs.declared.Why.{Why}
use Rattle.run.specs.declared.Why.TheVariants as W
use Rattle.run.specs.Groups.{answer_words}
use Rattle.entries.specs.declared.Ending.{Ending}
use Rattle.entries.specs.declared.Ending.TheVariants as E
use Rattle.journal.specs.Journal.{unwritten}
use Rattle.gauge.specs.declared.Gauge.{Gauge}
use Rattle.gauge.specs.declared.Light.{Light}
use Rattle.gauge.specs.declared.Light.TheVariants as L
use Rattle.gauge.specs.Gauge.{nought, AnswerClaim}
use Rattle.inspector.specs.declared.State.{State}
use Rattle.inspector.specs.declared.State.TheVariants as S

-- ---- a run

-- in the order of `Why`
abbrev pub why_word : Why → ℕ
why_word W.NoWords = 0
why_word W.NoCommand = 1
why_word W.NoRoom = 2

-- ---- the journal

-- a call that answers a is written just where one is whose answer has the words w
abbrev pub WrittenAs : List ℕ → Answer → Type 0
WrittenAs w a = (x : T.Told) → w ≡ answer_words x → unwritten (told a) ≡ unwritten x

-- in the order of `Ending`, and the number that a step gets
abbrev pub ending_words : Ending → List ℕ
ending_words E.Cut = 0 ∷ 0 ∷ []
ending_words E.Kind = 1 ∷ 0 ∷ []
ending_words E.Zero = 2 ∷ 0 ∷ []
ending_words E.Pair = 3 ∷ 0 ∷ []
ending_words (E.Gets n) = 4 ∷ n ∷ []

-- ---- a flag

-- a word that is not 0 is a yes
abbrev pub is_set : ℕ → Bool
is_set n = not (eqb n 0)

-- the word of a flag that is to say b: the word n that it has, if that says so already, and else 1 or 0
unfoldable pub flag_word : ℕ → Bool → ℕ
flag_word n b = cond b (cond (is_set n) n 1) 0

-- a flag's word is another only where it says another thing, and then it is 1 or 0
abbrev pub FlagKept : ℕ → ℕ → Type 0
FlagKept n n' = n' ≡ flag_word n (is_set n')

-- ---- the gauge

abbrev pub gauge_of : Float → Float → ℕ → Gauge
gauge_of smoothed worst any = record { smoothed = smoothed; worst = worst; any = is_set any }

-- what is noted of six words: what is noted of the answer whose words they are; and nothing of words that are no answer's
pub record NoteClaim (g : Gauge) (now : ℕ) (w : List ℕ) (g' : Gauge) : Type 0 where
  pub answered : (x : T.Told) → w ≡ answer_words x → AnswerClaim g now x g'
  pub otherwise : ((x : T.Told) → w ≡ answer_words x → ⊥) → g' ≡ g

-- calm, slow, late, or refused and its number
abbrev pub light_words : Result Light ℕ → List ℕ
light_words (Ok L.Calm) = 0 ∷ 0 ∷ []
light_words (Ok (L.Slow x)) = 1 ∷ 0 ∷ []
light_words (Ok (L.Late x)) = 2 ∷ 0 ∷ []
light_words (Err n) = 3 ∷ n ∷ []

-- what the light carries, and else 0
abbrev pub light_value : Result Light ℕ → Float
light_value (Ok L.Calm) = nought
light_value (Ok (L.Slow x)) = x
light_value (Ok (L.Late x)) = x
light_value (Err n) = nought

-- ---- the inspector

-- 0, how many are pending, the clock and the number of lines; or 1 and the number of the first line that was bad
abbrev pub state_words : State → List ℕ
state_words (S.Good n clock m) = 0 ∷ n ∷ clock ∷ m ∷ []
state_words (S.Bad m) = 1 ∷ m ∷ 0 ∷ 0 ∷ []

-- what any four words say
unfoldable pub state_of : List ℕ → State
state_of w = cond (eqb (at w 0) 0) (S.Good (at w 1) (at w 2) (at w 3)) (S.Bad (at w 1))
