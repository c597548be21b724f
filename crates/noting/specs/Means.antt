-- What a line says to a store with a journal: the lines of the bench, that of a poll with a limit, and two for patches.
use Rattle.std.specs.Prelude.{◌≡◌, List, [], ◌∷◌, ℕ, Option, Some, None}
use Rattle.delay_queue.specs.declared.Call.{Call}
use Rattle.decimals.specs.Text.{bytes}
use Rattle.asking.specs.Text.{Says}
use Rattle.entries.specs.declared.Step.{Step}
use Rattle.entries.specs.declared.Step.TheVariants as S

-- the line l, without its newline, says the step x: `o` opens a patch, `e` ends it, and each call has its line
pub data Means (l : List ℕ) : Step → Type 0 where
  opens : l ≡ bytes "o" → Means l S.Open
  ends : l ≡ bytes "e" → Means l S.Close
  asks : {c : Call} → Says l c → Means l (S.Asks c)

-- it says none
abbrev pub Bad : List ℕ → Type 0
Bad l = (x : Step) → Means l x → ⊥

-- what is to be read in the line l
pub data SaidClaim (l : List ℕ) : Option Step → Type 0 where
  is : {x : Step} → Means l x → SaidClaim l (Some x)
  bad : Bad l → SaidClaim l None

-- the steps of the lines that say one, in their order
pub data Meant : List (List ℕ) → List Step → Type 0 where
  none : Meant [] []
  step : {l : List ℕ} {x : Step} {ls : List (List ℕ)} {xs : List Step} → Means l x → Meant ls xs → Meant (l ∷ ls) (x ∷ xs)
  passed : {l : List ℕ} {ls : List (List ℕ)} {xs : List Step} → Bad l → Meant ls xs → Meant (l ∷ ls) xs
