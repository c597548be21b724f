-- What lines are answered with where there is a journal, and what they write to it: the claim of `answer_line` without the slices.
use Rattle.std.specs.Prelude.{Bool, List, [], ◌∷◌, ◌++◌, ℕ, ◌+◌, length}
use Rattle.queue.specs.declared.Answer.{Answer}
use Rattle.queue.specs.Told.{told}
use Rattle.records.specs.Words.{QueueWords}
use Rattle.decimals.specs.Text.{bytes}
use Rattle.answering.specs.Text.{word, shown, ending, Written}
use Rattle.entries.specs.declared.Step.{Step}
use Rattle.journal.specs.Journal.{Acts, written}
use Rattle.noting.specs.Means.{Means, Bad}

-- whether a patch is open, the store, and how many bytes the journal has
pub record Held : Type 0 where
  pub patch : Bool
  pub store : QueueWords
  pub size : ℕ

abbrev pub held : Bool → QueueWords → ℕ → Held
held p s n = record { patch = p; store = s; size = n }

-- the line l is answered with t and writes j to the journal, which makes b of a
pub data ReplyTo (l : List ℕ) (a : Held) : List ℕ → List ℕ → Held → Type 0 where
  step : {x : Step} {y : Answer} {p : Bool} {s : QueueWords} {t : List ℕ} → Means l x → Acts a.patch a.store x y p s
      → Written (word y) (shown y) (ending y) t
      → ReplyTo l a t (written x (told y)) (held p s (a.size + length (written x (told y))))
  bad : {t : List ℕ} → Bad l → Written (bytes "bad") [] [] t → ReplyTo l a t [] a

-- "answers each with one": lines one after the other, an answer each; what they write stands in their order, and all else runs along
pub data Replies : List (List ℕ) → Held → List ℕ → List ℕ → Held → Type 0 where
  none : {a : Held} → Replies [] a [] [] a
  reply : {l : List ℕ} {ls : List (List ℕ)} {a b c : Held} {t u j k : List ℕ} → ReplyTo l a t j b → Replies ls b u k c
      → Replies (l ∷ ls) a (t ++ u) (j ++ k) c

-- the line l is answered, which makes b of a
pub record LineAnswered (l : List ℕ) (a b : Held) : Type 0 where
  pub text : List ℕ
  pub bytes : List ℕ
  pub reply : ReplyTo l a text bytes b
