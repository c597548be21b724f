-- The claim of `text`.
use Rattle.std.specs.Prelude.{List, ℕ}
use Rattle.writing.specs.Writing.{Fronts}
use Rattle.light.specs.declared.State.{State}
use Rattle.light.specs.declared.State.TheVariants as S
use Rattle.light.specs.Light.{shown, bad}

-- what is written when the lines have said this
abbrev pub text_of : State → List ℕ
text_of S.Nothing = bad
text_of (S.Slow s) = bad
text_of (S.Both s l g) = shown s l g
text_of S.Bad = bad

-- it goes to the front of what is lent, where that has room for it
abbrev pub TextClaim : State → List ℕ → ℕ → List ℕ → Type 0
TextClaim t = Fronts (text_of t)
