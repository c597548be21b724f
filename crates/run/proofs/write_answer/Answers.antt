-- `write_answer`: what is copied are the words of the answer.
use mathlib.Core.Path.{◌≡◌, sym, ap, ◌∙◌}
use mathlib.Core.List.{List, ◌++◌}
use Prim.Native.Nat.{ℕ, ◌+◌, ◌-◌}
use native.Mathlib.Omega.{arith}
use lib.ListN.{take, drop}
use Rattle.std.proofs.Common.{append_assoc}
use Rattle.std.proofs.lemmas.List.{drop-drop}
use Rattle.queue.specs.Told.{told}
use Rattle.run.specs.Groups.{answer_words, Written}
use Rattle.run.proofs.write_answer.Goals as goal

pub returns : goal.returns
unfolding Written
returns c =
    let e : c.args.at + (c.args.at + 6 - c.args.at) ≡ c.args.at + 6 = omega arith in
    rw (c.copy_from_slice.ensures.after, c.words_of.ensures)
    (ap (λ (l : List ℕ). take c.args.at c.args.to.now ++ (answer_words (told c.args.answer) ++ l))
    (drop-drop _ c.args.at c.args.to.now ∙ ap (λ (k : ℕ). drop k c.args.to.now) e)
    ∙ sym (append_assoc (take c.args.at c.args.to.now) (answer_words (told c.args.answer)) (drop (c.args.at + 6) c.args.to.now)))
