-- Lines of document 01, so that the claims are seen to hold of something.
use mathlib.Core.Path.{◌≡◌, refl}
use mathlib.Core.List.{List, [], ◌∷◌, ◌++◌}
use Prim.Native.Nat.{ℕ}
use Prim.Native.Char.{code}
use native.Mathlib.Omega.{arith}
use Rattle.queue.specs.declared.Answer.{Answer}
use Rattle.queue.specs.declared.Answer.TheVariants as A
use Rattle.decimals.specs.Text.{bytes, worth}
use Rattle.decimals.proofs.laws.Plain.{every, Plain, text, values, spaced}
use Rattle.answering.specs.Text.{word, shown, ending, Written}

-- the fields of a line, as the numbers of an answer
written : (a : Answer) (ds : List (List ℕ)) → values ds ≡ shown a → Plain ds
    → Written (word a) (shown a) (ending a) (word a ++ (text ds ++ (ending a ++ code "\n" ∷ [])))
written a ds e p = record { rest = text ds; fields = rw e at (spaced ds p); line = refl }

out : Written (word (A.Out 65536 7 70 2 1)) (shown (A.Out 65536 7 70 2 1)) [] (bytes "out 65536 7 70 2 1\n")
unfolding worth every
out = written (A.Out 65536 7 70 2 1) (bytes "65536" ∷ bytes "7" ∷ bytes "70" ∷ bytes "2" ∷ bytes "1" ∷ []) refl (omega arith)

last : Written (word (A.Last 65536 7 70 2 1)) (shown (A.Last 65536 7 70 2 1)) (ending (A.Last 65536 7 70 2 1)) (bytes "out 65536 7 70 2 1 last\n")
unfolding worth every
last = written (A.Last 65536 7 70 2 1) (bytes "65536" ∷ bytes "7" ∷ bytes "70" ∷ bytes "2" ∷ bytes "1" ∷ []) refl (omega arith)

nothing_due : Written (word (A.Nothing 0 0)) (shown (A.Nothing 0 0)) [] (bytes "none 0 0\n")
unfolding worth every
nothing_due = written (A.Nothing 0 0) (bytes "0" ∷ bytes "0" ∷ []) refl (omega arith)

not_yet : Written (word (A.NotYet 1 0)) (shown (A.NotYet 1 0)) [] (bytes "yet 1 0\n")
unfolding worth every
not_yet = written (A.NotYet 1 0) (bytes "1" ∷ bytes "0" ∷ []) refl (omega arith)

no_wake : Written (word A.NoWake) (shown A.NoWake) [] (bytes "wake -\n")
no_wake = written A.NoWake [] refl tt
