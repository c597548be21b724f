-- `turn_patch` meets its claim (`patched`).
use mathlib.Core.Path.{◌≡◌, sym, ap, ◌∙◌}
use mathlib.Core.List.{List}
use Prim.Native.Nat.{ℕ}
use lib.ListN.{length}
use Rattle.queue.specs.Told.{told}
use Rattle.entries.specs.declared.Step.{Step}
use Rattle.journal.specs.Journal.{written}
use Rattle.ngawdrelo.specs.Inner.{patch_step}
use Rattle.ngawdrelo.proofs.laws.Face.{patched}
use Rattle.ngawdrelo.proofs.turn_patch.Goals as goal
use Rattle.ngawdrelo.proofs.turn_patch.Goals.{then-so, else-so}

pub returns : goal.returns
returns c =
    let a = c.patched-said.result in
    let e : c.if-so.step ≡ patch_step c.args.so =
    elim c.if-so.branch [ then-so w ↦ w.step-is ∙ ap patch_step (sym w.if-so.true) | else-so w ↦ w.step-is ∙ ap patch_step (sym w.if-so.false) ]
    in
    patched _ c.args.so a c.words_of.ensures c.patched-said.ensures
    (c.note-noted.ensures ∙ ap (λ (x : Step). written x (told a)) e) c.padded.ensures (ap (λ (l : List ℕ). length l) c.as_slice.ensures) c.flag_word.ensures
