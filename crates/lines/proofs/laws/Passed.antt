-- For a program's own loop over a chunk: lines that were taken, one step behind the other.
use mathlib.Core.Path.{◌≡◌, refl, sym, ap, ◌∙◌}
use mathlib.Core.Bool.{true, false}
use mathlib.Core.List.{List, [], ◌∷◌, ◌++◌, append_assoc}
use Prim.Native.Nat.{ℕ, ◌<◌}
use lib.ListN.{length, take, drop}
use lib.Seq.{drop-length}
use Rattle.lines.specs.Lines.{lines_from, firsts}
use Rattle.lines.specs.Taking.{TakeClaim}
use Rattle.lines.specs.Passed.{Passed}
use Rattle.lines.proofs.laws.Lines.{line_ends, chunk_ends}

pub passed_none : {m : ℕ} {k s : List ℕ} → Passed m k s [] k s
passed_none = record { first = λ t. refl }

pub passed_more : {m : ℕ} {k s : List ℕ} {ls ms : List (List ℕ)} {k₁ s₁ k' s' : List ℕ} → Passed m k s ls k₁ s₁ → Passed m k₁ s₁ ms k' s'
    → Passed m k s (ls ++ ms) k' s'
passed_more {m} {ls = ls} {ms = ms} {k' = k'} {s' = s'} a b =
    record {
      first = λ t.
          a.first t
          ∙ ap (λ (x : List (List ℕ)). ls ++ x) (b.first t)
          ∙ sym (append_assoc ls ms (firsts m (lines_from k' (s' ++ t))));
    }

module _ {got : List ℕ} {from : ℕ} {line : List ℕ} {n next kept : ℕ} {line' : List ℕ} (some : 0 < length line) where
  -- `take_line` has met a newline: nothing is kept of the next line
  pub passed_line : TakeClaim got from line n next kept true line'
      → Passed (length line) (take n line) (drop from got) (take kept line' ∷ []) [] (drop next got)
  passed_line T = record { first = line_ends (length line) some (T.whole refl) }

  -- it has met the end of the chunk
  pub passed_end : TakeClaim got from line n next kept false line'
      → Passed (length line) (take n line) (drop from got) [] (take kept line') (drop next got)
  passed_end T =
      let u = T.unfinished refl in
      let e : drop next got ≡ [] = ap (λ (x : ℕ). drop x got) u.0 ∙ drop-length got in
      record {
        first = λ t.
            chunk_ends (length line) some u.1 t
            ∙ ap (λ (x : List ℕ). firsts (length line) (lines_from (take kept line') (x ++ t))) (sym e);
      }
