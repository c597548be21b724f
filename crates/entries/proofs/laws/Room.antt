-- Room, of which a part in front is written and the rest is blank.
use mathlib.Core.Path.{◌≡◌, sym, ap, ◌∙◌}
use mathlib.Core.List.{List}
use Prim.Native.Nat.{ℕ, ◌≤◌}
use native.Mathlib.Omega.{arith}
use lib.ListN.{length, take, drop, length-take}
use lib.Seq.{length-take-le}
use Rattle.writing.specs.Writing.{Wrote}
use Rattle.entries.specs.Writing.{blank}

-- what is written into blank room stands in front of it
abbrev pub Held : ℕ → List ℕ → Type 0
Held n l = (n ≤ length l) × (length l ≡ 36) × (drop n l ≡ drop n blank)

pub wrote_held : {s : List ℕ} {n : ℕ} {l : List ℕ} → Wrote blank 0 s n l → Held n l
unfolding blank
wrote_held {s} {n} {l} w = (omega (arith, w.end, ap (λ (m : List ℕ). length m) w.text, length-take n l), w.size, w.rest)

pub held_wrote : {s : List ℕ} {n : ℕ} {l : List ℕ} → s ≡ take n l → Held n l → Wrote blank 0 s (length s) l
unfolding blank
held_wrote {s} {n} {l} q h =
    let e : length s ≡ n = ap (λ (m : List ℕ). length m) q ∙ length-take-le n l h.0 in
    record {
      text = ap (λ (k : ℕ). take k l) e ∙ sym q;
      end = omega arith;
      rest = ap (λ (k : ℕ). drop k l) e ∙ h.2 ∙ ap (λ (k : ℕ). drop k blank) (sym e);
      size = h.1;
    }
