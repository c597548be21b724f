-- Heads and links hold one family only (`fam_lists`).
use mathlib.Core.Path.{◌≡◌, refl, ap, fun_ext}
use mathlib.Core.Logic.{◌≢◌, inl, inr}
use mathlib.Core.List.{List, [], ◌∷◌}
use Prim.Native.Nat.{ℕ, zero, suc, ◌≤◌}
use native.Mathlib.Omega.{arith}
use lib.ListN.{length}
use borrow.Author.Tests.{eq-eqb, ne_eqb}
use Rattle.links.specs.Lists.{nobody, Mem, first_d, last_d}
use Rattle.links.specs.Segments.{Seg}
use Rattle.links.specs.Family.{Net, Fam}
use Rattle.links.proofs.laws.Family.{fam_some, fam_nodup}
use Rattle.links.proofs.laws.Count.{length_below}
use Rattle.links.specs.Walk.{walk, lists}

pub walk_is : (nx pv : ℕ → ℕ) (prev : ℕ) (l : List ℕ) (fuel h : ℕ) → h ≡ first_d nobody l → Seg nx pv prev l nobody
    → ((i : ℕ) → Mem i l → i ≢ nobody)
    → length l ≤ fuel → walk nx fuel h ≡ l
unfolding walk
walk_is nx pv prev [] zero h e s m k = refl
walk_is nx pv prev [] (suc f) h e s m k = rw (eq-eqb h nobody e)
walk_is nx pv prev (x ∷ l) zero h e s m k = absurd (omega arith)
walk_is nx pv prev (x ∷ l) (suc f) h e s m k =
    rw (e, ne_eqb x nobody (m x (inl refl)))
    (ap (λ (z : List ℕ). x ∷ z) (walk_is nx pv x l f (nx x) s.1 s.2 (λ i j. m i (inr j)) (omega arith)))

-- the lists of a family are those that a walk reads
pub fam_lists : {P n : ℕ} {s : Net} {L : ℕ → List ℕ} → Fam P n s L → lists s n ≡ L
unfolding lists
fam_lists {P} {n} {s} {L} F =
    fun_ext (λ p.
    walk_is s.nx s.pv (last_d nobody (L p)) (L p) n (s.hd p) (F.heads p) (F.segs p) (fam_some F p)
    (length_below (L p) n (fam_nodup F p) (λ i m. (F.mems p i m).below)))
