-- The claim of `take_line` leaves no choice: a line ends at the first newline, so there is one way to cut it off.
use mathlib.Core.Path.{◌≡◌, refl, sym, ap, ap₂, ◌∙◌}
use mathlib.Core.Bool.{Bool, true, false}
use mathlib.Core.List.{List, [], ◌∷◌, ◌++◌, nil≢cons, head-eq_of_cons-eq, tail-eq_of_cons-eq}
use Prim.Native.Nat.{ℕ, ◌≤◌, ◌<◌}
use native.Mathlib.Omega.{arith}
use lib.ListN.{length, take, drop, length-append, length-take, length-drop, take-append-drop}
use Rattle.lines.specs.Lines.{newline, Plain}
use Rattle.lines.specs.Taking.{Part, TakeClaim}

-- nothing, or a newline first
abbrev Ends : List ℕ → Type 0
Ends [] = Unit
Ends (b ∷ l) = b ≡ newline

stuck : (b : ℕ) (l r s : List ℕ) → Plain (b ∷ l) → Ends r → r ≡ b ∷ l ++ s → ⊥
stuck b l [] s p u e = nil≢cons e
stuck b l (c ∷ r) s p u e = p.0 (sym (head-eq_of_cons-eq e) ∙ u)

cut : (p q r s : List ℕ) → Plain p → Plain q → Ends r → Ends s → p ++ r ≡ q ++ s → (p ≡ q) × (r ≡ s)
cut [] [] r s a b u v e = (refl, e)
cut [] (c ∷ q) r s a b u v e = absurd (stuck c q r s b u e)
cut (c ∷ p) [] r s a b u v e = absurd (stuck c p s r a v (sym e))
cut (c ∷ p) (d ∷ q) r s a b u v e =
    let k = cut p q r s a.1 b.1 u v (tail-eq_of_cons-eq e) in
    (ap₂ (λ (x : ℕ) (l : List ℕ). x ∷ l) (head-eq_of_cons-eq e) k.0, k.1)

-- two parts of one line: the same is kept, and the same is left
one_part : {m : ℕ} {k s k' k'' s' s'' : List ℕ} → Ends s' → Ends s'' → Part m k s k' s' → Part m k s k'' s'' → (k' ≡ k'') × (s' ≡ s'')
one_part {m} {k} {s} {k'} {k''} {s'} {s''} u v a b =
    let e = cut a.part b.part s' s'' a.plain b.plain u v (sym a.taken ∙ b.taken) in
    (a.kept ∙ ap (λ (x : List ℕ). take m (k ++ x)) e.0 ∙ sym b.kept, e.1)

same_place : (got : List ℕ) {i j : ℕ} → i ≤ length got → j ≤ length got → drop i got ≡ drop j got → i ≡ j
same_place got {i} {j} h k e = omega (arith, ap (λ (x : List ℕ). length x) e, length-drop i got, length-drop j got)

-- the room is what is kept in it, and what stood behind it
same_room : (line l m : List ℕ) (i j : ℕ) → i ≤ length line → j ≤ length line → length l ≡ length line → length m ≡ length line
    → take i l ≡ take j m
    → drop i l ≡ drop i line → drop j m ≡ drop j line → (i ≡ j) × (l ≡ m)
same_room line l m i j h k p q e r s =
    let n : i ≡ j = omega (arith, ap (λ (x : List ℕ). length x) e, length-take i l, length-take j m) in
    let f : drop i l ≡ drop j m = r ∙ ap (λ (x : ℕ). drop x line) n ∙ sym s in
    (n, sym (take-append-drop i l) ∙ ap₂ (λ (x y : List ℕ). x ++ y) e f ∙ take-append-drop j m)

-- two outcomes that both keep the claim are the same
pub take_once : {got : List ℕ} {from : ℕ} {line : List ℕ} {n i j k l : ℕ} (a b : Bool) {line' line'' : List ℕ}
    → TakeClaim got from line n i k a line' → TakeClaim got from line n j l b line''
    → (i ≡ j) × (k ≡ l) × (a ≡ b) × (line' ≡ line'')
take_once {got} {line = line} {k = k} {l = l} true true {line'} {line''} x y =
    let p = one_part refl refl (x.whole refl) (y.whole refl) in
    let r = same_room line line' line'' k l x.fits y.fits x.size y.size p.0 x.rest y.rest in
    (same_place got x.within y.within (tail-eq_of_cons-eq p.1), r.0, refl, r.1)
take_once true false x y = absurd (nil≢cons (sym (one_part refl tt (x.whole refl) (y.unfinished refl).1).1))
take_once false true x y = absurd (nil≢cons (one_part tt refl (x.unfinished refl).1 (y.whole refl)).1)
take_once {line = line} {k = k} {l = l} false false {line'} {line''} x y =
    let p = one_part tt tt (x.unfinished refl).1 (y.unfinished refl).1 in
    let r = same_room line line' line'' k l x.fits y.fits x.size y.size p.0 x.rest y.rest in
    ((x.unfinished refl).0 ∙ sym (y.unfinished refl).0, r.0, refl, r.1)

-- and it goes forth
pub take_forth : {got : List ℕ} {from : ℕ} {line : List ℕ} {n next kept : ℕ} (ended : Bool) {line' : List ℕ}
    → TakeClaim got from line n next kept ended line' → from < length got → from < next
take_forth {got} {from} {next = next} true x h =
    let p = x.whole refl in
    let e = ap (λ (l : List ℕ). length l) p.taken in
    omega (arith, e, length-append p.part (newline ∷ drop next got), length-drop from got, length-drop next got)
take_forth false x h = omega (arith, (x.unfinished refl).0)
