-- The reader: fields are read in one way, what each test of the code shows, and the claim on reading from what the parts found.
use mathlib.Core.Path.{◌≡◌, refl, sym, ap, ap₂, ◌∙◌, subst}
use mathlib.Core.List.{List, [], ◌∷◌, ◌++◌, nil≢cons, append-nil, head-eq_of_cons-eq, tail-eq_of_cons-eq}
use Prim.Native.Nat.{ℕ, ◌-◌, ◌≤◌, ◌<◌}
use native.Mathlib.Omega.{arith}
use lib.ListN.{length, take, drop, get_or}
use Rattle.decimals.specs.Text.{bytes, Decimal, Spaced}
use Rattle.decimals.proofs.laws.Number.{drop_one}
use Rattle.decimals.proofs.laws.Spacing.{one_list}
use Rattle.std.specs.Prelude.{Option, Some, None}
use Rattle.splitting.specs.Fields.{Starts, Begins}
use Rattle.splitting.proofs.laws.Fields.{from, starts_once, starts_alone, the_one, one_alone, more_start, begins_none, puts, leaves}
use Rattle.splitting.proofs.laws.Letters.{All, letter_found}
use Rattle.inspector.specs.declared.Entry.{Entry}
use Rattle.inspector.specs.declared.Entry.TheVariants as E
use Rattle.inspector.specs.declared.Fields.{Fields}
use Rattle.inspector.specs.declared.Fields.TheVariants as F
use Rattle.inspector.specs.Text.{letter, numbers, ending, Says}
use Rattle.inspector.specs.Parts.{Dashed, Holds, Second, fields_of, entries, entry_of, ReadClaim}

-- ---- a number behind a space, and what stands behind it

two_start : {s : List ℕ} (x y : ℕ) → Spaced (32 ∷ s) (x ∷ y ∷ []) → (m : List ℕ) × Starts s x m × Decimal m y
two_start x y p = let q = more_start x y [] p in (q.0, q.1, one_alone y q.2)

lone : (l : List ℕ) (x : ℕ) → Spaced l (x ∷ []) → (d : List ℕ) × (l ≡ 32 ∷ d) × Decimal d x
unfolding Spaced
lone l x p = (p.0, p.2 ∙ ap (λ (r : List ℕ). 32 ∷ p.0 ++ r) p.4 ∙ ap (λ (r : List ℕ). 32 ∷ r) (append-nil p.0), p.3)

dash_start : {s : List ℕ} (x : ℕ) → Dashed (32 ∷ s) x → Starts s x (bytes "-")
dash_start x p =
    let q = lone p.0 x p.2 in
    (q.0, tail-eq_of_cons-eq (p.1 ∙ ap (λ (r : List ℕ). r ++ bytes " -") q.1), q.2)

start_dash : {s : List ℕ} (x : ℕ) → Starts s x (bytes "-") → Dashed (32 ∷ s) x
start_dash x h = (32 ∷ h.0, ap (λ (r : List ℕ). 32 ∷ r) h.1, the_one h.2)

pub no_first : {s : List ℕ} → Begins s None → Holds (32 ∷ s) None
no_first b = (λ x p. begins_none b (x ∷ []) p, λ x y p. begins_none b (x ∷ y ∷ []) p, λ x p. b.1 x (bytes "-") (dash_start x p))

after_first : {s : List ℕ} {a : ℕ} {m : List ℕ} → Starts s a m → (f : Option Fields) → Second a m f → Holds (32 ∷ s) f
after_first h (Some (F.One x)) q = absurd q
after_first {s} {m = m} h (Some (F.Two x y)) q = puts (subst (λ (n : ℕ). Starts s n m) (sym q.0) h) (y ∷ []) (the_one q.1)
after_first {s} {m = m} h (Some (F.Dash x)) q =
    start_dash x (subst (λ (r : List ℕ). Starts s x r) q.1 (subst (λ (n : ℕ). Starts s n m) (sym q.0) h))
after_first h None q = (
  λ x p. starts_alone h (one_alone x p),
  λ x y p. let b = two_start x y p in q.0 y (subst (λ (r : List ℕ). Decimal r y) (starts_once b.1 h).1 b.2),
  λ x p. q.1 (starts_once h (dash_start x p)).1,
)

-- as the code has it, of `&s[f..]`
pub then_second : {s : List ℕ} {a : ℕ} (f : ℕ) → Starts s a (drop f s) → (g : Option Fields) → Second a (take (length s - f) (drop f s)) g → Holds (32 ∷ s) g
then_second {s} {a} f h g q = after_first h g (subst (λ (r : List ℕ). Second a r g) (from s f) q)

-- ---- the second field

pub second_dash : (a : ℕ) (s : List ℕ) → length s ≡ 1 → get_or s 0 0 ≡ 45 → Second a s (Some (F.Dash a))
second_dash a [] h e = absurd (omega arith)
second_dash a (b ∷ []) h e = (refl, ap (λ (x : ℕ). x ∷ []) e)
second_dash a (b ∷ c ∷ s) h e = absurd (omega arith)

pub second_bad : (a : ℕ) (s : List ℕ) → ((y : ℕ) → Decimal s y → ⊥) → (length s ≡ 1 → get_or s 0 0 ≡ 45 → ⊥) → Second a s None
second_bad a s b n = (b, λ e. n (ap (λ (l : List ℕ). length l) e) (ap (λ (l : List ℕ). get_or l 0 0) e))

-- ---- the space in front

-- fields that are any begin with it
a_front : (l : List ℕ) (f : Option Fields) → Holds l f → (f ≡ None → ⊥) → (s : List ℕ) × (l ≡ 32 ∷ s)
unfolding Spaced
a_front l (Some (F.One x)) p n = (p.0 ++ p.1, p.2)
a_front l (Some (F.Two x y)) p n = (p.0 ++ p.1, p.2)
a_front l (Some (F.Dash x)) p n = let q = lone p.0 x p.2 in (q.0 ++ bytes " -", p.1 ∙ ap (λ (r : List ℕ). r ++ bytes " -") q.1)
a_front l None p n = absurd (n refl)

no_front : (l : List ℕ) → ((s : List ℕ) → l ≡ 32 ∷ s → ⊥) → Holds l None
no_front l f = (
  λ x p. none (Some (F.One x)) p (λ e. let z : ◌≡◌ {A = ℕ} 0 1 = cc in omega arith),
  λ x y p. none (Some (F.Two x y)) p (λ e. let z : ◌≡◌ {A = ℕ} 0 1 = cc in omega arith),
  λ x p. none (Some (F.Dash x)) p (λ e. let z : ◌≡◌ {A = ℕ} 0 1 = cc in omega arith),
)
  where
    none : (g : Option Fields) → Holds l g → (g ≡ None → ⊥) → ⊥
    none g p n = let a = a_front l g p n in f a.0 a.1

pub no_space : (s : List ℕ) → (get_or s 0 0 ≡ 32 → ⊥) → Holds s None
no_space s b = no_front s (λ r e. b (ap (λ (t : List ℕ). get_or t 0 0) e))

pub no_fields : (s : List ℕ) → length s ≡ 0 → Holds s None
no_fields s h = no_front s (λ r e. omega (arith, ap (λ (t : List ℕ). length t) e))

pub a_space : (s : List ℕ) (f : Option Fields) → 0 < length s → get_or s 0 0 ≡ 32 → Holds (32 ∷ take (length s - 1) (drop 1 s)) f → Holds s f
a_space s f h e p =
    let q = ap₂ (λ (x : ℕ) (t : List ℕ). x ∷ t) (sym e) (from s 1) ∙ sym (drop_one s 0 h) in
    subst (λ (t : List ℕ). Holds t f) q p

-- ---- fields are read in one way

-- numbers as fields
abbrev of : List ℕ → Option Fields
of [] = None
of (x ∷ []) = Some (F.One x)
of (x ∷ y ∷ []) = Some (F.Two x y)
of (x ∷ y ∷ z ∷ ns) = None

dash_apart : {s : List ℕ} (x : ℕ) → Starts s x (bytes "-") → (n : ℕ) (ns : List ℕ) → length ns ≤ 1 → Spaced (32 ∷ s) (n ∷ ns) → ⊥
unfolding Spaced
dash_apart x h n [] l p = nil≢cons (sym (leaves h n [] p))
dash_apart x h n (k ∷ []) l p = let d = one_alone k (leaves h n (k ∷ []) p) in omega (arith, d.digits 0 (omega arith))
dash_apart x h n (k ∷ j ∷ ns) l p = omega arith

one_behind : (s : List ℕ) (f g : Option Fields) → Holds (32 ∷ s) f → Holds (32 ∷ s) g → (g ≡ None → ⊥) → f ≡ g
one_behind s f None p q n = absurd (n refl)
one_behind s None (Some (F.One y)) p q n = absurd (p.0 y q)
one_behind s None (Some (F.Two y z)) p q n = absurd (p.1 y z q)
one_behind s None (Some (F.Dash y)) p q n = absurd (p.2 y q)
one_behind s (Some (F.One x)) (Some (F.One y)) p q n = ap of (one_list (32 ∷ s) (x ∷ []) (y ∷ []) p q)
one_behind s (Some (F.One x)) (Some (F.Two y z)) p q n = ap of (one_list (32 ∷ s) (x ∷ []) (y ∷ z ∷ []) p q)
one_behind s (Some (F.One x)) (Some (F.Dash y)) p q n = absurd (dash_apart y (dash_start y q) x [] (omega arith) p)
one_behind s (Some (F.Two x w)) (Some (F.One y)) p q n = ap of (one_list (32 ∷ s) (x ∷ w ∷ []) (y ∷ []) p q)
one_behind s (Some (F.Two x w)) (Some (F.Two y z)) p q n = ap of (one_list (32 ∷ s) (x ∷ w ∷ []) (y ∷ z ∷ []) p q)
one_behind s (Some (F.Two x w)) (Some (F.Dash y)) p q n = absurd (dash_apart y (dash_start y q) x (w ∷ []) (omega arith) p)
one_behind s (Some (F.Dash x)) (Some (F.One y)) p q n = absurd (dash_apart x (dash_start x p) y [] (omega arith) q)
one_behind s (Some (F.Dash x)) (Some (F.Two y z)) p q n = absurd (dash_apart x (dash_start x p) y (z ∷ []) (omega arith) q)
one_behind s (Some (F.Dash x)) (Some (F.Dash y)) p q n = ap (λ (k : ℕ). Some (F.Dash k)) (starts_once (dash_start x p) (dash_start y q)).0

one_fields : (l : List ℕ) (f g : Option Fields) → Holds l f → Holds l g → (g ≡ None → ⊥) → f ≡ g
one_fields l f g p q n =
    let a = a_front l g q n in
    one_behind a.0 f g (subst (λ (t : List ℕ). Holds t f) a.1 p) (subst (λ (t : List ℕ). Holds t g) a.1 q) n

-- ---- entries by their letter and their fields

abbrev Fits : List ℕ → Entry → Type 0
Fits l e = (rest : List ℕ) × (l ≡ rest ++ ending e) × Spaced rest (numbers e)

-- the fields of an entry
bare : (l rest ns : List ℕ) → l ≡ rest ++ [] → Spaced rest ns → Spaced l ns
bare l rest ns e s = subst (λ (t : List ℕ). Spaced t ns) (sym (e ∙ append-nil rest)) s

entry_holds : (l : List ℕ) (e : Entry) → Fits l e → Holds l (fields_of e)
entry_holds l (E.Insert k w) p = bare l p.0 (k ∷ w ∷ []) p.1 p.2
entry_holds l (E.Reset k w) p = bare l p.0 (k ∷ w ∷ []) p.1 p.2
entry_holds l (E.Remove k) p = bare l p.0 (k ∷ []) p.1 p.2
entry_holds l (E.Out t k) p = bare l p.0 (t ∷ k ∷ []) p.1 p.2
entry_holds l (E.Nothing t) p = p

some_fields : (e : Entry) → fields_of e ≡ None → ⊥
some_fields (E.Insert k w) q = let z : ◌≡◌ {A = ℕ} 0 1 = cc in omega arith
some_fields (E.Reset k w) q = let z : ◌≡◌ {A = ℕ} 0 1 = cc in omega arith
some_fields (E.Remove k) q = let z : ◌≡◌ {A = ℕ} 0 1 = cc in omega arith
some_fields (E.Out t k) q = let z : ◌≡◌ {A = ℕ} 0 1 = cc in omega arith
some_fields (E.Nothing t) q = let z : ◌≡◌ {A = ℕ} 0 1 = cc in omega arith

-- an entry is found by its letter and its fields
own : (e : Entry) → entry_of (letter e) (fields_of e) ≡ Some e
unfolding entry_of
own (E.Insert k w) = refl
own (E.Reset k w) = refl
own (E.Remove k) = refl
own (E.Out t k) = refl
own (E.Nothing t) = refl

pub same_entry : {c d : Entry} → Some c ≡ Some d → c ≡ d
same_entry e = cc

-- ---- the claim on reading

claim : (l : List ℕ) (r : Option Entry) → ((c : Entry) → r ≡ Some c → Says l c) → ((c : Entry) → Says l c → r ≡ Some c) → ReadClaim l r
claim l r only all = record { says = λ c. (only c, all c); bad = (unsaid, unread r only) }
  where
    unsaid : r ≡ None → (c : Entry) → Says l c → ⊥
    unsaid e c s = let k = all c s in let z : ◌≡◌ {A = ℕ} 0 1 = cc in omega arith

    unread : (s : Option Entry) → ((c : Entry) → s ≡ Some c → Says l c) → ((c : Entry) → Says l c → ⊥) → s ≡ None
    unread (Some c) f n = absurd (n c (f c refl))
    unread None f n = refl

nothing : (l : List ℕ) → ((c : Entry) → Says l c → ⊥) → ReadClaim l None
nothing l n = claim l None (λ c e. let z : ◌≡◌ {A = ℕ} 0 1 = cc in absurd (omega arith)) (λ c s. absurd (n c s))

pub empty_line : (l : List ℕ) → length l ≡ 0 → ReadClaim l None
empty_line l h = nothing l (λ c s. omega (arith, ap (λ (t : List ℕ). length t) s.line))

pub long_line : (l : List ℕ) → 80 < length l → ReadClaim l None
long_line l h = nothing l (λ c s. omega arith)

-- the entries with fields that were found fit
fitting : (l : List ℕ) (f : Option Fields) → Holds l f → All (λ c. Fits l c) (entries f)
fitting l (Some (F.One x)) h = ((l, sym (append-nil l), h), tt)
fitting l (Some (F.Two x y)) h = let p : Fits l (E.Insert x y) = (l, sym (append-nil l), h) in (p, (p, (p, tt)))
fitting l (Some (F.Dash x)) h = (h, tt)
fitting l None h = tt

line : (b : ℕ) (l : List ℕ) (f : Option Fields) (r : Option Entry) → length (b ∷ l) ≤ 80 → Holds l f → r ≡ entry_of b f → ReadClaim (b ∷ l) r
unfolding entry_of
line b l f r k h e = claim (b ∷ l) r only all
  where
    only : (c : Entry) → r ≡ Some c → Says (b ∷ l) c
    only c q =
        let g = letter_found letter (λ c. Fits l c) b (entries f) (fitting l f h) c (sym e ∙ q) in
        record { rest = g.1.0; line = ap₂ (λ (x : ℕ) (t : List ℕ). x ∷ t) g.0 g.1.1; fields = g.1.2; short = k }

    all : (c : Entry) → Says (b ∷ l) c → r ≡ Some c
    all c s =
        let p = entry_holds l c (s.rest, tail-eq_of_cons-eq s.line, s.fields) in
        let g = one_fields l f (fields_of c) h p (some_fields c) in
        e ∙ ap₂ (λ (x : ℕ) (g : Option Fields). entry_of x g) (head-eq_of_cons-eq s.line) g ∙ own c

-- the same for `line[0]` and `&line[1..]`
pub whole_line : (l : List ℕ) (f : Option Fields) (r : Option Entry) → 0 < length l → length l ≤ 80 → Holds (take (length l - 1) (drop 1 l)) f
    → r ≡ entry_of (get_or l 0 0) f → ReadClaim l r
whole_line [] f r h k p e = absurd (omega arith)
whole_line (b ∷ l) f r h k p e = line b l f r k (subst (λ (t : List ℕ). Holds t f) (from (b ∷ l) 1) p) e
