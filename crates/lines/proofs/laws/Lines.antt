-- However an input is cut into chunks, `take_line` delivers its lines, each as its first m bytes, where m is the room that is lent.
use mathlib.Core.Path.{◌≡◌, refl, sym, ap, ap₂, ◌∙◌}
use mathlib.Core.Bool.{Bool, true, false}
use mathlib.Core.Logic.{by_cases}
use native.Mathlib.Decide.{ℕ_discrete}
use mathlib.Core.List.{List, [], ◌∷◌, ◌++◌, append-nil, append_assoc}
use Prim.Native.Nat.{ℕ, zero, suc, ◌≤◌, ◌<◌}
use native.Mathlib.Omega.{arith}
use borrow.Author.Tests.{ne_eqb}
use lib.Dec.{eqb}
use lib.ListN.{length, take, length-take}
use lib.Seq.{take_all, take-take}
use Rattle.lines.specs.Lines.{newline, pick, last, lines_from, lines_of, firsts, joined, Plain, AllPlain, text}
use Rattle.lines.specs.Taking.{Part, Delivered, line, chunk, end}
use Rattle.lines.proofs.laws.Parts.{take_again}

-- ---- the lines of an input

-- nothing has no line; "\n" has an empty one; "a\nb" and "a\nb\n" have the lines "a" and "b"
pub no_lines : lines_of [] ≡ []
unfolding lines_from
no_lines = refl

pub empty_line : lines_of (10 ∷ []) ≡ [] ∷ []
unfolding lines_from
empty_line = refl

pub two_lines : (lines_of (97 ∷ 10 ∷ 98 ∷ []) ≡ (97 ∷ []) ∷ (98 ∷ []) ∷ [])
    × (lines_of (97 ∷ 10 ∷ 98 ∷ 10 ∷ []) ≡ (97 ∷ []) ∷ (98 ∷ []) ∷ [])
unfolding lines_from
two_lines = (refl, refl)

-- bytes of the line that is being read
pub lines_pass : (l p s : List ℕ) → Plain p → lines_from l (p ++ s) ≡ lines_from (l ++ p) s
unfolding lines_from
lines_pass l [] s h = ap (λ (x : List ℕ). lines_from x s) (sym (append-nil l))
lines_pass l (b ∷ p) s h =
    ap (λ (t : Bool). pick t (l ∷ lines_from [] (p ++ s)) (lines_from (l ++ b ∷ []) (p ++ s))) (ne_eqb b newline h.0)
    ∙ lines_pass (l ++ b ∷ []) p s h.1
    ∙ ap (λ (x : List ℕ). lines_from x s) (append_assoc l (b ∷ []) p)

-- its newline
pub lines_end : (l s : List ℕ) → lines_from l (newline ∷ s) ≡ l ∷ lines_from [] s
unfolding lines_from
lines_end l s = refl

-- lines that are written out, and what stands behind them, are the lines of what is written
pub lines_of_text : (ls : List (List ℕ)) (l : List ℕ) → AllPlain ls → Plain l → lines_of (text ls ++ l) ≡ ls ++ last l
unfolding lines_from
lines_of_text [] l p q = ap (λ (s : List ℕ). lines_of s) (sym (append-nil l)) ∙ lines_pass [] l [] q
lines_of_text (x ∷ ls) l p q =
    ap (λ (s : List ℕ). lines_of s) (append_assoc x (newline ∷ text ls) l)
    ∙ lines_pass [] x (newline ∷ text ls ++ l) p.0
    ∙ lines_end x (text ls ++ l)
    ∙ ap (λ (r : List (List ℕ)). x ∷ r) (lines_of_text ls l p.1 q)

-- and every input is such a text, so that this says what the lines of any input are
pub record AsText (s : List ℕ) : Type 0 where
  pub lines : List (List ℕ)
  pub rest : List ℕ
  pub all_plain : AllPlain lines
  pub rest_plain : Plain rest
  pub whole : s ≡ text lines ++ rest

pub as_text : (s : List ℕ) → AsText s
as_text [] = record { lines = []; rest = []; all_plain = tt; rest_plain = tt; whole = refl }
as_text (b ∷ s) = let x = as_text s in in_front_lem b s x.lines x.rest x.all_plain x.rest_plain x.whole
  where
    in_front_lem : (b : ℕ) (s : List ℕ) (ls : List (List ℕ)) (l : List ℕ) → AllPlain ls → Plain l → s ≡ text ls ++ l → AsText (b ∷ s)
    in_front_lem b s [] l p q e =
        by_cases (ℕ_discrete b newline)
        (λ (h : b ≡ newline).
        record { lines = [] ∷ []; rest = l; all_plain = (tt, tt); rest_plain = q; whole = ap₂ (λ (x : ℕ) (y : List ℕ). x ∷ y) h e })
        (λ d. record { lines = []; rest = b ∷ l; all_plain = tt; rest_plain = (d, q); whole = ap (λ (y : List ℕ). b ∷ y) e })
    in_front_lem b s (x ∷ ls) l p q e =
        by_cases (ℕ_discrete b newline)
        (λ (h : b ≡ newline).
        record { lines = [] ∷ x ∷ ls; rest = l; all_plain = (tt, p); rest_plain = q; whole = ap₂ (λ (x : ℕ) (y : List ℕ). x ∷ y) h e })
        (λ d.
        record { lines = (b ∷ x) ∷ ls; rest = l; all_plain = ((d, p.0), p.1); rest_plain = q; whole = ap (λ (y : List ℕ). b ∷ y) e })

-- ---- lines of which only the first m bytes are kept

-- a line that does not fill the room is there whole, and one that fills it has at least so many bytes
pub whole_line : (m : ℕ) (l : List ℕ) → length (take m l) < m → take m l ≡ l
whole_line m l h = take_all m l (omega (arith, length-take m l))

module _ (m : ℕ) (some : 0 < m) where
  last_first : (m : ℕ) (l : List ℕ) → 0 < m → firsts m (last l) ≡ firsts m (last (take m l))
  last_first zero l h = absurd (omega arith)
  last_first (suc m) [] h = refl
  last_first (suc m) (b ∷ l) h = ap (λ (x : List ℕ). (b ∷ x) ∷ []) (sym (take-take m m l (omega arith)))

  pick_both : (t : Bool) (x y x' y' : List (List ℕ)) → firsts m x ≡ firsts m x' → firsts m y ≡ firsts m y'
      → firsts m (pick t x y) ≡ firsts m (pick t x' y')
  pick_both true x y x' y' p q = p
  pick_both false x y x' y' p q = q

  -- what is not kept of a line makes no difference to the first m bytes of the lines
  pub kept_enough : (l s : List ℕ) → firsts m (lines_from l s) ≡ firsts m (lines_from (take m l) s)
  unfolding lines_from
  kept_enough l [] = last_first m l some
  kept_enough l (b ∷ s) =
      pick_both (eqb b newline) (l ∷ lines_from [] s) (lines_from (l ++ b ∷ []) s) (take m l ∷ lines_from [] s)
      (lines_from (take m l ++ b ∷ []) s)
      (ap (λ (x : List ℕ). x ∷ firsts m (lines_from [] s)) (sym (take-take m m l (omega arith))))
      (kept_enough (l ++ b ∷ []) s
      ∙ ap (λ (x : List ℕ). firsts m (lines_from x s)) (sym (take_again m l (b ∷ [])))
      ∙ sym (kept_enough (take m l ++ b ∷ []) s))

  module _ {k s k' : List ℕ} where
    -- a line has ended: it is the first of the lines, whatever comes behind the chunk
    pub line_ends : {s' : List ℕ} → Part m k s k' (newline ∷ s') → (t : List ℕ)
        → firsts m (lines_from k (s ++ t)) ≡ k' ∷ firsts m (lines_from [] (s' ++ t))
    line_ends {s'} p t =
        ap (λ (x : List ℕ). firsts m (lines_from k (x ++ t))) p.taken
        ∙ ap (λ (x : List ℕ). firsts m (lines_from k x)) (append_assoc p.part (newline ∷ s') t)
        ∙ ap (λ (x : List (List ℕ)). firsts m x) (lines_pass k p.part (newline ∷ s' ++ t) p.plain ∙ lines_end (k ++ p.part) (s' ++ t))
        ∙ ap (λ (x : List ℕ). x ∷ firsts m (lines_from [] (s' ++ t))) (sym p.kept)

    -- the chunk has ended in a line: no line is lost, whatever comes behind it
    pub chunk_ends : Part m k s k' [] → (t : List ℕ) → firsts m (lines_from k (s ++ t)) ≡ firsts m (lines_from k' t)
    chunk_ends p t =
        ap (λ (x : List ℕ). firsts m (lines_from k (x ++ t))) (p.taken ∙ append-nil p.part)
        ∙ ap (λ (x : List (List ℕ)). firsts m x) (lines_pass k p.part t p.plain)
        ∙ kept_enough (k ++ p.part) t
        ∙ ap (λ (x : List ℕ). firsts m (lines_from x t)) (sym p.kept)

  -- the input has ended: what is kept is the last line, if it is anything
  pub input_ends : (k : List ℕ) → length k ≤ m → firsts m (lines_from k []) ≡ last k
  unfolding lines_from
  input_ends [] h = refl
  input_ends (b ∷ k) h = ap (λ (x : List ℕ). x ∷ []) (take_all m (b ∷ k) h)

-- ---- a whole input

kept_room : {m : ℕ} {k s k' s' : List ℕ} → Part m k s k' s' → length k' ≤ m
kept_room {m} {k} p = omega (arith, ap (λ (x : List ℕ). length x) p.kept, length-take m (k ++ p.part))

all_from : {m : ℕ} {k : List ℕ} {cs ls : List (List ℕ)} → 0 < m → length k ≤ m → Delivered m k cs ls
    → ls ≡ firsts m (lines_from k (joined cs))
all_from {m} h r (line {k' = k'} {cs = cs} p d) =
    ap (λ (x : List (List ℕ)). k' ∷ x) (all_from h (omega arith) d) ∙ sym (line_ends m h p (joined cs))
all_from {m} h r (chunk {cs = cs} p d) = all_from h (kept_room p) d ∙ sym (chunk_ends m h p (joined cs))
all_from {m} {k} h r end = sym (input_ends m h k r)

-- for any way that an input is cut into chunks, its lines are delivered, each as its first m bytes
pub all_lines : {m : ℕ} {cs ls : List (List ℕ)} → 0 < m → Delivered m [] cs ls → ls ≡ firsts m (lines_of (joined cs))
all_lines h d = all_from h (omega arith) d
