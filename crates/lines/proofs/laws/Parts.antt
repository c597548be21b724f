-- The steps of `take_line`: nothing taken yet, one byte more that is kept, or lost where there is no room, and the two ways out.
use mathlib.Core.Path.{◌≡◌, refl, sym, ap, ◌∙◌, subst}
use mathlib.Core.Logic.{◌≢◌, by_cases}
use mathlib.Core.List.{List, [], ◌∷◌, ◌++◌, append-nil, append_assoc}
use Prim.Native.Nat.{ℕ, zero, suc, ◌+◌, ◌-◌, ◌≤◌, ◌<◌, min}
use native.Mathlib.Numerals.{add-one}
use native.Mathlib.Decide.{dec_le}
use native.Mathlib.Omega.{arith}
use lib.ListN.{length, get_or, take, drop, set, length-append, length-take, length-set, drop_of_length-le}
use lib.Seq.{take_all, take_at, drop-cons, take-suc-set, drop-set-lt, drop-drop}
use Rattle.lines.specs.Lines.{newline, Plain}
use Rattle.lines.specs.Taking.{Part}

-- what is lost of the first list would be lost of both
pub take_again : (m : ℕ) (l t : List ℕ) → take m (take m l ++ t) ≡ take m (l ++ t)
take_again zero l t = refl
take_again (suc m) [] t = refl
take_again (suc m) (b ∷ l) t = ap (λ (x : List ℕ). b ∷ x) (take_again m l t)

-- no list has more bytes than it has
pub take_min : (n : ℕ) (l : List ℕ) → take (min n (length l)) l ≡ take n l
take_min n l =
    by_cases (dec_le n (length l))
    (λ h. let e : min n (length l) ≡ n = omega arith in ap (λ (x : ℕ). take x l) e)
    (λ h. take_all (min n (length l)) l (omega arith) ∙ sym (take_all n l (omega arith)))

-- what is the same from a place on is the same from a later one on
drop_later : (a b : List ℕ) (k j : ℕ) → drop k a ≡ drop k b → k ≤ j → drop j a ≡ drop j b
drop_later a b k j e h =
    let f : k + (j - k) ≡ j = omega arith in
    subst (λ (x : ℕ). drop x a ≡ drop x b) f (sym (drop-drop (j - k) k a) ∙ ap (λ (x : List ℕ). drop (j - k) x) e ∙ drop-drop (j - k) k b)

plain_more : (l : List ℕ) {b : ℕ} → Plain l → b ≢ newline → Plain (l ++ b ∷ [])
plain_more [] p h = (h, tt)
plain_more (a ∷ l) p h = (p.0, plain_more l p.1 h)

-- where the loop of `take_line` is: line was lent with n bytes kept, of got the bytes from `from` to i are taken, and k bytes of line' are kept
pub record So (got : List ℕ) (from : ℕ) (line : List ℕ) (n : ℕ) (line' : List ℕ) (i k : ℕ) : Type 0 where
  pub part : Part (length line) (take n line) (drop from got) (take k line') (drop i got)
  pub fits : k ≤ length line
  pub size : length line' ≡ length line
  pub rest : drop k line' ≡ drop k line

pub so_none : (got line : List ℕ) (from n : ℕ) {k : ℕ} → k ≡ min n (length line) → So got from line n line from k
so_none got line from n {k} e =
    let t : take k line ≡ take n line = ap (λ (x : ℕ). take x line) e ∙ take_min n line in
    let m = length line in
    record {
      part = record {
        part = [];
        plain = tt;
        taken = refl;
        kept = t
            ∙ sym (ap (λ (x : List ℕ). take m x) (append-nil (take n line)) ∙ take_all m (take n line) (simp length-take (omega arith)));
      };
      fits = omega arith;
      size = refl;
      rest = refl;
    }

-- the byte b comes behind the first k bytes of line, or is lost where there is no room
pub record KeepsByte (m : ℕ) (line : List ℕ) (k b : ℕ) (line' : List ℕ) (k' : ℕ) : Type 0 where
  pub on : k ≤ k'
  pub fits : k' ≤ m
  pub size : length line' ≡ m
  pub kept : take k' line' ≡ take m (take k line ++ b ∷ [])
  pub rest : drop k' line' ≡ drop k' line

module _ {m : ℕ} (line : List ℕ) (k b : ℕ) (size : length line ≡ m) where
  pub byte_kept : {line' : List ℕ} {k' : ℕ} → k < length line → line' ≡ set line k b → k' ≡ k + 1 → KeepsByte m line k b line' k'
  byte_kept {line'} {k'} h e f =
      let l : length line' ≡ length line = ap (λ (x : List ℕ). length x) e ∙ length-set line k b in
      let g : length (take k line ++ b ∷ []) ≤ m = simp (length-append, length-take) (omega arith) in
      record {
        on = omega arith;
        fits = omega arith;
        size = l ∙ size;
        kept = rw (e, f, add-one) (take-suc-set line k b h ∙ sym (take_all m (take k line ++ b ∷ []) g));
        rest = ap (λ (x : List ℕ). drop k' x) e ∙ drop-set-lt k' line k b (omega arith);
      }

  pub byte_lost : {line' : List ℕ} {k' : ℕ} → length line ≤ k → k ≤ m → line' ≡ line → k' ≡ k → KeepsByte m line k b line' k'
  byte_lost {line'} {k'} h j e f =
      let g : length (take k line) ≡ m = simp length-take (omega arith) in
      let l : length line' ≡ length line = ap (λ (x : List ℕ). length x) e in
      record {
        on = omega arith;
        fits = omega arith;
        size = l ∙ size;
        kept = rw (e, f) (sym (take_at (take k line) (b ∷ []) m g));
        rest = ap (λ (x : List ℕ). drop k' x) e;
      }

module _ {got : List ℕ} {from : ℕ} {line : List ℕ} {n : ℕ} {line₁ : List ℕ} {i k : ℕ} (S : So got from line n line₁ i k) where
  pub so_more : {line' : List ℕ} {k' : ℕ} → i < length got → get_or got i 0 ≢ newline
      → KeepsByte (length line) line₁ k (get_or got i 0) line' k' → So got from line n line' (i + 1) k'
  so_more {line'} {k'} h d K =
      let b = get_or got i 0 in
      let m = length line in
      let p = S.part in
      record {
        part = record {
          part = p.part ++ b ∷ [];
          plain = plain_more p.part p.plain d;
          taken = p.taken ∙ rw (add-one, append_assoc, ← drop-cons got i 0 h) refl;
          kept = K.kept
              ∙ ap (λ (x : List ℕ). take m (x ++ b ∷ [])) p.kept
              ∙ take_again m (take n line ++ p.part) (b ∷ [])
              ∙ ap (λ (x : List ℕ). take m x) (append_assoc (take n line) p.part (b ∷ []));
        };
        fits = K.fits;
        size = K.size;
        rest = K.rest ∙ drop_later line₁ line k k' S.rest K.on;
      }

  pub to_newline : i < length got → get_or got i 0 ≡ newline
      → Part (length line) (take n line) (drop from got) (take k line₁) (newline ∷ drop (i + 1) got)
  to_newline h e =
      rw (add-one)
      (subst (λ (x : List ℕ). Part (length line) (take n line) (drop from got) (take k line₁) x)
      (drop-cons got i 0 h ∙ ap (λ (b : ℕ). b ∷ drop (suc i) got) e)
      S.part)

  pub to_end : length got ≤ i → Part (length line) (take n line) (drop from got) (take k line₁) []
  to_end h =
      subst (λ (x : List ℕ). Part (length line) (take n line) (drop from got) (take k line₁) x) (drop_of_length-le got h) S.part
