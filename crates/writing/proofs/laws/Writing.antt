-- Bytes that are written behind others: many, the digits of a number; and what stands at the front.
use mathlib.Core.Path.{◌≡◌, refl, sym, ap, ap₂, ◌∙◌, subst}
use mathlib.Core.Logic.{by_cases}
use mathlib.Core.List.{List, [], ◌∷◌, ◌++◌, append-nil, append_assoc}
use Prim.Native.Nat.{ℕ, zero, suc, ◌+◌, ◌-◌, ◌*◌, ◌/◌, ◌%◌, ◌^◌, ◌≤◌, ◌<◌}
use native.Mathlib.Numerals.{add-one}
use native.Mathlib.Decide.{dec_lt}
use native.Mathlib.Omega.{arith}
use native.Mathlib.Nat.{pow-zero, pow-suc, one-le-pow}
use lib.Arith.{digits_div}
use lib.ListN.{length, take, drop, set, length-append, length-set, take-append-drop}
use lib.Seq.{take-suc-set, drop-drop, drop-set-lt}
use Rattle.writing.specs.Writing.{Wrote, Fronts, digits_of, power}

-- what is the same from r on is the same from k on
same_rest : (r k : ℕ) (p o : List ℕ) → r ≤ k → drop r p ≡ drop r o → drop k p ≡ drop k o
same_rest r k p o h e =
    let f : k ≡ r + (k - r) = omega arith in
    ap (λ (j : ℕ). drop j p) f ∙ sym (drop-drop (k - r) r p) ∙ ap (λ (x : List ℕ). drop (k - r) x) e ∙ drop-drop (k - r) r o
    ∙ ap (λ (j : ℕ). drop j o) (sym f)

module _ {o : List ℕ} {at : ℕ} where
  pub wrote_more : {s t : List ℕ} {r k : ℕ} {p q : List ℕ} → Wrote o at s r p → Wrote p r t k q → Wrote o at (s ++ t) k q
  wrote_more {s} {t} {r} {k} {p} {q} w x =
      record {
        text = x.text ∙ ap (λ (y : List ℕ). y ++ t) w.text ∙ append_assoc (take at o) s t;
        end = omega (arith, w.end, x.end, length-append s t);
        rest = x.rest ∙ same_rest r k p o (omega (arith, x.end)) w.rest;
        size = x.size ∙ w.size;
      }

-- what stands in o then is one text alone
pub wrote_once : {o : List ℕ} {at : ℕ} {s : List ℕ} {m n : ℕ} {p q : List ℕ} → Wrote o at s m p → Wrote o at s n q → (m ≡ n) × (p ≡ q)
wrote_once {o} {at} {s} {m} {n} {p} {q} v w =
    let e : m ≡ n = v.end ∙ sym w.end in (
      e,
      sym (take-append-drop m p)
          ∙ ap₂ (λ (x y : List ℕ). x ++ y) (v.text ∙ sym w.text) (v.rest ∙ ap (λ (k : ℕ). drop k o) e ∙ sym w.rest)
          ∙ take-append-drop n q,
    )

-- ---- the steps of a writer of digits: the first are written, and the last i of m are to come, the first of them p times what it shows

power_down : (b k : ℕ) → 1 < b → power b (suc k) / b ≡ power b k
power_down b zero h =
    let e : b ^ 0 ≡ 0 * b + 1 = pow-zero b ∙ omega arith in
    ap (λ (x : ℕ). x / b) e ∙ digits_div 0 {m = b} {r = 1} h
power_down b (suc k) h =
    let e : b ^ suc k ≡ b ^ k * b + 0 = pow-suc b k ∙ omega arith in
    ap (λ (x : ℕ). x / b) e ∙ digits_div (b ^ k) {m = b} {r = 0} (omega arith)

pub power_pos : (b i : ℕ) → 0 < b → 0 < i → 0 < power b i
power_pos b zero h i = absurd (omega arith)
power_pos b (suc k) h i = one-le-pow k b h

module _ (g : ℕ → ℕ) (b : ℕ) where
  pub record Digits (o : List ℕ) (at m n : ℕ) (o' : List ℕ) (a i p : ℕ) : Type 0 where
    pub text : take a o' ++ digits_of g b i n ≡ take at o ++ digits_of g b m n
    pub place : a + i ≡ at + m
    pub weight : p ≡ power b i
    pub rest : drop a o' ≡ drop a o
    pub size : length o' ≡ length o

  pub digits_length : (k n : ℕ) → length (digits_of g b k n) ≡ k
  unfolding digits_of
  digits_length zero n = refl
  digits_length (suc k) n = ap (λ (m : ℕ). suc m) (digits_length k n)

module _ {g : ℕ → ℕ} {b : ℕ} {o : List ℕ} {at m n : ℕ} where
  pub digits_start : {p : ℕ} → p ≡ power b m → Digits g b o at m n o at m p
  digits_start e = record { text = refl; place = refl; weight = e; rest = refl; size = refl }

  pub digits_step : (i : ℕ) {p a d : ℕ} {x : List ℕ} → Digits g b o at m n x a i p → 1 < b → 0 < i → at + m ≤ length o → d ≡ g (n / p % b)
      → Digits g b o at m n (set x a d) (a + 1) (i - 1) (p / b)
  unfolding digits_of
  digits_step zero w l h r e = absurd (omega arith)
  digits_step (suc k) {p} {a} {d} {x} w l h r e =
      record {
        text = rw (add-one) (ap (λ (j : ℕ). take (suc a) (set x a d) ++ digits_of g b j n) one_less ∙ down ∙ w.text);
        place = omega (arith, w.place);
        weight = ap (λ (y : ℕ). y / b) w.weight ∙ power_down b k l ∙ ap (λ (j : ℕ). power b j) (sym one_less);
        rest = drop-set-lt (a + 1) x a d (omega arith) ∙ same_rest a (a + 1) x o (omega arith) w.rest;
        size = length-set x a d ∙ w.size;
      }
    where
      one_less : suc k - 1 ≡ k
      one_less = omega arith

      down : take (suc a) (set x a d) ++ digits_of g b k n ≡ take a x ++ digits_of g b (suc k) n
      down =
          ap (λ (y : List ℕ). y ++ digits_of g b k n) (take-suc-set x a d (omega (arith, w.place, w.size)))
          ∙ append_assoc (take a x) (d ∷ []) (digits_of g b k n)
          ∙ ap (λ (y : ℕ). take a x ++ y ∷ digits_of g b k n) (e ∙ ap (λ (y : ℕ). g (n / y % b)) w.weight)

  -- the same where k digits are written
  pub digits_next : {k p d : ℕ} {x : List ℕ} → Digits g b o at m n x (at + k) (m - k) p → 1 < b → k < m → at + m ≤ length o → d ≡ g (n / p % b)
      → Digits g b o at m n (set x (at + k) d) (at + (k + 1)) (m - (k + 1)) (p / b)
  digits_next {k} {p} {d} {x} w l h r e =
      let f : at + k + 1 ≡ at + (k + 1) = omega arith in
      let i : m - k - 1 ≡ m - (k + 1) = omega arith in
      subst (λ (j : ℕ). Digits g b o at m n (set x (at + k) d) (at + (k + 1)) j (p / b)) i
      (subst (λ (a : ℕ). Digits g b o at m n (set x (at + k) d) a (m - k - 1) (p / b)) f (digits_step (m - k) w l (omega arith) r e))

  pub digits_end : {i p a : ℕ} {x : List ℕ} → Digits g b o at m n x a i p → i ≤ 0 → Wrote o at (digits_of g b m n) a x
  unfolding digits_of
  digits_end {i} {p} {a} {x} w h =
      let z : i ≡ 0 = omega arith in
      record {
        text = sym (append-nil (take a x)) ∙ ap (λ (j : ℕ). take a x ++ digits_of g b j n) (sym z) ∙ w.text;
        end = omega (arith, w.place, digits_length g b m n);
        rest = w.rest;
        size = w.size;
      }

-- ---- at the front

pub wrote_front : {l o : List ℕ} {r : ℕ} {o' : List ℕ} → Wrote o 0 l r o' → length l ≤ length o → Fronts l o r o'
wrote_front {l} {o} {r} {o'} w h =
    let e : r ≡ length l = omega (arith, w.end) in
    record {
      room = λ _. (e, sym (take-append-drop r o') ∙ ap₂ (λ (x y : List ℕ). x ++ y) w.text (w.rest ∙ ap (λ (k : ℕ). drop k o) e));
      full = λ f. absurd (omega arith);
    }

pub no_room : {l o : List ℕ} → length o < length l → Fronts l o 0 o
no_room h = record { room = λ f. absurd (omega arith); full = λ _. (refl, refl) }

pub front_within : {l o : List ℕ} {r : ℕ} {o' : List ℕ} → Fronts l o r o' → r ≤ length o
front_within {l} {o} f =
    by_cases (dec_lt (length o) (length l)) (λ h. omega (arith, (f.full h).0)) (λ h. omega (arith, (f.room (omega arith)).0))

-- and what stands in o then is one text alone
pub front_once : {l o p q : List ℕ} {r s : ℕ} → Fronts l o r p → Fronts l o s q → (r ≡ s) × (p ≡ q)
front_once {l} {o} a b =
    by_cases (dec_lt (length o) (length l))
    (λ h. ((a.full h).0 ∙ sym (b.full h).0, (a.full h).1 ∙ sym (b.full h).1))
    (λ h. let f : length l ≤ length o = omega arith in ((a.room f).0 ∙ sym (b.room f).0, (a.room f).1 ∙ sym (b.room f).1))
