-- The writer's steps: what each store and each call of its code leaves.
use mathlib.Core.Path.{◌≡◌, refl, sym, ap, ap₂, ◌∙◌, subst}
use mathlib.Core.List.{List, [], ◌∷◌, ◌++◌, append_assoc}
use Prim.Native.Nat.{ℕ, suc, ◌+◌, ◌-◌, ◌≤◌, ◌<◌}
use native.Mathlib.Omega.{arith}
use lib.ListN.{length, take, drop, set, get_or, length-append, length-set, length-drop}
use lib.Seq.{take_all, drop-length, drop-cons, get_or-set_same, drop-set-lt, drop_at, length-take-le}
use Rattle.decimals.specs.Text.{Decimal, Spaced}
use Rattle.answering.specs.Text.{Written, put, PutClaim}
use Rattle.answering.specs.Parts.{Before}

-- ---- a text that grows in front

stored : (l : List ℕ) (i b : ℕ) → 0 < i → i ≤ length l → drop (i - 1) (set l (i - 1) b) ≡ b ∷ drop i l
stored l i b h k =
    let p : i - 1 < length l = omega arith in
    let q : suc (i - 1) ≡ i = omega arith in
    drop-cons (set l (i - 1) b) (i - 1) 0 (simp length-set p)
    ∙ ap₂ (λ (x : ℕ) (t : List ℕ). x ∷ t) (get_or-set_same l (i - 1) b 0 p) (drop-set-lt (suc (i - 1)) l (i - 1) b (omega arith))
    ∙ ap (λ n. b ∷ drop n l) q

-- by a byte
pub push : (P Q : List ℕ → Type 0) {o o' : List ℕ} {end i : ℕ} (b : ℕ) → ((t : List ℕ) → P t → Q (b ∷ t))
    → Before P o end i o' → 0 < i → i ≤ length o' → Before Q o end (i - 1) (set o' (i - 1) b)
push P Q {o} {o'} {end} {i} b f p h k =
    record {
      text = b ∷ p.text;
      is = f p.text p.is;
      start = omega arith;
      from = stored o' i b h k ∙ ap (λ t. b ∷ t) p.from;
    }

-- by a text
abbrev Joined : (P Q : List ℕ → Type 0) → List ℕ → Type 0
Joined P Q t = (d : List ℕ) × (s : List ℕ) × (t ≡ d ++ s) × Q d × P s

join : {P Q : List ℕ → Type 0} {o o₁ o₂ : List ℕ} {end e r : ℕ} → Before P o end e o₁ → Before Q o₁ e r o₂ → Before (Joined P Q) o end r o₂
join {P} {Q} {o} {o₁} {o₂} {end} {e} {r} p q =
    record {
      text = q.text ++ p.text;
      is = (q.text, p.text, refl, q.is, p.is);
      start = omega (arith, length-append q.text p.text, p.start, q.start);
      from = q.from ∙ ap (λ (t : List ℕ). q.text ++ t) p.from ∙ sym (append_assoc q.text p.text (drop end o));
    }

-- ---- numbers, the last first: those from the place i on are there

abbrev pub Later : List ℕ → ℕ → List ℕ → Type 0
Later ns i t = Spaced t (drop i ns)

pub none_yet : (o ns : List ℕ) (end : ℕ) → Before (Later ns (length ns)) o end end o
unfolding Spaced
none_yet o ns end =
    record {
      text = [];
      is = rw (drop-length ns) refl;
      start = omega arith;
      from = refl;
    }

pub one_more : (ns : List ℕ) (i : ℕ) {o o₁ o₂ : List ℕ} {end e r : ℕ} → 0 < i → i ≤ length ns → Before (Later ns i) o end e o₁
    → Before (λ t. Decimal t (get_or ns (i - 1) 0)) o₁ e r o₂ → 0 < r → r ≤ length o₂
    → Before (Later ns (i - 1)) o end (r - 1) (set o₂ (r - 1) 32)
unfolding Spaced
one_more ns i h k p q z b = push _ _ 32 with_space (join p q) z b
  where
    n : ℕ
    n = get_or ns (i - 1) 0

    this : drop (i - 1) ns ≡ n ∷ drop i ns
    this =
        let j : suc (i - 1) ≡ i = omega arith in
        drop-cons ns (i - 1) 0 (omega arith) ∙ ap (λ x. n ∷ drop x ns) j

    with_space : (t : List ℕ) → Joined (Later ns i) (λ d. Decimal d n) t → Later ns (i - 1) (32 ∷ t)
    with_space t w = subst (λ l. Spaced (32 ∷ t) l) (sym this) (w.0, w.1, ap (λ (l : List ℕ). 32 ∷ l) w.2, w.3, w.4)

-- ---- a line, at the end of a buffer of 117 bytes whose last one is a newline

pub record Made (w ns z : List ℕ) (s : ℕ) (b : List ℕ) : Type 0 where
  pub long : length b ≡ 117
  pub written : Written w ns z (drop s b)

-- what stands from s on where w was copied to there
copied : (w b : List ℕ) {b' : List ℕ} (s e : ℕ) → s ≤ length b → s + length w ≡ e → b' ≡ put b s w → drop s b' ≡ w ++ drop e b
copied w b {b'} s e h m q =
    ap (drop s) q
    ∙ drop_at (take s b) (w ++ drop (s + length w) b) s (length-take-le s b h)
    ∙ ap (λ i. w ++ drop i b) m

-- the ending, the numbers in front of it, and the word in front of them
pub made : (w ns z b : List ℕ) {b₀ b₁ b₂ : List ℕ} {e : ℕ} → (length b ≡ 117) × (drop 116 b ≡ 10 ∷ []) → length z ≤ 5
    → b₀ ≡ put b (116 - length z) z → length b₀ ≡ length b
    → Before (λ t. Spaced t ns) b₀ (116 - length z) e b₁ → length b₁ ≡ length b₀ → length w ≤ e
    → b₂ ≡ put b₁ (e - length w) w → length b₂ ≡ length b₁ → Made w ns z (e - length w) b₂
made w ns z b {b₀} {b₁} {b₂} {e} n f c u p k h q l =
    let a : ℕ = 116 - length z in
    let stop : drop a b₀ ≡ z ++ 10 ∷ [] = copied z b a 116 (omega arith) (omega arith) c ∙ ap (λ (t : List ℕ). z ++ t) n.1 in
    record {
      long = omega arith;
      written = record {
        rest = p.text;
        fields = p.is;
        line =
            copied w b₁ (e - length w) e (omega (arith, p.start)) (omega arith) q
            ∙ ap (λ (t : List ℕ). w ++ t) (p.from ∙ ap (λ (t : List ℕ). p.text ++ t) stop);
      };
    }

module _ {w ns z b : List ℕ} {s : ℕ} (m : Made w ns z s b) where
  size : length (drop s b) ≡ 117 - s
  size = length-drop s b ∙ ap (λ n. n - s) m.long

  pub no_room : {o : List ℕ} {at : ℕ} → length o < at + (117 - s) → PutClaim w ns z o at at o
  no_room h = record { line = drop s b; written = m.written; room = λ k. absurd (omega (arith, size)); full = λ k. (refl, refl) }

  pub placed : {o o' : List ℕ} {at : ℕ} → at + (117 - s) ≤ length o → o' ≡ put o at (take (117 - s) (drop s b))
      → PutClaim w ns z o at (at + (117 - s)) o'
  placed {o} {o'} {at} h e =
      record {
        line = drop s b;
        written = m.written;
        room = λ k. (ap (λ (n : ℕ). at + n) (sym size), e ∙ ap (put o at) (take_all (117 - s) (drop s b) (omega (arith, size))));
        full = λ k. absurd (omega (arith, size));
      }
