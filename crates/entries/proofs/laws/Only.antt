-- Bytes that begin with a step are the bytes of that step, and its numbers fit: nothing else is read as it.
use mathlib.Core.Path.{◌≡◌, refl, sym, ap, ap₂, ◌∙◌}
use mathlib.Core.Bool.{Bool, true, false, ◌&&◌, false≢true}
use mathlib.Core.List.{List, ◌++◌}
use Prim.Native.Nat.{ℕ, zero, suc, ◌+◌, ◌*◌, ◌/◌, ◌^◌, ◌≤◌, ◌<◌}
use native.Mathlib.Omega.{arith}
use borrow.Author.Tests.{eqb-true}
use lib.Dec.{eqb}
use lib.ListN.{length, take, drop, length-append, length-drop}
use lib.Seq.{take-add, drop-drop, length-take-le}
use Rattle.std.proofs.Common.{Ok}
use Rattle.entries.specs.declared.Step.{Step}
use Rattle.entries.specs.declared.Entry.{Entry}
use Rattle.entries.specs.Entries.{bytes_of, entry, insert_bytes, step_bytes, Fits64, Fit}
use Rattle.entries.specs.Reading.{Bytes, worth, word_at, entry_in, bare, field_zeros, zeros, next}
use Rattle.entries.proofs.laws.Writing.{entry_length}
use Rattle.entries.proofs.laws.Inverse.{StepIs, format, insert, reset, remove, poll, poll_some, clear, opens, closes, pair, NextIs, whole, next_is}
use Rattle.entries.proofs.laws.Bytes.{bytes_forth, bytes_small, bytes_take, bytes_drop}

-- ---- an entry

word_only : (n at : ℕ) (l : List ℕ) → Bytes l → at + n ≤ length l → (bytes_of n (word_at n at l) ≡ take n (drop at l)) × (word_at n at l / 256 ^ n ≡ 0)
unfolding word_at
word_only n at l h k =
    let m = take n (drop at l) in
    let e : length m ≡ n = length-take-le n (drop at l) (omega (arith, length-drop at l)) in
    let b = bytes_take n (drop at l) (bytes_drop at l h) in (
      ap (λ (i : ℕ). bytes_of i (worth 0 m)) (sym e) ∙ bytes_forth m b,
      ap (λ (i : ℕ). worth 0 m / 256 ^ i) (sym e) ∙ bytes_small m b,
    )

module _ (l : List ℕ) (h : Bytes l) (long : 18 ≤ length l) where
  in_three : take 18 l ≡ take 2 l ++ (take 8 (drop 2 l) ++ take 8 (drop 10 l))
  in_three =
      take-add 2 16 l
      ∙ ap (λ (m : List ℕ). take 2 l ++ m) (take-add 8 8 (drop 2 l) ∙ ap (λ (m : List ℕ). take 8 (drop 2 l) ++ take 8 m) (drop-drop 8 2 l))

  entry_only : (entry_in l).spare ≡ 0 → take 18 l ≡ entry (entry_in l).kind (entry_in l).a (entry_in l).b
  unfolding entry_in entry
  entry_only z =
      let p = word_only 2 0 l h (omega arith) in
      let q = word_only 8 2 l h (omega arith) in
      let r = word_only 8 10 l h (omega arith) in
      let e : word_at 2 0 l ≡ word_at 2 0 l / 4096 * 4096 = omega arith in
      in_three ∙ ap₂ (λ (x y : List ℕ). x ++ y) (sym p.0 ∙ ap (λ (w : ℕ). bytes_of 2 w) e) (ap₂ (λ (x y : List ℕ). x ++ y) (sym q.0) (sym r.0))

  fields_fit : Fits64 (entry_in l).a × Fits64 (entry_in l).b
  unfolding entry_in
  fields_fit = (omega (arith, (word_only 8 2 l h (omega arith)).1), omega (arith, (word_only 8 10 l h (omega arith)).1))

-- ---- zeros

both : (p q : Bool) → (p && q) ≡ true → (p ≡ true) × (q ≡ true)
both true q h = (refl, h)
both false q h = absurd (false≢true h)

zeros_inv : (e : Entry) → zeros e ≡ true → (e.spare ≡ 0) × (field_zeros e.kind e.a e.b ≡ true)
unfolding zeros
zeros_inv e z = let h = both (eqb e.spare 0) (field_zeros e.kind e.a e.b) z in (eqb-true e.spare 0 h.0, h.1)

bare_inv : (a b : ℕ) → bare a b ≡ true → (a ≡ 0) × (b ≡ 0)
bare_inv a b z = let h = both (eqb a 0) (eqb b 0) z in (eqb-true a 0 h.0, eqb-true b 0 h.1)

of_kind : (e : Entry) (k : ℕ) → e.kind ≡ k → field_zeros e.kind e.a e.b ≡ true → field_zeros k e.a e.b ≡ true
of_kind e k h z = ap (λ (i : ℕ). field_zeros i e.a e.b) (sym h) ∙ z

-- ---- a step

module _ (l : List ℕ) where
  -- one entry
  single : {k a b : ℕ} (i c d : ℕ) → take 18 l ≡ entry k a b → k ≡ i → a ≡ c → b ≡ d → take (length (entry i c d)) l ≡ entry i c d
  single {k} {a} {b} i c d e p q r = ap (λ (n : ℕ). take n l) (entry_length i c d) ∙ e ∙ (λ j. entry (p j) (q j) (r j))

  insert_as : (value when p : ℕ) → 0 < p → insert_bytes value when p ≡ entry 9 value when ++ entry 10 p 0
  insert_as value when zero h = absurd (omega arith)
  insert_as value when (suc p) h = refl

  -- two
  double : (value when p : ℕ) → 0 < p → take 18 l ≡ entry 9 value when → take 18 (drop 18 l) ≡ entry 10 p 0
      → take (length (insert_bytes value when p)) l ≡ insert_bytes value when p
  double value when p h e f =
      let i = insert_as value when p h in
      let n : length (insert_bytes value when p) ≡ 36 =
      omega (arith, ap (λ (m : List ℕ). length m) i, length-append (entry 9 value when) (entry 10 p 0), entry_length 9 value when, entry_length 10 p 0)
      in
      ap (λ (k : ℕ). take k l) n ∙ take-add 18 18 l ∙ ap₂ (λ (x y : List ℕ). x ++ y) e f ∙ sym i

module _ (l : List ℕ) (h : Bytes l) where
  only : {x : Step} → 18 ≤ length l → zeros (entry_in l) ≡ true → StepIs (entry_in l) (drop 18 l) (Ok x)
      → (take (length (step_bytes x)) l ≡ step_bytes x) × Fit x
  only {x} g z i = by i
    where
      e : Entry
      e = entry_in l

      v : (e.spare ≡ 0) × (field_zeros e.kind e.a e.b ≡ true)
      v = zeros_inv (entry_in l) z

      t : take 18 l ≡ entry e.kind e.a e.b
      t = entry_only l h g v.0

      f : Fits64 e.a × Fits64 e.b
      f = fields_fit l h g

      by : {y : Step} → StepIs (entry_in l) (drop 18 l) (Ok y) → (take (length (step_bytes y)) l ≡ step_bytes y) × Fit y
      by (format k) = (single l 1 e.a e.b t k refl refl, f)
      by (insert k) = (single l 2 e.a e.b t k refl refl, (f.0, f.1, omega arith))
      by (reset k) = (single l 3 e.a e.b t k refl refl, f)
      by (remove k) = (single l 4 e.a 0 t k refl (eqb-true e.b 0 (of_kind e 4 k v.1)), f.0)
      by (poll k) = (single l 5 e.a 0 t k refl (eqb-true e.b 0 (of_kind e 5 k v.1)), f.0)
      by (poll_some k) = (single l 11 e.a e.b t k refl refl, f)
      by (clear k) = let b = bare_inv e.a e.b (of_kind e 6 k v.1) in (single l 6 0 0 t k b.0 b.1, tt)
      by (opens k) = let b = bare_inv e.a e.b (of_kind e 7 k v.1) in (single l 7 0 0 t k b.0 b.1, tt)
      by (closes k) = let b = bare_inv e.a e.b (of_kind e 8 k v.1) in (single l 8 0 0 t k b.0 b.1, tt)
      by (pair k s y m p) =
          let d = drop 18 l in
          let w = zeros_inv (entry_in d) y in
          let u = entry_only d (bytes_drop 18 l h) s w.0 in
          let c = fields_fit d (bytes_drop 18 l h) s in
          let b = eqb-true (entry_in d).b 0 (of_kind (entry_in d) 10 m w.1) in
          let t₉ : take 18 l ≡ entry 9 e.a e.b = t ∙ ap (λ (j : ℕ). entry j e.a e.b) k in
          let t₁₀ : take 18 d ≡ entry 10 (entry_in d).a 0 = u ∙ (λ j. entry (m j) (entry_in d).a (b j)) in
          (double l e.a e.b (entry_in d).a p t₉ t₁₀, (f.0, f.1, c.0))

  -- the bytes are those of the step
  pub step_only : {x : Step} → next l ≡ Ok x → (take (length (step_bytes x)) l ≡ step_bytes x) × Fit x
  step_only {x} n = by (next_is l n)
    where
      by : NextIs l (Ok x) → (take (length (step_bytes x)) l ≡ step_bytes x) × Fit x
      by (whole g z i) = only g z i
