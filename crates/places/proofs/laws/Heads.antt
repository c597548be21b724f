-- The head of a place, by its kind, and after a store.
use mathlib.Core.Path.{◌≡◌, refl, sym, ap, ◌∙◌}
use mathlib.Core.Logic.{◌≢◌, by_cases}
use mathlib.Core.List.{List, []}
use mathlib.Core.Bool.{Bool, true, false, cond}
use Prim.Native.Nat.{ℕ, ◌+◌, ◌*◌, ◌/◌, ◌%◌, ◌≤◌, ◌<◌}
use native.Mathlib.Omega.{arith}
use native.Mathlib.Decide.{ℕ_discrete, dec_lt}
use lib.ListN.{get_or, set, length-set}
use lib.Seq.{ext_get_or, get_or-set_same, get_or-set_other}
use lib.Dec.{eqb, ltb}
use borrow.Author.Tests.{eq-eqb, ne_eqb, lt-ltb, le-ltb}
use Rattle.links.specs.Lists.{nobody}
use Rattle.links.proofs.laws.Family.{Upd}
use Rattle.places.specs.declared.Tops.{Tops}
use Rattle.places.specs.Places.{slot_place, slots, parking, expired, free, places}
use Rattle.places.specs.Heads.{slot_head, with_slot_head, head_of, set_slot, heads_with, tops_by, tops_with, Shape}

-- ---- the head of a place, by its kind

module _ (st : Tops) (hh : List (List ℕ)) where
  pub head_slot : (p : ℕ) → p < slots → head_of st hh p ≡ get_or (get_or hh (p / 64) []) (p % 64) 0
  unfolding head_of
  head_slot p h = rw (lt-ltb p slots h)

  pub head_parking : head_of st hh parking ≡ st.parking
  unfolding head_of
  head_parking = refl

  pub head_expired : head_of st hh expired ≡ st.expired
  unfolding head_of
  head_expired = refl

  pub head_free : head_of st hh free ≡ st.free
  unfolding head_of
  head_free = refl

  pub head_past : (p : ℕ) → places ≤ p → head_of st hh p ≡ nobody
  unfolding head_of
  head_past p h =
      let a : slots ≤ p = omega arith in
      let b : p ≢ parking = omega arith in
      let c : p ≢ expired = omega arith in
      let d : p ≢ free = omega arith in
      rw (le-ltb p slots a, ne_eqb p parking b, ne_eqb p expired c, ne_eqb p free d)

-- ---- a slot by its level k and its number s there

module _ (k s : ℕ) (hk : k < 6) (hs : s < 64) where
  level_of_lem : slot_place k s / 64 ≡ k
  level_of_lem = omega arith

  number_of : slot_place k s % 64 ≡ s
  number_of = omega arith

  pub slot_head_lem : (st : Tops) (hh : List (List ℕ)) → slot_head hh k s ≡ head_of st hh (slot_place k s)
  slot_head_lem st hh = sym (rw (level_of_lem, number_of) at (head_slot st hh (slot_place k s) (omega arith)))

  pub slot_heads : (hh : List (List ℕ)) (v : ℕ) → with_slot_head hh k s v ≡ heads_with hh (slot_place k s) v
  unfolding heads_with
  slot_heads hh v = rw (lt-ltb (slot_place k s) slots (omega arith), level_of_lem, number_of)

  pub slot_tops : (st : Tops) (v : ℕ) → st ≡ tops_with st (slot_place k s) v
  unfolding tops_with
  slot_tops st v = rw (lt-ltb (slot_place k s) slots (omega arith))

-- ---- one head changed, the rest kept

module _ (hh : List (List ℕ)) (H : Shape hh) where
  slot_same : (p v : ℕ) → p < slots → get_or (get_or (set_slot hh p v) (p / 64) []) (p % 64) 0 ≡ v
  slot_same p v h =
      let k : p / 64 < 6 = omega arith in
      rw (get_or-set_same hh (p / 64) (set (get_or hh (p / 64) []) (p % 64) v) [] (omega (arith, H.six)))
      (get_or-set_same (get_or hh (p / 64) []) (p % 64) v 0 (omega (arith, H.wide (p / 64) k)))

  slot_other : (p v j : ℕ) → p < slots → j ≢ p → get_or (get_or (set_slot hh p v) (j / 64) []) (j % 64) 0 ≡ get_or (get_or hh (j / 64) []) (j % 64) 0
  slot_other p v j h d =
      by_cases (ℕ_discrete (j / 64) (p / 64))
      (λ (e : j / 64 ≡ p / 64).
      rw (e, get_or-set_same hh (p / 64) (set (get_or hh (p / 64) []) (p % 64) v) [] (omega (arith, H.six)))
      (get_or-set_other (get_or hh (p / 64) []) (p % 64) (j % 64) v 0 (omega (arith, d, e))))
      (λ e. ap (λ (z : List ℕ). get_or z (j % 64) 0) (get_or-set_other hh (p / 64) (j / 64) (set (get_or hh (p / 64) []) (p % 64) v) [] e))

  pub upd_head : (st : Tops) (p v : ℕ) → p < places → Upd (head_of st hh) p v (head_of (tops_with st p v) (heads_with hh p v))
  unfolding head_of heads_with tops_with
  upd_head st p v hp =
      by_cases (dec_lt p slots)
      (λ h.
      record {
        same = rw (lt-ltb p slots h) (slot_same p v h);
        other = λ j d.
            by_cases (dec_lt j slots)
            (λ k. rw (lt-ltb p slots h, lt-ltb j slots k) (slot_other p v j h d))
            (λ k. let k' : slots ≤ j = omega (arith, k) in rw (lt-ltb p slots h, le-ltb j slots k'));
      })
      (λ h.
      let h' : slots ≤ p = omega (arith, h) in
      by_cases (ℕ_discrete p parking)
      (λ g.
      record {
        same = rw (le-ltb p slots h', eq-eqb p parking g);
        other = λ j d. rw (le-ltb p slots h', eq-eqb p parking g, ne_eqb j parking (λ k. d (k ∙ sym g)));
      })
      (λ g.
      by_cases (ℕ_discrete p expired)
      (λ e.
      record {
        same = rw (le-ltb p slots h', ne_eqb p parking g, eq-eqb p expired e);
        other = λ j d. rw (le-ltb p slots h', ne_eqb p parking g, eq-eqb p expired e, ne_eqb j expired (λ k. d (k ∙ sym e)));
      })
      (λ e.
      let e' : p ≡ free = omega (arith, e, g) in
      record {
        same = rw (le-ltb p slots h', ne_eqb p parking g, ne_eqb p expired e, eq-eqb p free e');
        other = λ j d. rw (le-ltb p slots h', ne_eqb p parking g, ne_eqb p expired e, ne_eqb j free (λ z. d (z ∙ sym e')));
      })))

-- a change of one head keeps the number of records
pub count_with : (st : Tops) (p v : ℕ) → (tops_with st p v).n ≡ st.n
unfolding tops_with
count_with st p v = by (ltb p slots) (eqb p parking) (eqb p expired)
  where
    by : (a b c : Bool) → (cond a st (cond b (tops_by st.n st.expired st.free v)
        (cond c (tops_by st.n v st.free st.parking) (tops_by st.n st.expired v st.parking)))).n ≡ st.n
    by true b c = refl
    by false true c = refl
    by false false true = refl
    by false false false = refl

-- and the shape
pub shape_with : (hh : List (List ℕ)) → Shape hh → (p v : ℕ) → Shape (heads_with hh p v)
unfolding heads_with
shape_with hh H p v = by (ltb p slots)
  where
    by : (t : Bool) → Shape (cond t (set_slot hh p v) hh)
    by true =
        record {
          six = length-set hh (p / 64) (set (get_or hh (p / 64) []) (p % 64) v) ∙ H.six;
          wide = λ k h.
              by_cases (ℕ_discrete k (p / 64))
              (λ (e : k ≡ p / 64).
              rw (e, get_or-set_same hh (p / 64) (set (get_or hh (p / 64) []) (p % 64) v) [] (omega (arith, H.six)), length-set)
              (H.wide (p / 64) (omega (arith, e))))
              (λ d. rw (get_or-set_other hh (p / 64) k (set (get_or hh (p / 64) []) (p % 64) v) [] d) (H.wide k h));
        }
    by false = H

-- ---- the heads of all places fix the words

module _ (st st' : Tops) (hh hh' : List (List ℕ)) (same : (p : ℕ) → head_of st' hh' p ≡ head_of st hh p) where
  pub tops_fixed : st'.n ≡ st.n → st' ≡ st
  tops_fixed e =
      let a : st'.expired ≡ st.expired = sym (head_expired st' hh') ∙ same expired ∙ head_expired st hh in
      let b : st'.free ≡ st.free = sym (head_free st' hh') ∙ same free ∙ head_free st hh in
      let c : st'.parking ≡ st.parking = sym (head_parking st' hh') ∙ same parking ∙ head_parking st hh in
      λ i. record { n = e i; expired = a i; free = b i; parking = c i }

  slot_fixed : (k s : ℕ) → k < 6 → s < 64 → get_or (get_or hh' k []) s 0 ≡ get_or (get_or hh k []) s 0
  slot_fixed k s hk hs =
      let p : ℕ = 64 * k + s in
      let q : p / 64 ≡ k = omega arith in
      let r : p % 64 ≡ s = omega arith in
      rw (q, r) at (sym (head_slot st' hh' p (omega arith)) ∙ same p ∙ head_slot st hh p (omega arith))

  pub heads_fixed : Shape hh → Shape hh' → hh' ≡ hh
  heads_fixed H H' =
      ext_get_or [] hh' hh (H'.six ∙ sym H.six)
      (λ k h.
      let hk : k < 6 = omega (arith, h, H'.six) in
      ext_get_or 0 (get_or hh' k []) (get_or hh k []) (H'.wide k hk ∙ sym (H.wide k hk))
      (λ s g. slot_fixed k s hk (omega (arith, g, H'.wide k hk))))
