-- What the functions make of the words, store by store.
use mathlib.Core.Path.{◌≡◌, sym, ap, ◌∙◌}
use mathlib.Core.Logic.{◌≢◌}
use mathlib.Core.List.{List}
use mathlib.Core.Bool.{Bool}
use Prim.Native.Nat.{ℕ, ◌<◌}
use native.Mathlib.Omega.{arith}
use borrow.Author.Tests.{eq-eqb, ne_eqb}
use Rattle.links.specs.Lists.{nobody}
use Rattle.links.specs.Links.{Links, at, net, joined, added, head_with, cut_out, head_after}
use Rattle.links.proofs.laws.Judge.{judge}
use Rattle.places.specs.declared.Tops.{Tops}
use Rattle.places.specs.Places.{slot_place, free, places}
use Rattle.places.specs.Heads.{heads_with, tops_with, slot_head, with_slot_head}
use Rattle.places.proofs.laws.Heads.{slot_head_lem, slot_heads, slot_tops}
use Rattle.places.specs.Words.{PlaceWords, place_words, count, head_at, mark_of, push, remove, pop, CanRemove, CanPop}

-- two are equal by their parts
pub words_eq : {s s' : Tops} {h h' : List (List ℕ)} {l l' : Links} → s ≡ s' → h ≡ h' → l ≡ l' → place_words s h l ≡ place_words s' h' l'
words_eq p q r = λ i. record { tops = p i; heads = q i; links = r i }

-- the judge
unfoldable pub judged : PlaceWords → Bool
judged t = judge (net (head_at t) t.links) places (count t)

-- ---- the same, store by store

pub push_head_is : (t : PlaceWords) (p i h : ℕ) {r : Tops} {hh' : List (List ℕ)} {ls : Links} → p ≡ free → h ≡ head_at t p
    → r ≡ tops_with t.tops p i → hh' ≡ heads_with t.heads p i → ls ≡ joined t.links p i h → place_words r hh' ls ≡ push t p i
unfolding push
push_head_is t p i h d e f g k = rw (eq-eqb p free d) (words_eq f g (k ∙ ap (joined t.links p i) e))

pub push_tail_is : (t : PlaceWords) (p i h b : ℕ) {r : Tops} {hh' : List (List ℕ)} {ls : Links} → p ≢ free → h ≡ head_at t p
    → b ≡ head_with i h
    → r ≡ tops_with t.tops p b → hh' ≡ heads_with t.heads p b → ls ≡ added t.links p i h → place_words r hh' ls ≡ push t p i
unfolding push
push_tail_is t p i h b d e f g k l =
    let q : b ≡ head_with i (head_at t p) = f ∙ ap (head_with i) e in
    rw (ne_eqb p free d)
    (words_eq (g ∙ ap (tops_with t.tops p) q) (k ∙ ap (heads_with t.heads p) q) (l ∙ ap (added t.links p i) e))

pub remove_is : (t : PlaceWords) (i h b : ℕ) {r : Tops} {hh' : List (List ℕ)} {ls : Links} → h ≡ head_at t (mark_of t i)
    → b ≡ head_after t.links i h
    → r ≡ tops_with t.tops (mark_of t i) b → hh' ≡ heads_with t.heads (mark_of t i) b → ls ≡ cut_out t.links i h
    → place_words r hh' ls ≡ remove t i
unfolding remove
remove_is t i h b e f g k l =
    let q : b ≡ head_after t.links i (head_at t (mark_of t i)) = f ∙ ap (head_after t.links i) e in
    words_eq (g ∙ ap (tops_with t.tops (mark_of t i)) q) (k ∙ ap (heads_with t.heads (mark_of t i)) q) (l ∙ ap (cut_out t.links i) e)

module _ (t : PlaceWords) (p h : ℕ) (e : h ≡ head_at t p) where
  pub pop_none : h ≡ nobody → t ≡ pop t p
  unfolding pop
  pop_none z = rw (eq-eqb (head_at t p) nobody (sym e ∙ z))

  pub pop_some : h ≢ nobody → {u : PlaceWords} → u ≡ remove t h → u ≡ pop t p
  unfolding pop
  pop_some d f = rw (ne_eqb (head_at t p) nobody (λ z. d (e ∙ z))) (f ∙ ap (remove t) e)

  pub pop_asks : CanPop t p → h ≢ nobody → CanRemove t h
  pop_asks C d = rw e (C.marked (λ z. d (e ∙ z)), C.linked (λ z. d (e ∙ z)))

-- ---- the same at slot s of level k, which no head of `Tops` has a part in

module _ (k s : ℕ) (hk : k < 6) (hs : s < 64) (hh : List (List ℕ)) (ls : Links) {hh' : List (List ℕ)} {ls' : Links} where
  pub push_slot_is : (i p b : ℕ) → p ≡ slot_place k s → b ≡ head_with i (slot_head hh k s) → hh' ≡ with_slot_head hh k s b
      → ls' ≡ added ls p i (slot_head hh k s)
      → (st : Tops) → place_words st hh' ls' ≡ push (place_words st hh ls) (slot_place k s) i
  push_slot_is i p b ep eb e f st =
      push_tail_is (place_words st hh ls) (slot_place k s) i (slot_head hh k s) b (omega arith) (slot_head_lem k s hk hs st hh) eb
      (slot_tops k s hk hs st b) (e ∙ slot_heads k s hk hs hh b) (rw ep at f)

  pub pop_slot_is : (h b : ℕ) → h ≡ slot_head hh k s → h ≢ nobody → at ls.marks h ≡ slot_place k s → b ≡ head_after ls h h
      → hh' ≡ with_slot_head hh k s b → ls' ≡ cut_out ls h h
      → (st : Tops) → place_words st hh' ls' ≡ pop (place_words st hh ls) (slot_place k s)
  pop_slot_is h b eh d m eb e f st =
      let t : PlaceWords = place_words st hh ls in
      let q : h ≡ head_at t (slot_place k s) = eh ∙ slot_head_lem k s hk hs st hh in
      pop_some t (slot_place k s) h q d
      (remove_is t h h b (rw m q) eb (rw m (slot_tops k s hk hs st b)) (rw m (e ∙ slot_heads k s hk hs hh b)) f)
