-- What a client of this layer cites: words that hold the lists of the places (`Whole`), the lists that they hold (`lists`), and how each function
-- changes them. One list changes, every other stays, the words stay whole, words past n records are kept.
use mathlib.Core.Path.{◌≡◌, refl, sym, ap, ◌∙◌, subst}
use mathlib.Core.Logic.{◌≢◌, inl, ⊎_elim, by_cases}
use mathlib.Core.List.{List, [], ◌∷◌}
use mathlib.Core.Bool.{true}
use Prim.Native.Nat.{ℕ, ◌≤◌, ◌<◌}
use native.Mathlib.Omega.{arith}
use native.Mathlib.Decide.{ℕ_discrete}
use borrow.Author.Tests.{eq-eqb, ne_eqb}
use Rattle.links.specs.Lists.{nobody, Mem, first_d, last_d, without}
use Rattle.links.proofs.laws.Lists.{Nodup, without_first}
use Rattle.links.proofs.laws.Family.{fam_some, fam_nodup, fam_marked, fam_empty, fam_cons, fam_tail}
use Rattle.links.specs.Family.{tail_or}
use Rattle.links.specs.Links.{Links, at, net, Room}
use Rattle.links.proofs.laws.Judge.{cat, fam_length}
use lib.ListN.{length, set}
use lib.Seq.{get_or-set_same, get_or-set_other}
use Rattle.links.specs.Whole as links
use Rattle.links.proofs.laws.Whole as links_laws
use Rattle.links.proofs.laws.Fixed.{whole_fixed}
use Rattle.places.specs.Places.{slot_place, free, places, retired, put}
use Rattle.places.proofs.laws.Places.{put_free, put_tail}
use Rattle.places.specs.Heads.{Shape, slot_head}
use Rattle.places.proofs.laws.Heads.{slot_head_lem, upd_head, count_with, shape_with, head_past, tops_fixed, heads_fixed}
use Rattle.places.specs.Words.{PlaceWords, count, head_at, mark_of, with_head, push, remove, pop, retire, CanPush, CanRemove, CanPop, CanPushSlot, CanPopSlot}
use Rattle.places.proofs.laws.Words.{words_eq, judged}
use Rattle.places.specs.Whole.{Whole, lists, PlacesKept, Changes}

module _ {t : PlaceWords} (W : Whole t) where
  -- ---- what the lists say of the words

  pub room : Room (count t) t.links
  room = W.held.room

  pub small : count t ≤ nobody
  small = W.held.fam.small

  pub list_empty : (p : ℕ) → head_at t p ≡ nobody → lists t p ≡ []
  unfolding lists
  list_empty p h = fam_empty W.held.fam p h

  pub list_cons : (p : ℕ) → head_at t p ≢ nobody → (l : List ℕ) × (lists t p ≡ head_at t p ∷ l)
  unfolding lists
  list_cons p h = fam_cons W.held.fam p h

  pub head_first : (p : ℕ) → head_at t p ≡ first_d nobody (lists t p)
  unfolding lists
  head_first p = W.held.fam.heads p

  -- each list keeps a tail: the back link of its head, or nobody's where it is empty
  pub tail_last : (p : ℕ) → tail_or nobody (at t.links.prevs) (head_at t p) ≡ last_d nobody (lists t p)
  unfolding lists
  tail_last p = fam_tail W.held.fam p nobody

  -- a member of the list of p is one of n records, p is a place and the member's mark
  pub member_below : (p i : ℕ) → Mem i (lists t p) → i < count t
  unfolding lists
  member_below p i m = (W.held.fam.mems p i m).below

  pub member_place : (p i : ℕ) → Mem i (lists t p) → p < places
  unfolding lists
  member_place p i m = (W.held.fam.mems p i m).place

  pub member_mark : (p i : ℕ) → Mem i (lists t p) → mark_of t i ≡ p
  unfolding lists
  member_mark p i m = (W.held.fam.mems p i m).mark

  pub member_some : (p i : ℕ) → Mem i (lists t p) → i ≢ nobody
  unfolding lists
  member_some p i m = fam_some W.held.fam p i m

  -- and whose mark is a place is in its list
  pub marked_member : (i : ℕ) → i < count t → mark_of t i < places → Mem i (lists t (mark_of t i))
  unfolding lists
  marked_member i hi h = fam_marked W.held.fam i hi h

  -- the mark of one in no list is no list's
  pub unlisted_mark : (i : ℕ) → i < count t → ((p : ℕ) → Mem i (lists t p) → ⊥) → places ≤ mark_of t i
  unfolding lists
  unlisted_mark i hi out = ⊎_elim (λ m. absurd (out (mark_of t i) m)) (λ l. l.mark) (W.held.fam.cover i hi)

  -- no record is in two lists, so that all lists together have no more members than there are records
  pub members_few : length (cat (lists t) places 0) ≤ count t
  unfolding lists
  members_few = fam_length (net (head_at t) t.links) (count t) small W.held.fam

  pub list_nodup : (p : ℕ) → Nodup (lists t p)
  unfolding lists
  list_nodup p = fam_nodup W.held.fam p

  -- ---- what the functions ask

  pub can_push : (p i : ℕ) → p < places → i < count t → CanPush t p i
  can_push p i hp hi = (hp, links_laws.can_join W.held p i hi)

  pub can_remove : (i : ℕ) → i < count t → mark_of t i < places → CanRemove t i
  can_remove i hi hp = (hp, links_laws.can_cut W.held i hi hp)

  first_in : (p : ℕ) → head_at t p ≢ nobody → Mem (head_at t p) (lists t p)
  first_in p d = let r = list_cons p d in rw r.1 (inl refl)

  pub can_pop : (p : ℕ) → p < places → CanPop t p
  can_pop p hp =
      let marked : head_at t p ≢ nobody → mark_of t (head_at t p) < places = λ d. omega (arith, member_mark p (head_at t p) (first_in p d)) in
      record {
        place = hp;
        marked = marked;
        linked = λ d. links_laws.can_cut W.held (head_at t p) (member_below p (head_at t p) (first_in p d)) (marked d);
      }

  -- the same at slot s of level k
  module _ (k s : ℕ) (hk : k < 6) (hs : s < 64) where
    here : slot_head t.heads k s ≡ head_at t (slot_place k s)
    here = slot_head_lem k s hk hs t.tops t.heads

    pub can_push_slot : (i : ℕ) → i < count t → CanPushSlot t.heads t.links k s i
    can_push_slot i hi = record { level = hk; slot = hs; linked = rw here (can_push (slot_place k s) i (omega arith) hi).1 }

    pub can_pop_slot : CanPopSlot t.heads t.links k s
    can_pop_slot =
        let C : CanPop t (slot_place k s) = can_pop (slot_place k s) (omega arith) in
        record {
          level = hk;
          slot = hs;
          marked = λ d. rw here (member_mark (slot_place k s) (head_at t (slot_place k s)) (first_in (slot_place k s) (λ z. d (here ∙ z))));
          linked = λ d.
              let z : head_at t (slot_place k s) ≢ nobody = λ z. d (here ∙ z) in
              let m = member_mark (slot_place k s) (head_at t (slot_place k s)) (first_in (slot_place k s) z) in
              rw here (rw m at (C.linked z));
        }

  -- ---- how the functions change the lists

  -- who is retired stays so, when i, who is not, gets the mark v
  pub still : (i v : ℕ) {ms : List ℕ} → ms ≡ set t.links.marks i v → mark_of t i ≢ retired → (j : ℕ) → mark_of t j ≡ retired → at ms j ≡ retired
  still i v e d j r = rw e (get_or-set_other t.links.marks i j v 0 (λ (z : j ≡ i). d (rw z at r)) ∙ r)

  -- from the links' laws to this layer's: one head is v, there are as many records as before, and who was retired is
  pub changed : {l : List ℕ} {q : ℕ} {ls : Links} (p v : ℕ) → ((j : ℕ) → mark_of t j ≡ retired → at ls.marks j ≡ retired)
      → links_laws.Changes places (count t) (head_at t) t.links q l (head_at (with_head t p v ls)) ls → Changes t q l (with_head t p v ls)
  unfolding lists
  changed {l} {q} {ls} p v r C =
      let hd = head_at (with_head t p v ls) in
      let e : count (with_head t p v ls) ≡ count t = count_with t.tops p v in
      record {
        whole = record { shape = shape_with t.heads W.shape p v; held = subst (λ n. links.Whole places n hd ls) (sym e) C.whole };
        lists = ap (λ n. links.lists_of n hd ls) e ∙ C.lists;
        kept = record { size = e; links = C.kept; retired = r };
      }

  -- the loose record i comes into the list of p
  pub push_law : (p i : ℕ) → p < places → i < count t → mark_of t i ≡ nobody → Changes t p (put p i (lists t p)) (push t p i)
  unfolding push lists
  push_law p i hp hi lo =
      by_cases (ℕ_discrete p free)
      (λ (e : p ≡ free).
      let C = links_laws.join_law W.held p i hp hi lo (upd_head t.heads W.shape t.tops p i hp) in
      let z : put p i (lists t p) ≡ i ∷ lists t p = rw e (put_free i (lists t free)) in
      rw (z, eq-eqb p free e) (changed p i (still i p (links_laws.joined_marks t.links p i (head_at t p)) (omega (arith, lo))) C))
      (λ d.
      let C = links_laws.add_law W.held p i hp hi lo (upd_head t.heads W.shape t.tops p _ hp) in
      rw (put_tail p i (lists t p) d, ne_eqb p free d) (changed p _ (still i p (links_laws.added_marks t.links p i (head_at t p)) (omega (arith, lo))) C))

  -- i leaves the list of its mark
  pub remove_law : (i : ℕ) → i < count t → mark_of t i < places → Changes t (mark_of t i) (without i (lists t (mark_of t i))) (remove t i)
  unfolding remove lists
  remove_law i hi hp =
      let C = links_laws.cut_law W.held i hi hp (upd_head t.heads W.shape t.tops (mark_of t i) _ hp) in
      changed (mark_of t i) _ (still i nobody (links_laws.cut_marks t.links i (head_at t (mark_of t i))) (omega (arith, hp))) C

  -- the first of the list of p leaves it
  pub pop_law : (p x : ℕ) (l : List ℕ) → lists t p ≡ x ∷ l → (head_at t p ≡ x) × Changes t p l (pop t p)
  unfolding pop
  pop_law p x l e =
      let h : head_at t p ≡ x = head_first p ∙ ap (first_d nobody) e in
      let m : Mem x (lists t p) = rw e (inl refl) in
      let q : mark_of t x ≡ p = member_mark p x m in
      let C = remove_law x (member_below p x m) (rw q (member_place p x m)) in
      (h, rw (h, ne_eqb x nobody (member_some p x m)) (rw (q, e, without_first) at C))

  -- and from an empty one nobody does
  pub pop_empty : (p : ℕ) → lists t p ≡ [] → (head_at t p ≡ nobody) × (pop t p ≡ t)
  unfolding pop
  pop_empty p e =
      let h : head_at t p ≡ nobody = head_first p ∙ ap (first_d nobody) e in
      (h, rw (eq-eqb (head_at t p) nobody h))

  -- i, which is on its way, is retired
  pub retire_law : (i : ℕ) → i < count t → mark_of t i ≡ nobody
      → Whole (retire t i) × (lists (retire t i) ≡ lists t) × PlacesKept t (retire t i) × (mark_of (retire t i) i ≡ retired)
  unfolding lists
  retire_law i hi lo =
      let M = links_laws.mark_law W.held i retired hi (omega (arith, lo)) (omega arith) in (
        record { shape = W.shape; held = M.0 },
        M.1,
        record { size = refl; links = M.2; retired = still i retired refl (omega (arith, lo)) },
        get_or-set_same t.links.marks i retired 0 (omega (arith, room.marks)),
      )

  -- ---- the marks after a removal

  pub remove_mark : (i : ℕ) → i < count t → (mark_of (remove t i) i ≡ nobody) × ((j : ℕ) → j ≢ i → mark_of (remove t i) j ≡ mark_of t j)
  unfolding remove
  remove_mark i hi = let U = links_laws.mark_cut room i (head_at t (mark_of t i)) hi in (U.same, U.other)

  pub pop_mark : (p x : ℕ) (l : List ℕ) → lists t p ≡ x ∷ l → mark_of (pop t p) x ≡ nobody
  unfolding pop
  pop_mark p x l e =
      let h : head_at t p ≡ x = head_first p ∙ ap (first_d nobody) e in
      let m : Mem x (lists t p) = rw e (inl refl) in
      rw (h, ne_eqb x nobody (member_some p x m)) (remove_mark x (member_below p x m)).0

  -- ---- the judge passes them

  pub whole_judged : judged t ≡ true
  unfolding judged
  whole_judged = links_laws.whole_judge W.held

-- and nothing else: true exactly when the words are whole
pub judged_whole : {t : PlaceWords} → count t ≤ nobody → Shape t.heads → Room (count t) t.links → judged t ≡ true → Whole t
unfolding judged
judged_whole {t} small H Z e =
    record { shape = H; held = links_laws.judge_whole (omega arith) small (head_past t.tops t.heads) Z e }

-- the lists, the marks of those in none and the words past the records fix the words
pub lists_fixed : {s t : PlaceWords} → Whole s → Whole t → lists t ≡ lists s → count t ≡ count s → links.LinksKept (count s) s.links t.links
    → ((i : ℕ) → i < count s → places ≤ mark_of s i → places ≤ mark_of t i → mark_of t i ≡ mark_of s i) → t ≡ s
unfolding lists
lists_fixed {s} {t} W Y e n K loose =
    let r
    = whole_fixed W.held (subst (λ k. links.Whole places k (head_at t) t.links) n Y.held)
    (ap (λ k. links.lists_of k (head_at t) t.links) (sym n) ∙ e) K loose in
    words_eq (tops_fixed s.tops t.tops s.heads t.heads r.0 n)
    (heads_fixed s.tops t.tops s.heads t.heads r.0 W.shape Y.shape) r.1

pub kept_refl : (t : PlaceWords) → PlacesKept t t
kept_refl t = record { size = refl; links = links_laws.links_refl (count t) t.links; retired = λ i r. r }

pub kept_trans : {s t u : PlaceWords} → PlacesKept s t → PlacesKept t u → PlacesKept s u
kept_trans A B =
    record {
      size = B.size ∙ A.size;
      links = links_laws.links_trans A.links (rw A.size at B.links);
      retired = λ i r. B.retired i (A.retired i r);
    }
