-- Words that hold a family of lists (`Whole`), and what `joined`, `added` and `cut_out` make of them: one list changes, every other stays, the family is
-- whole.
use mathlib.Core.Path.{◌≡◌, refl, ◌∙◌}
use mathlib.Core.Logic.{◌≢◌, ◌⊎◌, inl, inr, ⊎_elim, by_cases}
use mathlib.Core.List.{List, [], ◌∷◌, ◌++◌}
use mathlib.Core.Bool.{true}
use Prim.Native.Nat.{ℕ, ◌≤◌, ◌<◌}
use native.Mathlib.Omega.{arith}
use native.Mathlib.Decide.{ℕ_discrete}
use lib.ListN.{length, set, length-set}
use lib.Seq.{get_or-set_same, get_or-set_other}
use borrow.Author.Tests.{eq-eqb, ne_eqb}
use Rattle.links.specs.Lists.{nobody, Mem, last_d, without, change}
use Rattle.links.proofs.laws.Lists.{mem_first}
use Rattle.links.proofs.laws.Segments.{seg_next}
use Rattle.links.specs.Family.{Fam, tail_or, link_past, back_past}
use Rattle.links.proofs.laws.Family.{Upd, Put, fam_loose, fam_bare, fam_marked, fam_before}
use Rattle.links.proofs.laws.Insert.{Between, fam_push, fam_add}
use Rattle.links.proofs.laws.Remove.{fam_unlink}
use Rattle.links.specs.Walk.{lists}
use Rattle.links.proofs.laws.Walk.{fam_lists}
use Rattle.links.proofs.laws.Judge.{judge, judge_sound, judge_complete}
use Rattle.links.specs.Links.{Links, at, net, set_n, between, joined, added, head_with, cut_out, head_after, marked, Room, Inside, CanJoin, CanCut}
use Rattle.links.specs.Whole.{lists_of, Whole, Kept, LinksKept}

-- t with the heads hd' is whole, its lists are those of s but for p's, which is l, and words past n records are as they were
pub record Changes (P n : ℕ) (hd : ℕ → ℕ) (s : Links) (p : ℕ) (l : List ℕ) (hd' : ℕ → ℕ) (t : Links) : Type 0 where
  pub whole : Whole P n hd' t
  pub lists : lists_of n hd' t ≡ change (lists_of n hd s) p l
  pub kept : LinksKept n s t

-- ---- stores into a list

pub upd_set : (l : List ℕ) (i v : ℕ) → i < length l → Upd (at l) i v (at (set l i v))
upd_set l i v h = record { same = get_or-set_same l i v 0 h; other = λ j. get_or-set_other l i j v 0 }

pub put_set_n : (l : List ℕ) (k v : ℕ) → Inside k l → Put (at l) k v (at (set_n l k v))
put_set_n l k v h =
    record {
      same = λ d. rw (ne_eqb k nobody d) (get_or-set_same l k v 0 (h d));
      other = λ j d. by_cases (ℕ_discrete k nobody) (λ e. rw (eq-eqb k nobody e))
          (λ e. rw (ne_eqb k nobody e) (get_or-set_other l k j v 0 d));
    }

pub kept_refl : (n : ℕ) (l : List ℕ) → Kept n l l
kept_refl n l = record { size = refl; past = λ j h. refl }

pub kept_trans : {n : ℕ} {l m k : List ℕ} → Kept n l m → Kept n m k → Kept n l k
kept_trans A B = record { size = B.size ∙ A.size; past = λ j h. B.past j h ∙ A.past j h }

pub kept_set : (n : ℕ) (l : List ℕ) (i v : ℕ) → i < n → Kept n l (set l i v)
kept_set n l i v h = record { size = length-set l i v; past = λ j k. get_or-set_other l i j v 0 (omega arith) }

pub kept_set_n : (n : ℕ) (l : List ℕ) (k v : ℕ) → (k ≢ nobody → k < n) → Kept n l (set_n l k v)
kept_set_n n l k v h =
    by_cases (ℕ_discrete k nobody)
    (λ e. rw (eq-eqb k nobody e) (kept_refl n l))
    (λ d. rw (ne_eqb k nobody d) (kept_set n l k v (h d)))

pub links_refl : (n : ℕ) (s : Links) → LinksKept n s s
links_refl n s = record { nexts = kept_refl n s.nexts; prevs = kept_refl n s.prevs; marks = kept_refl n s.marks }

pub links_trans : {n : ℕ} {s t u : Links} → LinksKept n s t → LinksKept n t u → LinksKept n s u
links_trans A B =
    record {
      nexts = kept_trans A.nexts B.nexts;
      prevs = kept_trans A.prevs B.prevs;
      marks = kept_trans A.marks B.marks;
    }

pub room_kept : {n : ℕ} {s t : Links} → Room n s → LinksKept n s t → Room n t
room_kept Z K = omega arith

-- ---- from a family to the words that hold it

changed : {P n : ℕ} {hd : ℕ → ℕ} {s : Links} {p : ℕ} {l : List ℕ} {hd' : ℕ → ℕ} {t : Links} → Room n s → LinksKept n s t
    → Fam P n (net hd' t) (change (lists_of n hd s) p l) → Changes P n hd s p l hd' t
changed Z K F =
    let e = fam_lists F in
    record { whole = record { room = room_kept Z K; fam = rw e F }; lists = e; kept = K }

-- ---- the laws

module _ {P n : ℕ} {hd : ℕ → ℕ} {s : Links} (W : Whole P n hd s) where
  abbrev L : ℕ → List ℕ
  L = lists_of n hd s

  head_in : (p : ℕ) → hd p ≢ nobody → Mem (hd p) (L p)
  head_in p h = rw (W.fam.heads p) (mem_first nobody (L p) (λ e. h (W.fam.heads p ∙ e)))

  -- a head is nobody or a record
  pub head_below : (p : ℕ) → hd p ≢ nobody → hd p < n
  head_below p h = (W.fam.mems p (hd p) (head_in p h)).below

  -- and so is a tail
  tail_below : (p : ℕ) → tail_or nobody (at s.prevs) (hd p) ≢ nobody → tail_or nobody (at s.prevs) (hd p) < n
  tail_below p =
      by_cases (ℕ_discrete (hd p) nobody)
      (λ e. rw (eq-eqb (hd p) nobody e) (λ h. absurd (h refl)))
      (λ d. rw (ne_eqb (hd p) nobody d) (λ h. (W.fam.mems p (at s.prevs (hd p)) (fam_before W.fam p (hd p) (head_in p d))).below))

  pub can_join : (p i : ℕ) → i < n → CanJoin s i (hd p)
  can_join p i hi =
      record {
        next = omega arith;
        prev = omega arith;
        mark = omega arith;
        first = λ h. omega (arith, head_below p h);
        last = λ h. omega (arith, tail_below p h);
      }

  -- what both ends have in common: i comes between the tail and the head
  prevs_kept : (p i : ℕ) → i < n → Kept n s.prevs (between s.prevs i (hd p))
  unfolding between
  prevs_kept p i hi = kept_trans (kept_set n s.prevs i _ hi) (kept_set_n n (set s.prevs i _) (hd p) i (head_below p))

  stands : (p i : ℕ) → i < n → (hd' : ℕ → ℕ) (ns : List ℕ)
      → Between (net hd s) p i (net hd' (record { nexts = ns; prevs = between s.prevs i (hd p); marks = set s.marks i p }))
  unfolding between
  stands p i hi hd' ns =
      let C = can_join p i hi in
      let v = tail_or i (at s.prevs) (hd p) in
      record {
        pv₁ = at (set s.prevs i v);
        prev = upd_set s.prevs i v C.prev;
        prev_first = put_set_n (set s.prevs i v) (hd p) i (λ h. simp length-set (C.first h));
        mark = upd_set s.marks i p C.mark;
      }

  join_kept : (p i : ℕ) → i < n → LinksKept n s (joined s p i (hd p))
  unfolding joined
  join_kept p i hi =
      record { nexts = kept_set n s.nexts i (hd p) hi; prevs = prevs_kept p i hi; marks = kept_set n s.marks i p hi }

  -- the loose record i comes to the head of the list of p
  pub join_law : (p i : ℕ) → p < P → i < n → at s.marks i ≡ nobody → {hd' : ℕ → ℕ} → Upd hd p i hd'
      → Changes P n hd s p (i ∷ L p) hd' (joined s p i (hd p))
  unfolding joined
  join_law p i hp hi lo H =
      changed W.room (join_kept p i hi)
      (fam_push W.fam p i
      (record {
        head = H;
        next = upd_set s.nexts i (hd p) (can_join p i hi).next;
        between = stands p i hi _ (set s.nexts i (hd p));
      })
      hp hi lo)

  add_kept : (p i : ℕ) → i < n → LinksKept n s (added s p i (hd p))
  unfolding added
  add_kept p i hi =
      record {
        nexts = kept_set_n n s.nexts _ i (tail_below p);
        prevs = prevs_kept p i hi;
        marks = kept_set n s.marks i p hi;
      }

  -- the loose record i comes to the tail of the list of p
  pub add_law : (p i : ℕ) → p < P → i < n → at s.marks i ≡ nobody → {hd' : ℕ → ℕ} → Upd hd p (head_with i (hd p)) hd'
      → Changes P n hd s p (L p ++ i ∷ []) hd' (added s p i (hd p))
  unfolding added head_with
  add_law p i hp hi lo H =
      let C = can_join p i hi in
      changed W.room (add_kept p i hi)
      (fam_add W.fam p i
      (record {
        head = H;
        next_last = put_set_n s.nexts (tail_or nobody (at s.prevs) (hd p)) i C.last;
        between = stands p i hi _ (set_n s.nexts (tail_or nobody (at s.prevs) (hd p)) i);
      })
      hp hi lo)

  module _ (i : ℕ) (hi : i < n) (hp : at s.marks i < P) where
    abbrev here : ℕ
    here = at s.marks i

    mine : Mem i (L here)
    mine = fam_marked W.fam i hi hp

    neighbour : (k : ℕ) → (k ≡ nobody) ⊎ Mem k (L here) → k ≢ nobody → k < n
    neighbour k (inl e) h = absurd (h e)
    neighbour k (inr m) h = (W.fam.mems here k m).below

    next_below : at s.nexts i ≢ nobody → at s.nexts i < n
    next_below = neighbour (at s.nexts i) (seg_next (at s.nexts) (at s.prevs) (last_d nobody (L here)) nobody (L here) (W.fam.segs here) i mine)

    link_below : link_past (at s.prevs) i (hd here) ≢ nobody → link_past (at s.prevs) i (hd here) < n
    link_below =
        by_cases (ℕ_discrete i (hd here))
        (λ e. rw (eq-eqb i (hd here) e) (λ h. absurd (h refl)))
        (λ d. rw (ne_eqb i (hd here) d) (λ h. (W.fam.mems here (at s.prevs i) (fam_before W.fam here i mine)).below))

    back_below : back_past (at s.nexts) i (hd here) ≢ nobody → back_past (at s.nexts) i (hd here) < n
    unfolding head_after
    back_below =
        by_cases (ℕ_discrete (at s.nexts i) nobody)
        (λ e.
        by_cases (ℕ_discrete i (hd here))
        (λ f. rw (eq-eqb (at s.nexts i) nobody e, eq-eqb i (hd here) f) (λ h. absurd (h e)))
        (λ f. rw (eq-eqb (at s.nexts i) nobody e, ne_eqb i (hd here) f) (head_below here)))
        (λ d. rw (ne_eqb (at s.nexts i) nobody d) next_below)

    pub can_cut : CanCut s i (hd here)
    can_cut =
        record {
          next = omega arith;
          prev = omega arith;
          mark = omega arith;
          link = λ h. omega (arith, link_below h);
          back = λ h. omega (arith, back_below h);
        }

    next_kept : Kept n s.nexts (set_n s.nexts (link_past (at s.prevs) i (hd here)) (at s.nexts i))
    next_kept = kept_set_n n s.nexts (link_past (at s.prevs) i (hd here)) (at s.nexts i) link_below

    prev_kept : Kept n s.prevs (set_n s.prevs (back_past (at s.nexts) i (hd here)) (at s.prevs i))
    prev_kept = kept_set_n n s.prevs (back_past (at s.nexts) i (hd here)) (at s.prevs i) back_below

    cut_kept : LinksKept n s (cut_out s i (hd here))
    unfolding cut_out
    cut_kept =
        record {
          nexts = kept_trans next_kept (kept_set n _ i nobody hi);
          prevs = kept_trans prev_kept (kept_set n _ i nobody hi);
          marks = kept_set n s.marks i nobody hi;
        }

    -- i leaves the list of its mark, and is loose
    pub cut_law : {hd' : ℕ → ℕ} → Upd hd here (head_after s i (hd here)) hd'
        → Changes P n hd s here (without i (L here)) hd' (cut_out s i (hd here))
    unfolding cut_out head_after
    cut_law H =
        let C = can_cut in
        let ns = set_n s.nexts (link_past (at s.prevs) i (hd here)) (at s.nexts i) in
        let ps = set_n s.prevs (back_past (at s.nexts) i (hd here)) (at s.prevs i) in
        let kn = next_kept in
        let kp = prev_kept in
        changed W.room cut_kept
        (fam_unlink W.fam i
        (record {
          head = H;
          nx₁ = at ns;
          next = put_set_n s.nexts (link_past (at s.prevs) i (hd here)) (at s.nexts i) C.link;
          next_own = upd_set ns i nobody (omega arith);
          pv₁ = at ps;
          prev = put_set_n s.prevs (back_past (at s.nexts) i (hd here)) (at s.prevs i) C.back;
          prev_own = upd_set ps i nobody (omega arith);
          mark = upd_set s.marks i nobody C.mark;
        })
        hi hp)

-- ---- a record in no list gets another mark that is no place

pub mark_law : {P n : ℕ} {hd : ℕ → ℕ} {s : Links} → Whole P n hd s → (i m : ℕ) → i < n → P ≤ at s.marks i → P ≤ m
    → Whole P n hd (marked s i m) × (lists_of n hd (marked s i m) ≡ lists_of n hd s) × LinksKept n s (marked s i m)
unfolding lists
mark_law {P} {n} {hd} {s} W i m hi lo hm =
    let F = W.fam in
    let U = upd_set s.marks i m (omega arith) in
    let K : LinksKept n s (marked s i m)
    = record { nexts = kept_refl n s.nexts; prevs = kept_refl n s.prevs; marks = kept_set n s.marks i m hi } in
    let other : (j p : ℕ) → Mem j (lists_of n hd s p) → j ≢ i = λ j p k (e : j ≡ i). fam_loose F j (rw e lo) p k in (
      record {
        room = room_kept W.room K;
        fam = record {
          few = F.few;
          small = F.small;
          heads = F.heads;
          segs = F.segs;
          mems = λ p j k.
              let M = F.mems p j k in record { place = M.place; below = M.below; mark = U.other j (other j p k) ∙ M.mark };
          cover = λ j h. by_cases (ℕ_discrete j i)
              (λ (e : j ≡ i).
              let o = fam_bare F i hi lo in
              rw e (inr (record { mark = rw U.same hm; next = o.next; prev = o.prev })))
              (λ d.
              ⊎_elim
              (λ k. inl (rw (U.other j d) k))
              (λ o. inr (record { mark = rw (U.other j d) o.mark; next = o.next; prev = o.prev }))
              (F.cover j h));
        };
      },
      refl,
      K,
    )

-- ---- the marks of each

module _ (s : Links) (p i h : ℕ) where
  pub joined_marks : (joined s p i h).marks ≡ set s.marks i p
  unfolding joined
  joined_marks = refl

  pub added_marks : (added s p i h).marks ≡ set s.marks i p
  unfolding added
  added_marks = refl

pub cut_marks : (s : Links) (i h : ℕ) → (cut_out s i h).marks ≡ set s.marks i nobody
unfolding cut_out
cut_marks s i h = refl

-- ---- the mark of one that was cut out

pub mark_cut : {n : ℕ} {s : Links} → Room n s → (i h : ℕ) → i < n → Upd (at s.marks) i nobody (at (cut_out s i h).marks)
unfolding cut_out
mark_cut {n} {s} Z i h hi = upd_set s.marks i nobody (omega arith)

-- ---- the judge decides it, both ways; a number that is no place has no head

pub whole_judge : {P n : ℕ} {hd : ℕ → ℕ} {s : Links} → Whole P n hd s → judge (net hd s) P n ≡ true
whole_judge {P} {n} {hd} {s} W = judge_complete (net hd s) n W.fam.small W.fam

pub judge_whole : {P n : ℕ} {hd : ℕ → ℕ} {s : Links} → P ≤ nobody → n ≤ nobody → ((p : ℕ) → P ≤ p → hd p ≡ nobody) → Room n s
    → judge (net hd s) P n ≡ true → Whole P n hd s
judge_whole {P} {n} {hd} {s} few small past Z e = record { room = Z; fam = judge_sound (net hd s) n small P few past e }
