-- The judge of a family: each list is walked with the room that the lists before it left, from its tail round to its tail, and what is left in the end must
-- be the number of the loose records. It passes exactly the heads, links and marks that hold a family of lists: `judge_sound` and `judge_complete`.
use mathlib.Core.Path.{◌≡◌, refl, sym, ap, ◌∙◌}
use mathlib.Core.Logic.{◌≢◌, ◌⊎◌, inl, inr, ⊎_elim, by_cases}
use mathlib.Core.List.{List, [], ◌∷◌, ◌++◌}
use mathlib.Core.Bool.{Bool, true, false, not, ◌&&◌, Bool-discrete}
use Prim.Native.Nat.{ℕ, zero, suc, ◌+◌, ◌-◌, ◌≤◌, ◌<◌}
use native.Mathlib.Omega.{arith}
use native.Mathlib.Nat.{suc-add, zero-add}
use native.Mathlib.Decide.{ℕ_discrete, dec_lt}
use native.Mathlib.Numerals.{add-one}
use lib.ListN.{length, length-append}
use lib.Dec.{eqb, ltb, leb}
use borrow.Author.Tests.{eq-eqb, ne_eqb, eqb-true, lt-ltb, le-ltb, ltb-true, le-leb, lt-leb, leb-true}
use Rattle.std.specs.Prelude.{Option, Some, None, option_and_then}
use Rattle.links.specs.Lists.{nobody, Mem, first_d, last_d}
use Rattle.links.proofs.laws.Lists.{Nodup, mem_left, mem_right, mem_app, nodup_join}
use Rattle.links.specs.Segments.{Seg}
use Rattle.links.proofs.laws.Segments.{seg_nodup}
use Rattle.links.specs.Family.{Net, Loose, Fam, tail_or}
use Rattle.links.proofs.laws.Family.{fam_nodup, fam_loose, fam_tail}
use Rattle.links.specs.Count.{cnt, bit}
use Rattle.links.proofs.laws.Count.{elem, cnt_ext, cnt_all, cnt_not, cnt_elem, mem_elem, elem_mem, length_below}
use Rattle.links.specs.Walk.{walk, lists}
use Rattle.links.proofs.laws.Walk.{walk_is}
use Rattle.links.specs.Links.{at}
use Rattle.links.specs.Judge.{good, scan, scan_list, scan_all, is_loose, loose_in, leaves}

-- ---- one list

-- l is the list of p from h on, after prev, and ends with the tail
pub record Listed (s : Net) (n tail p prev h : ℕ) (l : List ℕ) : Type 0 where
  pub first : h ≡ first_d nobody l
  pub last : tail ≡ last_d prev l
  pub seg : Seg s.nx s.pv prev l nobody
  pub mems : (i : ℕ) → Mem i l → (i < n) × (s.mk i ≡ p)

-- ---- every list

-- P places, n records
unfoldable pub judge : Net → ℕ → ℕ → Bool
judge s P n = leaves (scan_all s n P 0 n) (loose_in P s.nx s.pv s.mk n)

-- ---- Booleans and walks

and_three : (a b c : Bool) → (a && (b && c)) ≡ true → (a ≡ true) × (b ≡ true) × (c ≡ true)
and_three true true c e = (refl, refl, e)
and_three true false c e = search
and_three false b c e = search

and_false : (a : Bool) → (a && false) ≡ false
and_false true = refl
and_false false = refl

not_is : (b : Bool) → b ≢ true → b ≡ false
not_is true q = absurd (q refl)
not_is false q = refl

pub wrong_left : {m : ℕ} → None ≡ Some m → ⊥
wrong_left e = let z : ◌≡◌ {A = ℕ} 0 1 = cc in omega arith

pub left_inj : (m k : ℕ) → Some m ≡ Some k → m ≡ k
left_inj m k e = cc

-- a walk that goes on, and one that leaves just so much, was not wrong
then_left : (w : Option ℕ) (f : ℕ → Option ℕ) (r : ℕ) → option_and_then f w ≡ Some r → (m : ℕ) × (w ≡ Some m) × (f m ≡ Some r)
then_left None f r e = absurd (wrong_left e)
then_left (Some m) f r e = (m, refl, e)

leaves_is : (w : Option ℕ) (c : ℕ) → leaves w c ≡ true → w ≡ Some c
leaves_is None c e = search
leaves_is (Some m) c e = ap Some (eqb-true m c e)

-- ---- laws of a scan, in the code's words

module _ (nx pv mk : ℕ → ℕ) (n tail : ℕ) where
  pub scan_end : (p left prev h : ℕ) → h ≡ nobody → prev ≡ tail → scan nx pv mk n tail p left prev h ≡ Some left
  unfolding scan
  scan_end p zero prev h e f = rw (eq-eqb h nobody e, eq-eqb prev tail f)
  scan_end p (suc k) prev h e f = rw (eq-eqb h nobody e, eq-eqb prev tail f)

  pub scan_tail : (p left prev h : ℕ) → h ≡ nobody → prev ≢ tail → scan nx pv mk n tail p left prev h ≡ None
  unfolding scan
  scan_tail p zero prev h e f = rw (eq-eqb h nobody e, ne_eqb prev tail f)
  scan_tail p (suc k) prev h e f = rw (eq-eqb h nobody e, ne_eqb prev tail f)

  pub scan_full : (p left prev h : ℕ) → h ≢ nobody → left ≡ 0 → scan nx pv mk n tail p left prev h ≡ None
  unfolding scan
  scan_full p left prev h d e = rw (e, ne_eqb h nobody d)

  scan_bad : (p left prev h : ℕ) → h ≢ nobody → good nx pv mk n p prev h ≡ false → scan nx pv mk n tail p left prev h ≡ None
  unfolding scan
  scan_bad p zero prev h d e = rw (ne_eqb h nobody d)
  scan_bad p (suc k) prev h d e = rw (ne_eqb h nobody d, e)

  pub scan_far : (p left prev h : ℕ) → h ≢ nobody → n ≤ h → scan nx pv mk n tail p left prev h ≡ None
  scan_far p left prev h d a = scan_bad p left prev h d (rw (le-ltb h n a))

  pub scan_mark : (p left prev h : ℕ) → h ≢ nobody → mk h ≢ p → scan nx pv mk n tail p left prev h ≡ None
  scan_mark p left prev h d a = scan_bad p left prev h d (rw (ne_eqb (mk h) p a) (and_false (ltb h n)))

  pub scan_prev : (p left prev h : ℕ) → h ≢ nobody → pv h ≢ prev → scan nx pv mk n tail p left prev h ≡ None
  scan_prev p left prev h d a =
      scan_bad p left prev h d (rw (ne_eqb (pv h) prev a, and_false (eqb (mk h) p)) (and_false (ltb h n)))

  scan_suc : (p k prev h : ℕ) → h ≢ nobody → good nx pv mk n p prev h ≡ true → scan nx pv mk n tail p (suc k) prev h ≡ scan nx pv mk n tail p k h (nx h)
  unfolding scan
  scan_suc p k prev h d e = rw (ne_eqb h nobody d, e)

  good_is : (p prev h : ℕ) → h < n → mk h ≡ p → pv h ≡ prev → good nx pv mk n p prev h ≡ true
  good_is p prev h a b c = rw (lt-ltb h n a, eq-eqb (mk h) p b, eq-eqb (pv h) prev c)

  pub scan_go : (p left prev h : ℕ) → h ≢ nobody → 0 < left → h < n → mk h ≡ p → pv h ≡ prev
      → scan nx pv mk n tail p left prev h ≡ scan nx pv mk n tail p (left - 1) h (nx h)
  scan_go p zero prev h d z a b c = absurd (omega arith)
  scan_go p (suc k) prev h d z a b c =
      scan_suc p k prev h d (good_is p prev h a b c) ∙ ap (λ m. scan nx pv mk n tail p m h (nx h)) (omega arith)

-- the whole list of p begins after what its head's back link names
pub scan_start : (nx pv mk : ℕ → ℕ) (n p left h : ℕ) → h ≢ nobody → scan nx pv mk n (pv h) p left (pv h) h ≡ scan_list nx pv mk n p left h
scan_start nx pv mk n p left h d = rw (ne_eqb h nobody d)

-- ---- laws of the count, in the code's words

module _ (P : ℕ) (nx pv mk : ℕ → ℕ) where
  pub loose_zero : loose_in P nx pv mk 0 ≡ 0
  unfolding loose_in
  loose_zero = refl

  count_step : (i b : ℕ) → bit (is_loose P nx pv mk i) ≡ b → loose_in P nx pv mk (i + 1) ≡ loose_in P nx pv mk i + b
  unfolding loose_in
  count_step i b e = rw (add-one, e)

  pub loose_more : (i : ℕ) → is_loose P nx pv mk i ≡ true → loose_in P nx pv mk (i + 1) ≡ loose_in P nx pv mk i + 1
  loose_more i e = count_step i 1 (ap bit e)

  pub loose_same : (i : ℕ) → is_loose P nx pv mk i ≡ false → loose_in P nx pv mk (i + 1) ≡ loose_in P nx pv mk i
  loose_same i e = omega (arith, count_step i 0 (ap bit e))

-- ---- laws of the walk over the places, in the code's words

module _ (s : Net) (n : ℕ) where
  step_down : (P p : ℕ) → p < P → P - p ≡ suc (P - (p + 1))
  step_down P p h = omega arith

  pub all_go : (P p left m : ℕ) → p < P → scan_list s.nx s.pv s.mk n p left (s.hd p) ≡ Some m
      → scan_all s n (P - p) p left ≡ scan_all s n (P - (p + 1)) (p + 1) m
  unfolding scan_all
  all_go P p left m h e = rw (step_down P p h, add-one, e)

  -- a wrong list, and the end
  pub all_wrong : (P p left : ℕ) → p < P → scan_list s.nx s.pv s.mk n p left (s.hd p) ≡ None
      → scan_all s n (P - p) p left ≡ None
  unfolding scan_all
  all_wrong P p left h e = rw (step_down P p h, e)

  pub all_end : (P p left : ℕ) → P ≤ p → scan_all s n (P - p) p left ≡ Some left
  unfolding scan_all
  all_end P p left h = let z : P - p ≡ 0 = omega arith in rw z

-- ---- what a scan passes is a list, and a list is passed

module _ (s : Net) (n tail : ℕ) where
  listed_none : (p prev h : ℕ) → h ≡ nobody → tail ≡ prev → Listed s n tail p prev h []
  listed_none p prev h e f = record { first = e; last = f; seg = tt; mems = λ i m. absurd m }

  scan_none : (p left prev h r : ℕ) → scan s.nx s.pv s.mk n tail p left prev h ≡ Some r → h ≡ nobody
      → (l : List ℕ) × Listed s n tail p prev h l × (length l + r ≡ left)
  scan_none p left prev h r e q =
      by_cases (ℕ_discrete prev tail)
      (λ f.
      ([], listed_none p prev h q (sym f), omega (arith, left_inj left r (sym (scan_end s.nx s.pv s.mk n tail p left prev h q f) ∙ e))))
      (λ f. absurd (wrong_left (sym (scan_tail s.nx s.pv s.mk n tail p left prev h q f) ∙ e)))

  scan_sound : (p left prev h r : ℕ) → scan s.nx s.pv s.mk n tail p left prev h ≡ Some r
      → (l : List ℕ) × Listed s n tail p prev h l × (length l + r ≡ left)
  scan_sound p zero prev h r e =
      by_cases (ℕ_discrete h nobody) (scan_none p 0 prev h r e)
      (λ d. absurd (wrong_left (sym (scan_full s.nx s.pv s.mk n tail p 0 prev h d refl) ∙ e)))
  scan_sound p (suc k) prev h r e =
      by_cases (ℕ_discrete h nobody) (scan_none p (suc k) prev h r e)
      (λ d.
      by_cases (Bool-discrete (good s.nx s.pv s.mk n p prev h) true)
      (λ g.
      let t = scan_sound p k h (s.nx h) r (sym (scan_suc s.nx s.pv s.mk n tail p k prev h d g) ∙ e) in
      let a = and_three (ltb h n) (eqb (s.mk h) p) (eqb (s.pv h) prev) g in
      let hm : (h < n) × (s.mk h ≡ p) = (ltb-true h n a.0, eqb-true (s.mk h) p a.1) in (
        h ∷ t.0,
        record {
          first = refl;
          last = t.1.last;
          seg = (eqb-true (s.pv h) prev a.2, t.1.first, t.1.seg);
          mems = λ i m. ⊎_elim (λ q. rw q hm) (t.1.mems i) m;
        },
        omega arith,
      ))
      (λ g. absurd (wrong_left (sym (scan_bad s.nx s.pv s.mk n tail p (suc k) prev h d (not_is _ g)) ∙ e))))

  scan_complete : n ≤ nobody → (l : List ℕ) (p prev h r : ℕ) → Listed s n tail p prev h l
      → scan s.nx s.pv s.mk n tail p (length l + r) prev h ≡ Some r
  scan_complete hn [] p prev h r K = rw zero-add (scan_end s.nx s.pv s.mk n tail p r prev h K.first (sym K.last))
  scan_complete hn (x ∷ l) p prev h r K =
      let m = K.mems x (inl refl) in
      rw (suc-add, K.first)
      (scan_suc s.nx s.pv s.mk n tail p (length l + r) prev x (omega arith)
      (good_is s.nx s.pv s.mk n tail p prev x m.0 m.1 K.seg.0)
      ∙ scan_complete hn l p x (s.nx x) r (record { first = K.seg.1; last = K.last; seg = K.seg.2; mems = λ i j. K.mems i (inr j) }))

-- the list of p, after its own tail
abbrev pub tail_of : Net → ℕ → ℕ
tail_of s p = tail_or nobody s.pv (s.hd p)

abbrev pub Lies : Net → ℕ → ℕ → List ℕ → Type 0
Lies s n p l = Listed s n (tail_of s p) p (tail_of s p) (s.hd p) l

lies_last : (s : Net) (n p : ℕ) (l : List ℕ) → Lies s n p l → tail_of s p ≡ last_d nobody l
lies_last s n p [] K = rw (eq-eqb (s.hd p) nobody K.first)
lies_last s n p (x ∷ l) K = K.last

-- ---- all lists in a row

unfoldable pub cat : (ℕ → List ℕ) → ℕ → ℕ → List ℕ
cat L zero p = []
cat L (suc k) p = L p ++ cat L k (suc p)

module _ (L : ℕ → List ℕ) where
  pub mem_cat : (k p i : ℕ) → Mem i (cat L k p) → (q : ℕ) × (p ≤ q) × (q < p + k) × Mem i (L q)
  unfolding cat
  mem_cat zero p i m = absurd m
  mem_cat (suc k) p i m =
      ⊎_elim
      (λ h. (p, omega arith, omega arith, h))
      (λ h. let r = mem_cat k (suc p) i h in (r.0, omega arith, omega arith, r.3))
      (mem_app i (L p) (cat L k (suc p)) m)

  pub cat_mem : (k p q i : ℕ) → p ≤ q → q < p + k → Mem i (L q) → Mem i (cat L k p)
  unfolding cat
  cat_mem zero p q i a b m = absurd (omega arith)
  cat_mem (suc k) p q i a b m =
      by_cases (ℕ_discrete q p)
      (λ e. mem_left i (L p) (cat L k (suc p)) (rw e at m))
      (λ d. mem_right i (L p) (cat L k (suc p)) (cat_mem k (suc p) q i (omega arith) (omega arith) m))

  -- lists whose members have their place for a mark share nothing
  pub cat_nodup : (mk : ℕ → ℕ) (k p : ℕ) → ((q : ℕ) → Nodup (L q)) → ((q i : ℕ) → Mem i (L q) → mk i ≡ q) → Nodup (cat L k p)
  unfolding cat
  cat_nodup mk zero p d h = tt
  cat_nodup mk (suc k) p d h =
      nodup_join (L p) (cat L k (suc p)) (d p) (cat_nodup mk k (suc p) d h)
      (λ i m j. let r = mem_cat k (suc p) i j in omega (arith, h p i m, h r.0 i r.3))

-- ---- the judge's two laws

module _ (s : Net) (n : ℕ) (hn : n ≤ nobody) where
  listed_some : {tail p prev h : ℕ} {l : List ℕ} → Listed s n tail p prev h l → (i : ℕ) → Mem i l → i ≢ nobody
  listed_some K i m = omega (arith, (K.mems i m).0)

  listed_nodup : {tail p prev h : ℕ} {l : List ℕ} → Listed s n tail p prev h l → Nodup l
  listed_nodup {tail} {p} {prev} {h} {l} K = seg_nodup s.nx s.pv prev l (λ m. listed_some K nobody m refl) K.seg

  -- a list is what a walk reads
  listed_read : {tail p prev h : ℕ} {l : List ℕ} → Listed s n tail p prev h l → walk s.nx n h ≡ l
  listed_read {tail} {p} {prev} {h} {l} K =
      walk_is s.nx s.pv prev l n h K.first K.seg (listed_some K) (length_below l n (listed_nodup K) (λ i m. (K.mems i m).0))

  scan_lists : (p left r : ℕ) → scan_list s.nx s.pv s.mk n p left (s.hd p) ≡ Some r
      → Lies s n p (lists s n p) × (length (lists s n p) + r ≡ left)
  unfolding lists
  scan_lists p left r e =
      let t = scan_sound s n (tail_of s p) p left (tail_of s p) (s.hd p) r e in
      let w : walk s.nx n (s.hd p) ≡ t.0 = listed_read t.1 in
      (rw w t.1, rw w t.2)

  all_sound : (k p left r : ℕ) → scan_all s n k p left ≡ Some r
      → ((q : ℕ) → p ≤ q → q < p + k → Lies s n q (lists s n q)) × (length (cat (lists s n) k p) + r ≡ left)
  unfolding scan_all cat
  all_sound zero p left r e = (λ q a b. absurd (omega arith), omega (arith, left_inj left r e))
  all_sound (suc k) p left r e =
      let t = then_left (scan_list s.nx s.pv s.mk n p left (s.hd p)) (scan_all s n k (suc p)) r e in
      let here = scan_lists p left t.0 t.1 in
      let more = all_sound k (suc p) t.0 r t.2 in (
        λ q x y. by_cases (ℕ_discrete q p) (λ z. rw z here.0) (λ z. more.0 q (omega arith) (omega arith)),
        omega (arith, length-append (lists s n p) (cat (lists s n) k (suc p))),
      )

  all_complete : (L : ℕ → List ℕ) (k p r : ℕ) → ((q : ℕ) → Lies s n q (L q)) → scan_all s n k p (length (cat L k p) + r) ≡ Some r
  unfolding scan_all cat
  all_complete L zero p r K = rw zero-add
  all_complete L (suc k) p r K =
      let e : length (L p ++ cat L k (suc p)) + r ≡ length (L p) + (length (cat L k (suc p)) + r)
      = omega (arith, length-append (L p) (cat L k (suc p))) in
      rw (e, scan_complete s n (tail_of s p) hn (L p) p (tail_of s p) (s.hd p) (length (cat L k (suc p)) + r) (K p)) (all_complete L k (suc p) r K)

  -- a record that is not loose by the test, and one that is
  abbrev held : ℕ → ℕ → Bool
  held P i = not (is_loose P s.nx s.pv s.mk i)

  loose_is : (P i : ℕ) → is_loose P s.nx s.pv s.mk i ≡ true → Loose P s i
  loose_is P i e =
      let a = and_three (leb P (s.mk i)) (eqb (s.nx i) nobody) (eqb (s.pv i) nobody) e in
      record {
        mark = leb-true P (s.mk i) a.0;
        next = eqb-true (s.nx i) nobody a.1;
        prev = eqb-true (s.pv i) nobody a.2;
      }

  marked_held : (P i : ℕ) → s.mk i < P → held P i ≡ true
  marked_held P i h = rw (lt-leb P (s.mk i) h)

  loose_held : (P i : ℕ) → Loose P s i → held P i ≡ false
  loose_held P i o = rw (le-leb P (s.mk i) o.mark, eq-eqb (s.nx i) nobody o.next, eq-eqb (s.pv i) nobody o.prev)

  -- the records that are held and the loose ones are all records
  held_rest : (P : ℕ) → cnt (held P) n + loose_in P s.nx s.pv s.mk n ≡ n
  unfolding loose_in
  held_rest P = omega (arith, cnt_not (is_loose P s.nx s.pv s.mk) n)

  past_list : (p : ℕ) → s.hd p ≡ nobody → lists s n p ≡ []
  unfolding lists
  past_list p h = listed_read (listed_none s n (tail_of s p) p (tail_of s p) (s.hd p) h refl)

  -- a number that is no place has no head
  module _ (P : ℕ) (few : P ≤ nobody) (past : (p : ℕ) → P ≤ p → s.hd p ≡ nobody) where
    module _ (pass : judge s P n ≡ true) where
      scanned : scan_all s n P 0 n ≡ Some (loose_in P s.nx s.pv s.mk n)
      unfolding judge
      scanned = leaves_is (scan_all s n P 0 n) (loose_in P s.nx s.pv s.mk n) pass

      listed : (q : ℕ) → Lies s n q (lists s n q)
      listed q =
          by_cases (dec_lt q P)
          (λ h. (all_sound P 0 n (loose_in P s.nx s.pv s.mk n) scanned).0 q (omega arith) (omega arith))
          (λ h. let e = past q (omega arith) in rw (past_list q e) (listed_none s n (tail_of s q) q (tail_of s q) (s.hd q) e refl))

      is_place : (q i : ℕ) → Mem i (lists s n q) → q < P
      is_place q i m = by_cases (dec_lt q P) (λ h. h) (λ h. absurd (rw (past_list q (past q (omega arith))) at m))

      abbrev everyone : List ℕ
      everyone = cat (lists s n) P 0

      from : (i : ℕ) → Mem i everyone → (i < n) × Mem i (lists s n (s.mk i)) × (s.mk i < P)
      from i m =
          let r = mem_cat (lists s n) P 0 i m in
          let k = (listed r.0).mems i r.3 in
          (k.0, rw k.1 r.3, omega arith)

      no_repeats : Nodup everyone
      no_repeats = cat_nodup (lists s n) s.mk P 0 (λ q. listed_nodup (listed q)) (λ q i m. ((listed q).mems i m).1)

      -- as many are in the lists as are held, so whoever is held is in one
      full : (i : ℕ) → i < n → held P i ≡ true → elem i everyone ≡ true
      full =
          cnt_all (λ i. elem i everyone) (held P) n
          (λ i h m. marked_held P i (from i (elem_mem i everyone m)).2)
          (omega (
            arith,
            (all_sound P 0 n (loose_in P s.nx s.pv s.mk n) scanned).1,
            cnt_elem everyone n no_repeats (λ i m. (from i m).0),
            held_rest P,
          ))

      pub judge_sound : Fam P n s (lists s n)
      judge_sound =
          record {
            few = few;
            small = hn;
            heads = λ q. (listed q).first;
            segs = λ q. rw (lies_last s n q (lists s n q) (listed q)) at (listed q).seg;
            mems = λ q i m. let k = (listed q).mems i m in record { place = is_place q i m; below = k.0; mark = k.1 };
            cover = λ i hi.
                by_cases (Bool-discrete (is_loose P s.nx s.pv s.mk i) true)
                (λ e. inr (loose_is P i e))
                (λ d. inl (from i (elem_mem i everyone (full i hi (ap not (not_is _ d))))).1);
          }

  module _ {P : ℕ} {L : ℕ → List ℕ} (F : Fam P n s L) where
    same_test : (i : ℕ) → i < n → elem i (cat L P 0) ≡ held P i
    same_test i h = by (F.cover i h)
      where
        by : Mem i (L (s.mk i)) ⊎ Loose P s i → elem i (cat L P 0) ≡ held P i
        by (inl m) =
            let q = (F.mems (s.mk i) i m).place in
            mem_elem i (cat L P 0) (cat_mem L P 0 (s.mk i) i (omega arith) (omega arith) m)
            ∙ sym (marked_held P i q)
        by (inr o) =
            not_is (elem i (cat L P 0)) (λ e. let r = mem_cat L P 0 i (elem_mem i (cat L P 0) e) in fam_loose F i o.mark r.0 r.3)
            ∙ sym (loose_held P i o)

    -- the lists in a row repeat nothing, and hold records only
    all_nodup : Nodup (cat L P 0)
    all_nodup = cat_nodup L s.mk P 0 (fam_nodup F) (λ q i m. (F.mems q i m).mark)

    all_below : (i : ℕ) → Mem i (cat L P 0) → i < n
    all_below i m = let r = mem_cat L P 0 i m in (F.mems r.0 i r.3).below

    -- a list of the family lies after its own tail
    fam_lies : (q : ℕ) → Lies s n q (L q)
    fam_lies q =
        let e : tail_of s q ≡ last_d nobody (L q) = fam_tail F q nobody in
        record {
          first = F.heads q;
          last = by (L q) e;
          seg = rw e (F.segs q);
          mems = λ i m. let M = F.mems q i m in (M.below, M.mark);
        }
      where
        by : (l : List ℕ) → tail_of s q ≡ last_d nobody l → tail_of s q ≡ last_d (tail_of s q) l
        by [] e = refl
        by (x ∷ l) e = e

    pub judge_complete : judge s P n ≡ true
    unfolding judge
    judge_complete =
        let c : List ℕ = cat L P 0 in
        let k : ℕ = loose_in P s.nx s.pv s.mk n in
        let total : length c + k ≡ n
        = omega (arith, cnt_elem c n all_nodup all_below, cnt_ext (λ i. elem i c) (held P) n same_test, held_rest P) in
        let w : scan_all s n P 0 n ≡ Some k
        = ap (scan_all s n P 0) (sym total)
        ∙ all_complete L P 0 k fam_lies in
        rw w (eq-eqb k k refl)

    -- as many as are in the lists together are at most the records
    pub fam_length : length (cat L P 0) ≤ n
    fam_length = length_below (cat L P 0) n all_nodup all_below
