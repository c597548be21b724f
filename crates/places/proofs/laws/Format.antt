-- What format makes is whole, and its lists are those of document 01 (`format_whole`, `format_lists`).
use mathlib.Core.Path.{◌≡◌, refl, sym, ap, ◌∙◌}
use mathlib.Core.Logic.{◌≢◌, inl, inr, by_cases}
use mathlib.Core.List.{List, [], ◌∷◌}
use Prim.Native.Nat.{ℕ, zero, suc, ◌+◌, ◌-◌, ◌/◌, ◌%◌, ◌≤◌, ◌<◌}
use native.Mathlib.Omega.{arith}
use native.Mathlib.Decide.{ℕ_discrete, dec_lt}
use native.Mathlib.Numerals.{add-one}
use lib.ListN.{length, set, length-set, get_or-replicate}
use lib.Seq.{get_or-set_same, get_or-set_other}
use Rattle.links.specs.Lists.{nobody, Mem, first_d, last_d, change}
use Rattle.links.proofs.laws.Lists.{change_same, change_other}
use Rattle.links.specs.Segments.{Seg}
use Rattle.links.specs.Family.{Net, Member, Fam}
use Rattle.links.proofs.laws.Walk.{fam_lists}
use Rattle.links.specs.Links.{links, at, net, Room}
use Rattle.links.specs.Whole.{Kept, LinksKept}
use Rattle.links.proofs.laws.Whole.{kept_refl, kept_trans, kept_set, room_kept}
use Rattle.places.specs.declared.Tops.{Tops}
use Rattle.places.specs.Places.{slots, parking, expired, free, places}
use Rattle.places.specs.Heads.{head_of, tops_by, Shape}
use Rattle.places.proofs.laws.Heads.{head_slot, head_past}
use Rattle.places.specs.Words.{PlaceWords, words, head_at}
use Rattle.places.specs.Whole.{Whole, lists}
use Rattle.places.specs.Format.{over, prev_in, no_level, no_heads, formatted, range}

-- ---- the words, one by one

pub over_step : (i : ℕ) (f : ℕ → ℕ) (l : List ℕ) → over (i + 1) f l ≡ set (over i f l) i (f i)
unfolding over
over_step i f l = rw add-one

pub over_kept : (n k : ℕ) (f : ℕ → ℕ) (l : List ℕ) → k ≤ n → Kept n l (over k f l)
unfolding over
over_kept n zero f l h = kept_refl n l
over_kept n (suc k) f l h = kept_trans (over_kept n k f l (omega arith)) (kept_set n (over k f l) k (f k) h)

pub length_over : (k : ℕ) (f : ℕ → ℕ) (l : List ℕ) → length (over k f l) ≡ length l
length_over k f l = (over_kept k k f l (omega arith)).size

pub over_at : (k : ℕ) (f : ℕ → ℕ) (l : List ℕ) → k ≤ length l → (i : ℕ) → i < k → at (over k f l) i ≡ f i
unfolding over
over_at zero f l h i hi = absurd (omega arith)
over_at (suc k) f l h i hi =
    by_cases (ℕ_discrete i k)
    (λ e. rw e (get_or-set_same (over k f l) k (f k) 0 (omega (arith, length_over k f l))))
    (λ d. get_or-set_other (over k f l) k i (f k) 0 d ∙ over_at k f l (omega arith) i (omega arith))

-- ---- the numbers from k on

mem_range : (m k i : ℕ) → Mem i (range m k) → (k ≤ i) × (i < k + m)
unfolding range
mem_range zero k i w = absurd w
mem_range (suc m) k i (inl e) = omega arith
mem_range (suc m) k i (inr w) = omega (arith, mem_range m (suc k) i w)

range_mem : (m k i : ℕ) → k ≤ i → i < k + m → Mem i (range m k)
unfolding range
range_mem zero k i a b = absurd (omega arith)
range_mem (suc m) k i a b = by_cases (ℕ_discrete i k) inl (λ d. inr (range_mem m (suc k) i (omega arith) (omega arith)))

last_from : (m k d : ℕ) → 0 < m → last_d d (range m k) ≡ k + m - 1
unfolding range
last_from zero k d h = absurd (omega arith)
last_from (suc zero) k d h = omega arith
last_from (suc (suc m)) k d h = omega (arith, last_from (suc m) (suc k) k (omega arith))

last_range : (n : ℕ) → 0 < n → last_d nobody (range n 0) ≡ n - 1
last_range n h = omega (arith, last_from n 0 nobody h)

-- ---- no heads

no_shape : Shape no_heads
no_shape = record { six = refl; wide = λ k h. ap length (get_or-replicate 6 k no_level [] h) ∙ refl }

no_slot : (st : Tops) (p : ℕ) → p < slots → head_of st no_heads p ≡ nobody
no_slot st p h =
    head_slot st no_heads p h
    ∙ rw (get_or-replicate 6 (p / 64) no_level [] (omega arith)) (get_or-replicate {A = ℕ} 64 (p % 64) 65535 0 (omega arith))

module _ (n : ℕ) (ns ps ms : List ℕ) (some : 0 < n) (small : n ≤ nobody) (Z : Room n (links ns ps ms)) where
  abbrev t : PlaceWords
  t = formatted n ns ps ms

  abbrev s : Net
  s = net (head_at t) t.links

  abbrev fresh : ℕ → List ℕ
  fresh = change (λ p. []) free (range n 0)

  -- ---- the words of a record

  last_next : s.nx (n - 1) ≡ nobody
  unfolding formatted
  last_next = get_or-set_same (over n (λ i. i + 1) ns) (n - 1) nobody 0 (omega (arith, length_over n (λ i. i + 1) ns))

  next : (i : ℕ) → i + 1 < n → s.nx i ≡ suc i
  unfolding formatted
  next i h =
      get_or-set_other (over n (λ j. j + 1) ns) (n - 1) i nobody 0 (omega arith) ∙ over_at n (λ j. j + 1) ns Z.nexts i (omega arith)
      ∙ add-one i

  prev : (i : ℕ) → i < n → s.pv i ≡ prev_in n i
  unfolding formatted
  prev i h = over_at n (prev_in n) ps Z.prevs i h

  mark : (i : ℕ) → i < n → s.mk i ≡ free
  unfolding formatted
  mark i h = over_at n (λ j. free) ms Z.marks i h

  -- ---- the lists

  heads : (p : ℕ) → s.hd p ≡ first_d nobody (fresh p)
  unfolding formatted head_of range
  heads p =
      by_cases (ℕ_discrete p free)
      (λ e. rw (e, change_same) (first n some))
      (λ d. rw (change_other (λ q. []) free (range n 0) p d) (by_cases (dec_lt p slots) (no_slot t.tops p) (λ h. rest d (omega arith))))
    where
      first : (m : ℕ) → 0 < m → 0 ≡ first_d nobody (range m 0)
      first zero h = absurd (omega arith)
      first (suc m) h = refl

      rest : p ≢ free → slots ≤ p → head_of (tops_by n 65535 0 65535) no_heads p ≡ nobody
      rest d h =
          by_cases (ℕ_discrete p parking) (λ e. rw e)
          (λ g. by_cases (ℕ_discrete p expired) (λ e. rw e) (λ k. head_past (tops_by n 65535 0 65535) no_heads p (omega arith)))

  -- the free list from k on
  chain : (m k : ℕ) → k + m ≡ n → Seg s.nx s.pv (prev_in n k) (range m k) nobody
  unfolding range
  chain zero k e = tt
  chain (suc zero) k e = let z : k ≡ n - 1 = omega arith in (prev k (omega arith), ap s.nx z ∙ last_next, tt)
  chain (suc (suc m)) k e = (prev k (omega arith), next k (omega arith), chain (suc m) (suc k) (omega arith))

  segs : (p : ℕ) → Seg s.nx s.pv (last_d nobody (fresh p)) (fresh p) nobody
  segs p =
      by_cases (ℕ_discrete p free)
      (λ e. rw (e, change_same, last_range n some) (chain n 0 (omega arith)))
      (λ d. rw (change_other (λ q. []) free (range n 0) p d) tt)

  mems : (p i : ℕ) → Mem i (fresh p) → Member places n s p i
  mems p i m =
      by_cases (ℕ_discrete p free)
      (λ (e : p ≡ free).
      let k : i < n = omega (arith, (mem_range n 0 i (rw (e, change_same) at m)).1) in
      record { place = omega arith; below = k; mark = mark i k ∙ sym e })
      (λ d. absurd (rw (change_other (λ q. []) free (range n 0) p d) at m))

  fam : Fam places n s fresh
  fam =
      record {
        few = omega arith;
        small = small;
        heads = heads;
        segs = segs;
        mems = mems;
        cover = λ i hi. inl (rw (mark i hi, change_same) (range_mem n 0 i (omega arith) (omega arith)));
      }

  -- ---- the law

  -- words past n records are as they were
  pub format_kept : LinksKept n (links ns ps ms) t.links
  unfolding formatted
  format_kept =
      record {
        nexts = kept_trans (over_kept n n (λ i. i + 1) ns (omega arith)) (kept_set n (over n (λ i. i + 1) ns) (n - 1) nobody (omega arith));
        prevs = over_kept n n (prev_in n) ps (omega arith);
        marks = over_kept n n (λ i. free) ms (omega arith);
      }

  pub format_whole : Whole t
  unfolding formatted
  format_whole = record { shape = no_shape; held = record { room = room_kept Z format_kept; fam = rw (fam_lists fam) fam } }

  -- the free list is 0, 1, .., n - 1, and every other list is empty
  pub format_lists : lists t ≡ change (λ p. []) free (range n 0)
  unfolding lists formatted
  format_lists = fam_lists fam

-- ---- for the loop: i records are chained, and b is the last of them

pub record Filling (n : ℕ) (ns ps ms : List ℕ) (i b : ℕ) (ns' ps' ms' : List ℕ) : Type 0 where
  pub within : i ≤ n
  pub last : b ≡ prev_in n i
  pub nexts : ns' ≡ over i (λ j. j + 1) ns
  pub prevs : ps' ≡ over i (prev_in n) ps
  pub marks : ms' ≡ over i (λ j. free) ms
  pub nexts_size : length ns' ≡ length ns
  pub prevs_size : length ps' ≡ length ps
  pub marks_size : length ms' ≡ length ms

module _ (n : ℕ) (ns ps ms : List ℕ) where
  pub fill_none : Filling n ns ps ms 0 (n - 1) ns ps ms
  unfolding over
  fill_none =
      record {
        within = omega arith;
        last = refl;
        nexts = refl;
        prevs = refl;
        marks = refl;
        nexts_size = refl;
        prevs_size = refl;
        marks_size = refl;
      }

  pub fill_step : (i b : ℕ) (ns' ps' ms' : List ℕ) → i < n → Filling n ns ps ms i b ns' ps' ms'
      → Filling n ns ps ms (i + 1) i (set ns' i (i + 1)) (set ps' i b) (set ms' i free)
  fill_step i b ns' ps' ms' h F =
      record {
        within = omega arith;
        last = sym (ap (prev_in n) (add-one i));
        nexts = rw F.nexts (sym (over_step i (λ j. j + 1) ns));
        prevs = rw (F.last, F.prevs) (sym (over_step i (prev_in n) ps));
        marks = rw F.marks (sym (over_step i (λ j. free) ms));
        nexts_size = length-set ns' i (i + 1) ∙ F.nexts_size;
        prevs_size = length-set ps' i b ∙ F.prevs_size;
        marks_size = length-set ms' i free ∙ F.marks_size;
      }

  module _ (i b : ℕ) (ns' ps' ms' : List ℕ) (F : Filling n ns ps ms i b ns' ps' ms') (some : 0 < n) (end : n ≤ i) where
    -- all n are, so the last one is n - 1
    all : i ≡ n
    all = omega arith

    pub fill_last : b ≡ n - 1
    fill_last = F.last ∙ ap (prev_in n) all ∙ by n some
      where
        by : (m : ℕ) → 0 < m → prev_in m m ≡ m - 1
        by zero h = absurd (omega arith)
        by (suc m) h = omega arith

    pub fill_done : words (n ∷ 65535 ∷ 0 ∷ 65535 ∷ []) no_heads (set ns' b 65535) ps' ms' ≡ formatted n ns ps ms
    unfolding formatted
    fill_done = rw (fill_last, F.nexts, F.prevs, F.marks, all)
