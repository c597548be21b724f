-- The family fixes the words: two stores with the same lists, the same marks of records in no list and the same words past n records are equal
-- (`whole_fixed`).
use mathlib.Core.Path.{◌≡◌, sym, ◌∙◌}
use mathlib.Core.Logic.{◌⊎◌, inl, inr, by_cases}
use mathlib.Core.List.{List}
use Prim.Native.Nat.{ℕ, ◌≤◌, ◌<◌}
use native.Mathlib.Omega.{arith}
use native.Mathlib.Decide.{dec_lt}
use lib.Seq.{ext_get_or}
use Rattle.links.specs.Lists.{nobody, Mem, last_d}
use Rattle.links.proofs.laws.Segments.{seg_same}
use Rattle.links.specs.Family.{Net, Loose, Fam}
use Rattle.links.proofs.laws.Family.{fam_loose}
use Rattle.links.specs.Links.{Links, at}
use Rattle.links.proofs.laws.Links.{links_eq}
use Rattle.links.specs.Whole.{Whole, Kept, LinksKept, lists_of}

-- the same head of each place, the same links and mark of each record
pub record Same (n : ℕ) (s t : Net) : Type 0 where
  pub heads : (p : ℕ) → t.hd p ≡ s.hd p
  pub next : (i : ℕ) → i < n → t.nx i ≡ s.nx i
  pub prev : (i : ℕ) → i < n → t.pv i ≡ s.pv i
  pub mark : (i : ℕ) → i < n → t.mk i ≡ s.mk i

module _ {P n : ℕ} {s t : Net} {L : ℕ → List ℕ} (F : Fam P n s L) (G : Fam P n t L)
    (loose : (i : ℕ) → i < n → P ≤ s.mk i → P ≤ t.mk i → t.mk i ≡ s.mk i) where
  record One (i : ℕ) : Type 0 where
    next : t.nx i ≡ s.nx i
    prev : t.pv i ≡ s.pv i
    mark : t.mk i ≡ s.mk i

  one : (i : ℕ) → i < n → One i
  one i hi = by (F.cover i hi) (G.cover i hi)
    where
      by : Mem i (L (s.mk i)) ⊎ Loose P s i → Mem i (L (t.mk i)) ⊎ Loose P t i → One i
      by (inl m) k =
          let q = seg_same s.nx s.pv t.nx t.pv (last_d nobody (L (s.mk i))) (L (s.mk i)) nobody (F.segs (s.mk i)) (G.segs (s.mk i)) i m in
          record { next = q.0; prev = q.1; mark = (G.mems (s.mk i) i m).mark }
      by (inr o) (inl m) = absurd (fam_loose F i o.mark (t.mk i) m)
      by (inr o) (inr k) = record { next = k.next ∙ sym o.next; prev = k.prev ∙ sym o.prev; mark = loose i hi o.mark k.mark }

  pub fam_fixed : Same n s t
  fam_fixed =
      record {
        heads = λ p. G.heads p ∙ sym (F.heads p);
        next = λ i hi. (one i hi).next;
        prev = λ i hi. (one i hi).prev;
        mark = λ i hi. (one i hi).mark;
      }

-- words that agree at n records, and past them, are the same
pub words_same : (n : ℕ) (l m : List ℕ) → Kept n l m → ((i : ℕ) → i < n → at m i ≡ at l i) → m ≡ l
words_same n l m K e = ext_get_or 0 m l K.size (λ i h. by_cases (dec_lt i n) (λ k. e i k) (λ k. K.past i (omega (arith, k))))

pub whole_fixed : {P n : ℕ} {hd hd' : ℕ → ℕ} {s t : Links} → Whole P n hd s → Whole P n hd' t → lists_of n hd' t ≡ lists_of n hd s
    → LinksKept n s t → ((i : ℕ) → i < n → P ≤ at s.marks i → P ≤ at t.marks i → at t.marks i ≡ at s.marks i)
    → ((p : ℕ) → hd' p ≡ hd p) × (t ≡ s)
whole_fixed {P} {n} {hd} {hd'} {s} {t} W Y e K loose =
    let S = fam_fixed W.fam (rw e at Y.fam) loose in (
      S.heads,
      links_eq
          (words_same n s.nexts t.nexts K.nexts S.next)
          (words_same n s.prevs t.prevs K.prevs S.prev)
          (words_same n s.marks t.marks K.marks S.mark),
    )
