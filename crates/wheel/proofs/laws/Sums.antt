-- Laws of sums of a weight over all that lie in the lists.
use mathlib.Core.Path.{◌≡◌, refl, sym, ap, ◌∙◌}
use mathlib.Core.Logic.{◌≢◌, ◌⊎◌, inl, inr, ⊎_elim, by_cases}
use mathlib.Core.List.{List, [], ◌∷◌, ◌++◌}
use Prim.Native.Nat.{ℕ, zero, suc, ◌+◌, ◌*◌, ◌≤◌, ◌<◌}
use native.Mathlib.Decide.{dec_le, ℕ_discrete}
use native.Mathlib.Omega.{arith}
use lib.ListN.{length, length-append}
use Rattle.links.specs.Lists.{Mem, change}
use Rattle.links.proofs.laws.Lists.{mem_app, mem_left as mem-before, mem_right as mem-after, change_same, change_other}
use Rattle.links.proofs.laws.Judge.{cat}
use Rattle.links.specs.Count.{bit}
use lib.Dec.{eqb}
use borrow.Author.Tests.{eq-eqb, ne_eqb}
use Rattle.places.specs.Places.{put}
use Rattle.places.proofs.laws.Places.{put_either}
use Rattle.wheel.specs.Wheel.{Lists}
use Rattle.wheel.specs.Sums.{sum_of, total}

-- ---- who lies in the lists after a change

pub mem_change : (L : Lists) (p : ℕ) (l : List ℕ) (q x : ℕ) → Mem x (change L p l q) → ((q ≡ p) × Mem x l) ⊎ ((q ≢ p) × Mem x (L q))
mem_change L p l q x m =
    by_cases (ℕ_discrete q p)
    (λ (e : q ≡ p). inl (e, rw (e, change_same) at m))
    (λ d. inr (d, rw (change_other L p l q d) at m))

pub mem_kept : (L : Lists) (p : ℕ) (l : List ℕ) (q x : ℕ) → (Mem x (L p) → Mem x l) → Mem x (L q) → Mem x (change L p l q)
mem_kept L p l q x h m =
    by_cases (ℕ_discrete q p)
    (λ e. rw (e, change_same) (h (rw e at m)))
    (λ d. rw (change_other L p l q d) m)

-- one more, or one less
pub mem_put : (p x y : ℕ) (l : List ℕ) → Mem y (put p x l) → (y ≡ x) ⊎ Mem y l
mem_put p x y l m =
    put_either p x l (λ k. Mem y k → (y ≡ x) ⊎ Mem y l) (λ k. k) (λ k. ⊎_elim inr (⊎_elim inl (λ z. absurd z)) (mem_app y l (x ∷ []) k)) m

pub put_mem : (p x y : ℕ) (l : List ℕ) → (y ≡ x) ⊎ Mem y l → Mem y (put p x l)
put_mem p x y l m =
    put_either p x l (Mem y) m (⊎_elim (λ e. mem-after y l (x ∷ []) (inl e)) (mem-before y l (x ∷ [])) m)

pub mem_joined : (L : Lists) (p x q y : ℕ) → Mem y (change L p (put p x (L p)) q) → ((q ≡ p) × (y ≡ x)) ⊎ Mem y (L q)
mem_joined L p x q y m =
    ⊎_elim
    (λ a. ⊎_elim (λ e. inl (a.0, e)) (λ k. inr (rw a.0 k)) (mem_put p x y (L p) a.1))
    (λ a. inr a.1)
    (mem_change L p (put p x (L p)) q y m)

pub mem_left : (L : Lists) (p x : ℕ) (l : List ℕ) → L p ≡ x ∷ l → (q y : ℕ) → Mem y (change L p l q) → Mem y (L q)
mem_left L p x l e q y m = ⊎_elim (λ a. rw (a.0, e) (inr a.1)) (λ a. a.1) (mem_change L p l q y m)

-- ---- sums

pub sum_put : (u : ℕ → ℕ) (p x : ℕ) (l : List ℕ) → sum_of u (put p x l) ≡ u x + sum_of u l
sum_put u p x l = put_either p x l (λ k. sum_of u k ≡ u x + sum_of u l) refl (end l)
  where
    end : (k : List ℕ) → sum_of u (k ++ x ∷ []) ≡ u x + sum_of u k
    end [] = refl
    end (y ∷ k) = omega (arith, end k)

pub total_zero : (u : ℕ → ℕ → ℕ) (L : Lists) → total u 0 L ≡ 0
unfolding total
total_zero u L = refl

module _ (u : ℕ → ℕ → ℕ) where
  pub total_ext : (n : ℕ) (L M : Lists) → ((p : ℕ) → p < n → L p ≡ M p) → total u n L ≡ total u n M
  unfolding total
  total_ext zero L M h = refl
  total_ext (suc n) L M h = rw (total_ext n L M (λ p k. h p (omega arith)), h n (omega arith))

  -- the law of a change
  pub total_change : (n : ℕ) (L : Lists) (p : ℕ) (l : List ℕ) → p < n
      → total u n (change L p l) + sum_of (u p) (L p) ≡ total u n L + sum_of (u p) l
  unfolding total
  total_change zero L p l h = absurd (omega arith)
  total_change (suc n) L p l h =
      by_cases (ℕ_discrete n p)
      (λ (e : n ≡ p).
      let a : total u n (change L p l) ≡ total u n L = total_ext n (change L p l) L (λ q k. change_other L p l q (omega (arith, k, e))) in
      let b : sum_of (u n) (change L p l n) ≡ sum_of (u p) l = rw (e, change_same) in
      let c : sum_of (u n) (L n) ≡ sum_of (u p) (L p) = rw e in
      omega (arith, a, b, c))
      (λ d.
      let a = total_change n L p l (omega (arith, d, h)) in
      let b : sum_of (u n) (change L p l n) ≡ sum_of (u n) (L n) = rw (change_other L p l n d) in
      omega (arith, a, b))

  -- x leaves the list of p, where l is left
  pub total_less : (n : ℕ) (L : Lists) (p x : ℕ) (l : List ℕ) → p < n → L p ≡ x ∷ l → total u n (change L p l) + u p x ≡ total u n L
  total_less n L p x l h e = omega (arith, total_change n L p l h, ap (sum_of (u p)) e)

  -- x joins the list of p
  pub total_more : (n : ℕ) (L : Lists) (p x : ℕ) → p < n → total u n (change L p (put p x (L p))) ≡ total u n L + u p x
  total_more n L p x h = omega (arith, total_change n L p (put p x (L p)) h, sum_put (u p) p x (L p))

-- ---- a smaller weight, a smaller sum

sum_le : (u v : ℕ → ℕ) → ((x : ℕ) → u x ≤ v x) → (l : List ℕ) → sum_of u l ≤ sum_of v l
sum_le u v h [] = omega arith
sum_le u v h (x ∷ l) = omega (arith, h x, sum_le u v h l)

pub total_le : (u v : ℕ → ℕ → ℕ) (n : ℕ) (L : Lists) → ((p x : ℕ) → p < n → u p x ≤ v p x) → total u n L ≤ total v n L
unfolding total
total_le u v zero L h = omega arith
total_le u v (suc n) L h = omega (
  arith,
  total_le u v n L (λ p x k. h p x (omega arith)),
  sum_le (u n) (v n)
      (λ x. h n x (omega arith)) (L n),
)

sum_scale : (c : ℕ) (l : List ℕ) → sum_of (λ x. c) l ≡ c * length l
sum_scale c [] = omega arith
sum_scale c (x ∷ l) = omega (arith, sum_scale c l)

-- a constant weight counts the members of all lists
pub total_scale : (c n : ℕ) (L : Lists) (p k : ℕ) → p + k ≡ n → total (λ q x. c) n L ≡ total (λ q x. c) p L + c * length (cat L k p)
unfolding total cat
total_scale c n L p zero e = ap (λ (m : ℕ). total (λ q x. c) m L) (sym (by n p e)) ∙ omega arith
  where
    by : (n p : ℕ) → p + 0 ≡ n → p ≡ n
    by n p e = omega arith
total_scale c n L p (suc k) e =
    omega (
      arith,
      total_scale c n L (suc p) k (omega arith),
      sum_scale c (L p),
      ap
          (λ (m : ℕ). c * m) (length-append (L p) (cat L k (suc p))),
    )

-- ---- how often a record lies in the lists

abbrev pub hits : ℕ → ℕ → ℕ
hits y x = bit (eqb x y)

hit : (x y : ℕ) → x ≡ y → hits y x ≡ 1
hit x y e = rw (eq-eqb x y e)

miss : (x y : ℕ) → x ≢ y → hits y x ≡ 0
miss x y d = rw (ne_eqb x y d)

sum_mem : (y : ℕ) (l : List ℕ) → Mem y l → 0 < sum_of (hits y) l
sum_mem y [] m = absurd m
sum_mem y (x ∷ l) (inl e) = omega (arith, hit x y (sym e))
sum_mem y (x ∷ l) (inr m) = omega (arith, sum_mem y l m)

pub mem_sum : (y : ℕ) (l : List ℕ) → 0 < sum_of (hits y) l → Mem y l
mem_sum y [] h = absurd (omega arith)
mem_sum y (x ∷ l) h = by_cases (ℕ_discrete x y) (λ e. inl (sym e)) (λ d. inr (mem_sum y l (omega (arith, miss x y d, h))))

pub lies_times : (n : ℕ) (L : Lists) (y p : ℕ) → p < n → Mem y (L p) → 0 < total (λ q x. hits y x) n L
unfolding total
lies_times zero L y p h m = absurd (omega arith)
lies_times (suc n) L y p h m =
    by_cases (ℕ_discrete p n)
    (λ (e : p ≡ n). omega (arith, sum_mem y (L n) (rw e at m)))
    (λ d. omega (arith, lies_times n L y p (omega (arith, d, h)) m))

pub times_lies : (n : ℕ) (L : Lists) (y : ℕ) → 0 < total (λ q x. hits y x) n L → (p : ℕ) × (p < n) × Mem y (L p)
unfolding total
times_lies zero L y h = absurd (omega arith)
times_lies (suc n) L y h = by (dec_le 1 (sum_of (hits y) (L n))) (times_lies n L y)
  where
    by : Dec (1 ≤ sum_of (hits y) (L n)) → (0 < total (λ q x. hits y x) n L → (p : ℕ) × (p < n) × Mem y (L p))
        → (p : ℕ) × (p < suc n) × Mem y (L p)
    by (yes k) ih = (n, omega arith, mem_sum y (L n) k)
    by (no k) ih = let r = ih (omega (arith, k, h)) in (r.0, omega (arith, r.1), r.2)
