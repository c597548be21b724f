-- A drain of the next list: elapsed rises to its start, and each entry goes one level down. The rule holds again when the list is empty, and the heights
-- have fallen by the moves.
use mathlib.Core.Path.{◌≡◌, refl, sym, ap, ◌∙◌, subst}
use mathlib.Core.Logic.{◌≢◌, ◌⊎◌, inl, inr, ⊎_elim, by_cases}
use mathlib.Core.List.{List, [], ◌∷◌}
use Prim.Native.Nat.{ℕ, suc, ◌+◌, ◌*◌, ◌/◌, ◌≤◌, ◌<◌}
use native.Mathlib.Nat.{le_trans}
use native.Mathlib.Decide.{ℕ_discrete}
use native.Mathlib.Omega.{arith}
use Rattle.times.specs.Times.{slot_of, NextBlock}
use Rattle.times.proofs.laws.Quotients.{slot_lt, floor_le, floor_64, lies_raise, lies_down}
use Rattle.times.proofs.laws.Blocks.{end_block}
use Rattle.links.specs.Lists.{Mem, change}
use Rattle.links.proofs.laws.Lists.{change_same, change_other}
use Rattle.places.specs.Places.{slot_place, slots, parking, expired, put, level_at}
use Rattle.wheel.specs.Wheel.{Lists, NextList, in_slot, in_parking, arrive, Drains, drained, moved}
use Rattle.wheel.specs.Sums.{total}
use Rattle.wheel.proofs.laws.Sums.{mem_joined, mem_left, total_less, total_more}
use Rattle.wheel.specs.Between.{Spot, Between, Draining}
use Rattle.wheel.proofs.laws.Between.{place_level, place_slot}
use Rattle.wheel.proofs.laws.Next.{start_late, start_ends, list_late, list_start, list_lowest, list_later, list_least, list_height, list_some}
use Rattle.wheel.specs.Drain.{heights}

-- the sum of a weight over the wheel and the parking list that does not ask where
unfoldable pub amount : (ℕ → ℕ) → Lists → ℕ
amount v L = total (λ p x. v x) expired L

-- ---- elapsed rises to the start of the next list

-- up to the start of a slot it stays in its block
list_block : {d : ℕ → ℕ} {e : ℕ} {L : Lists} → Between d e L → {k p c : ℕ} → NextList e L k p c → (y : ℕ) → p ≢ parking → Mem y (L parking)
    → NextBlock c (d y)
list_block {e = e} B (in_slot F) y n m =
    omega (arith, B.parked y m, end_block e _ (start_late B F) (start_ends B F))
list_block B (in_parking E is) y n m = absurd (n refl)

pub drain_begins : {d : ℕ → ℕ} {e : ℕ} {L : Lists} → Between d e L → {k p c : ℕ} → NextList e L (suc k) p c → Draining d k p c L
drain_begins {d} {e} {L} B {k} {p} {c} X =
    record {
      spot = λ q y hq my.
          let s = B.spot q y hq my in
          record {
            slot = s.slot;
            lies = lies_raise (level_at q) e (d y) s.lies c (list_late B X) (list_least B X q y (omega (arith, hq)) my);
          };
      hand = λ y my. list_start B X y my;
      low = λ q y hq my. omega (arith, list_lowest B X q y (omega (arith, hq)) my);
      later = λ q y hq n my l. list_later B X q y (omega (arith, hq)) n my;
      parked = list_block B X;
    }

-- when the slot is empty
pub drain_ends : {d : ℕ → ℕ} {k h e : ℕ} {L : Lists} → Draining d k h e L → L h ≡ [] → Between d e L
drain_ends {d} {k} {h} {e} {L} D none =
    record {
      spot = D.spot;
      later = λ p x q y hp hq mx my l. D.later p x hp (λ g. subst (Mem x) (ap L g ∙ none) mx) mx (omega (arith, D.low q y hq my));
      parked = λ x m. by_cases (ℕ_discrete h parking) (λ (g : h ≡ parking). absurd (subst (Mem x) (ap L (sym g) ∙ none) m)) (λ n. D.parked x n m);
    }

-- ---- one move

-- M is L after m moves out of h
pub record Moved (d : ℕ → ℕ) (k h : ℕ) (L : Lists) (m : ℕ) (M : Lists) : Type 0 where
  pub rule : (e : ℕ) → Draining d k h e L → Draining d k h e M
  pub fallen : heights M + m ≡ heights L
  pub kept : (v : ℕ → ℕ) → amount v M ≡ amount v L
  pub aside : (q : ℕ) → expired ≤ q → M q ≡ L q

module _ (d : ℕ → ℕ) (k h : ℕ) (level : h / 64 ≡ suc k) (below : h < expired) where
  module _ (L : Lists) (x : ℕ) (l : List ℕ) (is : L h ≡ x ∷ l) where
    -- where it goes
    abbrev to : ℕ
    to = slot_place k (slot_of (d x) k)

    abbrev pub went : Lists
    went = arrive k (d x) x (change L h l)

    to_level : to / 64 ≡ k
    to_level = place_level k (slot_of (d x) k) (slot_lt (d x) k)

    to_below : to < slots
    to_below = omega (arith, level, below, slot_lt (d x) k)

    to_other : h ≢ to
    to_other = omega (arith, level, to_level)

    who : (r y : ℕ) → Mem y (went r) → ((r ≡ to) × (y ≡ x)) ⊎ Mem y (L r)
    unfolding arrive
    who r y m = ⊎_elim (λ a. inl a) (λ a. inr (mem_left L h x l is r y a)) (mem_joined (change L h l) to x r y m)

    pub move_rest : went h ≡ l
    unfolding arrive
    move_rest = change_other (change L h l) to (put to x (change L h l to)) h to_other ∙ change_same L h l

    move_aside : (q : ℕ) → expired ≤ q → went q ≡ L q
    unfolding arrive
    move_aside q a =
        change_other (change L h l) to (put to x (change L h l to)) q (omega (arith, to_below))
        ∙ change_other L h l q (omega (arith, below))

    move_total : (u : ℕ → ℕ → ℕ) → total u expired went + u h x ≡ total u expired L + u to x
    unfolding arrive
    move_total u = omega
        (arith, total_less u expired L h x l below is, total_more u expired (change L h l) to x (omega (arith, to_below)))

    move_rule : (e : ℕ) → Draining d k h e L → Draining d k h e went
    move_rule e D =
        record {
          spot = λ r y hr m. ⊎_elim (λ a. rw (a.0, a.1) landed) (D.spot r y hr) (who r y m);
          hand = λ y m. D.hand y (rw is (inr (rw move_rest at m)));
          low = λ r y hr m. ⊎_elim (λ a. omega (arith, ap (λ (p : ℕ). level_at p) a.0, to_level)) (D.low r y hr) (who r y m);
          later = λ r y hr n m g.
              ⊎_elim (λ a. absurd (omega (arith, g, ap (λ (p : ℕ). level_at p) a.0, to_level))) (λ a. D.later r y hr n a g) (who r y m);
          parked = λ y n m. ⊎_elim (λ a. absurd (omega (arith, a.0, to_below))) (D.parked y n) (who parking y m);
        }
      where
        landed : Spot to e (d x)
        landed =
            record {
              slot = rw to_level (place_slot k (slot_of (d x) k) (slot_lt (d x) k));
              lies = rw to_level (lies_down k e (d x) (D.hand x (rw is (inl refl))));
            }

    -- the law of one move
    pub move_law : Moved d k h L 1 went
    unfolding heights amount
    move_law =
        record {
          rule = move_rule;
          fallen = omega (arith, move_total (λ p y. level_at p), level, to_level);
          kept = λ v. omega (arith, move_total (λ p y. v y));
          aside = move_aside;
        }

  moved_none : (L : Lists) → Moved d k h L 0 L
  moved_none L = record { rule = λ e D. D; fallen = omega arith; kept = λ v. refl; aside = λ q a. refl }

  moved_more : {L M N : Lists} {m j : ℕ} → Moved d k h L m M → Moved d k h M j N → Moved d k h L (m + j) N
  moved_more A B =
      record {
        rule = λ e D. B.rule e (A.rule e D);
        fallen = omega (arith, A.fallen, B.fallen);
        kept = λ v. B.kept v ∙ A.kept v;
        aside = λ q a. B.aside q a ∙ A.aside q a;
      }

  -- all of them: the list is empty after it
  pub drains_law : {L M : Lists} {m : ℕ} → Drains d k h L m M → Moved d k h L m M × (M h ≡ [])
  drains_law (drained {L} e) = (moved_none L, e)
  drains_law (moved {L} {M} {m} {x} {l} e r) =
      let R = drains_law r in
      (subst (λ (n : ℕ). Moved d k h L n M) (by m) (moved_more (move_law L x l e) R.0), R.1)
    where
      by : (m : ℕ) → 1 + m ≡ suc m
      by m = omega arith

-- ---- a drain of the next list

-- M is L after a drain of a list that starts at c
pub record Drained (d : ℕ → ℕ) (e : ℕ) (L : Lists) (m c : ℕ) (M : Lists) : Type 0 where
  pub rule : Between d c M
  pub some : 0 < m
  pub fallen : heights M + m ≡ heights L
  pub kept : (v : ℕ → ℕ) → amount v M ≡ amount v L
  pub aside : (q : ℕ) → expired ≤ q → M q ≡ L q
  pub rises : e ≤ c
  pub whole : c / 64 * 64 ≡ c
  pub reached : (q y : ℕ) → q < expired → Mem y (L q) → c ≤ d y

some_moves : {d : ℕ → ℕ} {k h m x : ℕ} {L M : Lists} {l : List ℕ} → L h ≡ x ∷ l → Drains d k h L m M → 0 < m
some_moves is (drained e) = let z : ◌≡◌ {A = ℕ} 0 1 = cc in absurd (omega arith)
some_moves is (moved e r) = omega arith

pub drain_law : {d : ℕ → ℕ} {e : ℕ} {L : Lists} → Between d e L → {k p c : ℕ} → NextList e L (suc k) p c → {m : ℕ} {M : Lists}
    → Drains d k p L m M → Drained d e L m c M
drain_law {d} {e} {L} B {k} {p} {c} X {m} {M} D =
    let h = list_height X in
    let R = drains_law d k p h.0 h.1 D in
    let o = list_some X in
    let a = list_start B X o.0 (rw o.2 (inl refl)) in
    record {
      rule = drain_ends (R.0.rule c (drain_begins B X)) R.1;
      some = some_moves o.2 D;
      fallen = R.0.fallen;
      kept = R.0.kept;
      aside = R.0.aside;
      rises = list_late B X;
      whole = ap (λ (z : ℕ). z / 64 * 64) (sym a) ∙ floor_64 k (d o.0) ∙ a;
      reached = λ q y hq my. le_trans (list_least B X q y hq my) (floor_le (level_at q) (d y));
    }
