-- What a poll of the wheel does, by the rules alone (`poll_law`): a least due timer or none, the rest kept, the clock, the moves. (That it does one thing only
-- stands in One.antt.)
use mathlib.Core.Path.{◌≡◌, refl, sym, ap, ◌∙◌, subst}
use mathlib.Core.Logic.{inl, by_cases}
use mathlib.Core.List.{List, [], ◌∷◌}
use mathlib.Core.Option.{Option, none, some}
use Prim.Native.Nat.{ℕ, suc, ◌+◌, ◌/◌, ◌≤◌, ◌<◌}
use native.Mathlib.Decide.{dec_lt}
use native.Mathlib.Omega.{arith}
use native.Mathlib.Nat.{lt_of_lt_of_le}
use Rattle.times.specs.Times.{start_at, floor, NextBlock}
use Rattle.times.proofs.laws.Quotients.{quotient_zero, floor_le, floor_zero, lies_block, lies_raise}
use Rattle.times.proofs.laws.Blocks.{next_floor, end_block}
use Rattle.links.specs.Lists.{Mem, change}
use Rattle.links.proofs.laws.Lists.{change_other}
use Rattle.places.specs.Places.{slot_place, slots, parking, expired, level_at}
use Rattle.wheel.specs.Wheel.{Lists, Rule, FirstSlot, in_slot, NoneWaits, Polls, idle, early, out, drain}
use Rattle.wheel.proofs.laws.Sums.{mem_left, total_less, hits, lies_times, times_lies}
use Rattle.wheel.specs.Between.{Between}
use Rattle.wheel.proofs.laws.Between.{spot_on, between_rule, place_level}
use Rattle.wheel.proofs.laws.Next.{here_below, slot_below, start_is, start_late, list_least}
use Rattle.wheel.specs.Drain.{heights}
use Rattle.wheel.proofs.laws.Drain.{amount, Drained, drain_law}
use Rattle.wheel.specs.Poll.{Waits, Fair, clock_after}

-- the weight of what was handed out
abbrev pub given : (ℕ → ℕ) → Option ℕ → ℕ
given v none = 0
given v (some x) = v x

pub record Promise (d : ℕ → ℕ) (now e : ℕ) (L : Lists) (got : Option ℕ) (moves drains e' : ℕ) (N : Lists) : Type 0 where
  pub fair : Fair d now L got
  pub kept : (v : ℕ → ℕ) → amount v N + given v got ≡ amount v L
  pub clock : e' ≡ clock_after d now e got
  pub rule : Rule d e' N
  pub counted : moves + heights N ≡ heights L
  pub few : drains ≤ moves
  pub none : drains ≡ 0 → moves ≡ 0
  pub aside : (q : ℕ) → expired ≤ q → N q ≡ L q

-- lists that weigh the same have the same waiting
waits_same : (L M : Lists) → ((v : ℕ → ℕ) → amount v M ≡ amount v L) → (y : ℕ) → Waits L y → Waits M y
unfolding amount
waits_same L M e y k = times_lies expired M y (omega (arith, e (hits y), lies_times expired L y k.0 k.1 k.2))

-- and so has what is left, but for what was handed out
pub waits_on : {d : ℕ → ℕ} {now e : ℕ} {L : Lists} {got : Option ℕ} {moves drains e' : ℕ} {N : Lists}
    → Promise d now e L got moves drains e' N → (y : ℕ) → given (hits y) got ≡ 0 → Waits L y → Waits N y
unfolding amount
waits_on {L = L} {N = N} P y z k = times_lies expired N y (omega (arith, P.kept (hits y), lies_times expired L y k.0 k.1 k.2))

-- where nobody waits nobody does
pub none_waits : {L : Lists} → NoneWaits L → (q y : ℕ) → q < expired → Mem y (L q) → ⊥
none_waits {L} N q y hq m =
    by_cases (dec_lt q slots) (λ h. subst (Mem y) (N.0 q h) m)
    (λ h. let z : q ≡ parking = omega (arith, hq, h) in subst (Mem y) (ap L z ∙ N.1) m)

-- ---- the ways it ends

module _ {d : ℕ → ℕ} {now e : ℕ} {L : Lists} (B : Between d e L) (none_expired : L expired ≡ []) (later : e ≤ now) where
  -- nothing is due, and every slot starts after now
  end_rest : ((q y : ℕ) → q < expired → Mem y (L q) → now < floor (level_at q) (d y)) → Promise d now e L none 0 0 now L
  end_rest far =
      record {
        fair = λ y m. omega (arith, far m.0 y m.1 m.2, floor_le (m.0 / 64) (d y));
        kept = λ v. omega arith;
        clock = refl;
        rule = record {
          wheel = λ q y hq m.
              let s = B.spot q y hq m in
              let f = far q y (omega (arith, hq)) m in
              spot_on q now (d y) hq (record {
                slot = s.slot;
                lies = lies_raise (level_at q) e (d y) s.lies now later (omega (arith, f));
              }) (λ u. f);
          parked = λ y m.
              let b : NextBlock e (d y) = B.parked y m in
              omega (arith, b, end_block e now later (omega (arith, far parking y (omega arith) m, next_floor e (d y) b)));
          expired = λ x m. absurd (subst (Mem x) none_expired m);
        };
        counted = omega arith;
        few = omega arith;
        none = λ z. refl;
        aside = λ q h. refl;
      }

  end_out : {s x : ℕ} {l : List ℕ} → FirstSlot e L 0 s → start_at e 0 s ≤ now → L (slot_place 0 s) ≡ x ∷ l
      → Promise d now e L (some x) 0 0 e (change L (slot_place 0 s) l)
  unfolding amount heights
  end_out {s} {x} {l} F due is =
      let p : ℕ = slot_place 0 s in
      let hp : p < slots = here_below B F in
      let low : level_at p ≡ 0 = place_level 0 s (slot_below B F) in
      let m : Mem x (L p) = rw is (inl refl) in
      let w : start_at e 0 s ≡ d x = start_is B F x m ∙ floor_zero (d x) in
      let b : d x / 64 ≡ e / 64 = rw (quotient_zero (d x), quotient_zero e) at
      (rw low at (lies_block (level_at p) e (d x) (B.spot p x hp m).lies)) in
      record {
        fair = (
          (p, omega (arith, hp), m),
          omega (arith, w),
          λ y k. omega
              (arith, w, list_least B (in_slot F) k.0 y k.1 k.2, floor_le (k.0 / 64) (d y)),
        );
        kept = λ v. total_less (λ q y. v y) expired L p x l (omega (arith, hp)) is;
        clock = omega (arith, w, start_late B F, b);
        rule = between_rule (record {
          spot = λ q y hq k. B.spot q y hq (mem_left L p x l is q y k);
          later = λ q y r z hq hr k n g. B.later q y r z hq hr (mem_left L p x l is q y k) (mem_left L p x l is r z n) g;
          parked = λ y k. B.parked y (mem_left L p x l is parking y k);
        })
            (λ q y hq k u. B.later q y p x hq hp (mem_left L p x l is q y k) m (omega (arith, low)))
            (λ y k. absurd (subst (Mem y) none_expired (mem_left L p x l is expired y k)));
        counted = omega (arith, total_less (λ q y. level_at q) expired L p x l (omega (arith, hp)) is, low);
        few = omega arith;
        none = λ z. refl;
        aside = λ q h. change_other L p l q (omega (arith, hp));
      }

-- a drain, and what the rest of the poll does
pub end_drain : {d : ℕ → ℕ} {now e : ℕ} {L : Lists} {m c : ℕ} {M : Lists} {got : Option ℕ} {moves drains e' : ℕ} {N : Lists}
    → Drained d e L m c M → Promise d now c M got moves drains e' N → Promise d now e L got (m + moves) (suc drains) e' N
unfolding amount
end_drain {d} {now} {e} {L} {m} {c} {M} {got} {moves} {drains} {e'} {N} D R =
    record {
      fair = fair_back got R.fair;
      kept = λ v. R.kept v ∙ D.kept v;
      clock = R.clock ∙ clock_back got R.fair;
      rule = R.rule;
      counted = omega (arith, R.counted, D.fallen);
      few = omega (arith, R.few, D.some);
      none = λ z. absurd (omega arith);
      aside = λ q h. R.aside q h ∙ D.aside q h;
    }
  where
    -- the same wait
    there : (y : ℕ) → Waits L y → Waits M y
    there y k = waits_same L M D.kept y k

    back : (y : ℕ) → Waits M y → Waits L y
    back y k = waits_same M L (λ v. sym (D.kept v)) y k

    fair_back : (o : Option ℕ) → Fair d now M o → Fair d now L o
    fair_back none f = λ y k. f y (there y k)
    fair_back (some x) f = (back x f.0, f.1, λ y k. f.2 y (there y k))

    clock_back : (o : Option ℕ) → Fair d now M o → clock_after d now c o ≡ clock_after d now e o
    clock_back none f = refl
    clock_back (some x) f =
        let k = back x f.0 in
        omega (arith, D.rises, D.whole, D.reached k.0 x k.1 k.2)

-- ---- a whole poll

pub poll_law : {d : ℕ → ℕ} {now e : ℕ} {L : Lists} {got : Option ℕ} {moves drains e' : ℕ} {N : Lists} → Between d e L → L expired ≡ []
    → e ≤ now
    → Polls d now e L got moves drains e' N → Promise d now e L got moves drains e' N
poll_law B s l (idle N) = end_rest B s l (λ q y hq m. absurd (none_waits N q y hq m))
poll_law B s l (early X far) = end_rest B s l (λ q y hq m. lt_of_lt_of_le far (list_least B X q y hq m))
poll_law B s l (out F due is) = end_out B s l F due is
poll_law B s l (drain X due D r) =
    let R = drain_law B X D in
    end_drain R (poll_law R.rule (R.aside expired (omega arith) ∙ s) due r)
