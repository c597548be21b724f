-- The rule inside a poll, where an entry may lie one level too high: over the clock e, an entry at level k shares its quotient at k + 1 with e and
-- its slot does not start before e. Between calls every slot above level 0 starts after e besides.
use mathlib.Core.Path.{◌≡◌, sym, ap, ◌∙◌}
use Prim.Native.Nat.{ℕ, ◌/◌, ◌%◌, ◌<◌}
use native.Mathlib.Omega.{arith}
use Rattle.times.specs.Times.{slot_of, level_of, floor}
use Rattle.times.proofs.laws.Quotients.{slot_lt, lies_late, lies_agree}
use Rattle.times.proofs.laws.Levels.{level_is, is_level, block_six, level_lies, lies_level}
use Rattle.links.specs.Lists.{Mem}
use Rattle.places.specs.Places.{slot_place, slots, parking, expired, level_at, slot_at}
use Rattle.wheel.specs.Wheel.{Lists, place_for, OnWheel, Rule}
use Rattle.wheel.specs.Between.{Spot, Between}

-- above level 0, the slot starts after elapsed
abbrev pub Ahead : ℕ → ℕ → ℕ → Type 0
Ahead p e w = 0 < level_at p → e < floor (level_at p) w

-- ---- a slot as a number

pub place_level : (k s : ℕ) → s < 64 → slot_place k s / 64 ≡ k
place_level k s h = omega arith

pub place_slot : (k s : ℕ) → s < 64 → slot_place k s % 64 ≡ s
place_slot k s h = omega arith

-- ---- the two forms of the rule

pub on_spot : (p e w : ℕ) → OnWheel p e w → Spot p e w × Ahead p e w
unfolding place_for
on_spot p e w o =
    let k : level_at p ≡ level_of e w = omega (arith, o.place, slot_lt w (level_of e w)) in
    let l = level_lies e w (level_of e w) o.late (sym o.near) (level_is e w) in
    (record { slot = rw k (omega (arith, o.place, slot_lt w (level_of e w))); lies = rw k l.0 }, rw k l.1)

pub spot_on : (p e w : ℕ) → p < slots → Spot p e w → Ahead p e w → OnWheel p e w
unfolding place_for
spot_on p e w h s a =
    let k : level_at p ≡ level_of e w = is_level e w (level_at p) (lies_level e w (level_at p) (omega arith) s.lies a) in
    let t : slot_at p ≡ slot_of w (level_of e w) = s.slot ∙ ap (slot_of w) k in
    record {
      place = omega (arith, k, t);
      late = lies_late (level_at p) e w s.lies;
      near = sym (block_six w) ∙ lies_agree (level_at p) e w s.lies 6 (omega arith) ∙ block_six e;
    }

pub rule_between : {d : ℕ → ℕ} {e : ℕ} {L : Lists} → Rule d e L → Between d e L
rule_between {d} {e} {L} R =
    record {
      spot = λ p x hp m. (on_spot p e (d x) (R.wheel p x hp m)).0;
      later = λ p x q y hp hq mx my l. (on_spot p e (d x) (R.wheel p x hp mx)).1 (omega (arith, l));
      parked = R.parked;
    }

pub between_rule : {d : ℕ → ℕ} {e : ℕ} {L : Lists} → Between d e L
    → ((p x : ℕ) → p < slots → Mem x (L p) → Ahead p e (d x)) → ((x : ℕ) → Mem x (L expired) → d x ≡ e) → Rule d e L
between_rule {d} {e} {L} B a s =
    record { wheel = λ p x hp m. spot_on p e (d x) hp (B.spot p x hp m) (a p x hp m); parked = B.parked; expired = s }

-- whatever leaves, the rule stays
pub rule_less : {d : ℕ → ℕ} {e : ℕ} {L M : Lists} → Rule d e L → ((p x : ℕ) → Mem x (M p) → Mem x (L p)) → Rule d e M
rule_less R h =
    record {
      wheel = λ p x hp m. R.wheel p x hp (h p x m);
      parked = λ x m. R.parked x (h parking x m);
      expired = λ x m. R.expired x (h expired x m);
    }
