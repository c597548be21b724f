-- One record at a time: taken from the free list, given a value and a period, placed, unlinked, freed. Each takes a sound store to a sound store, and its view to what
-- document 01 makes of it; unlinked and freed also where the store only stands. A record on its way is in no
-- list, and not retired: the store stands, and is sound, but for it.
use mathlib.Core.Path.{◌≡◌, refl, sym, ap, ◌∙◌, subst}
use mathlib.Core.Logic.{◌≢◌, inl, inr, ⊎_elim, by_cases}
use mathlib.Core.List.{List, [], ◌∷◌}
use Prim.Native.Nat.{ℕ, ◌+◌, ◌-◌, ◌*◌, ◌^◌, ◌≤◌, ◌<◌, max}
use native.Mathlib.Decide.{ℕ_discrete, dec_lt}
use native.Mathlib.Omega.{arith}
use lib.ListN.{length, set}
use borrow.Author.Tests.{eq-eqb, ne_eqb}
use Rattle.times.specs.Times.{level_of, max_duration, block, NextBlock}
use Rattle.times.proofs.laws.Quotients.{slot_lt}
use Rattle.times.proofs.laws.Levels.{level_is}
use Rattle.times.proofs.laws.Blocks.{near_next}
use Rattle.links.specs.Lists.{nobody, Mem, without, change}
use Rattle.links.proofs.laws.Lists.{change_same, change_other}
use Rattle.links.specs.Links.{at}
use Rattle.links.specs.Whole.{Kept}
use Rattle.links.proofs.laws.Whole.{kept_refl, kept_trans, kept_set}
use Rattle.places.specs.Places.{slots, parking, expired, free, places, retired, put}
use Rattle.places.specs.Words.{PlaceWords, mark_of as markAt, retire}
use Rattle.places.specs.Whole as places
use Rattle.places.proofs.laws.Whole as place_laws
use Rattle.wheel.specs.Wheel.{Lists, place_for, OnWheel, Rule, arrive}
use Rattle.wheel.proofs.laws.Sums.{mem_kept, put_mem, mem_joined}
use Rattle.wheel.proofs.laws.Between.{rule_less}
use Rattle.wheel.specs.Words.{WheelWords, wheel_words, WheelWhole, Becomes, CanPush, CanLeave, Leaves, lists as listsIn, mark_of as markIn}
use Rattle.wheel.specs.Moves.{CanInsert}
use Rattle.records.specs.View.{View, view_of, with_elapsed, with_lists, with_value, with_period, with_hand, upd}
use Rattle.records.proofs.laws.View.{view_eq}
use Rattle.records.specs.Slices.{value_at, period_at, given}
use Rattle.records.specs.Records.{last_turn, At, Near, taken, left, target, placed, freed}
use Rattle.records.specs.Words.{QueueWords, queue_words, holding, count, elapsed, mark_of, view, StandingBut, Standing, SoundBut, AtRest, Sound}
use Rattle.records.proofs.laws.Words.{upd_same, upd_other, at_set, given_value, given_period}
use Rattle.records.specs.Inner.{StandsBut, Stands, GoesBut, Goes, LooseAt, HasSlot, PlacesTo, CanPlace, LeavesTo, CanFree}

pub with_rule : {item : ℕ} {s s' : QueueWords} {v : View} → StandsBut item s v s' → Rule v.deadline v.elapsed v.lists
    → GoesBut item s v s'
with_rule P R =
    record {
      sound = record { standing = P.standing; rule = subst (λ (u : View). Rule u.deadline u.elapsed u.lists) (sym P.view) R };
      view = P.view;
      size = P.size;
      kept = P.kept;
    }

-- ---- sound, with no poll in hand

pub rests : {s : QueueWords} → Sound s → AtRest s → SoundBut nobody s
rests S z = record { standing = S.standing; rule = S.rule.free z }

pub sounds : {s : QueueWords} → SoundBut nobody s → AtRest s → s.until ≡ 0 → Sound s
sounds S z u = record { standing = S.standing; rule = record { free = λ _. S.rule; inside = λ d. absurd (d z) }; no_now = λ _. u }

-- whose mark is no list's is in none
pub unmarked_out : {t : WheelWords} → WheelWhole t → (i : ℕ) → places ≤ markIn t i → (p : ℕ) → Mem i (listsIn t p) → ⊥
unmarked_out W i z p m = omega (arith, z, place_laws.member_mark W.places p i m, place_laws.member_place W.places p i m)

pub loose_out : {j : ℕ} {s : QueueWords} → StandingBut j s → {i : ℕ} → LooseAt s i → (p : ℕ) → Mem i ((view s).lists p) → ⊥
loose_out S {i} o = unmarked_out S.whole i (omega (arith, o.loose))

-- ---- who is retired, by the lists

-- who is in no list of L has the mark of a retired one and the last turn, but for item; m are the marks, k the turns
abbrev RetiredBut : ℕ → ℕ → Lists → (ℕ → ℕ) → (ℕ → ℕ) → Type 0
RetiredBut item n L m k = (i : ℕ) → i < n → i ≢ item → ((p : ℕ) → Mem i (L p) → ⊥) → (m i ≡ retired) × (k i ≡ last_turn)

-- t keeps who is retired
retired_but : {j : ℕ} {s : QueueWords} → StandingBut j s → {t : PlaceWords} → places.PlacesKept s.wheel.places t
    → RetiredBut j (count s) (view s).lists (markAt t) (view s).turn
retired_but S K i h d out = let r = S.retired i h d (place_laws.unlisted_mark S.whole.places i h out) in (K.retired i r.0, r.1)

-- no record has nobody's number: all that are in no list are retired
pub sound_retired : {s : QueueWords} → Sound s → (i : ℕ) → i < count s → places ≤ mark_of s i → (mark_of s i ≡ retired) × (at s.turns i ≡ last_turn)
sound_retired S i h m = S.standing.retired i h (omega arith) m

-- who is in a list of L is in one of M, but for item
abbrev pub StayBut : ℕ → Lists → Lists → Type 0
StayBut item L M = (p x : ℕ) → Mem x (L p) → x ≢ item → (q : ℕ) × Mem x (M q)

pub stay_all : (item : ℕ) (L : Lists) → StayBut item L L
stay_all item L p x m d = (p, m)

-- the head of a list leaves it
pub stay_popped : (L : Lists) (p x : ℕ) (l : List ℕ) → L p ≡ x ∷ l → StayBut x L (change L p l)
stay_popped L p x l e q y m d = (q, mem_kept L p l q y (λ k. ⊎_elim (λ z. absurd (d z)) (λ n. n) (rw e at k)) m)

-- ---- the wheel and the words of the records change: what is left to show is that turns are in range, and who is retired

stands : {j : ℕ} {s : QueueWords} → StandingBut j s → {e : ℕ} {L : Lists} {t : WheelWords} → WheelWhole t
    → places.PlacesKept s.wheel.places t.places
    → t.elapsed ≡ e → listsIn t ≡ L → {vs ds ts : List ℕ} → Kept (2 * count s) s.values vs
    → Kept (count s) s.deadlines ds → Kept (count s) s.turns ts → {v p d k : ℕ → ℕ}
    → value_at vs ≡ v → period_at vs ≡ p → at ds ≡ d → at ts ≡ k
    → ((i : ℕ) → i < count s → (0 < k i) × (k i < 2 ^ 48)) → {item : ℕ} → RetiredBut item (count s) L (markIn t) k
    → StandsBut item s (view_of (count s) e L v p d k s.hand s.until) (queue_words t vs ds ts s.hand s.until)
stands S W K ee el vals dues terms ev ep ed et turns retired =
    record {
      standing = record {
        fits = record {
          some = omega arith;
          few = omega arith;
          room = record { values = omega arith; deadlines = omega arith; links = place_laws.room W.places; turns = omega arith };
        };
        whole = W;
        turns = λ i h. rw (ap (λ f. f i) et) (turns i (omega arith));
        retired = λ i h d z. let r = retired i (omega arith) d (rw el at (unmarked_out W i z)) in (r.0, rw (ap (λ f. f i) et) r.1);
      };
      view = view_eq K.size ee el ev ep ed et;
      size = K.size;
      kept = record { links = K.links; values = vals; deadlines = dues; turns = terms };
    }

-- the wheel changes, and nothing else
abbrev shifted : QueueWords → WheelWords → QueueWords
shifted s t = queue_words t s.values s.deadlines s.turns s.hand s.until

module _ {s : QueueWords} (S : Standing s) {t : WheelWords} where
  pub stands_wheel : {e item : ℕ} {L : Lists} → WheelWhole t → places.PlacesKept s.wheel.places t.places → t.elapsed ≡ e
      → listsIn t ≡ L → StayBut item (view s).lists L → StandsBut item s (with_elapsed e (with_lists L (view s))) (shifted s t)
  stands_wheel W K ee el stay =
      stands S W K ee el (kept_refl _ _) (kept_refl _ _) (kept_refl _ _) refl refl refl refl S.turns
      (λ i h d out. retired_but S K i h (omega arith) (λ p m. let r = stay p i m d in out r.0 r.1))

  -- its lists alone
  pub stands_lists : {item : ℕ} {L : Lists} → Becomes s.wheel L t → StayBut item (view s).lists L
      → StandsBut item s (with_lists L (view s)) (shifted s t)
  stands_lists B stay = stands_wheel B.whole B.kept B.elapsed B.lists stay

-- the poll in hand alone
pub standing_hold : {item : ℕ} {s : QueueWords} → StandingBut item s → (h u : ℕ) → StandingBut item (holding h u s)
standing_hold S h u = record { fits = S.fits; whole = S.whole; turns = S.turns; retired = S.retired }

pub stands_hold : {item : ℕ} {s s' : QueueWords} {v : View} → StandsBut item s v s' → (h u : ℕ)
    → StandsBut item s (with_hand h u v) (holding h u s')
stands_hold P h u =
    record {
      standing = standing_hold P.standing h u;
      view = ap (with_hand h u) P.view;
      size = P.size;
      kept = record { links = P.kept.links; values = P.kept.values; deadlines = P.kept.deadlines; turns = P.kept.turns };
    }

-- the rule looks at the lists of timers alone
rule_beside : {d : ℕ → ℕ} {e : ℕ} {L : Lists} → Rule d e L → (l : List ℕ) → Rule d e (change L free l)
rule_beside {d} {e} {L} R l =
    record {
      wheel = λ p x hp m. R.wheel p x hp (rw (change_other L free l p (omega arith)) at m);
      parked = λ x m. R.parked x (rw (change_other L free l parking (omega arith)) at m);
      expired = λ x m. R.expired x (rw (change_other L free l expired (omega arith)) at m);
    }

-- ---- taken from the free list

pub goes_taken : {s : QueueWords} (S : SoundBut nobody s) {i : ℕ} {l : List ℕ} → (view s).lists free ≡ i ∷ l → {t : WheelWords}
    → Becomes s.wheel (change (view s).lists free l) t
    → GoesBut i s (taken l (view s)) (queue_words t s.values s.deadlines s.turns s.hand s.until)
goes_taken {s} S {i} {l} e B =
    with_rule (stands_lists S.standing B (stay_popped (view s).lists free i l e)) (rule_beside S.rule l)

-- ---- given a value and a period

pub goes_given : {j : ℕ} {s : QueueWords} → SoundBut j s → (i x y : ℕ) → i < count s
    → GoesBut j s (with_period (upd (view s).period i y) (with_value (upd (view s).value i x) (view s)))
    (queue_words s.wheel (given s.values i x y) s.deadlines s.turns s.hand s.until)
goes_given {s = s} S i x y h =
    let T = S.standing in
    let n : ℕ = 2 * count s in
    let room : 2 * i + 1 < length s.values = omega arith in
    with_rule
    (stands T T.whole (place_laws.kept_refl s.wheel.places) refl refl
    (kept_trans (kept_set n s.values (2 * i) x (omega arith)) (kept_set n (set s.values (2 * i) x) (2 * i + 1) y (omega arith)))
    (kept_refl _ _) (kept_refl _ _) (given_value s.values i x y room) (given_period s.values i x y room) refl refl
    T.turns (retired_but T (place_laws.kept_refl s.wheel.places)))
    S.rule

-- ---- unlinked from the list of p

pub mark_at : {j : ℕ} {s : QueueWords} → StandingBut j s → {i p : ℕ} → At (view s) i p → mark_of s i ≡ p
mark_at S {i} {p} a = place_laws.member_mark S.whole.places p i a.member

pub can_leave : {s : QueueWords} → Standing s → {i p : ℕ} → At (view s) i p → CanLeave s.wheel i
can_leave S {i} {p} a =
    record {
      whole = S.whole;
      below = place_laws.member_below S.whole.places p i a.member;
      listed = omega (arith, mark_at S a);
    }

pub mem_without : (i x : ℕ) (l : List ℕ) → Mem x (without i l) → Mem x l
mem_without i x [] m = m
mem_without i x (y ∷ l) m =
    by_cases (ℕ_discrete y i)
    (λ e. inr (rw (eq-eqb y i e) at m))
    (λ d. ⊎_elim inl (λ k. inr (mem_without i x l k)) (rw (ne_eqb y i d) at m))

pub mem_other : (i x : ℕ) (l : List ℕ) → x ≢ i → Mem x l → Mem x (without i l)
mem_other i x [] d m = m
mem_other i x (y ∷ l) d m =
    by_cases (ℕ_discrete y i)
    (λ e. rw (eq-eqb y i e) (⊎_elim (λ z. absurd (d (z ∙ e))) (λ k. k) m))
    (λ n. rw (ne_eqb y i n) (⊎_elim (λ z. inl z) (λ k. inr (mem_other i x l d k)) m))

pub stands_left : {s : QueueWords} (S : Standing s) {i p : ℕ} → At (view s) i p → {t : WheelWords} → Leaves s.wheel i t
    → StandsBut i s (left p i (view s)) (queue_words t s.values s.deadlines s.turns s.hand s.until)
unfolding left
stands_left {s} S {i} {p} a Q =
    let L = (view s).lists in
    stands_lists S (rw (mark_at S a) at Q.becomes)
    (λ q x m d. (q, mem_kept L p (without i (L p)) q x (mem_other i x (L p) d) m))

pub goes_left : {s : QueueWords} (S : SoundBut nobody s) {i p : ℕ} → At (view s) i p → {t : WheelWords} → Leaves s.wheel i t
    → GoesBut i s (left p i (view s)) (queue_words t s.values s.deadlines s.turns s.hand s.until)
unfolding left
goes_left {s} S {i} {p} a Q =
    let L = (view s).lists in
    with_rule (stands_left S.standing a Q) (rule_less S.rule (λ q x m.
    by_cases (ℕ_discrete q p)
    (λ e. rw e (mem_without i x (L p) (rw (e, change_same) at m)))
    (λ d. rw (change_other L p (without i (L p)) q d) at m)))

-- ---- placed

place_slot : (e w : ℕ) → place_for e w < slots
unfolding place_for
place_slot e w = omega (arith, slot_lt w (level_of e w), (level_is e w).within)

target_now : (e w : ℕ) → w ≡ e → target e w ≡ expired
unfolding target
target_now e w h = rw (eq-eqb w e h)

target_later : (e w : ℕ) → w ≢ e → block w ≡ block e → target e w ≡ place_for e w
unfolding target
target_later e w h b = rw (ne_eqb w e h, eq-eqb (block w) (block e) b)

target_next : (e w : ℕ) → w ≢ e → block w ≢ block e → target e w ≡ parking
unfolding target
target_next e w h b = rw (ne_eqb w e h, ne_eqb (block w) (block e) b)

-- where a deadline that has no slot goes
module _ (e w : ℕ) where
  pub aside_now : w ≤ e → target e (max w e) ≡ expired
  aside_now h = target_now e (max w e) (omega arith)

  pub aside_later : e < w → (HasSlot e w → ⊥) → target e (max w e) ≡ parking
  aside_later h out =
      let z : max w e ≡ w = omega arith in
      ap (target e) z ∙ target_next e w (omega (arith, h)) (λ b. out (h, b))

module _ {t : WheelWords} {ds : List ℕ} {i when : ℕ} (C : CanPlace t ds i when) where
  pub place_insert : HasSlot t.elapsed when → CanInsert t when i
  place_insert h = record { whole = C.whole; near = sym h.1; item = C.item }

  pub placed_slot : HasSlot t.elapsed when → {t' : WheelWords} → Becomes t (arrive (level_of t.elapsed when) when i (listsIn t)) t'
      → PlacesTo t ds i when t' (set ds i when)
  unfolding arrive place_for
  placed_slot h {t'} B =
      let w : max when t.elapsed ≡ when = omega (arith, h.0) in
      let d : when ≢ t.elapsed = omega (arith, h.0) in
      let p : target t.elapsed (max when t.elapsed) ≡ place_for t.elapsed when = ap (target t.elapsed) w
      ∙ target_later t.elapsed when d h.1 in
      record { becomes = rw p B; deadlines = rw w }

  pub place_aside : (p : ℕ) → slots ≤ p → p < free → CanPush t p i
  place_aside p a b = record { whole = C.whole; aside = a; place = omega (arith, b); item = C.item }

  pub placed_aside : (p w : ℕ) → p ≡ target t.elapsed (max when t.elapsed) → w ≡ max when t.elapsed → {t' : WheelWords}
      → Becomes t (change (listsIn t) p (put p i (listsIn t p))) t' → PlacesTo t ds i when t' (set ds i w)
  placed_aside p w hp hw B = record { becomes = rw (sym hp) B; deadlines = rw hw }

-- which rule is asked of w, by the place that it goes to
pub record Suits (e w p : ℕ) : Type 0 where
  pub wheel : p < slots → OnWheel p e w
  pub parked : p ≡ parking → NextBlock e w
  pub expired : p ≡ expired → w ≡ e

pub target_suits : (e w : ℕ) → e ≤ w → w - e ≤ max_duration → Suits e w (target e w)
target_suits e w late near =
    by_cases (ℕ_discrete w e)
    (λ z.
    let t : target e w ≡ expired = target_now e w z in
    record { wheel = λ h. absurd (omega (arith, t, h)); parked = λ h. absurd (omega (arith, t, h)); expired = λ h. z })
    (λ z.
    by_cases (ℕ_discrete (block w) (block e))
    (λ b.
    let t : target e w ≡ place_for e w = target_later e w z b in
    record {
      wheel = λ h. record { place = t; late = late; near = b };
      parked = λ h. absurd (omega (arith, t, h, place_slot e w));
      expired = λ h. absurd (omega (arith, t, h, place_slot e w));
    })
    (λ b.
    let t : target e w ≡ parking = target_next e w z b in
    record { wheel = λ h. absurd (omega (arith, t, h)); parked = λ h. near_next e w late near b; expired = λ h. absurd (omega (arith, t, h)) }))

rule_placed : {d : ℕ → ℕ} {e : ℕ} {L : Lists} → Rule d e L → (x w : ℕ) → ((p : ℕ) → Mem x (L p) → ⊥) → e ≤ w → w - e ≤ max_duration
    → let p = target e w in Rule (upd d x w) e (change L p (put p x (L p)))
rule_placed {d} {e} {L} R x w out late near =
    let p = target e w in
    let T = target_suits e w late near in
    let old : (q y : ℕ) → Mem y (L q) → upd d x w y ≡ d y = λ q y m. upd_other d x w y (λ z. out q (rw z at m)) in
    record {
      wheel = λ q y hq m.
          ⊎_elim
          (λ a. rw (a.1, upd_same d x w, a.0) (T.wheel (rw a.0 at hq)))
          (λ k. rw (old q y k) (R.wheel q y hq k))
          (mem_joined L p x q y m);
      parked = λ y m.
          ⊎_elim
          (λ a. rw (a.1, upd_same d x w) (T.parked (sym a.0)))
          (λ k. rw (old parking y k) (R.parked y k))
          (mem_joined L p x parking y m);
      expired = λ y m.
          ⊎_elim
          (λ a. rw (a.1, upd_same d x w) (T.expired (sym a.0)))
          (λ k. old expired y k ∙ R.expired y k)
          (mem_joined L p x expired y m);
    }

-- i comes into a list: who is in none now was in none before it, and is not i
come_retired : {i : ℕ} {s : QueueWords} → StandingBut i s → {t : PlaceWords} → places.PlacesKept s.wheel.places t → (p : ℕ)
    → (x : ℕ) → x < count s → ((q : ℕ) → Mem x (change (view s).lists p (put p i ((view s).lists p)) q) → ⊥)
    → (x ≢ i) × (markAt t x ≡ retired) × ((view s).turn x ≡ last_turn)
come_retired {i} {s} S K p x h out =
    let L = (view s).lists in
    let d : x ≢ i = λ e. out p (rw change_same (put_mem p i x (L p) (inl e))) in
    let r = retired_but S K x h d (λ q m. out q (mem_kept L p _ q x (λ k. put_mem p i x (L p) (inr k)) m)) in
    (d, r.0, r.1)

pub goes_placed : {s : QueueWords} {i : ℕ} (S : SoundBut i s) → LooseAt s i → (when : ℕ) → Near (elapsed s) when → {t : WheelWords} {ds : List ℕ}
    → PlacesTo s.wheel s.deadlines i when t ds → Goes s (placed i when (view s)) (queue_words t s.values ds s.turns s.hand s.until)
unfolding placed
goes_placed {s} {i} S o when near P =
    let T = S.standing in
    let B = P.becomes in
    let w : ℕ = max when (elapsed s) in
    let p : ℕ = target (elapsed s) w in
    let L : Lists = change (view s).lists p (put p i ((view s).lists p)) in
    let few : w - elapsed s ≤ max_duration
    = by_cases (dec_lt (elapsed s) when) (λ h. omega (arith, near h)) (λ h. omega (arith, h)) in
    let R : Rule (upd (at s.deadlines) i w) (elapsed s) L = rule_placed S.rule i w (loose_out T o) (omega arith) few in
    with_rule
    (stands T B.whole B.kept B.elapsed B.lists (kept_refl _ _)
    (rw P.deadlines (kept_set (count s) s.deadlines i w o.below)) (kept_refl _ _)
    refl refl (ap at P.deadlines ∙ at_set s.deadlines i w (omega arith)) refl T.turns
    (λ x h d out. let r = come_retired T B.kept p x h out in (r.1, r.2)))
    R

-- ---- freed

pub stands_freed : {s : QueueWords} {i : ℕ} (S : StandingBut i s) → LooseAt s i → {t : WheelWords} {ts : List ℕ}
    → LeavesTo s.wheel s.turns i t ts
    → Stands s (freed i (view s)) (queue_words t s.values s.deadlines ts s.hand s.until)
unfolding freed
stands_freed {s} {i} S o {t} {ts} P =
    by_cases (ℕ_discrete (at s.turns i) last_turn)
    (λ z.
    let r = P.retired z in
    rw (eq-eqb (at s.turns i) last_turn z)
    (stands S r.0.whole r.0.kept r.0.elapsed r.0.lists (kept_refl _ _) (kept_refl _ _) (rw r.2 (kept_refl _ _))
    refl refl refl (ap at r.2) S.turns
    (λ j g d out. by_cases (ℕ_discrete j i) (λ (q : j ≡ i). rw q (r.1, z)) (λ q. retired_but S r.0.kept j g q out))))
    (λ z.
    let r = P.given z in
    let x : ℕ = at s.turns i + 1 in
    rw (ne_eqb (at s.turns i) last_turn z)
    (stands S r.0.whole r.0.kept r.0.elapsed r.0.lists (kept_refl _ _) (kept_refl _ _)
    (rw r.1 (kept_set (count s) s.turns i x o.below))
    refl refl refl (ap at r.1 ∙ at_set s.turns i x (omega arith))
    (λ j g.
    by_cases (ℕ_discrete j i)
    (λ (q : j ≡ i). rw (q, upd_same) (omega (arith, S.turns i o.below)))
    (λ q. rw (upd_other (at s.turns) i x j q) (S.turns j g)))
    (λ j g d out. let o = come_retired S r.0.kept free j g out in (o.1, upd_other (at s.turns) i x j o.0 ∙ o.2))))

-- who is freed leaves the lists of timers as they are
rule_freed : (v : View) → Rule v.deadline v.elapsed v.lists → (i : ℕ) → let u = freed i v in
    Rule u.deadline u.elapsed u.lists
unfolding freed
rule_freed v R i =
    by_cases (ℕ_discrete (v.turn i) last_turn)
    (λ z. rw (eq-eqb (v.turn i) last_turn z) R)
    (λ z. rw (ne_eqb (v.turn i) last_turn z) (rule_beside R (put free i (v.lists free))))

pub goes_freed : {s : QueueWords} {i : ℕ} (S : SoundBut i s) → LooseAt s i → {t : WheelWords} {ts : List ℕ}
    → LeavesTo s.wheel s.turns i t ts
    → Goes s (freed i (view s)) (queue_words t s.values s.deadlines ts s.hand s.until)
goes_freed {s} {i} S o P = with_rule (stands_freed S.standing o P) (rule_freed (view s) S.rule i)

module _ {t : WheelWords} {ts : List ℕ} {i : ℕ} (C : CanFree t ts i) where
  pub free_push : CanPush t free i
  free_push = record { whole = C.whole; aside = omega arith; place = omega arith; item = C.item }

  pub freed_last : at ts i ≡ last_turn → LeavesTo t ts i (wheel_words t.elapsed t.occupied (retire t.places i)) ts
  freed_last z =
      let R = place_laws.retire_law C.whole.places i C.item.below C.item.loose in
      record {
        retired = λ e. (
          record { whole = record { places = R.0; occupied = rw R.1 C.whole.occupied }; lists = R.1; elapsed = refl; kept = R.2 },
          R.3,
          refl,
        );
        given = λ d. absurd (d z);
      }

  pub freed_given : at ts i ≢ last_turn → {t' : WheelWords} → Becomes t (change (listsIn t) free (put free i (listsIn t free))) t'
      → LeavesTo t ts i t' (set ts i (at ts i + 1))
  freed_given d B = record { retired = λ e. absurd (d e); given = λ z. (B, refl) }

-- ---- one record moves, and there are as many as before

pub left_size : (p i : ℕ) (v : View) → (left p i v).n ≡ v.n
unfolding left
left_size p i v = refl

pub placed_size : (i when : ℕ) (v : View) → (placed i when v).n ≡ v.n
unfolding placed
placed_size i when v = refl

pub freed_size : (i : ℕ) (v : View) → (freed i v).n ≡ v.n
unfolding freed
freed_size i v =
    by_cases (ℕ_discrete (v.turn i) last_turn)
    (λ z. rw (eq-eqb (v.turn i) last_turn z))
    (λ z. rw (ne_eqb (v.turn i) last_turn z))
