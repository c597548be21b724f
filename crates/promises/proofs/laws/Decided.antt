-- Whether a store is sound, and whether format takes what it is given, is decided.
use mathlib.Core.Path.{◌≡◌}
use mathlib.Core.Logic
use mathlib.Core.Logic.{◌⊎◌, inl, inr, ⊎_elim, by_cases}
use mathlib.Core.Bool.{true, Bool-discrete}
use mathlib.Core.List.{List, []}
use Prim.Native.Nat.{ℕ, zero, suc, ◌+◌, ◌-◌, ◌%◌, ◌^◌, ◌<◌, ◌≤◌, ◌*◌, max}
use native.Mathlib.Decide.{ℕ_discrete, dec_le, dec_lt, map_dec}
use native.Mathlib.Omega.{arith}
use lib.ListN.{length, get_or}
use Rattle.times.specs.Times.{width, slot_of, level_of, block}
use Rattle.row.specs.Row.{row_of}
use Rattle.links.specs.Lists.{nobody}
use Rattle.links.specs.Links.{at}
use Rattle.places.specs.Places.{slot_place, slots, parking, expired, places, retired, level_at}
use Rattle.places.specs.Words.{head_at}
use Rattle.places.specs.Heads.{Shape}
use Rattle.places.proofs.laws.Words.{judged}
use Rattle.places.specs.Judge.{held}
use Rattle.places.proofs.laws.Whole as place_laws
use Rattle.wheel.specs.Limited.{start}
use Rattle.wheel.specs.Midway.{Belongs, Parked}
use Rattle.records.specs.Words.{QueueWords, count, elapsed, mark_of, AtRest, MidPoll, Sound, slices}
use Rattle.wheel.specs.Words.{WheelWords, WheelWhole}
use Rattle.wheel.specs.Judged.{CanJudge}
use Rattle.wheel.proofs.laws.Judged.{whole_row, whole_from}
use Rattle.judge.specs.Judge.{RecordAgrees, RecordsAgree, CanHold}
use Rattle.judge.proofs.laws.Judge.{sound_judged, judged_sound}
use Rattle.records.specs.Records.{last_turn}
use Rattle.records.specs.Slices.{Slices, Room, limit, Fits}
use Rattle.records.specs.Format.{InRange}

-- ---- soundness, and what format asks

by_dec : {A B : Type 0} → Dec A → (A → B) → (B → A) → Dec B
by_dec d f g = map_dec f g d

implies_dec : {A B : Type 0} → Dec A → Dec B → Dec (A → B)
implies_dec d (yes b) = yes (λ a. b)
implies_dec (yes a) (no f) = no (λ g. f (g a))
implies_dec (no f) (no g) = yes (λ a. absurd (f a))

-- for each of n numbers
below_dec : {P : ℕ → Type 0} → ((i : ℕ) → Dec (P i)) → (n : ℕ) → Dec ((i : ℕ) → i < n → P i)
below_dec d zero = yes (λ i h. absurd (omega arith))
below_dec {P} d (suc n) =
    by_dec (Logic.Dec.and (d n) (below_dec d n))
    (λ x i h. by_cases (ℕ_discrete i n) (λ e. rw e x.0) (λ e. x.1 i (omega arith)))
    (λ f. (f n (omega arith), λ i h. f i (omega arith)))

room_dec : (n : ℕ) (l : Slices) → Dec (Room n l)
room_dec n l =
    let long : (k : List ℕ) → Dec (n ≤ length k) = λ k. dec_le n (length k) in
    by_dec
    (Logic.Dec.and (Logic.Dec.and (dec_le (2 * n) (length l.values)) (long l.deadlines))
    (Logic.Dec.and (Logic.Dec.and (long l.links.nexts) (long l.links.prevs)) (Logic.Dec.and (long l.turns) (long l.links.marks))))
    (λ x.
    record {
      values = x.0.0;
      deadlines = x.0.1;
      links = record { nexts = x.1.0.0; prevs = x.1.0.1; marks = x.1.1.1 };
      turns = x.1.1.0;
    })
    (λ R. ((R.values, R.deadlines), ((R.links.nexts, R.links.prevs), (R.turns, R.links.marks))))

pub fits_dec : (s : QueueWords) (n : ℕ) → Dec (Fits (slices s) n)
fits_dec s n =
    by_dec (Logic.Dec.and (Logic.Dec.and (dec_lt 0 n) (dec_le n limit)) (room_dec n (slices s)))
    (λ x. record { some = x.0.0; few = x.0.1; room = x.1 })
    (λ F. ((F.some, F.few), F.room))

pub range_dec : (turn : ℕ) → Dec (InRange turn)
range_dec turn = by_dec (Logic.Dec.and (dec_lt 0 turn) (dec_lt turn (2 ^ 48))) (λ x. record { some = x.0; last = x.1 }) (λ I. (I.some, I.last))

shape_dec : (hh : List (List ℕ)) → Dec (Shape hh)
shape_dec hh =
    by_dec (Logic.Dec.and (ℕ_discrete (length hh) 6) (below_dec (λ k. ℕ_discrete (length (get_or hh k [])) 64) 6))
    (λ x. record { six = x.0; wide = x.1 })
    (λ H. (H.six, H.wide))

whole_dec : {t : WheelWords} → CanJudge t → Dec (WheelWhole t)
whole_dec {t} C =
    by_dec
    (Logic.Dec.and (Bool-discrete (judged t.places) true)
    (below_dec (λ k. ℕ_discrete (at t.occupied k) (row_of (held t.places.heads k))) 6))
    (λ x. whole_from C x.0 x.1)
    (λ W. (place_laws.whole_judged W.places, whole_row W))

or_dec : {A B : Type 0} → Dec A → Dec B → Dec (A ⊎ B)
or_dec (yes a) e = yes (inl a)
or_dec (no f) (yes b) = yes (inr b)
or_dec (no f) (no g) = no (λ x. ⊎_elim f g x)

not_dec : {A : Type 0} → Dec A → Dec (A → ⊥)
not_dec (yes a) = no (λ f. f a)
not_dec (no f) = yes f

belongs_dec : (low h c p w : ℕ) → Dec (Belongs low h c p w)
belongs_dec low h c p w =
    let k : ℕ = max low (level_of c w) in
    by_dec
    (Logic.Dec.and (Logic.Dec.and (dec_le c w) (ℕ_discrete (block w) (block c)))
    (or_dec (ℕ_discrete p (slot_place k (slot_of w k))) (Logic.Dec.and (ℕ_discrete p h) (dec_le (level_of c w) low))))
    (λ x. record { late = x.0.0; near = x.0.1; place = x.1 })
    (λ B. ((B.late, B.near), B.place))

parked_dec : (h c w : ℕ) → Dec (Parked h c w)
parked_dec h c w =
    by_dec
    (Logic.Dec.and (implies_dec (not_dec (ℕ_discrete h parking)) (ℕ_discrete (block w) (block c + 1)))
    (implies_dec (ℕ_discrete h parking) (ℕ_discrete (block w) (block c))))
    (λ x. record { aside = x.0; inside = x.1 })
    (λ P. (P.aside, P.inside))

agrees_dec : (low h c w t m : ℕ) → Dec (RecordAgrees low h c w t m)
agrees_dec low h c w t m =
    by_dec
    (Logic.Dec.and (Logic.Dec.and (dec_lt 0 t) (dec_lt t (2 ^ 48)))
    (Logic.Dec.and (implies_dec (dec_lt m slots) (belongs_dec low h c m w))
    (Logic.Dec.and (implies_dec (ℕ_discrete m parking) (parked_dec h c w))
    (Logic.Dec.and (implies_dec (ℕ_discrete m expired) (ℕ_discrete w c)) (implies_dec (dec_le places m) (Logic.Dec.and (ℕ_discrete m retired) (ℕ_discrete t last_turn)))))))
    (λ x.
    record {
      some = x.0.0;
      last = x.0.1;
      wheel = x.1.0;
      parked = x.1.1.0;
      expired = x.1.1.1.0;
      retired = x.1.1.1.1;
    })
    (λ R. ((R.some, R.last), (R.wheel, (R.parked, (R.expired, R.retired)))))

hold_dec : (e until p head first parked : ℕ) → Dec (CanHold e until p head first parked)
hold_dec e until p head first parked =
    by_dec
    (Logic.Dec.and (Logic.Dec.and (dec_lt p expired) (dec_lt 0 (level_at p)))
    (Logic.Dec.and (Logic.Dec.and (not_dec (ℕ_discrete head nobody)) (ℕ_discrete first nobody))
    (Logic.Dec.and (Logic.Dec.and (dec_le e (start e p)) (dec_le (start e p) until))
    (implies_dec (ℕ_discrete (start e p) e)
    (Logic.Dec.and (ℕ_discrete (e % width (suc (level_at p))) 0)
    (implies_dec (ℕ_discrete (e % 2 ^ 36) 0) (Logic.Dec.and (dec_lt 0 e) (ℕ_discrete parked nobody))))))))
    (λ x.
    record {
      below = x.0.0;
      high = x.0.1;
      filled = x.1.0.0;
      expired = x.1.0.1;
      late = x.1.1.0.0;
      due = x.1.1.0.1;
      own = x.1.1.1;
    })
    (λ H. ((H.below, H.high), ((H.filled, H.expired), ((H.late, H.due), H.own))))

-- all n records
all_dec : (s : QueueWords) (low h c : ℕ) → Dec (RecordsAgree low h c (count s) s.deadlines s.turns s.wheel.places.links.marks)
all_dec s low h c = below_dec (λ i. agrees_dec low h c (at s.deadlines i) (at s.turns i) (mark_of s i)) (count s)

pub sound_dec : (s : QueueWords) → Dec (Sound s)
sound_dec s =
    by (Logic.Dec.and (Logic.Dec.and (shape_dec s.wheel.places.heads) (ℕ_discrete (length s.wheel.occupied) 6)) (fits_dec s (count s)))
  where
    at_rest : Fits (slices s) (count s) → Dec (WheelWhole s.wheel) → AtRest s → Dec (Sound s)
    at_rest F d z =
        by_dec (Logic.Dec.and d (Logic.Dec.and (ℕ_discrete s.until 0) (all_dec s 0 nobody (elapsed s))))
        (λ y. judged_sound (record { fits = F; whole = y.0; rest = λ _. (y.1.0, y.1.1); mid = λ e. absurd (e z) }))
        (λ S. let J = (sound_judged S).rest z in (S.standing.whole, (J.0, J.1)))

    mid_poll : Fits (slices s) (count s) → Dec (WheelWhole s.wheel) → MidPoll s → Dec (Sound s)
    mid_poll F d e =
        by_dec
        (Logic.Dec.and d (Logic.Dec.and (hold_dec (elapsed s) s.until s.hand (head_at s.wheel.places s.hand) (head_at s.wheel.places expired)
        (head_at s.wheel.places parking))
        (all_dec s (level_at s.hand - 1) s.hand (start (elapsed s) s.hand))))
        (λ y. judged_sound (record { fits = F; whole = y.0; rest = λ z. absurd (e z); mid = λ _. (y.1.0, y.1.1) }))
        (λ S. let J = (sound_judged S).mid e in (S.standing.whole, (J.0, J.1)))

    by : Dec ((Shape s.wheel.places.heads × (length s.wheel.occupied ≡ 6)) × Fits (slices s) (count s)) → Dec (Sound s)
    by (yes x) =
        let C : CanJudge s.wheel = record { six = x.0.1; shape = x.0.0; room = x.1.room.links; few = omega arith } in
        let d : Dec (WheelWhole s.wheel) = whole_dec C in
        by_cases (ℕ_discrete s.hand nobody) (at_rest x.1 d) (mid_poll x.1 d)
    by (no f) = no (λ S. f ((S.standing.whole.places.shape, S.standing.whole.occupied.six), S.standing.fits))
