-- Why bytes begin with what they begin with: a step by its kind, a cut, or damage; and how many bytes the step has.
use mathlib.Core.Path.{◌≡◌, refl, ◌∙◌, subst}
use mathlib.Core.Logic.{◌⊎◌, inl, inr, ⊎_elim, by_cases}
use mathlib.Core.Bool.{Bool, true, false, cond}
use mathlib.Core.List.{List}
use Prim.Native.Nat.{ℕ, ◌≤◌, ◌<◌}
use native.Mathlib.Decide.{ℕ_discrete, dec_lt}
use native.Mathlib.Omega.{arith}
use lib.ListN.{length, drop, length-drop}
use Rattle.std.proofs.Common.{Result, Ok, Err}
use Rattle.delay_queue.specs.declared.Call.TheVariants as C
use Rattle.entries.specs.declared.Step.{Step}
use Rattle.entries.specs.declared.Step.TheVariants as S
use Rattle.entries.specs.declared.Ending.{Ending}
use Rattle.entries.specs.declared.Ending.TheVariants as E
use Rattle.entries.specs.declared.Entry.{Entry}
use Rattle.entries.specs.Entries.{step_bytes}
use Rattle.entries.specs.Reading.{entry_in, known, zeros, checked, pair_of, step_of, next, Unfinished, part, half}
use Rattle.entries.proofs.laws.Writing.{entry_length, pair_size}
use Rattle.entries.proofs.laws.Reading.{next_cut, next_read, pair_read, pair_cut, pair_kind, pair_none, pair_made, step_kind, step_nine, no_step}

-- ---- damage is no cut

abbrev Damage : Ending → Type 0
Damage d = d ≡ E.Cut → ⊥

kind_damage : Damage E.Kind
kind_damage e = let n : ◌≡◌ {A = ℕ} 0 1 = cc in omega arith

zero_damage : Damage E.Zero
zero_damage e = let n : ◌≡◌ {A = ℕ} 0 1 = cc in omega arith

pair_damage : Damage E.Pair
pair_damage e = let n : ◌≡◌ {A = ℕ} 0 1 = cc in omega arith

-- an entry shows damage by itself, or it is x
data CheckedIs (e : Entry) (x : Result Step Ending) : Result Step Ending → Type 0 where
  fine : zeros e ≡ true → CheckedIs e x x
  spoilt : {d : Ending} → Damage d → CheckedIs e x (Err d)

checked_is : (e : Entry) (x : Result Step Ending) → CheckedIs e x (checked e x)
unfolding checked
checked_is e x = by (known e.kind) (zeros e) refl
  where
    by : (k z : Bool) → zeros e ≡ z → CheckedIs e x (cond k (cond z x (Err E.Zero)) (Err E.Kind))
    by true true q = fine q
    by true false q = spoilt zero_damage
    by false z q = spoilt kind_damage

-- ---- what an entry says where l stands behind it

pub data StepIs (e : Entry) (l : List ℕ) : Result Step Ending → Type 0 where
  format : e.kind ≡ 1 → StepIs e l (Ok (S.Asks (C.Format e.a e.b)))
  insert : e.kind ≡ 2 → StepIs e l (Ok (S.Asks (C.Insert e.a e.b 0)))
  reset : e.kind ≡ 3 → StepIs e l (Ok (S.Asks (C.Reset e.a e.b)))
  remove : e.kind ≡ 4 → StepIs e l (Ok (S.Asks (C.Remove e.a)))
  poll : e.kind ≡ 5 → StepIs e l (Ok (S.Asks (C.Poll e.a)))
  poll_some : e.kind ≡ 11 → StepIs e l (Ok (S.Asks (C.PollSome e.a e.b)))
  clear : e.kind ≡ 6 → StepIs e l (Ok (S.Asks C.Clear))
  opens : e.kind ≡ 7 → StepIs e l (Ok S.Open)
  closes : e.kind ≡ 8 → StepIs e l (Ok S.Close)
  pair : e.kind ≡ 9 → 18 ≤ length l → zeros (entry_in l) ≡ true → (entry_in l).kind ≡ 10 → 0 < (entry_in l).a
      → StepIs e l (Ok (S.Asks (C.Insert e.a e.b (entry_in l).a)))
  alone : e.kind ≡ 9 → length l < 18 → StepIs e l (Err E.Cut)
  broken : {d : Ending} → Damage d → StepIs e l (Err d)

module _ (e : Entry) (l : List ℕ) where
  this : {x y : Result Step Ending} → x ≡ y → StepIs e l x → StepIs e l y
  this q i = subst (λ (z : Result Step Ending). StepIs e l z) q i

  nine : e.kind ≡ 9 → StepIs e l (step_of e l)
  nine k =
      by_cases (dec_lt (length l) 18)
      (λ (h : length l < 18). this (pair_cut e l 0 h ∙ step_nine e l k) (alone k h))
      (λ h. this (pair_read e l 0 (omega arith) refl refl ∙ step_nine e l k) (by (omega arith) (checked_is p (pair_of e p))))
    where
      p : Entry
      p = entry_in l

      made : 18 ≤ length l → zeros p ≡ true → StepIs e l (pair_of e p)
      made h z =
          by_cases (ℕ_discrete p.kind 10)
          (λ (t : p.kind ≡ 10).
          by_cases (ℕ_discrete p.a 0) (λ (n : p.a ≡ 0). this (pair_none e p t n) (broken pair_damage))
          (λ n. this (pair_made e p t n) (pair k h z t (omega arith))))
          (λ t. this (pair_kind e p t) (broken pair_damage))

      by : {x : Result Step Ending} → 18 ≤ length l → CheckedIs p (pair_of e p) x → StepIs e l x
      by h (fine z) = made h z
      by h (spoilt d) = broken d

  step_is : StepIs e l (step_of e l)
  unfolding step_of
  step_is =
      by_cases (ℕ_discrete e.kind 1) (λ k. this (step_kind e l 1 k) (format k))
      (λ k₁.
      by_cases (ℕ_discrete e.kind 2) (λ k. this (step_kind e l 2 k) (insert k))
      (λ k₂.
      by_cases (ℕ_discrete e.kind 3) (λ k. this (step_kind e l 3 k) (reset k))
      (λ k₃.
      by_cases (ℕ_discrete e.kind 4) (λ k. this (step_kind e l 4 k) (remove k))
      (λ k₄.
      by_cases (ℕ_discrete e.kind 5) (λ k. this (step_kind e l 5 k) (poll k))
      (λ k₅.
      by_cases (ℕ_discrete e.kind 6) (λ k. this (step_kind e l 6 k) (clear k))
      (λ k₆.
      by_cases (ℕ_discrete e.kind 7) (λ k. this (step_kind e l 7 k) (opens k))
      (λ k₇.
      by_cases (ℕ_discrete e.kind 8) (λ k. this (step_kind e l 8 k) (closes k))
      (λ k₈.
      by_cases (ℕ_discrete e.kind 9) nine
      (λ k₉.
      by_cases (ℕ_discrete e.kind 11) (λ k. this (step_kind e l 11 k) (poll_some k))
      (λ k₁₁. this (no_step e l k₁ k₂ k₃ k₄ k₅ k₆ k₇ k₈ k₉ k₁₁) (broken pair_damage)))))))))))

-- ---- what bytes begin with

pub data NextIs (l : List ℕ) : Result Step Ending → Type 0 where
  short : length l < 18 → NextIs l (Err E.Cut)
  whole : {x : Result Step Ending} → 18 ≤ length l → zeros (entry_in l) ≡ true → StepIs (entry_in l) (drop 18 l) x → NextIs l x
  damaged : {d : Ending} → Damage d → NextIs l (Err d)

pub next_is : (l : List ℕ) {x : Result Step Ending} → next l ≡ x → NextIs l x
next_is l {x} q =
    subst (λ (y : Result Step Ending). NextIs l y) q
    (by_cases (dec_lt (length l) 18) (λ (h : length l < 18). carried (next_cut l 0 h) (short h))
    (λ h. carried (next_read l 0 (omega arith) refl refl refl) (by (omega arith) (checked_is e (step_of e (drop 18 l))))))
  where
    e : Entry
    e = entry_in l

    carried : {y z : Result Step Ending} → y ≡ z → NextIs l y → NextIs l z
    carried r i = subst (λ (w : Result Step Ending). NextIs l w) r i

    by : {y : Result Step Ending} → 18 ≤ length l → CheckedIs e (step_of e (drop 18 l)) y → NextIs l y
    by h (fine z) = whole h z (step_is e (drop 18 l))
    by h (spoilt d) = damaged d

-- ---- sizes

-- one entry, or a kind 9 and its kind 10
step_size : (e : Entry) (l : List ℕ) {x : Step} → StepIs e l (Ok x)
    → ((e.kind ≡ 9 → ⊥) × (length (step_bytes x) ≡ 18)) ⊎ ((18 ≤ length l) × (length (step_bytes x) ≡ 36))
step_size e l (format k) = inl (λ g. omega arith, entry_length 1 e.a e.b)
step_size e l (insert k) = inl (λ g. omega arith, entry_length 2 e.a e.b)
step_size e l (reset k) = inl (λ g. omega arith, entry_length 3 e.a e.b)
step_size e l (remove k) = inl (λ g. omega arith, entry_length 4 e.a 0)
step_size e l (poll k) = inl (λ g. omega arith, entry_length 5 e.a 0)
step_size e l (poll_some k) = inl (λ g. omega arith, entry_length 11 e.a e.b)
step_size e l (clear k) = inl (λ g. omega arith, entry_length 6 0 0)
step_size e l (opens k) = inl (λ g. omega arith, entry_length 7 0 0)
step_size e l (closes k) = inl (λ g. omega arith, entry_length 8 0 0)
step_size e l (pair k s z t p) = inr (s, pair_size e.a e.b (entry_in l).a p)

-- the bytes of a step are there: 18 where its kind is not 9, else 36
pub next_sizes : (l : List ℕ) {x : Step} → next l ≡ Ok x
    → (((entry_in l).kind ≡ 9 → ⊥) × (18 ≤ length l) × (length (step_bytes x) ≡ 18)) ⊎ ((36 ≤ length l) × (length (step_bytes x) ≡ 36))
next_sizes l {x} q = by (next_is l q)
  where
    by : NextIs l (Ok x)
        → (((entry_in l).kind ≡ 9 → ⊥) × (18 ≤ length l) × (length (step_bytes x) ≡ 18)) ⊎ ((36 ≤ length l) × (length (step_bytes x) ≡ 36))
    by (whole h z i) =
        ⊎_elim (λ a. inl (a.0, h, a.1)) (λ b. inr (omega (arith, h, b.0, length-drop 18 l), b.1)) (step_size (entry_in l) (drop 18 l) i)

pub next_size : (l : List ℕ) {x : Step} → next l ≡ Ok x → (0 < length (step_bytes x)) × (length (step_bytes x) ≤ length l)
next_size l q = ⊎_elim (λ a. (omega (arith, a.2), omega (arith, a.1, a.2))) (λ b. (omega (arith, b.1), omega (arith, b.0, b.1))) (next_sizes l q)

-- ---- a cut

-- a cut is what is left of a step
pub cut_is : (l : List ℕ) → next l ≡ Err E.Cut → Unfinished l
cut_is l q = by (next_is l q)
  where
    by : NextIs l (Err E.Cut) → Unfinished l
    by (short h) = part h
    by (whole h z (alone k s)) = half k z (omega (arith, s, length-drop 18 l))
    by (whole h z (broken d)) = absurd (d refl)
    by (damaged d) = absurd (d refl)

pub cut_short : (l : List ℕ) → next l ≡ Err E.Cut → length l < 36
cut_short l q = by (cut_is l q)
  where
    by : Unfinished l → length l < 36
    by (part h) = omega arith
    by (half k z h) = h
