-- What a log that is right leaves: each key once, at most 1,024 of them, and the clock of the paper; and order among equals is free.
use mathlib.Core.Path.{◌≡◌, refl, sym, ap, ◌∙◌, subst}
use mathlib.Core.Logic.{◌⊎◌, inl, inr, ⊎_elim, by_cases, ◌↔◌}
use mathlib.Core.List.{List, [], ◌∷◌, ◌++◌}
use Prim.Native.Nat.{ℕ, ◌≤◌, max}
use native.Mathlib.Decide.{dec_le, dec_lt}
use native.Mathlib.Omega.{arith}
use lib.ListN.{length}
use Rattle.lines.specs.Running.{none, more}
use Rattle.lines.proofs.laws.Running.{along_more}
use Rattle.inspector.specs.declared.Entry.{Entry}
use Rattle.inspector.specs.declared.Entry.TheVariants as E
use Rattle.inspector.specs.Text.{Says}
use Rattle.inspector.specs.Log.{Timer, timer, Store, store, start, Every, Free, Pends, Step}
use Rattle.inspector.specs.Verdict.{Wrong, most, AllRight}
use Rattle.inspector.specs.Promises.{Apart, EachLine, SomeLine, LargestNone}
use Rattle.inspector.proofs.laws.Met.{one_entry}
use Rattle.inspector.proofs.laws.Verdict.{step_few}

-- ---- "At most 1,024 are pending"

few_from : {ls : List (List ℕ)} {s s' : Store} → AllRight ls s s' → length s.pending ≤ most → length s'.pending ≤ most
few_from none h = h
few_from (more {a = s} {b = s₁} r a) h = few_from a (step_few most s r.entry s₁ h r.step)

-- never more, and one more is bad exactly where there are so many
pub few_pending : {ls : List (List ℕ)} {s : Store} → AllRight ls start s
    → (length s.pending ≤ most)
    × ((l : List ℕ) (key when : ℕ) → Says l (E.Insert key when) → Free key s.pending → Wrong most l s ↔ (length s.pending ≡ most))
unfolding Step
few_pending {s = s} a = (few_from a (omega arith), λ l key when q f. (full l key when q f, bad l key when q))
  where
    full : (l : List ℕ) (key when : ℕ) → Says l (E.Insert key when) → Free key s.pending → Wrong most l s → length s.pending ≡ most
    full l key when q f w =
        by_cases (dec_lt (length s.pending) most)
        (λ h. absurd (w _ (record { entry = E.Insert key when; says = q; step = (f, h, refl) })))
        (λ h. omega (arith, few_from a (omega arith)))

    bad : (l : List ℕ) (key when : ℕ) → Says l (E.Insert key when) → length s.pending ≡ most → Wrong most l s
    bad l key when q e s' r =
        let x = subst (λ (y : Entry). Step most s y s') (one_entry r.entry (E.Insert key when) r.says q) r.step in
        omega (arith, x.1)

-- ---- each key once

free_append : (key : ℕ) (a b : List Timer) → Free key a → Free key b → Free key (a ++ b)
free_append key [] b f g = g
free_append key (t ∷ a) b f g = (f.0, free_append key a b f.1 g)

free_split : (key : ℕ) (a b : List Timer) → Free key (a ++ b) → Free key a × Free key b
free_split key [] b f = (tt, f)
free_split key (t ∷ a) b f = let r = free_split key a b f.1 in ((f.0, r.0), r.1)

-- one goes in, or is moved
apart_in : (t : Timer) (a b : List Timer) → Apart (a ++ b) → Free t.key (a ++ b) → Apart (a ++ t ∷ b)
apart_in t [] b p f = (f, p)
apart_in t (u ∷ a) b p f =
    let r = free_split u.key a b p.0 in
    (free_append u.key a (t ∷ b) r.0 (λ e. f.0 (sym e), r.1), apart_in t a b p.1 f.1)

-- one goes out
apart_out : (t : Timer) (a b : List Timer) → Apart (a ++ t ∷ b) → Apart (a ++ b) × Free t.key (a ++ b)
apart_out t [] b p = (p.1, p.0)
apart_out t (u ∷ a) b p =
    let r = apart_out t a b p.1 in
    let f = free_split u.key a (t ∷ b) p.0 in
    ((free_append u.key a b f.0 f.1.1, r.0), (λ e. f.1.0 (sym e), r.1))

module _ {key : ℕ} {p : List Timer} (h : Pends key p) (a : Apart p) where
  others : Apart (h.front ++ h.behind) × Free key (h.front ++ h.behind)
  others = apart_out (timer key h.deadline) h.front h.behind (subst (λ (l : List Timer). Apart l) h.is a)

step_apart : (m : ℕ) (s : Store) (e : Entry) (s' : Store) → Apart s.pending → Step m s e s' → Apart s'.pending
unfolding Step
step_apart m s (E.Insert key when) s' a p =
    subst (λ (u : Store). Apart u.pending) (sym p.2) (last s.pending a p.0)
  where
    nothing : (l : List Timer) → Apart l → Apart (l ++ [])
    nothing [] x = tt
    nothing (t ∷ l) x = (free_append t.key l [] x.0 tt, nothing l x.1)

    last : (l : List Timer) → Apart l → Free key l → Apart (l ++ timer key (max when s.clock) ∷ [])
    last l x f = apart_in (timer key (max when s.clock)) l [] (nothing l x) (free_append key l [] f tt)
step_apart m s (E.Reset key when) s' a p =
    let h = p.0 in
    let o = others h a in
    subst (λ (u : Store). Apart u.pending) (sym p.1) (apart_in (timer key (max when s.clock)) h.front h.behind o.0 o.1)
step_apart m s (E.Remove key) s' a p = subst (λ (u : Store). Apart u.pending) (sym p.1) (others p.0 a).0
step_apart m s (E.Out time key) s' a p = subst (λ (u : Store). Apart u.pending) (sym p.3) (others p.0 a).0
step_apart m s (E.Nothing time) s' a p = subst (λ (u : Store). Apart u.pending) (sym p.1) a

apart_from : {ls : List (List ℕ)} {s s' : Store} → AllRight ls s s' → Apart s.pending → Apart s'.pending
apart_from none h = h
apart_from (more {a = s} {b = s₁} r a) h = apart_from a (step_apart most s r.entry s₁ h r.step)

pub keys_apart : {ls : List (List ℕ)} {s : Store} → AllRight ls start s → Apart s.pending
keys_apart a = apart_from a tt

-- ---- "the largest now answered with none, 0 at first"

pub record Ticks (e : Entry) (c c' : ℕ) : Type 0 where
  pub on : c ≤ c'
  pub by : (c' ≡ c) ⊎ (e ≡ E.Nothing c')
  pub all : (t : ℕ) → e ≡ E.Nothing t → t ≤ c'

stays : (e : Entry) (c c' : ℕ) → c' ≡ c → ((t : ℕ) → e ≡ E.Nothing t → ⊥) → Ticks e c c'
stays e c c' q n = record { on = omega arith; by = inl q; all = λ t x. absurd (n t x) }

step_ticks : (m : ℕ) (s : Store) (e : Entry) (s' : Store) → Step m s e s' → Ticks e s.clock s'.clock
unfolding Step
step_ticks m s (E.Insert key when) s' p =
    stays (E.Insert key when) s.clock s'.clock (ap (λ (u : Store). u.clock) p.2) (λ t x. let z : ◌≡◌ {A = ℕ} 0 1 = cc in omega arith)
step_ticks m s (E.Reset key when) s' p =
    stays (E.Reset key when) s.clock s'.clock (ap (λ (u : Store). u.clock) p.1) (λ t x. let z : ◌≡◌ {A = ℕ} 0 1 = cc in omega arith)
step_ticks m s (E.Remove key) s' p =
    stays (E.Remove key) s.clock s'.clock (ap (λ (u : Store). u.clock) p.1) (λ t x. let z : ◌≡◌ {A = ℕ} 0 1 = cc in omega arith)
step_ticks m s (E.Out time key) s' p =
    stays (E.Out time key) s.clock s'.clock (ap (λ (u : Store). u.clock) p.3) (λ t x. let z : ◌≡◌ {A = ℕ} 0 1 = cc in omega arith)
step_ticks m s (E.Nothing time) s' p =
    let q : s'.clock ≡ max s.clock time = ap (λ (u : Store). u.clock) p.1 in
    record {
      on = omega arith;
      by = by_cases (dec_le time s.clock) (λ h. inl (omega arith)) (λ h. let r : time ≡ s'.clock = omega arith in inr (ap (λ (t : ℕ). E.Nothing t) r));
      all = λ t x. let r : t ≡ time = cc in omega arith;
    }

record Clocked (ls : List (List ℕ)) (c c' : ℕ) : Type 0 where
  on : c ≤ c'
  largest : EachLine (λ l. (t : ℕ) → Says l (E.Nothing t) → t ≤ c') ls
  one : (c' ≡ c) ⊎ SomeLine (λ l. Says l (E.Nothing c')) ls

clocked : {ls : List (List ℕ)} {s s' : Store} → AllRight ls s s' → Clocked ls s.clock s'.clock
clocked none = record { on = omega arith; largest = tt; one = inl refl }
clocked {s = s} {s' = s'} (more {l = l} {ls = ls} {b = s₁} r a) =
    let k = clocked a in
    let x = step_ticks most s r.entry s₁ r.step in
    record {
      on = omega (arith, x.on, k.on);
      largest = (λ t y. omega (arith, x.all t (one_entry r.entry (E.Nothing t) r.says y), k.on), k.largest);
      one = ⊎_elim
          (λ (e : s'.clock ≡ s₁.clock).
          ⊎_elim (λ (f : s₁.clock ≡ s.clock). inl (e ∙ f))
          (λ (f : r.entry ≡ E.Nothing s₁.clock).
          inr (inl (subst (λ (y : Entry). Says l y) (f ∙ ap (λ (t : ℕ). E.Nothing t) (sym e)) r.says)))
          x.by)
          (λ (y : SomeLine (λ l. Says l (E.Nothing s'.clock)) ls). inr (inr y))
          k.one;
    }

pub clock_largest : {ls : List (List ℕ)} {s : Store} → AllRight ls start s → LargestNone ls s.clock
clock_largest a = let k = clocked a in record { largest = k.largest; one = k.one }

-- ---- "Order among equals is free": of all that are pending at the least deadline, at most now, any may be handed out, and the log goes on

pub equals_free : {ls : List (List ℕ)} {s : Store} → AllRight ls start s → {l : List ℕ} {time key : ℕ} → Says l (E.Out time key)
    → (p : Pends key s.pending) → p.deadline ≤ time → Every (λ t. p.deadline ≤ t.deadline) s.pending
    → (s' : Store) × AllRight (ls ++ l ∷ []) start s'
unfolding Step
equals_free {s = s} a {time = time} {key = key} q p h least =
    let s' = store (p.front ++ p.behind) s.clock in
    (s', along_more a (more (record { entry = E.Out time key; says = q; step = (p, h, least, refl) }) none))
