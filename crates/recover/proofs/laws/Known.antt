-- Which steps get 1, 2 or 13 is known without the store: from the lengths of its slices, and whether it is sound.
use mathlib.Core.Path.{◌≡◌, refl, sym, ap, subst}
use mathlib.Core.Logic.{◌⊎◌, ◌≢◌, ⊎_elim}
use mathlib.Core.Bool.{Bool, true, false, cond, ◌&&◌, true≢false, false≢true}
use Prim.Native.Nat.{ℕ, ◌^◌}
use native.Mathlib.Omega.{arith}
use borrow.Author.Tests.{ltb-true, ltb-false}
use lib.Dec.{ltb}
use Rattle.std.specs.Prelude.{Option, Some, None, not}
use Rattle.std.specs.Bool.{then_some}
use Rattle.contracts.specs.Tells.{Tells}
use Rattle.queue.specs.declared.Answer.{Answer}
use Rattle.queue.specs.Told.{Told, told}
use Rattle.queue.specs.Told as T
use Rattle.records.specs.Slices.{Slices, Fits}
use Rattle.records.specs.Words.{QueueWords, Sound, slices, PastKept}
use Rattle.records.specs.Format.{InRange}
use Rattle.delay_queue.specs.declared.Call.{Call}
use Rattle.delay_queue.specs.declared.Call.TheVariants as C
use Rattle.delay_queue.specs.Claims.{FormatClaim}
use Rattle.promises.specs.OneCall.{reach}
use Rattle.promises.specs.Runs.{is_format}
use Rattle.promises.specs.Refused.{FirstMet, deadline_lines, RefusedBy}
use Rattle.promises.proofs.laws.Refused.{behind, refused_exactly, unsound_refused}
use Rattle.promises.proofs.laws.OneCall.{past_kept, call_sound}
use Rattle.promises.proofs.laws.Alike.{fits_kept}
use Rattle.entries.specs.declared.Step.{Step}
use Rattle.entries.specs.declared.Step.TheVariants as S
use Rattle.journal.specs.Journal.{Acts, asks, opened, open_twice, closed, not_open, unwritten}
use Rattle.journal.proofs.laws.Once.{Saved, one, two, thirteen, unwritten_no, no_unwritten}
use Rattle.recover.specs.Scan.{enough, short, NumberOf, formats, made, no_store, opens, opens_twice, closes, closes_none, live_after, open_after}

-- ---- which calls get 1, 2 or 13

-- 1, 2 and 13 are none of the other numbers
record Apart (k : ℕ) : Type 0 where
  three : k ≢ 3
  four : k ≢ 4
  six : k ≢ 6
  seven : k ≢ 7
  eight : k ≢ 8
  eleven : k ≢ 11
  twelve : k ≢ 12

apart : {k : ℕ} → Saved k → Apart k
apart one =
    record {
      three = λ e. omega arith;
      four = λ e. omega arith;
      six = λ e. omega arith;
      seven = λ e. omega arith;
      eight = λ e. omega arith;
      eleven = λ e. omega arith;
      twelve = λ e. omega arith;
    }
apart two =
    record {
      three = λ e. omega arith;
      four = λ e. omega arith;
      six = λ e. omega arith;
      seven = λ e. omega arith;
      eight = λ e. omega arith;
      eleven = λ e. omega arith;
      twelve = λ e. omega arith;
    }
apart thirteen =
    record {
      three = λ e. omega arith;
      four = λ e. omega arith;
      six = λ e. omega arith;
      seven = λ e. omega arith;
      eight = λ e. omega arith;
      eleven = λ e. omega arith;
      twelve = λ e. omega arith;
    }

no_deadline : (e w : ℕ) {k : ℕ} → Apart k → FirstMet (deadline_lines e w) k → ⊥
no_deadline e w a f = (behind a.four (behind a.eleven f).1).1

-- what the table says behind its line of 12
not_held : {k : ℕ} {P Q : Type 0} → Saved k → ((k ≡ 12) × P) ⊎ ((P → ⊥) × Q) → Q
not_held S f = (behind (apart S).twelve f).1

-- a call but format: number 2, and the store is not sound
two_alone : (c : Call) (s : QueueWords) {k : ℕ} → is_format c ≡ false → RefusedBy c s k → Saved k → (k ≡ 2) × (Sound s → ⊥)
two_alone (C.Format n turn) s e f S = absurd (true≢false e)
two_alone (C.Insert value when period) s e f S =
    ⊎_elim (λ x. x) (λ y. absurd (no_deadline _ when (apart S) (behind (apart S).three (not_held S y.1)).1)) f
two_alone (C.Reset key when) s e f S =
    ⊎_elim (λ x. x) (λ y. absurd (no_deadline _ when (apart S) (behind (apart S).six (not_held S y.1)).1)) f
two_alone (C.Remove key) s e f S = ⊎_elim (λ x. x) (λ y. absurd (behind (apart S).six (not_held S y.1)).1) f
two_alone (C.Poll now) s e f S = ⊎_elim (λ x. x) (λ y. absurd (behind (apart S).seven (not_held S y.1)).1) f
two_alone (C.PollSome now limit) s e f S = ⊎_elim (λ x. x) (λ y. absurd (behind (apart S).seven (not_held S y.1)).1) f
two_alone C.Wake s e f S = ⊎_elim (λ x. x) (λ y. absurd (not_held S y.1)) f
two_alone C.Length s e f S = ⊎_elim (λ x. x) (λ y. absurd y.1) f
two_alone C.Clear s e f S = ⊎_elim (λ x. x) (λ y. absurd y.1) f

-- a format: number 1, and the slices are too short
one_alone : (n turn : ℕ) (s : QueueWords) {k : ℕ} → RefusedBy (C.Format n turn) s k → Saved k → (k ≡ 1) × (Fits (slices s) n → ⊥)
one_alone n turn s f S = ⊎_elim (λ x. x) (λ y. absurd (behind (apart S).eight y.1).1) f

-- ---- what is known of a store

-- slices with the lengths of l fit as many records as those of t, and b tells whether t is sound
pub record Known (l : Slices) (b : Bool) (t : QueueWords) : Type 0 where
  pub live : Tells (Sound t) b
  pub forth : (n : ℕ) → Fits l n → Fits (slices t) n
  pub back : (n : ℕ) → Fits (slices t) n → Fits l n

-- no step that is not refused with 1, 2 or 13 is unwritten
written_so : {t : Told} → ((n : ℕ) → t ≡ T.no n → Saved n → ⊥) → unwritten t ≡ false
written_so {t} f = by (unwritten t) refl
  where
    by : (b : Bool) → unwritten t ≡ b → unwritten t ≡ false
    by true e = let r = unwritten_no t e in absurd (f r.0 r.1 r.2)
    by false e = e

module _ {l : Slices} {b : Bool} {t : QueueWords} (K : Known l b t) where
  -- a step with no such number is written
  pub number_none : {x : Step} {p p' : Bool} {a : Answer} {t' : QueueWords} → NumberOf l b p x None → Acts p t x a p' t'
      → unwritten (told a) ≡ false
  number_none {a = a} {t'} (formats {n} {turn} (enough f)) (asks A) =
      written_so (λ k q S. (one_alone n turn t ((refused_exactly (C.Format n turn) t a t' A k).1 q) S).1 (K.forth n f))
  number_none {a = a} {t'} (made {c} e h) (asks A) =
      written_so (λ k q S. (two_alone c t e ((refused_exactly c t a t' A k).1 q) S).1 (K.live.yes h))
  number_none (opens h) (opened f) = ap unwritten f
  number_none (opens h) (open_twice f) = absurd (true≢false h)
  number_none (closes h) (closed f) = ap unwritten f
  number_none (closes h) (not_open f) = absurd (false≢true h)

  -- one with such a number gets it, and is not
  pub number_some : {x : Step} {p p' : Bool} {a : Answer} {t' : QueueWords} {r : ℕ} → NumberOf l b p x (Some r) → Acts p t x a p' t'
      → (told a ≡ T.no r) × (unwritten (told a) ≡ true)
  number_some (formats {n} (short f)) (asks A) = let u = (A.short (λ g. f (K.back n g))).told in (u, no_unwritten u one)
  number_some {a = a} {t'} (no_store {c} e h) (asks A) = let u = (unsound_refused c t a t' A e (K.live.no h)).0 in (u, no_unwritten u two)
  number_some (opens_twice h) (opened f) = absurd (false≢true h)
  number_some (opens_twice h) (open_twice f) = (f, no_unwritten f thirteen)
  number_some (closes_none h) (closed f) = absurd (true≢false h)
  number_some (closes_none h) (not_open f) = (f, no_unwritten f thirteen)

-- ---- after a step

told_true : {P : Type 0} → P → Tells P true
told_true x = record { yes = λ e. x; no = λ (e : true ≡ false). absurd (true≢false e) }

live_same : (b : Bool) (c : Call) → is_format c ≡ false → live_after b (S.Asks c) ≡ b
live_same b (C.Format n turn) e = absurd (true≢false e)
live_same b (C.Insert value when period) e = refl
live_same b (C.Reset key when) e = refl
live_same b (C.Remove key) e = refl
live_same b (C.Poll now) e = refl
live_same b (C.PollSome now limit) e = refl
live_same b C.Wake e = refl
live_same b C.Length e = refl
live_same b C.Clear e = refl

module _ {l : Slices} {b : Bool} {t : QueueWords} (K : Known l b t) where
  format_after : (n turn : ℕ) {a : Answer} {t' : QueueWords} → FormatClaim t n turn a t' → Fits (slices t) n
      → Tells (Sound t') (cond (ltb 0 turn && ltb turn (2 ^ 48)) true b)
  format_after n turn {a} {t'} A f = by (ltb 0 turn) (ltb turn (2 ^ 48)) refl refl
    where
      not_so : (InRange turn → ⊥) → Tells (Sound t') b
      not_so g = rw (A.outside f g).same K.live

      by : (x y : Bool) → ltb 0 turn ≡ x → ltb turn (2 ^ 48) ≡ y → Tells (Sound t') (cond (ltb 0 turn && ltb turn (2 ^ 48)) true b)
      by true true p q =
          rw (p, q) (told_true (A.done f (record { some = ltb-true 0 turn p; last = ltb-true turn (2 ^ 48) q })).sound)
      by true false p q = rw (p, q) (not_so (λ r. omega (arith, r.last, ltb-false turn (2 ^ 48) q)))
      by false y p q = rw p (not_so (λ r. omega (arith, r.some, ltb-false 0 turn p)))

  kept_after : (c : Call) {t' : QueueWords} {d : Bool} → PastKept (reach c t) t t' → Tells (Sound t') d → Known l d t'
  kept_after c P L = record { live = L; forth = λ n f. (fits_kept P).0 (K.forth n f); back = λ n f. K.back n ((fits_kept P).1 f) }

  pub known_after : {x : Step} {p p' : Bool} {a : Answer} {t' : QueueWords} → NumberOf l b p x None → Acts p t x a p' t'
      → Known l (live_after b x) t'
  known_after {a = a} {t'} (formats {n} {turn} (enough f)) (asks A) =
      kept_after (C.Format n turn) (past_kept (C.Format n turn) t a t' A) (format_after n turn A (K.forth n f))
  known_after {a = a} {t'} (made {c} e h) (asks A) =
      let S : Tells (Sound t') b = rw h (told_true (call_sound c t a t' A (K.live.yes h))) in
      rw (live_same b c e) (kept_after c (past_kept c t a t' A) S)
  known_after (opens h) (opened f) = K
  known_after (opens h) (open_twice f) = K
  known_after (closes h) (closed f) = K
  known_after (closes h) (not_open f) = K

pub open_after_lem : {x : Step} {p p' : Bool} {s t : QueueWords} {a : Answer} → Acts p s x a p' t → p' ≡ open_after p x
open_after_lem (asks A) = refl
open_after_lem (opened f) = refl
open_after_lem (open_twice f) = refl
open_after_lem (closed f) = refl
open_after_lem (not_open f) = refl

-- ---- for the code

-- a step that is known by another name
pub number_as : {l : Slices} {b p : Bool} {x y : Step} {r : Option ℕ} → x ≡ y → NumberOf l b p y r → NumberOf l b p x r
number_as {l} {b} {p} {r = r} e N = subst (λ (z : Step). NumberOf l b p z r) (sym e) N

pub no_format : (c : Call) → ((n turn : ℕ) → c ≡ C.Format n turn → ⊥) → is_format c ≡ false
no_format (C.Format n turn) f = absurd (f n turn refl)
no_format (C.Insert value when period) f = refl
no_format (C.Reset key when) f = refl
no_format (C.Remove key) f = refl
no_format (C.Poll now) f = refl
no_format (C.PollSome now limit) f = refl
no_format C.Wake f = refl
no_format C.Length f = refl
no_format C.Clear f = refl

pub number_call : {l : Slices} (b : Bool) {p : Bool} {c : Call} {r : Option ℕ} → is_format c ≡ false → r ≡ then_some (not b) 2
    → NumberOf l b p (S.Asks c) r
number_call {l} b {p} {c} {r} e q = subst (λ (k : Option ℕ). NumberOf l b p (S.Asks c) k) (sym q) (by b)
  where
    by : (d : Bool) → NumberOf l d p (S.Asks c) (then_some (not d) 2)
    by true = made e refl
    by false = no_store e refl

pub number_open : {l : Slices} {b : Bool} (p : Bool) {r : Option ℕ} → r ≡ then_some p 13 → NumberOf l b p S.Open r
number_open {l} {b} p {r} q = subst (λ (k : Option ℕ). NumberOf l b p S.Open k) (sym q) (by p)
  where
    by : (d : Bool) → NumberOf l b d S.Open (then_some d 13)
    by true = opens_twice refl
    by false = opens refl

pub number_close : {l : Slices} {b : Bool} (p : Bool) {r : Option ℕ} → r ≡ then_some (not p) 13 → NumberOf l b p S.Close r
number_close {l} {b} p {r} q = subst (λ (k : Option ℕ). NumberOf l b p S.Close k) (sym q) (by p)
  where
    by : (d : Bool) → NumberOf l b d S.Close (then_some (not d) 13)
    by true = closes refl
    by false = closes_none refl
