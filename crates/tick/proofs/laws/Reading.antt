-- What the proofs of `read`, `poll` and `poll_some` cite: the test decides which half of the claim of a reading is owed, and its answer which half of a poll's.
use Rattle.std.proofs.Common.{◌≡◌, ℕ, ◌+◌, ◌^◌, Bool, cond, ◌≢◌, sym, refl, ap, ◌∙◌, arith, eq-eqb, ne_eqb}
use mathlib.Core.Logic.{by_cases}
use native.Mathlib.Decide.{dec_lt}
use Rattle.queue.specs.declared.Answer.TheVariants as A
use Rattle.queue.specs.Told.{Told, ok, no}
use Rattle.links.specs.Lists.{nobody}
use Rattle.tick.specs.Claims.{difference_of, sum, Passes, ReadClaim, now_of}

-- a reading is taken or refused
pub by_sum : {P : Type 0} (time tick : ℕ) → ((Passes time tick → ⊥) → P) → (Passes time tick → P) → P
by_sum time tick f g = by_cases (dec_lt (sum time tick) (2 ^ 64)) (λ h. f (λ p. omega arith)) (λ h. g (omega arith))

-- ---- a reading

pub read_past : (time tick : ℕ) → Passes time tick → ReadClaim time tick (A.No 10) time
read_past time tick h = record { past = λ g. (refl, refl); taken = λ g. absurd (g h) }

pub read_taken : (time tick : ℕ) → (Passes time tick → ⊥) → {d : ℕ} → d ≡ difference_of time tick → ReadClaim time tick A.Done (time + d)
read_taken time tick h e = record { past = λ g. absurd (h g); taken = λ g. (refl, ap (λ x. time + x) e) }

-- `ok` is no number
pub ok_no : {x : Told} {n : ℕ} → x ≡ ok → x ≡ no n → ⊥
ok_no {n = n} e f = let q : ok ≡ no n = sym e ∙ f in let z : ◌≡◌ {A = ℕ} 0 1 = cc in omega arith

-- ---- a poll through it

-- with a limit: at the time with no poll in hand, and else at its now
pub now_rest : (time hand until : ℕ) → hand ≡ nobody → now_of time hand until ≡ time
now_rest time hand until e = ap (λ (b : Bool). cond b time until) (eq-eqb hand nobody e)

pub now_mid : (time hand until : ℕ) → hand ≢ nobody → now_of time hand until ≡ until
now_mid time hand until n = ap (λ (b : Bool). cond b time until) (ne_eqb hand nobody n)
