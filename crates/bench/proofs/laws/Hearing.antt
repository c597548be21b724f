-- What a line asks of the bench: what it says, but by the letter q only where limits are known.
use mathlib.Core.Path.{◌≡◌, refl, subst}
use mathlib.Core.Bool.{Bool}
use mathlib.Core.Logic.{by_cases}
use mathlib.Core.List.{List}
use Prim.Native.Nat.{ℕ}
use Prim.Native.Char.{code}
use native.Mathlib.Omega.{arith}
use Rattle.delay_queue.specs.declared.Call.{Call}
use Rattle.delay_queue.specs.declared.Call.TheVariants as C
use Rattle.std.specs.Prelude.{Option, Some, None}
use Rattle.asking.proofs.laws.Asking.{one_call}
use Rattle.asking.specs.Text.{letter, ReadClaim}
use Rattle.bench.specs.Line.{Asks}
use Rattle.bench.specs.Parts.{Known, Heard, asks, bad}

-- only a poll with a limit has the letter q
q_polls : (c : Call) → letter c ≡ code "q" → (time limit : ℕ) × (c ≡ C.PollSome time limit)
q_polls (C.Format n turn) e = absurd (omega (arith, e))
q_polls (C.Insert v w p) e = absurd (omega (arith, e))
q_polls (C.Reset k w) e = absurd (omega (arith, e))
q_polls (C.Remove k) e = absurd (omega (arith, e))
q_polls (C.Poll n) e = absurd (omega (arith, e))
q_polls (C.PollSome n m) e = (n, m, refl)
q_polls C.Clear e = absurd (omega (arith, e))
q_polls C.Wake e = absurd (omega (arith, e))
q_polls C.Length e = absurd (omega (arith, e))

module _ {limits : Bool} {l : List ℕ} where
  -- what was read stands, where its letter is known
  pub heard : {c : Call} → ReadClaim l (Some c) → Known limits c → Heard limits l (Some c)
  heard {c} R k = asks (record { says = (R.asks c).0 refl; known = k })

  pub heard_none : ReadClaim l None → Heard limits l None
  heard_none R = bad (λ c x. R.bad.0 refl c x.says)

  pub heard_not : {c : Call} → ReadClaim l (Some c) → (Known limits c → ⊥) → Heard limits l None
  heard_not {c} R k = bad (λ d x. let e : d ≡ c = one_call x.says ((R.asks c).0 refl) in k (subst (λ (y : Call). Known limits y) e x.known))

  -- what a caller of `hear` has from it
  pub heard_asks : {r : Option Call} {c : Call} → Heard limits l r → r ≡ Some c → Asks limits l c
  heard_asks {c = c} (asks {c = d} x) e = let h : d ≡ c = cc in subst (λ (k : Call). Asks limits l k) h x
  heard_asks (bad n) e = let z : ◌≡◌ {A = ℕ} 0 1 = cc in absurd (omega arith)

  pub heard_bad : {r : Option Call} → Heard limits l r → r ≡ None → (c : Call) → Asks limits l c → ⊥
  heard_bad (asks x) e = let z : ◌≡◌ {A = ℕ} 0 1 = cc in absurd (omega arith)
  heard_bad (bad n) e = n

-- any line may be taken as heard where the goal can be tested: it asks a call or none
pub as_heard : (limits : Bool) (l : List ℕ) {P : Type 0} → Dec P → ((r : Option Call) → Heard limits l r → P) → P
as_heard limits l d f = by_cases d (λ p. p) (λ k. absurd (k (f None (bad (λ c x. k (f (Some c) (asks x)))))))
