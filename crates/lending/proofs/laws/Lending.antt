-- Two removes of one key in a row: the second is refused, whatever the key was.
use mathlib.Core.Path.{◌≡◌, sym, ◌∙◌, subst}
use mathlib.Core.List.{List}
use Prim.Native.Nat.{ℕ}
use native.Mathlib.Omega.{arith}
use Rattle.wheel.specs.declared.Wheel.{Wheel}
use Rattle.records.specs.Words.{QueueWords, words, AtRest, Sound}
use Rattle.records.proofs.laws.Cases.{by_key}
use Rattle.queue.specs.declared.Answer.{Answer}
use Rattle.queue.specs.Told.{Told, told, gone, yet, no}
use Rattle.delay_queue.specs.declared.Call.TheVariants as C
use Rattle.delay_queue.specs.Claims.{RemoveClaim}
use Rattle.promises.specs.Runs.{rest}
use Rattle.promises.specs.Keys.{removed}
use Rattle.promises.proofs.laws.Views.{call_goes, goes_rest}
use Rattle.promises.proofs.laws.Keys.{left_is_dead}
use Rattle.lending.specs.Lending.{CancelsTwice}

-- a key that was removed is dead (`left_is_dead`), and one that was refused is refused again, since nothing changed
removed_twice : {s t u : QueueWords} {key : ℕ} {a b : Answer} → RemoveClaim s key a t → RemoveClaim t key b u → Sound s → AtRest s → told b ≡ no 6
removed_twice {s} {t} {u} {key} {a} {b} A B S z =
    by_key S key
    (λ r p N.
    let D = ((A.good S).free z).done r p N in
    let still : AtRest t = goes_rest (call_goes (C.Remove key) s a t S A) (λ y. gone_ended D.told y.2) z in
    (((left_is_dead S (C.Remove key) a A (removed D.told) rest tt).remove b u B).free still).told)
    (λ f. ((((subst (λ (v : QueueWords). RemoveClaim v key b u) (((A.good S).free z).dead f).same B).good S).free z).dead f).told)
  where
    gone_ended : {x : Told} {v d m n : ℕ} → x ≡ gone v d → x ≡ yet m n → ⊥
    gone_ended e f = let q = sym e ∙ f in let y : ◌≡◌ {A = ℕ} 0 1 = cc in omega arith

cancels : {s t u : QueueWords} {key : ℕ} {a b : Answer} → RemoveClaim s key a t → RemoveClaim t key b u → CancelsTwice s key b u
cancels {s} {t} {u} {key} {a} {b} A B = record { answer = a; between = t; first = A; second = B; dead = removed_twice A B }

-- between the two calls the heads are taken out of the first reply
module _ {w : Wheel} {hh hh' : List (List ℕ)} {vs ds ns ps ts ms : List ℕ} where
  pub cancels_on : {s u : QueueWords} {key : ℕ} {a b : Answer} → RemoveClaim s key a (words w hh vs ds ns ps ts ms) → hh' ≡ hh
      → RemoveClaim (words w hh' vs ds ns ps ts ms) key b u → CancelsTwice s key b u
  cancels_on {s} {u} {key} {a} {b} A e B = cancels A (subst (λ h. RemoveClaim (words w h vs ds ns ps ts ms) key b u) e B)
