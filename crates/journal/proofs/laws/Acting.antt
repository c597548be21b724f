-- What `act` has done, for the code: a call, an open, a close.
use mathlib.Core.Path.{◌≡◌, subst, sym, ap, ◌∙◌}
use mathlib.Core.Bool.{Bool, true, false, not, cond}
use mathlib.Core.List.{List}
use Prim.Native.Nat.{ℕ}
use Rattle.wheel.specs.declared.Wheel.{Wheel}
use Rattle.queue.specs.declared.Answer.{Answer}
use Rattle.queue.specs.Told.{told}
use Rattle.queue.specs.Told as T
use Rattle.records.specs.Words.{QueueWords, words}
use Rattle.delay_queue.specs.declared.Call.{Call}
use Rattle.delay_queue.specs.Claims.{CallClaim}
use Rattle.entries.specs.declared.Step.{Step}
use Rattle.entries.specs.declared.Step.TheVariants as S
use Rattle.journal.specs.Journal.{Acts, asks, opened, open_twice, closed, not_open, written}

acts_open : (p : Bool) {s : QueueWords} {a : Answer} → told a ≡ cond p (T.no 13) T.ok → Acts p s S.Open a true s
acts_open true e = open_twice e
acts_open false e = opened e

acts_close : (p : Bool) {s : QueueWords} {a : Answer} → told a ≡ cond (not p) (T.no 13) T.ok → Acts p s S.Close a false s
acts_close true e = closed e
acts_close false e = not_open e

pub act_asked : {p : Bool} {s s' : QueueWords} {x : Step} {c : Call} {a : Answer} → x ≡ S.Asks c → CallClaim c s a s' → Acts p s x a p s'
act_asked {p} {s} {s'} {x} {c} {a} e A = subst (λ (y : Step). Acts p s y a p s') (sym e) (asks A)

pub asked_wrote : {x y : Step} (a : Answer) {k : List ℕ} → x ≡ y → k ≡ written y (told a) → k ≡ written x (told a)
asked_wrote a e w = w ∙ ap (λ (z : Step). written z (told a)) (sym e)

-- the heads are handed back as they came
module _ (w : Wheel) {hh hh' : List (List ℕ)} (vs ds ns ps ts ms : List ℕ) (q : hh' ≡ hh) {p : Bool} {x : Step} {a : Answer} where
  back : {y : Step} {p' : Bool} → x ≡ y → Acts p (words w hh vs ds ns ps ts ms) y a p' (words w hh vs ds ns ps ts ms)
      → Acts p (words w hh vs ds ns ps ts ms) x a p' (words w hh' vs ds ns ps ts ms)
  back {y} {p'} e A =
      subst (λ (z : Step). Acts p (words w hh vs ds ns ps ts ms) z a p' (words w hh' vs ds ns ps ts ms)) (sym e)
      (subst (λ (h : List (List ℕ)). Acts p (words w hh vs ds ns ps ts ms) y a p' (words w h vs ds ns ps ts ms)) (sym q) A)

  pub act_opened : x ≡ S.Open → told a ≡ cond p (T.no 13) T.ok → Acts p (words w hh vs ds ns ps ts ms) x a true (words w hh' vs ds ns ps ts ms)
  act_opened e t = back e (acts_open p t)

  pub act_closed : x ≡ S.Close → told a ≡ cond (not p) (T.no 13) T.ok
      → Acts p (words w hh vs ds ns ps ts ms) x a false (words w hh' vs ds ns ps ts ms)
  act_closed e t = back e (acts_close p t)
