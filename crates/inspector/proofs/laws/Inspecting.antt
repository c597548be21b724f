-- One line: from what it says and from what is taken, the claim of `inspect_line`.
use mathlib.Core.Path.{◌≡◌, refl, sym, ap, ap₂, ◌∙◌, subst}
use mathlib.Core.List.{List}
use Prim.Native.Nat.{ℕ, min}
use lib.ListN.{length}
use Rattle.inspector.specs.declared.Entry.{Entry}
use Rattle.std.specs.Prelude.{Option, Some, None}
use Rattle.std.proofs.lemmas.Option.{none-some}
use Rattle.inspector.specs.declared.Pending.{Pending}
use Rattle.inspector.specs.declared.State.{State}
use Rattle.inspector.specs.declared.State.TheVariants as S
use Rattle.inspector.specs.Log.{Store, Step}
use Rattle.inspector.specs.Verdict.{Right}
use Rattle.inspector.specs.Words.{room_of, store_of, counted, LineClaim, InspectClaim}
use Rattle.inspector.specs.Parts.{ReadClaim, TakeClaim, pending}
use Rattle.inspector.proofs.laws.Reading.{same_entry}

-- by what the lines before have come to
pub inspect_good : {t : State} (n clock m : ℕ) {ks ds l ks' ds' : List ℕ} {t' : State} → t ≡ S.Good n clock m
    → LineClaim n clock m ks ds l t' ks' ds' → InspectClaim t ks ds l t' ks' ds'
inspect_good n clock m {ks} {ds} {l} {ks'} {ds'} {t'} e c = subst (λ (t : State). InspectClaim t ks ds l t' ks' ds') (sym e) c

pub inspect_bad : (t : State) (m : ℕ) (ks ds l : List ℕ) → t ≡ S.Bad m → InspectClaim t ks ds l t ks ds
inspect_bad t m ks ds l e = subst (λ (x : State). InspectClaim x ks ds l t ks ds) (sym e) (e, refl, refl)

module _ (n m : ℕ) {clock : ℕ} {ks ds l : List ℕ} {said : Option Entry} {k : ℕ} (R : ReadClaim l said) (c : k ≡ counted m) where
  -- the line says nothing
  pub line_unsaid : said ≡ None → LineClaim n clock m ks ds l (S.Bad k) ks ds
  line_unsaid e =
      record {
        right = λ s r. absurd (R.bad.0 e r.entry r.says);
        wrong = λ _. (ap (λ (x : ℕ). S.Bad x) c, refl, refl);
      }

  module _ (e : Entry) (q : said ≡ Some e) {room j : ℕ} (f : room ≡ room_of ks ds) (g : j ≡ min n room)
      {taken : Option Pending} {ks' ds' : List ℕ} (C : TakeClaim j room clock ks ds e taken ks' ds') where
    taken_here : TakeClaim (min n (room_of ks ds)) (room_of ks ds) clock ks ds e taken ks' ds'
    taken_here =
        subst (λ (x : ℕ). TakeClaim (min n x) x clock ks ds e taken ks' ds') f
        (subst (λ (x : ℕ). TakeClaim x room clock ks ds e taken ks' ds') g C)

    to_step : (s : Store) → Right (room_of ks ds) l (store_of n clock ks ds) s → Step (room_of ks ds) (store_of n clock ks ds) e s
    to_step s r =
        let p : r.entry ≡ e = same_entry (sym ((R.says r.entry).1 r.says) ∙ q) in
        subst (λ (x : Entry). Step (room_of ks ds) (store_of n clock ks ds) x s) p r.step

    to_right : (s : Store) → Step (room_of ks ds) (store_of n clock ks ds) e s → Right (room_of ks ds) l (store_of n clock ks ds) s
    to_right s p = record { entry = e; says = (R.says e).0 q; step = p }

    pub line_on : (p : Pending) → taken ≡ Some p → LineClaim n clock m ks ds l (S.Good p.count p.clock k) ks' ds'
    line_on p t =
        record {
          right = λ s r. let x = taken_here.step s (to_step s r) in (same_state (sym t ∙ x.0) c, x.1, x.2);
          wrong = λ w. absurd (none-some p (sym (taken_here.none (λ s p. w s (to_right s p))).0 ∙ t));
        }
      where
        same_state : {p : Pending} {x y z u v : ℕ} → Some p ≡ Some (pending x z y) → u ≡ v → S.Good p.count p.clock u ≡ S.Good x y v
        same_state {p} {x} {y} {z} q e =
            let o : p ≡ pending x z y = cc in
            ap₂ (λ (h : Pending) (w : ℕ). S.Good h.count h.clock w) o e

    pub line_off : taken ≡ None → LineClaim n clock m ks ds l (S.Bad k) ks' ds'
    line_off t =
        record {
          right = λ s r. absurd (none-some (pending (length s.pending) (room_of ks ds) s.clock) (sym t ∙ (taken_here.step s (to_step s r)).0));
          wrong = λ w. let x = taken_here.none (λ s p. w s (to_right s p)) in (ap (λ (x : ℕ). S.Bad x) c, x.1, x.2);
        }
