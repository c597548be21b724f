-- The claim of `inspect_line` leaves one outcome, and can be met.
use mathlib.Core.Path.{◌≡◌, refl, sym, ap, ◌∙◌, subst}
use mathlib.Core.Logic.{⊎_elim}
use mathlib.Core.List.{List}
use Prim.Native.Nat.{ℕ}
use lib.ListN.{length}
use Rattle.lines.specs.Running.{none, more}
use Rattle.inspector.specs.declared.State.{State}
use Rattle.inspector.specs.declared.State.TheVariants as S
use Rattle.inspector.specs.Log.{Store}
use Rattle.inspector.specs.Verdict.{Right, Wrong}
use Rattle.inspector.specs.Words.{room_of, store_of, keys_of, deadlines_of, over, counted, LineClaim, InspectClaim, Words, words, Inspected, AllInspected}
use Rattle.inspector.proofs.laws.Met.{right_told, right_once}

abbrev Same : State → List ℕ → List ℕ → State → List ℕ → List ℕ → Type 0
Same t k d u l e = (t ≡ u) × (k ≡ l) × (d ≡ e)

line_once : {n clock m : ℕ} {ks ds l : List ℕ} {t u : State} {k d k' d' : List ℕ} → LineClaim n clock m ks ds l t k d
    → LineClaim n clock m ks ds l u k' d' → Same t k d u k' d'
line_once {n} {clock} {m} {ks} {ds} {l} a b =
    ⊎_elim
    (λ (r : (s : Store) × Right (room_of ks ds) l (store_of n clock ks ds) s).
    let x = a.right r.0 r.1 in
    let y = b.right r.0 r.1 in
    (x.0 ∙ sym y.0, x.1 ∙ sym y.1, x.2 ∙ sym y.2))
    (λ (w : Wrong (room_of ks ds) l (store_of n clock ks ds)).
    let x = a.wrong w in
    let y = b.wrong w in
    (x.0 ∙ sym y.0, x.1 ∙ sym y.1, x.2 ∙ sym y.2))
    (right_told (room_of ks ds) l (store_of n clock ks ds))

-- two outcomes that both keep the claim are the same
pub inspect_once : (t : State) (ks ds l : List ℕ) {a b : State} {k d k' d' : List ℕ} → InspectClaim t ks ds l a k d → InspectClaim t ks ds l b k' d'
    → (a ≡ b) × (k ≡ k') × (d ≡ d')
inspect_once (S.Good n clock m) ks ds l p q = line_once p q
inspect_once (S.Bad m) ks ds l p q = (p.0 ∙ sym q.0, p.1 ∙ sym q.1, p.2 ∙ sym q.2)

-- and so for many lines
pub inspected_once : {ls : List (List ℕ)} {w a b : Words} → AllInspected ls w a → AllInspected ls w b → a ≡ b
inspected_once none none = refl
inspected_once {b = b} (more {l = l} {ls = ls} {a = w} {b = x} i p) (more {b = y} j q) =
    let o = inspect_once w.state w.keys w.deadlines l i j in
    let e : x ≡ y = λ k. words (o.0 k) (o.1 k) (o.2 k) in
    inspected_once p (subst (λ (v : Words). AllInspected ls v b) (sym e) q)

-- there is one
pub inspect_met : (w : Words) (l : List ℕ) → (w' : Words) × Inspected l w w'
inspect_met w l = by w.state
  where
    by : (t : State) → (w' : Words) × InspectClaim t w.keys w.deadlines l w'.state w'.keys w'.deadlines
    by (S.Bad m) = (words (S.Bad m) w.keys w.deadlines, (refl, refl, refl))
    by (S.Good n clock m) =
        let ks = w.keys in
        let ds = w.deadlines in
        ⊎_elim
        (λ (r : (s : Store) × Right (room_of ks ds) l (store_of n clock ks ds) s).
        let p = r.0.pending in
        (words (S.Good (length p) r.0.clock (counted m)) (over (keys_of p) ks) (over (deadlines_of p) ds), went n clock m r.0 r.1))
        (λ (x : Wrong (room_of ks ds) l (store_of n clock ks ds)).
        (words (S.Bad (counted m)) ks ds, record { right = λ s r. absurd (x s r); wrong = λ _. (refl, refl, refl) }))
        (right_told (room_of ks ds) l (store_of n clock ks ds))
      where
        went : (n clock m : ℕ) (s : Store) → Right (room_of w.keys w.deadlines) l (store_of n clock w.keys w.deadlines) s
            → LineClaim n clock m w.keys w.deadlines l (S.Good (length s.pending) s.clock (counted m)) (over (keys_of s.pending) w.keys)
            (over (deadlines_of s.pending) w.deadlines)
        went n clock m s r =
            record {
              right = λ u x.
                  let e : s ≡ u = right_once r x in (
                    ap (λ (v : Store). S.Good (length v.pending) v.clock (counted m)) e,
                    ap (λ (v : Store). over (keys_of v.pending) w.keys) e,
                    ap (λ (v : Store). over (deadlines_of v.pending) w.deadlines) e,
                  );
              wrong = λ x. absurd (x s r);
            }
