-- What the lines of a log come to: `Good` exactly if all of them are right, `Bad n` exactly if n is the number of the first that is not.
use mathlib.Core.Path.{◌≡◌, refl, sym, ap, ap₂, ◌∙◌, subst}
use mathlib.Core.Logic.{◌⊎◌, inl, inr, ⊎_elim}
use mathlib.Core.List.{List, [], ◌∷◌, ◌++◌, nil≢cons, head-eq_of_cons-eq, tail-eq_of_cons-eq}
use Prim.Native.Nat.{ℕ, zero, suc, ◌+◌, ◌^◌, ◌≤◌, ◌<◌, min, max}
use native.Mathlib.Omega.{arith}
use lib.ListN.{length, take, drop, length-append, length-drop, length-map}
use lib.Seq.{take_at}
use Rattle.lines.specs.Running.{none, more}
use Rattle.inspector.specs.declared.Entry.{Entry}
use Rattle.inspector.specs.declared.Entry.TheVariants as E
use Rattle.inspector.specs.declared.State.{State}
use Rattle.inspector.specs.declared.State.TheVariants as S
use Rattle.inspector.specs.Log.{Timer, timer, Store, store, start, Step}
use Rattle.inspector.specs.Verdict.{Right, Wrong, most, AllRight, FirstBad, VerdictClaim, NoneBad}
use Rattle.inspector.specs.Words.{timers, keys_of, deadlines_of, room_of, store_of, counted, LineClaim, InspectClaim}
use Rattle.inspector.specs.Words.{Words, words, Inspected, AllInspected}
use Rattle.inspector.proofs.laws.Met.{right_told, right_once}

-- ---- no more than 1,024 are pending

pub step_few : (m : ℕ) (s : Store) (e : Entry) (s' : Store) → length s.pending ≤ m → Step m s e s' → length s'.pending ≤ m
unfolding Step
step_few m s (E.Insert key when) s' h p =
    omega (arith, p.1, ap (λ (u : Store). length u.pending) p.2, length-append s.pending (timer key (max when s.clock) ∷ []))
step_few m s (E.Reset key when) s' h p =
    let q = p.0 in
    omega (
      arith,
      ap (λ (u : Store). length u.pending) p.1,
      ap (λ (l : List Timer). length l) q.is,
      length-append q.front (timer key (max when s.clock) ∷ q.behind),
      length-append q.front (timer key q.deadline ∷ q.behind),
    )
step_few m s (E.Remove key) s' h p =
    let q = p.0 in
    omega (
      arith,
      ap (λ (u : Store). length u.pending) p.1,
      ap (λ (l : List Timer). length l) q.is,
      length-append q.front q.behind,
      length-append q.front (timer key q.deadline ∷ q.behind),
    )
step_few m s (E.Out time key) s' h p =
    let q = p.0 in
    omega (
      arith,
      ap (λ (u : Store). length u.pending) p.3,
      ap (λ (l : List Timer). length l) q.is,
      length-append q.front q.behind,
      length-append q.front (timer key q.deadline ∷ q.behind),
    )
step_few m s (E.Nothing time) s' h p = omega (arith, ap (λ (u : Store). length u.pending) p.1)

-- ---- what the words hold, after m lines

pub record Holds (w : Words) (m : ℕ) (s : Store) : Type 0 where
  pub state : w.state ≡ S.Good (length s.pending) s.clock m
  pub few : length s.pending ≤ most
  pub keys : take (length s.pending) w.keys ≡ keys_of s.pending
  pub deadlines : take (length s.pending) w.deadlines ≡ deadlines_of s.pending
  pub key_room : most ≤ length w.keys
  pub deadline_room : most ≤ length w.deadlines

timers_of : (p : List Timer) → timers (keys_of p) (deadlines_of p) ≡ p
timers_of [] = refl
timers_of (t ∷ p) = ap (λ (q : List Timer). t ∷ q) (timers_of p)

module _ {w : Words} {m : ℕ} {s : Store} (H : Holds w m s) where
  room_is : room_of w.keys w.deadlines ≡ most
  room_is = omega (arith, H.key_room, H.deadline_room)

  store_is : store_of (length s.pending) s.clock w.keys w.deadlines ≡ s
  store_is =
      let n = length s.pending in
      let e : min n (room_of w.keys w.deadlines) ≡ n = omega (arith, H.key_room, H.deadline_room, H.few) in
      ap (λ (k : ℕ). store (timers (take k w.keys) (take k w.deadlines)) s.clock) e
      ∙ ap₂ (λ (a b : List ℕ). store (timers a b) s.clock) H.keys H.deadlines
      ∙ ap (λ (p : List Timer). store p s.clock) (timers_of s.pending)

  module _ (l : List ℕ) (w₁ : Words) (I : Inspected l w w₁) where
    line_claim : LineClaim (length s.pending) s.clock m w.keys w.deadlines l w₁.state w₁.keys w₁.deadlines
    line_claim = subst (λ (t : State). InspectClaim t w.keys w.deadlines l w₁.state w₁.keys w₁.deadlines) H.state I

    there : {s' : Store} → Right most l s s'
        → Right (room_of w.keys w.deadlines) l (store_of (length s.pending) s.clock w.keys w.deadlines) s'
    there {s'} r = subst (λ (k : ℕ). Right k l (store_of (length s.pending) s.clock w.keys w.deadlines) s') (sym room_is)
        (subst (λ (u : Store). Right most l u s') (sym store_is) r)

    back : {s' : Store} → Right (room_of w.keys w.deadlines) l (store_of (length s.pending) s.clock w.keys w.deadlines) s'
        → Right most l s s'
    back {s'} r = subst (λ (u : Store). Right most l u s') store_is
        (subst (λ (k : ℕ). Right k l (store_of (length s.pending) s.clock w.keys w.deadlines) s') room_is r)

    holds_right : {s' : Store} → Right most l s s' → Holds w₁ (counted m) s'
    holds_right {s'} r =
        let x = line_claim.right s' (there r) in
        let few : length s'.pending ≤ most = step_few most s r.entry s' H.few r.step in
        let lk : length (keys_of s'.pending) ≡ length s'.pending = length-map s'.pending (λ (t : Timer). t.key) in
        let ld : length (deadlines_of s'.pending) ≡ length s'.pending = length-map s'.pending (λ (t : Timer). t.deadline) in
        record {
          state = x.0;
          few = few;
          keys = ap (λ (k : List ℕ). take (length s'.pending) k) x.1
              ∙ take_at (keys_of s'.pending) (drop (length (keys_of s'.pending)) w.keys) (length s'.pending) lk;
          deadlines = ap (λ (k : List ℕ). take (length s'.pending) k) x.2
              ∙ take_at (deadlines_of s'.pending) (drop (length (deadlines_of s'.pending)) w.deadlines) (length s'.pending) ld;
          key_room = omega (
            arith,
            H.key_room,
            lk,
            ap (λ (k : List ℕ). length k) x.1,
            length-append (keys_of s'.pending) (drop (length (keys_of s'.pending)) w.keys),
            length-drop (length (keys_of s'.pending)) w.keys,
          );
          deadline_room = omega (
            arith,
            H.deadline_room,
            ld,
            ap (λ (k : List ℕ). length k) x.2,
            length-append (deadlines_of s'.pending) (drop (length (deadlines_of s'.pending)) w.deadlines),
            length-drop (length (deadlines_of s'.pending)) w.deadlines,
          );
        }

    holds_wrong : Wrong most l s → w₁.state ≡ S.Bad (counted m)
    holds_wrong x = (line_claim.wrong (λ s' r. x s' (back r))).0

-- once a line was bad
bad_stays : {ls : List (List ℕ)} {w w' : Words} (n : ℕ) → AllInspected ls w w' → w.state ≡ S.Bad n → w'.state ≡ S.Bad n
bad_stays n none e = e
bad_stays n (more {l = l} {a = w} {b = w₁} i r) e =
    bad_stays n r (subst (λ (t : State). InspectClaim t w.keys w.deadlines l w₁.state w₁.keys w₁.deadlines) e i).0

-- ---- the lines, one after the other

pub record BadFrom (ls : List (List ℕ)) (s : Store) (k : ℕ) : Type 0 where
  pub front : List (List ℕ)
  pub line : List ℕ
  pub behind : List (List ℕ)
  pub log : ls ≡ front ++ line ∷ behind
  pub number : k ≡ length front
  pub left : Store
  pub right : AllRight front s left
  pub wrong : Wrong most line left

-- lines that were counted, one after the other
times : ℕ → ℕ → ℕ
times zero m = m
times (suc j) m = times j (counted m)

times_is : (j m : ℕ) → m + j < 2 ^ 64 → times j m ≡ m + j
unfolding times
times_is zero m h = omega arith
times_is (suc j) m h =
    let c : counted m ≡ m + 1 = omega arith in
    ap (λ (k : ℕ). times j k) c ∙ times_is j (m + 1) (omega arith) ∙ omega arith

-- all are right, or one is the first that is not
abbrev Outcome : List (List ℕ) → Store → ℕ → State → Type 0
Outcome ls s m t =
    ((s' : Store) × AllRight ls s s' × (t ≡ S.Good (length s'.pending) s'.clock (times (length ls) m)))
    ⊎ ((k : ℕ) × BadFrom ls s k × (t ≡ S.Bad (times (suc k) m)))

outcome : {ls : List (List ℕ)} {w w' : Words} {m : ℕ} {s : Store} → AllInspected ls w w' → Holds w m s → Outcome ls s m w'.state
unfolding times
outcome {s = s} none H = inl (s, none, H.state)
outcome {m = m} {s = s} (more {l = l} {ls = ls} {b = w₁} {c = w'} i r) H =
    ⊎_elim (λ (x : (s₁ : Store) × Right most l s s₁). on x.0 x.1 (outcome r (holds_right H l w₁ i x.1)))
    (λ (x : Wrong most l s).
    inr (
      0,
      record { front = []; line = l; behind = ls; log = refl; number = refl; left = s; right = none; wrong = x },
      bad_stays (counted m) r (holds_wrong H l w₁ i x),
    ))
    (right_told most l s)
  where
    on : (s₁ : Store) → Right most l s s₁ → Outcome ls s₁ (counted m) w'.state → Outcome (l ∷ ls) s m w'.state
    on s₁ x (inl y) = inl (y.0, more x y.1, y.2)
    on s₁ x (inr y) =
        let b = y.1 in
        inr (
          suc y.0,
          record {
            front = l ∷ b.front;
            line = b.line;
            behind = b.behind;
            log = ap (λ (k : List (List ℕ)). l ∷ k) b.log;
            number = ap (λ (k : ℕ). suc k) b.number;
            left = b.left;
            right = more x b.right;
            wrong = b.wrong;
          },
          y.2,
        )

-- ---- and there is one outcome

-- of a log that is right no line is wrong
right_through : {ls front : List (List ℕ)} {s a b : Store} (line : List ℕ) (behind : List (List ℕ)) → AllRight ls s a → AllRight front s b
    → ls ≡ front ++ line ∷ behind → Wrong most line b → ⊥
right_through line behind none none e w = nil≢cons e
right_through line behind none (more z q) e w = nil≢cons e
right_through {s = s} line behind (more {b = s₁} x p) none e w = w s₁ (subst (λ (l : List ℕ). Right most l s s₁) (head-eq_of_cons-eq e) x)
right_through {s = s} {b = b} line behind (more {b = s₁} x p) (more {l = y} {ls = front} z q) e w =
    let r : Right most y s s₁ = subst (λ (l : List ℕ). Right most l s s₁) (head-eq_of_cons-eq e) x in
    right_through line behind p (subst (λ (v : Store). AllRight front v b) (sym (right_once r z)) q) (tail-eq_of_cons-eq e) w

-- and a log has one first bad line
first_once : {c d : List (List ℕ)} {s a b : Store} (l m : List ℕ) (x y : List (List ℕ)) → AllRight c s a → AllRight d s b
    → c ++ l ∷ x ≡ d ++ m ∷ y → Wrong most l a → Wrong most m b → length c ≡ length d
first_once l m x y none none e f g = refl
first_once {s = s} l m x y none (more {b = s₁} z q) e f g =
    absurd (f s₁ (subst (λ (k : List ℕ). Right most k s s₁) (sym (head-eq_of_cons-eq e)) z))
first_once {s = s} l m x y (more {b = s₁} z p) none e f g = absurd (g s₁ (subst (λ (k : List ℕ). Right most k s s₁) (head-eq_of_cons-eq e) z))
first_once {s = s} {b = b} l m x y (more {b = s₁} z p) (more {l = k} {ls = d} u q) e f g =
    let r : Right most k s s₁ = subst (λ (k : List ℕ). Right most k s s₁) (head-eq_of_cons-eq e) z in
    ap (λ (n : ℕ). suc n)
    (first_once l m x y p (subst (λ (v : Store). AllRight d v b) (sym (right_once r u)) q) (tail-eq_of_cons-eq e) f g)

-- right lines leave one store
all_once : {ls : List (List ℕ)} {s a b : Store} → AllRight ls s a → AllRight ls s b → a ≡ b
all_once none none = refl
all_once {b = b} (more {ls = ls} x p) (more y q) = all_once p (subst (λ (v : Store). AllRight ls v b) (sym (right_once x y)) q)

-- ---- what is said of a log

fresh_holds : (ks ds : List ℕ) → most ≤ length ks → most ≤ length ds → Holds (words (S.Good 0 0 0) ks ds) 0 start
fresh_holds ks ds h k = record { state = refl; few = omega arith; keys = refl; deadlines = refl; key_room = h; deadline_room = k }

stands_bad : (t : State) (n : ℕ) → t ≡ S.Bad n → NoneBad t → ⊥
stands_bad (S.Good a c m) n e u = let z : ◌≡◌ {A = ℕ} 0 1 = cc in omega arith
stands_bad (S.Bad m) n e u = u

same_number : {m n : ℕ} → S.Bad m ≡ S.Bad n → m ≡ n
same_number e = cc

-- Every line of a log was inspected, from `fresh` on, with words for 1,024: what came of it is what is to be said of the log.
pub accepts_exactly : (ls : List (List ℕ)) (ks ds : List ℕ) (w : Words) → most ≤ length ks → most ≤ length ds
    → AllInspected ls (words (S.Good 0 0 0) ks ds) w → VerdictClaim ls w.state
accepts_exactly ls ks ds w h k I = by (outcome I (fresh_holds ks ds h k))
  where
    by : Outcome ls start 0 w.state → VerdictClaim ls w.state
    by (inl x) =
        let stands : NoneBad w.state = subst (λ (t : State). NoneBad t) (sym x.2) tt in
        record {
          ok = (λ _. record { left = x.0; right = x.1 }, λ _. stands);
          bad = λ f n. (
            λ e. absurd (stands_bad w.state n e stands),
            λ b. absurd (right_through b.line b.behind x.1 b.right b.log b.wrong),
          );
        }
    by (inr x) = record {
      ok = (
        λ u. absurd (stands_bad w.state (times (suc x.0) 0) x.2 u),
        λ a. absurd (right_through x.1.line x.1.behind a.right x.1.right x.1.log x.1.wrong),
      );
      bad = λ f n. (told f n, tells f n);
    }
      where
        -- its number is counted
        number : length ls < 2 ^ 64 → times (suc x.0) 0 ≡ length x.1.front + 1
        number f =
            let e = ap (λ (l : List (List ℕ)). length l) x.1.log in
            let g = length-append x.1.front (x.1.line ∷ x.1.behind) in
            times_is (suc x.0) 0 (omega (arith, e, g, x.1.number)) ∙ omega (arith, x.1.number)

        told : length ls < 2 ^ 64 → (n : ℕ) → w.state ≡ S.Bad n → FirstBad ls n
        told f n e = record {
          front = x.1.front;
          line = x.1.line;
          behind = x.1.behind;
          log = x.1.log;
          number = same_number (sym e ∙ x.2) ∙ number f;
          left = x.1.left;
          right = x.1.right;
          wrong = x.1.wrong;
        }

        tells : length ls < 2 ^ 64 → (n : ℕ) → FirstBad ls n → w.state ≡ S.Bad n
        tells f n y =
            let q =
            first_once x.1.line y.line x.1.behind y.behind x.1.right y.right (sym x.1.log ∙ y.log) x.1.wrong y.wrong
            in
            x.2 ∙ ap (λ (j : ℕ). S.Bad j) (number f ∙ ap (λ (j : ℕ). j + 1) q ∙ sym y.number)

-- A log leaves one answer, with its count of lines, its clock and how many are pending, whatever the words held before the first line.
pub one_inspection : (ls : List (List ℕ)) (ks ds ks' ds' : List ℕ) (w v : Words) → most ≤ length ks → most ≤ length ds → most ≤ length ks' → most ≤ length ds'
    → AllInspected ls (words (S.Good 0 0 0) ks ds) w → AllInspected ls (words (S.Good 0 0 0) ks' ds') v
    → w.state ≡ v.state
one_inspection ls ks ds ks' ds' w v h k i j I J = by (outcome I (fresh_holds ks ds h k)) (outcome J (fresh_holds ks' ds' i j))
  where
    by : Outcome ls start 0 w.state → Outcome ls start 0 v.state → w.state ≡ v.state
    by (inl x) (inl y) =
        x.2 ∙ ap (λ (s : Store). S.Good (length s.pending) s.clock (times (length ls) 0)) (all_once x.1 y.1) ∙ sym y.2
    by (inl x) (inr y) = absurd (right_through y.1.line y.1.behind x.1 y.1.right y.1.log y.1.wrong)
    by (inr x) (inl y) = absurd (right_through x.1.line x.1.behind y.1 x.1.right x.1.log x.1.wrong)
    by (inr x) (inr y) =
        let a = x.1 in
        let b = y.1 in
        let q = first_once a.line b.line a.behind b.behind a.right b.right (sym a.log ∙ b.log) a.wrong b.wrong in
        x.2 ∙ ap (λ (n : ℕ). S.Bad (times (suc n) 0)) (a.number ∙ q ∙ sym b.number) ∙ sym y.2
