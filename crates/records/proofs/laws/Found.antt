-- A deadline by its number, a key by its record: the laws that the proofs of `ahead_no`, `deadline_no` and `find` cite.
use mathlib.Core.Path.{◌≡◌, refl, sym, ap, ◌∙◌, subst}
use mathlib.Core.Logic.{◌≢◌}
use mathlib.Core.Bool.{Bool, true, false, not}
use mathlib.Core.List.{List}
use Prim.Native.Nat.{ℕ, ◌-◌, ◌≤◌, ◌<◌}
use native.Mathlib.Omega.{arith}
use lib.Dec.{ltb}
use borrow.Author.Tests.{ltb-true, ltb-false}
use Rattle.times.specs.Times.{max_duration}
use Rattle.links.specs.Links.{at}
use Rattle.places.specs.Places.{free}
use Rattle.places.proofs.laws.Asked.{not_below, is_below}
use Rattle.places.proofs.laws.Whole as place_laws
use Rattle.std.specs.Prelude.{Option, Some, None}
use Rattle.records.specs.Records.{turn_in, number_in, Names, TooOld}
use Rattle.records.specs.Words.{QueueWords, count, mark_of, view, Sound}
use Rattle.records.specs.Found.{AheadNo, DeadlineNo, KeyIs, FindIs}

-- ---- refusals 4 and 11

module _ (e w : ℕ) where
  pub no_far : true ≡ ltb max_duration (w - e) → AheadNo e w 4
  no_far t =
      let f : max_duration < w - e = ltb-true max_duration (w - e) (sym t) in
      record { far = λ g. refl; near = λ n. absurd (omega (arith, f, n (omega (arith, f)))); taken = λ z. absurd (omega arith) }

  pub no_near : false ≡ ltb max_duration (w - e) → AheadNo e w 0
  no_near f =
      let n : w - e ≤ max_duration = ltb-false max_duration (w - e) (sym f) in
      record { far = λ g. absurd (omega (arith, n, g.1)); near = λ g. refl; taken = λ z g. n }

  pub no_old : TooOld e w → DeadlineNo e w 11
  no_old h = record {
    old = λ f. refl;
    far = λ f. absurd (omega (arith, h, f));
    near = λ t. absurd (t.recent h);
    taken = λ z. absurd (omega arith);
  }

  pub no_recent : {n : ℕ} → (TooOld e w → ⊥) → AheadNo e w n → DeadlineNo e w n
  no_recent h A = record {
    old = λ f. absurd (h f);
    far = A.far;
    near = λ t. A.near t.near;
    taken = λ z. record { recent = h; near = A.taken z };
  }

-- ---- a key

module _ {s : QueueWords} (S : Sound s) (key : ℕ) where
  -- and by the view
  pub key_names : {i : ℕ} → KeyIs (count s) s.turns s.wheel.places.links.marks key i → Names (view s) key i (mark_of s i)
  key_names {i} K =
      record {
        number = K.number;
        below = K.below;
        pending = record {
          timed = K.pending;
          member = place_laws.marked_member S.standing.whole.places i K.below
              (omega (arith, K.pending));
        };
        turn = K.turn;
      }

  pub names_key : {i p : ℕ} → Names (view s) key i p → KeyIs (count s) s.turns s.wheel.places.links.marks key i
  names_key {i} {p} N =
      record {
        number = N.number;
        below = N.below;
        pending = omega (arith, place_laws.member_mark S.standing.whole.places p i N.pending.member, N.pending.timed);
        turn = N.turn;
      }

module _ {n : ℕ} {ts ms : List ℕ} {key : ℕ} where
  module _ {i : ℕ} (e : i ≡ number_in key) where
    pub find_mark : {b : Bool} → b ≡ ltb (at ms i) free → not b ≡ true → (j : ℕ) → KeyIs n ts ms key j → ⊥
    find_mark f h j K =
        let m : free ≤ at ms i = not_below f h in
        omega (arith, K.pending, ap (at ms) (K.number ∙ sym e))

    pub find_turn : {c : ℕ} → c ≡ turn_in key → at ts i ≢ c → (j : ℕ) → KeyIs n ts ms key j → ⊥
    find_turn f h j K = h (ap (at ts) (e ∙ sym K.number) ∙ K.turn ∙ sym f)

    pub found : {b : Bool} {c : ℕ} → i < n → b ≡ ltb (at ms i) free → not b ≡ false → c ≡ turn_in key → at ts i ≡ c → KeyIs n ts ms key i
    found l f h g k = record { number = e; below = l; pending = is_below f h; turn = k ∙ g }

  -- by the answer's case, found among m, which is n
  pub find_at : {m : ℕ} {r : Option ℕ} → m ≡ n → FindIs m ts ms key r → (i : ℕ) → r ≡ Some i → KeyIs n ts ms key i
  find_at {m} q G i e = subst (λ k. KeyIs k ts ms key i) q (subst (FindIs m ts ms key) e G)

  pub find_nowhere : {m : ℕ} {r : Option ℕ} → m ≡ n → FindIs m ts ms key r → r ≡ None → (i : ℕ) → KeyIs n ts ms key i → ⊥
  find_nowhere {m} q G e = subst (λ k. (i : ℕ) → KeyIs k ts ms key i → ⊥) q (subst (FindIs m ts ms key) e G)
