-- What each entry makes of the words: the timers that are pending are keys and deadlines, place by place.
use mathlib.Core.Path.{◌≡◌, refl, sym, ap, ap₂, ◌∙◌, subst}
use mathlib.Core.List.{List, [], ◌∷◌, ◌++◌, append_assoc}
use Prim.Native.Nat.{ℕ, zero, suc, ◌+◌, ◌-◌, ◌≤◌, ◌<◌, max}
use native.Mathlib.Numerals.{add-one}
use native.Mathlib.Omega.{arith}
use lib.ListN.{length, take, drop, get_or, set, length-append, length-take, length-drop, length-set, take-append-drop}
use lib.Seq.{split_at, set_split, set-append_left, get_or-take, take-take, length-take-le, paste, take-nil}
use Rattle.inspector.specs.declared.Entry.{Entry}
use Rattle.inspector.specs.declared.Entry.TheVariants as E
use Rattle.std.specs.Prelude.{Option, Some, None, is_some}
use mathlib.Core.Bool.{true, false, false≢true}
use Rattle.inspector.specs.declared.Pending.{Pending}
use Rattle.inspector.specs.Log.{Timer, timer, Store, store, Every, Free, Pends, Step}
use Rattle.inspector.specs.Words.{timers, held, keys_of, deadlines_of, over}
use Rattle.inspector.specs.Parts.{PlaceOf, NoneDue, NoneBefore, Placed, Within, TakeClaim, pending}
use Rattle.inspector.proofs.laws.Steps.{step_once, pends_once, free_pends}

-- ---- timers of keys and deadlines

timers_append : (a b c d : List ℕ) → length a ≡ length c → timers (a ++ b) (c ++ d) ≡ timers a c ++ timers b d
timers_append [] b [] d e = refl
timers_append [] b (y ∷ c) d e = absurd (omega arith)
timers_append (x ∷ a) b [] d e = absurd (omega arith)
timers_append (x ∷ a) b (y ∷ c) d e = ap (λ (l : List Timer). timer x y ∷ l) (timers_append a b c d (omega arith))

pub timers_length : (a c : List ℕ) → length a ≡ length c → length (timers a c) ≡ length a
timers_length [] c e = refl
timers_length (x ∷ a) [] e = absurd (omega arith)
timers_length (x ∷ a) (y ∷ c) e = ap (λ (n : ℕ). suc n) (timers_length a c (omega arith))

pub timers_keys : (a c : List ℕ) → length a ≡ length c → keys_of (timers a c) ≡ a
timers_keys [] c e = refl
timers_keys (x ∷ a) [] e = absurd (omega arith)
timers_keys (x ∷ a) (y ∷ c) e = ap (λ (l : List ℕ). x ∷ l) (timers_keys a c (omega arith))

pub timers_deadlines : (a c : List ℕ) → length a ≡ length c → deadlines_of (timers a c) ≡ c
timers_deadlines [] [] e = refl
timers_deadlines [] (y ∷ c) e = absurd (omega arith)
timers_deadlines (x ∷ a) [] e = absurd (omega arith)
timers_deadlines (x ∷ a) (y ∷ c) e = ap (λ (l : List ℕ). y ∷ l) (timers_deadlines a c (omega arith))

-- what holds of every place holds of every timer, and the other way
every_in : (P : Timer → Type 0) (a c : List ℕ) → length a ≡ length c
    → ((i : ℕ) → i < length a → P (timer (get_or a i 0) (get_or c i 0))) → Every P (timers a c)
every_in P [] c e f = tt
every_in P (x ∷ a) [] e f = absurd (omega arith)
every_in P (x ∷ a) (y ∷ c) e f = (f 0 (omega arith), every_in P a c (omega arith) (λ i h. f (suc i) (omega arith)))

every_out : (P : Timer → Type 0) (a c : List ℕ) → length a ≡ length c → Every P (timers a c)
    → (i : ℕ) → i < length a → P (timer (get_or a i 0) (get_or c i 0))
every_out P [] c e f i h = absurd (omega arith)
every_out P (x ∷ a) [] e f i h = absurd (omega arith)
every_out P (x ∷ a) (y ∷ c) e f zero h = f.0
every_out P (x ∷ a) (y ∷ c) e f (suc i) h = every_out P a c (omega arith) f.1 i (omega arith)

-- ---- an outcome

module _ {n room clock : ℕ} {ks ds : List ℕ} {e : Entry} where
  -- there is no step
  pub stayed : ((s : Store) → Step room (held n clock ks ds) e s → ⊥) → TakeClaim n room clock ks ds e None ks ds
  stayed f = record { step = λ s p. absurd (f s p); none = λ _. (refl, refl, refl) }

  -- there is one, after which the keys a and the deadlines b are pending
  went : (a b : List ℕ) {k c : ℕ} {ks' ds' : List ℕ} → length a ≡ length b → k ≡ length a → Step room (held n clock ks ds) e (store (timers a b) c)
      → ks' ≡ over a ks → ds' ≡ over b ds → TakeClaim n room clock ks ds e (Some (pending k room c)) ks' ds'
  went a b {k} {c} {ks'} {ds'} l z p q r =
      record {
        step = λ s x.
            let o : store (timers a b) c ≡ s = step_once room (held n clock ks ds) e p x in (
              ap (λ (k : ℕ). Some (pending k room c)) (z ∙ sym (timers_length a b l)) ∙ ap (λ (s : Store). Some (pending (length s.pending) room s.clock)) o,
              q ∙ ap (λ (k : List ℕ). over k ks) (sym (timers_keys a b l)) ∙ ap (λ (s : Store). over (keys_of s.pending) ks) o,
              r ∙ ap (λ (k : List ℕ). over k ds) (sym (timers_deadlines a b l)) ∙ ap (λ (s : Store). over (deadlines_of s.pending) ds) o,
            );
        none = λ f. absurd (f (store (timers a b) c) p);
      }

-- ---- the place of a key, as `is_some` tells of it

pub is_placed : {ks : List ℕ} {n key : ℕ} (o : Option ℕ) → Placed ks n key o → true ≡ is_some o → (r : ℕ) × (r < n) × PlaceOf ks n key r
is_placed (Some r) p e = (r, p.0, p.1)
is_placed None p e = absurd (false≢true (sym e))

pub is_free : {ks : List ℕ} {n key : ℕ} (o : Option ℕ) → Placed ks n key o → false ≡ is_some o → PlaceOf ks n key n
is_free (Some r) p e = absurd (false≢true e)
is_free None p e = p

-- the entry is this one
pub entry_is : {n room clock : ℕ} {ks ds : List ℕ} {e f : Entry} {r : Option Pending} {ks' ds' : List ℕ} → e ≡ f
    → TakeClaim n room clock ks ds f r ks' ds' → TakeClaim n room clock ks ds e r ks' ds'
entry_is {n} {room} {clock} {ks} {ds} {r = r} {ks' = ks'} {ds' = ds'} q c =
    subst (λ (e : Entry). TakeClaim n room clock ks ds e r ks' ds') (sym q) c

drop_take : (i n : ℕ) (l : List ℕ) → drop i (take n l) ≡ take (n - i) (drop i l)
drop_take zero n l = let e : n ≡ n - 0 = omega arith in ap (λ (k : ℕ). take k l) e
drop_take (suc i) zero l = let e : ◌≡◌ {A = ℕ} 0 (0 - suc i) = omega arith in ap (λ (k : ℕ). take k (drop (suc i) l)) e
drop_take (suc i) (suc n) [] = sym (take-nil (suc n - suc i))
drop_take (suc i) (suc n) (x ∷ l) =
    let e : n - i ≡ suc n - suc i = omega arith in
    drop_take i n l ∙ ap (λ (k : ℕ). take k (drop i l)) e

-- ---- what the stores leave

-- behind the first n
put_end : (l : List ℕ) (n x : ℕ) → n < length l → set l n x ≡ over (take n l ++ x ∷ []) l
put_end l n x h =
    let e : suc n ≡ length (take n l ++ x ∷ []) = omega (arith, length-append (take n l) (x ∷ []), length-take-le n l (omega arith)) in
    set_split l n x h
    ∙ ap (λ (k : ℕ). take n l ++ x ∷ drop k l) e
    ∙ sym (append_assoc (take n l) (x ∷ []) (drop (length (take n l ++ x ∷ [])) l))

-- at a place among them
put_in : (l : List ℕ) (n r x : ℕ) → r < n → n ≤ length l → set l r x ≡ over (take r (take n l) ++ x ∷ drop (suc r) (take n l)) l
put_in l n r x h k =
    let f = length-take-le n l k in
    let g : take r (take n l) ++ x ∷ drop (suc r) (take n l) ≡ set (take n l) r x = sym (set_split (take n l) r x (omega arith)) in
    let e : n ≡ length (set (take n l) r x) = sym (length-set (take n l) r x ∙ f) in
    ap (λ (t : List ℕ). set t r x) (sym (take-append-drop n l))
    ∙ set-append_left (take n l) (drop n l) r x (omega arith)
    ∙ ap (λ (j : ℕ). set (take n l) r x ++ drop j l) e
    ∙ ap (λ (t : List ℕ). over t l) (sym g)

-- without that place
put_out : (l : List ℕ) (n r : ℕ) → r < n → n ≤ length l
    → paste l r (drop (r + 1) l) (n - 1 - r) ≡ over (take r (take n l) ++ drop (suc r) (take n l)) l
put_out l n r h k =
    let a = take r (take n l) in
    let b = drop (suc r) (take n l) in
    let p : take r l ≡ a = sym (take-take r n l (omega arith)) in
    let j : n - 1 - r ≡ n - suc r = omega arith in
    let q : take (n - 1 - r) (drop (r + 1) l) ≡ b =
    ap₂ (λ (x y : ℕ). take x (drop y l)) j (add-one r) ∙ sym (drop_take (suc r) n l)
    in
    let f = length-take-le n l k in
    let e : r + (n - 1 - r) ≡ length (a ++ b) =
    omega (arith, length-append a b, length-take r (take n l), length-drop (suc r) (take n l))
    in
    ap₂ (λ (x y : List ℕ). x ++ y ++ drop (r + (n - 1 - r)) l) p q ∙ ap (λ (i : ℕ). a ++ b ++ drop i l) e

put_none : (l : List ℕ) (n : ℕ) → n ≤ length l → l ≡ over (take n l) l
put_none l n h = sym (ap (λ (k : ℕ). take n l ++ drop k l) (length-take-le n l h) ∙ take-append-drop n l)

module _ (n room : ℕ) (ks ds : List ℕ) (W : Within n room ks ds) where
  abbrev K : List ℕ
  K = take n ks

  abbrev D : List ℕ
  D = take n ds

  long_keys : length K ≡ n
  long_keys = length-take-le n ks (omega (arith, W.few, W.keys))

  long_deadlines : length D ≡ n
  long_deadlines = length-take-le n ds (omega (arith, W.few, W.deadlines))

  even : length K ≡ length D
  even = long_keys ∙ sym long_deadlines

  -- ---- the place of a key

  module _ (key r : ℕ) (p : PlaceOf ks n key r) where
    place_free : n ≤ r → Free key (timers K D)
    place_free h =
        every_in (λ t. t.key ≡ key → ⊥) K D even
        (λ i l q.
        let j : i < n = omega (arith, long_keys) in
        p.passed i (omega arith) (sym (get_or-take n ks i 0 j) ∙ q))

    module _ (h : r < n) where
      abbrev before_keys : List ℕ
      before_keys = take r K

      abbrev behind_keys : List ℕ
      behind_keys = drop (suc r) K

      abbrev before_deadlines : List ℕ
      before_deadlines = take r D

      abbrev behind_deadlines : List ℕ
      behind_deadlines = drop (suc r) D

      as_long : length before_keys ≡ length before_deadlines
      as_long = simp length-take (omega (arith, long_keys, long_deadlines))

      keys_split : K ≡ before_keys ++ key ∷ behind_keys
      keys_split =
          split_at K r 0 (omega (arith, long_keys))
          ∙ ap (λ (k : ℕ). before_keys ++ k ∷ behind_keys) (get_or-take n ks r 0 h ∙ p.found h)

      deadlines_split : D ≡ before_deadlines ++ get_or ds r 0 ∷ behind_deadlines
      deadlines_split =
          split_at D r 0 (omega (arith, long_deadlines))
          ∙ ap (λ (k : ℕ). before_deadlines ++ k ∷ behind_deadlines) (get_or-take n ds r 0 h)

      place_pends : Pends key (timers K D)
      place_pends =
          record {
            front = timers before_keys before_deadlines;
            deadline = get_or ds r 0;
            behind = timers behind_keys behind_deadlines;
            is = ap₂ (λ (a b : List ℕ). timers a b) keys_split deadlines_split
                ∙ timers_append before_keys (key ∷ behind_keys) before_deadlines (get_or ds r 0 ∷ behind_deadlines) as_long;
            first = every_in (λ t. t.key ≡ key → ⊥) before_keys before_deadlines as_long
                (λ i l q.
                let j : i < r = omega (arith, simp length-take at l) in
                p.passed i j (sym (get_or-take r K i 0 j ∙ get_or-take n ks i 0 (omega arith)) ∙ q));
          }

      -- a step that names the key is about this place
      place_deadline : (q : Pends key (timers K D)) → q.deadline ≡ get_or ds r 0
      unfolding place_pends
      place_deadline q = (pends_once q place_pends).1

    -- ---- `i key when`

    module _ (clock when : ℕ) where
      pub insert_pending : r < n → TakeClaim n room clock ks ds (E.Insert key when) None ks ds
      unfolding Step
      insert_pending h = stayed (λ s x. free_pends x.0 (place_pends h))

      pub insert_full : n ≤ r → room ≤ n → TakeClaim n room clock ks ds (E.Insert key when) None ks ds
      unfolding Step
      insert_full h f = stayed (λ s x. omega (arith, x.1, timers_length K D even, long_keys))

      pub insert_done : n ≤ r → n < room → (v : ℕ) → v ≡ max when clock
          → TakeClaim n room clock ks ds (E.Insert key when) (Some (pending (n + 1) room clock)) (set ks n key) (set ds n v)
      unfolding Step
      insert_done h f v e =
          went (K ++ key ∷ []) (D ++ v ∷ []) (omega (arith, length-append K (key ∷ []), length-append D (v ∷ []), even))
          (omega (arith, length-append K (key ∷ []), long_keys)) (
            place_free h,
            omega (arith, timers_length K D even, long_keys),
            ap (λ (p : List Timer). store p clock)
                (timers_append K (key ∷ []) D (v ∷ []) even ∙ ap (λ (d : ℕ). timers K D ++ timer key d ∷ []) e),
          )
          (put_end ks n key (omega (arith, W.keys)))
          (put_end ds n v (omega (arith, W.deadlines)))

      -- ---- `s key when`

      pub reset_free : n ≤ r → TakeClaim n room clock ks ds (E.Reset key when) None ks ds
      unfolding Step
      reset_free h = stayed (λ s x. free_pends (place_free h) x.0)

      pub reset_done : r < n → (v : ℕ) → v ≡ max when clock → TakeClaim n room clock ks ds (E.Reset key when) (Some (pending n room clock)) ks (set ds r v)
      unfolding Step place_pends
      reset_done h v e =
          let b : List ℕ = before_deadlines h ++ v ∷ behind_deadlines h in
          let lb : length b ≡ n = ap (λ (t : List ℕ). length t) (sym (set_split D r v (omega (arith, long_deadlines)))) ∙ length-set D r v ∙ long_deadlines in
          went K b (long_keys ∙ sym lb) (sym long_keys) (
            place_pends h,
            ap (λ (p : List Timer). store p clock)
                (ap (λ (a : List ℕ). timers a b) (keys_split h)
                ∙ timers_append (before_keys h) (key ∷ behind_keys h) (before_deadlines h) (v ∷ behind_deadlines h) (as_long h)
                ∙ ap (λ (d : ℕ). timers (before_keys h) (before_deadlines h) ++ timer key d ∷ timers (behind_keys h) (behind_deadlines h)) e),
          )
          (put_none ks n (omega (arith, W.few, W.keys)))
          (put_in ds n r v h (omega (arith, W.few, W.deadlines)))

    -- ---- `r key`

    abbrev closed : List ℕ → List ℕ
    closed l = paste l r (drop (r + 1) l) (n - 1 - r)

    module _ {ks' ds' : List ℕ} (h : r < n) (u : ks' ≡ closed ks) (v : ds' ≡ closed ds) where
      -- the others stay
      gone : (clock : ℕ) (e : Entry)
          → Step room (held n clock ks ds) e (store ((place_pends h).front ++ (place_pends h).behind) clock)
          → TakeClaim n room clock ks ds e (Some (pending (n - 1) room clock)) ks' ds'
      unfolding place_pends
      gone clock e x =
          let a : List ℕ = before_keys h ++ behind_keys h in
          let b : List ℕ = before_deadlines h ++ behind_deadlines h in
          let la : length a ≡ n - 1 =
          omega (arith, length-append (before_keys h) (behind_keys h), length-take r K, length-drop (suc r) K, long_keys)
          in
          let lb : length b ≡ n - 1 =
          omega (arith, length-append (before_deadlines h) (behind_deadlines h), length-take r D, length-drop (suc r) D, long_deadlines)
          in
          let q = sym (timers_append (before_keys h) (behind_keys h) (before_deadlines h) (behind_deadlines h) (as_long h)) in
          went a b (la ∙ sym lb) (sym la) (subst (λ (p : List Timer). Step room (held n clock ks ds) e (store p clock)) q x)
          (u ∙ put_out ks n r h (omega (arith, W.few, W.keys)))
          (v ∙ put_out ds n r h (omega (arith, W.few, W.deadlines)))

      pub remove_done : {clock : ℕ} → TakeClaim n room clock ks ds (E.Remove key) (Some (pending (n - 1) room clock)) ks' ds'
      unfolding Step
      remove_done {clock} = gone clock (E.Remove key) (place_pends h, refl)

      pub out_done : {clock : ℕ} (time : ℕ) → get_or ds r 0 ≤ time → NoneBefore ds n (get_or ds r 0)
          → TakeClaim n room clock ks ds (E.Out time key) (Some (pending (n - 1) room clock)) ks' ds'
      unfolding Step place_pends
      out_done {clock} time l f =
          gone clock (E.Out time key) (
            place_pends h,
            l,
            every_in (λ t. get_or ds r 0 ≤ t.deadline) K D even
                (λ i j.
                let k : i < n = omega (arith, long_keys) in
                omega (arith, f i k, get_or-take n ds i 0 k)),
            refl,
          )

    pub remove_free : {clock : ℕ} → n ≤ r → TakeClaim n room clock ks ds (E.Remove key) None ks ds
    unfolding Step
    remove_free h = stayed (λ s x. free_pends (place_free h) x.0)

    -- ---- `p now key`

    module _ {clock : ℕ} (time : ℕ) where
      pub out_free : n ≤ r → TakeClaim n room clock ks ds (E.Out time key) None ks ds
      unfolding Step
      out_free h = stayed (λ s x. free_pends (place_free h) x.0)

      pub out_early : r < n → time < get_or ds r 0 → TakeClaim n room clock ks ds (E.Out time key) None ks ds
      unfolding Step
      out_early h f = stayed (λ s x. omega (arith, x.1, place_deadline h x.0))

      -- another deadline is less
      pub out_other : r < n → (NoneBefore ds n (get_or ds r 0) → ⊥) → TakeClaim n room clock ks ds (E.Out time key) None ks ds
      unfolding Step
      out_other h f =
          stayed
          (λ s x.
          f
          (λ i l.
          let v = every_out (λ t. x.0.deadline ≤ t.deadline) K D even x.2 i (omega (arith, long_keys)) in
          omega (arith, v, get_or-take n ds i 0 l, place_deadline h x.0)))

  -- ---- `p now -`

  module _ (clock time : ℕ) where
    pub none_due : (NoneDue ds n time → ⊥) → TakeClaim n room clock ks ds (E.Nothing time) None ks ds
    unfolding Step
    none_due f =
        stayed
        (λ s x.
        f
        (λ i l.
        let v = every_out (λ t. time < t.deadline) K D even x.0 i (omega (arith, long_keys)) in
        omega (arith, v, get_or-take n ds i 0 l)))

    pub none_done : NoneDue ds n time → (v : ℕ) → v ≡ max clock time → TakeClaim n room clock ks ds (E.Nothing time) (Some (pending n room v)) ks ds
    unfolding Step
    none_done f v e =
        went K D even (sym long_keys) (
          every_in (λ t. time < t.deadline) K D even
              (λ i j.
              let k : i < n = omega (arith, long_keys) in
              omega (arith, f i k, get_or-take n ds i 0 k)),
          ap (λ (c : ℕ). store (timers K D) c) e,
        )
        (put_none ks n (omega (arith, W.few, W.keys)))
        (put_none ds n (omega (arith, W.few, W.deadlines)))
