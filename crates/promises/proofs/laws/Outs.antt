-- How often a key is given and handed out over a run: once at most until the next format, and over any run at most once for each insert that gave it.
use mathlib.Core.Path.{◌≡◌, refl, sym, ap, ◌∙◌, subst}
use mathlib.Core.Logic.{◌≢◌, ◌⊎◌, inl, inr, ⊎_elim, by_cases}
use mathlib.Core.Option.{Option, some}
use mathlib.Core.List.{List, [], ◌∷◌}
use Prim.Native.Nat.{ℕ, ◌+◌, ◌≤◌, max}
use native.Mathlib.Decide.{ℕ_discrete}
use native.Mathlib.Omega.{arith}
use borrow.Author.Tests.{eq-eqb, ne_eqb, lt-ltb}
use Rattle.links.specs.Lists.{Mem}
use Rattle.links.proofs.laws.Lists.{change_other}
use Rattle.places.specs.Places.{free}
use Rattle.places.proofs.laws.Whole as place_laws
use Rattle.places.specs.Format.{range}
use Rattle.wheel.proofs.laws.Sums.{mem_joined, mem_left}
use Rattle.queue.specs.declared.Answer.{Answer}
use Rattle.queue.specs.Told.{Told, told, timer}
use Rattle.queue.specs.Told as T
use Rattle.records.specs.View.{View, with_value, upd, with_period}
use Rattle.records.specs.Records.{key_of, At, Names, taken, left, target, placed, freed, packed, number_in}
use Rattle.records.proofs.laws.Cases.{by_key}
use Rattle.queue.proofs.laws.Polls.{left_less}
use Rattle.queue.specs.Steps.{PollsSome, handed_some, nothing_some, not_yet, GoesOn, once, again, ended}
use Rattle.records.specs.Words.{QueueWords, view, Sound, slices}
use Rattle.pausing.specs.Pausing.{PollTaken}
use Rattle.delay_queue.specs.declared.Call.{Call}
use Rattle.delay_queue.specs.declared.Call.TheVariants as C
use Rattle.delay_queue.specs.Claims.{CallClaim}
use Rattle.promises.proofs.laws.Decided.{fits_dec, range_dec}
use Rattle.promises.proofs.laws.OneCall.{call_sound}
use Rattle.promises.specs.Runs.{Asked, Runs, rest, next, All, NoFormat, resetting}
use Rattle.promises.proofs.laws.Views.{ViewGoes, refuses, formats, inserts, resets, removes, polls, wakes, counts, clears, call_goes, key_inserts}
use Rattle.promises.proofs.laws.Polling.{freed_beside, none_out}
use Rattle.promises.proofs.laws.TakesOut.{TakenOut, taken_out}
use Rattle.promises.proofs.laws.KeysGone.{names_given, left_out, clear_empty, spent_unnamed, out_spent}
use Rattle.promises.specs.KeysStay.{HandsKey}
use Rattle.promises.proofs.laws.KeysStay.{key_is}
use Rattle.promises.proofs.laws.Keys.{given_no_more, no_key_twice}
use Rattle.records.specs.Slices.{Fits}
use Rattle.records.specs.Format.{InRange}
use Rattle.promises.specs.Outs.{keyed, keys, outed, outs, agains}
use Rattle.promises.specs.Polling.{SaysLast, Finished}

-- ---- what is pending after a call was pending before it, under the same turn, or was inserted

-- r, pending in w, was so in v
record Was (v w : View) (r : ℕ) : Type 0 where
  was : (p : ℕ) → At w r p → (w.turn r ≡ v.turn r) × ((q : ℕ) × At v r q)

was_then : {u v w : View} {r : ℕ} → Was u v r → Was v w r → Was u w r
was_then F G = record { was = λ p a. let b = G.was p a in let c = F.was b.1.0 b.1.1 in (b.0 ∙ c.0, c.1) }

was_same : (v : View) (r : ℕ) → Was v v r
was_same v r = record { was = λ p a. (refl, (p, a)) }

-- the lists lose members
was_less : (v w : View) (r : ℕ) → w.turn r ≡ v.turn r → ((q : ℕ) → Mem r (w.lists q) → Mem r (v.lists q)) → Was v w r
was_less v w r t h = record { was = λ p a. (t, (p, record { timed = a.timed; member = h p a.member })) }

was_left : (p i : ℕ) (v : View) (r : ℕ) → Was v (left p i v) r
unfolding left
was_left p i v r = was_less v _ r refl (λ q m. left_less p i v q r m)

left_turn : (p i : ℕ) (v : View) (r : ℕ) → (left p i v).turn r ≡ v.turn r
unfolding left
left_turn p i v r = refl

was_freed : (i : ℕ) (v : View) → ((q : ℕ) → Mem i (v.lists q) → ⊥) → (r : ℕ) → Was v (freed i v) r
was_freed i v out r =
    let B = freed_beside i v in
    record {
      was = λ p a.
          let m : Mem r (v.lists p) = rw (B.lists p a.timed) at a.member in
          (B.turn r (λ e. out p (rw e at m)), (p, record { timed = a.timed; member = m }));
    }

-- or it is the one that is placed
was_placed : (i when : ℕ) (v : View) (r p : ℕ) → At (placed i when v) r p → ((placed i when v).turn r ≡ v.turn r) × ((r ≡ i) ⊎ At v r p)
unfolding placed
was_placed i when v r p a =
    let q = target v.elapsed (max when v.elapsed) in
    (refl, ⊎_elim (λ b. inl b.1) (λ m. inr (record { timed = a.timed; member = m })) (mem_joined v.lists q i p r a.member))

module _ {s : QueueWords} (S : Sound s) where
  was_taken : {o : Option ℕ} {u : View} → TakenOut (view s) o u → (r : ℕ) → Was (view s) u r
  was_taken T r = record { was = λ p a. (ap (λ f. f r) T.turn, T.was r p a) }

  poll_was : {now limit : ℕ} {x : Told} {w : View} → PollTaken (view s) now → PollsSome (view s) now limit x w → (r : ℕ) → Was (view s) w r
  poll_was h (handed_some {r = i} T G) r = goes_was (taken_out S h T) G
    where
      goes_was : {i m n : ℕ} {u : View} {x : Told} {w : View} → TakenOut (view s) (some i) u → GoesOn (view s) i m n u x w → Was (view s) w r
      goes_was {i} {u = u} O (once z) = was_then (was_taken O r) (was_freed i u (O.gone i refl) r)
      goes_was {i} {u = u} O (again q f) =
          record {
            was = λ p a.
                let b = was_placed i ((view s).deadline i + (view s).period i) u r p a in
                (b.0 ∙ ap (λ g. g r) O.turn, ⊎_elim (λ (z : r ≡ i). rw z (O.out i refl)) (λ c. O.was r p c) b.1);
          }
      goes_was {i} {u = u} O (ended q f) = was_then (was_taken O r) (was_freed i u (O.gone i refl) r)
  poll_was h (nothing_some T) r = was_taken (taken_out S h T) r
  poll_was h (not_yet T) r = was_taken (taken_out S h T) r

  named_so : {w : View} {k r p q : ℕ} → Names w k r p → w.turn r ≡ (view s).turn r → At (view s) r q → Names (view s) k r q
  named_so {r = r} {q = q} N t a =
      record {
        number = N.number;
        below = place_laws.member_below S.standing.whole.places q r a.member;
        pending = a;
        turn = sym t ∙ N.turn;
      }

  named_was : {w : View} {k r p : ℕ} → Was (view s) w r → Names w k r p → (q : ℕ) × Names (view s) k r q
  named_was {p = p} F N = let b = F.was p N.pending in (b.1.0, named_so N b.0 b.1.1)

  pub does_was : {c : Call} {x : Told} {w : View} → ViewGoes (view s) c x w → (c ≡ C.Clear → (r p : ℕ) → At w r p → ⊥) → {k r p : ℕ}
      → Names w k r p
      → (x ≡ T.key k) ⊎ ((q : ℕ) × Names (view s) k r q)
  does_was refuses empty {p = p} N = inr (p, N)
  does_was (formats {n}) empty {p = p} N =
      absurd (rw (change_other (λ q. []) free (range n 0) p (omega arith)) at N.pending.member)
  does_was (inserts {value} {when} {period} {r = i} {l = l} e) empty {k} {r} {p} N =
      let u = with_period (upd (view s).period i period) (with_value (upd (view s).value i value) (taken l (view s))) in
      let b = was_placed i when u r p N.pending in
      let t : (placed i when u).turn r ≡ (view s).turn r = b.0 in
      ⊎_elim
      (λ z. inl (ap T.key (ap (key_of (view s)) (sym z) ∙ ap (λ c. packed c r) (sym t) ∙ sym (key_is N))))
      (λ a. inr (p, named_so N t (record { timed = a.timed; member = mem_left (view s).lists free i l e p r a.member })))
      b.1
  does_was (resets {when = when} {r = i} {p = q} M) empty {k} {r} {p} N =
      let b = was_placed i when (left q i (view s)) r p N.pending in
      let t : (placed i when (left q i (view s))).turn r ≡ (view s).turn r = b.0 ∙ left_turn q i (view s) r in
      ⊎_elim
      (λ z. inr (q, named_so N t (rw z M.pending)))
      (λ a. inr (p, named_so N t (record { timed = a.timed; member = left_less q i (view s) p r a.member })))
      b.1
  does_was (removes {r = i} {p = q} M) empty {r = r} N =
      inr (named_was (was_then (was_left q i (view s) r) (was_freed i (left q i (view s)) (left_out S M.pending) r)) N)
  does_was (polls c h Q) empty {r = r} N = inr (named_was (poll_was h Q r) N)
  does_was (wakes W) empty {p = p} N = inr (p, N)
  does_was counts empty {p = p} N = inr (p, N)
  does_was (clears c) empty {r = r} {p = p} N = absurd (empty refl r p N.pending)

-- ---- an answer gives the key, or hands it out, or does neither

data Kind (k : ℕ) (x : Told) : Type 0 where
  gives : x ≡ T.key k → Kind k x
  hands : HandsKey k x → Kind k x
  other : keyed k x ≡ 0 → outed k x ≡ 0 → Kind k x

kind : (k : ℕ) (x : Told) → Kind k x
kind k T.ok = other refl refl
kind k (T.key j) = by_cases (ℕ_discrete j k) (λ e. gives (ap T.key e)) (λ d. other (rw (ne_eqb j k d)) refl)
kind k (T.gone v d) = other refl refl
kind k (T.out j v d m n) =
    by_cases (ℕ_discrete j k) (λ e. hands (v, d, m, n, ap (λ i. timer i v d m n) e)) (λ z. other refl (rw (ne_eqb j k z)))
kind k (T.last j v d m n) =
    by_cases (ℕ_discrete j k) (λ e. hands (v, d, m, n, ap (λ i. timer i v d m n) e)) (λ z. other refl (rw (ne_eqb j k z)))
kind k (T.none m n) = other refl refl
kind k (T.yet m n) = other refl refl
kind k (T.wake t) = other refl refl
kind k T.never = other refl refl
kind k (T.len n) = other refl refl
kind k (T.no n) = other refl refl

gives_counts : {k : ℕ} {x : Told} → x ≡ T.key k → (keyed k x ≡ 1) × (outed k x ≡ 0)
gives_counts {k} e = (rw (e, eq-eqb k k refl), rw e)

hands_counts : (k : ℕ) (x : Told) → HandsKey k x → (keyed k x ≡ 0) × (outed k x ≡ 1)
hands_counts k T.ok o = absurd (none_out o.4)
hands_counts k (T.key j) o = absurd (none_out o.4)
hands_counts k (T.gone v d) o = absurd (none_out o.4)
hands_counts k (T.out j v d m n) o = let e : timer j v d m n ≡ timer k o.0 o.1 o.2 o.3 = o.4 in
    let z : j ≡ k = cc in (refl, rw (eq-eqb j k z))
hands_counts k (T.last j v d m n) o = let e : timer j v d m n ≡ timer k o.0 o.1 o.2 o.3 = o.4 in
    let z : j ≡ k = cc in (refl, rw (eq-eqb j k z))
hands_counts k (T.none m n) o = absurd (none_out o.4)
hands_counts k (T.yet m n) o = absurd (none_out o.4)
hands_counts k (T.wake t) o = absurd (none_out o.4)
hands_counts k T.never o = absurd (none_out o.4)
hands_counts k (T.len n) o = absurd (none_out o.4)
hands_counts k (T.no n) o = absurd (none_out o.4)

-- what is handed out and not done with is set again
pub set_counts : (s : QueueWords) {k r p : ℕ} (x : Told) → Names (view s) k r p → HandsKey k x → (Finished (view s) r x → ⊥) → resetting s x ≡ 1
set_counts s T.ok N o f = absurd (none_out o.4)
set_counts s (T.key j) N o f = absurd (none_out o.4)
set_counts s (T.gone v d) N o f = absurd (none_out o.4)
set_counts s {k} {r} (T.out j v d m n) N o f =
    let e : timer j v d m n ≡ timer k o.0 o.1 o.2 o.3 = o.4 in
    let z : j ≡ k = cc in
    let q : (view s).period (number_in j) ≡ (view s).period r = ap (view s).period (ap (λ i. number_in i) z ∙ sym N.number) in
    let some : (view s).period r ≢ 0 = λ y. f (inl y) in
    rw (lt-ltb 0 ((view s).period (number_in j)) (omega arith))
set_counts s (T.last j v d m n) N o f = absurd (f (inr (_, _, _, _, _, refl)))
set_counts s (T.none m n) N o f = absurd (none_out o.4)
set_counts s (T.yet m n) N o f = absurd (none_out o.4)
set_counts s (T.wake t) N o f = absurd (none_out o.4)
set_counts s T.never N o f = absurd (none_out o.4)
set_counts s (T.len n) N o f = absurd (none_out o.4)
set_counts s (T.no n) N o f = absurd (none_out o.4)

not_last : (v : View) (r : ℕ) {x : Told} → v.period r ≢ 0 → (SaysLast x → ⊥) → Finished v r x → ⊥
not_last v r z f d = ⊎_elim z f d

pub done_dec : (v : View) (r : ℕ) (x : Told) → Dec (Finished v r x)
done_dec v r x = by_cases (ℕ_discrete (v.period r) 0) (λ z. yes (inl z)) (λ z. last_dec x z)
  where
    last_dec : (x : Told) → v.period r ≢ 0 → Dec (Finished v r x)
    last_dec (T.last j w d m n) z = yes (inr (_, _, _, _, _, refl))
    last_dec T.ok z = no (not_last v r z (λ y. let e = y.5 in let q : ◌≡◌ {A = ℕ} 0 1 = cc in omega arith))
    last_dec (T.key j) z = no (not_last v r z (λ y. let e = y.5 in let q : ◌≡◌ {A = ℕ} 0 1 = cc in omega arith))
    last_dec (T.gone w d) z = no (not_last v r z (λ y. let e = y.5 in let q : ◌≡◌ {A = ℕ} 0 1 = cc in omega arith))
    last_dec (T.out j w d m n) z = no (not_last v r z (λ y. let e = y.5 in let q : ◌≡◌ {A = ℕ} 0 1 = cc in omega arith))
    last_dec (T.none m n) z = no (not_last v r z (λ y. let e = y.5 in let q : ◌≡◌ {A = ℕ} 0 1 = cc in omega arith))
    last_dec (T.yet m n) z = no (not_last v r z (λ y. let e = y.5 in let q : ◌≡◌ {A = ℕ} 0 1 = cc in omega arith))
    last_dec (T.wake t) z = no (not_last v r z (λ y. let e = y.5 in let q : ◌≡◌ {A = ℕ} 0 1 = cc in omega arith))
    last_dec T.never z = no (not_last v r z (λ y. let e = y.5 in let q : ◌≡◌ {A = ℕ} 0 1 = cc in omega arith))
    last_dec (T.len n) z = no (not_last v r z (λ y. let e = y.5 in let q : ◌≡◌ {A = ℕ} 0 1 = cc in omega arith))
    last_dec (T.no n) z = no (not_last v r z (λ y. let e = y.5 in let q : ◌≡◌ {A = ℕ} 0 1 = cc in omega arith))

-- ---- a run

-- k comes out once more than it is given or set again, at most; and no more often, if it names nobody at the start
record Bound (k : ℕ) {s u : QueueWords} {l : List Asked} (R : Runs s l u) : Type 0 where
  most : outs k l ≤ keys k l + agains k R + 1
  few : ((r p : ℕ) → Names (view s) k r p → ⊥) → outs k l ≤ keys k l + agains k R

module _ {s : QueueWords} (S : Sound s) (x : Asked) (t : QueueWords) (A : CallClaim x.call s x.answer t) where
  abbrev D : ViewGoes (view s) x.call (told x.answer) (view t)
  D = call_goes x.call s x.answer t S A

  pub emptied : x.call ≡ C.Clear → (r p : ℕ) → At (view t) r p → ⊥
  emptied e = clear_empty S (rw e at A)

  bound_more : {k : ℕ} {u : QueueWords} {l : List Asked} {R : Runs t l u} → Kind k (told x.answer) → Bound k R → Bound k (next {x = x} A R)
  bound_more (gives e) B =
      let n = gives_counts e in
      record { most = omega (arith, n.0, n.1, B.most); few = λ f. omega (arith, n.0, n.1, B.most) }
  bound_more {k} (hands o) B =
      let n = hands_counts k (told x.answer) o in
      let H = out_spent S D o.4 in
      record {
        most =
            by_cases (done_dec (view s) H.number (told x.answer))
            (λ d. omega (arith, n.0, n.1, B.few (spent_unnamed (H.spent d))))
            (λ d. let c = set_counts s (told x.answer) H.names o d in rw (n.0, n.1, c) (omega (arith, B.most)));
        few = λ f. absurd (f H.number H.place H.names);
      }
  bound_more {k} (other y z) B =
      record {
        most = omega (arith, y, z, B.most);
        few = λ f.
            let g : (r p : ℕ) → Names (view t) k r p → ⊥
            = λ r p N. ⊎_elim (λ e. omega (arith, (gives_counts e).0)) (λ M. f r M.0 M.1) (does_was S D emptied N) in
            omega (arith, y, z, B.few g);
      }

bound : (k : ℕ) {s t : QueueWords} {l : List Asked} → Sound s → (R : Runs s l t) → Bound k R
bound k S rest = record { most = omega arith; few = λ f. omega arith }
bound k S (next {s} {t} {x = x} c r) = bound_more S x t c (kind k (told x.answer)) (bound k (call_sound x.call s x.answer t c S) r)

keys_none : (k : ℕ) (l : List Asked) → All (λ x. told x.answer ≢ T.key k) l → keys k l ≡ 0
keys_none k [] a = refl
keys_none k (x ∷ l) a = by (kind k (told x.answer)) (keys_none k l a.1)
  where
    by : Kind k (told x.answer) → keys k l ≡ 0 → keyed k (told x.answer) + keys k l ≡ 0
    by (gives e) h = absurd (a.0 e)
    by (hands o) h = omega (arith, (hands_counts k (told x.answer) o).0)
    by (other y z) h = omega arith

-- ---- what is promised

-- "none comes out twice", 02 [7]: "read per placing", over a run: any calls, formats and clears among them. The key names no pending timer at the
-- start, as none does on a fresh store
pub outs_few : {s t : QueueWords} {l : List Asked} (k : ℕ) → Sound s → ((r p : ℕ) → Names (view s) k r p → ⊥) → (R : Runs s l t)
    → outs k l ≤ keys k l + agains k R
outs_few k S f R = (bound k S R).few f

-- and one that is pending at the start comes out once besides: a key's hand-outs are at most one more than the times it is given and set again
pub outs_most : {s t : QueueWords} {l : List Asked} (k : ℕ) → Sound s → (R : Runs s l t) → outs k l ≤ keys k l + agains k R + 1
outs_most k S R = (bound k S R).most

-- "No key is given twice until the next format."
pub keys_once : {s t : QueueWords} {l : List Asked} (k : ℕ) → Sound s → Runs s l t → NoFormat l → keys k l ≤ 1
keys_once k S rest f = omega arith
keys_once k S (next {s} {t} {x = x} {l = l} c r) f =
    by (kind k (told x.answer)) (keys_once k (call_sound x.call s x.answer t c S) r f.1)
  where
    by : Kind k (told x.answer) → keys k l ≤ 1 → keyed k (told x.answer) + keys k l ≤ 1
    by (gives e) h =
        let i = (key_inserts (call_goes x.call s x.answer t S c) e).3 in
        let A = subst (λ b. CallClaim b s x.answer t) i c in
        omega (arith, (gives_counts e).0, keys_none k l (no_key_twice S A e r f.1))
    by (hands o) h = omega (arith, (hands_counts k (told x.answer) o).0)
    by (other y z) h = omega arith

-- so until the next format a key's hand-outs are at most one more than the times it is set again
pub outs_per_placing : {s t : QueueWords} {l : List Asked} (k : ℕ) → Sound s → (R : Runs s l t) → NoFormat l → outs k l ≤ agains k R + 1
outs_per_placing {l = l} k S R f =
    by_key S k
    (λ r p N. omega (arith, outs_most k S R, keys_none k l (given_no_more k S (names_given S N) R f)))
    (λ g. omega (arith, outs_few k S g R, keys_once k S R f))

-- so from a format on, with nothing asked of the store: what was handed out was inserted, and no more often
pub outs_fresh : {s t u : QueueWords} {n turn : ℕ} {a : Answer} {l : List Asked} (k : ℕ) → CallClaim (C.Format n turn) s a t → told a ≡ T.ok
    → (R : Runs t l u)
    → outs k l ≤ keys k l + agains k R
outs_fresh {s} {t} {n = n} {turn = turn} {a = a} {l = l} k A e r = by (fits_dec s n) (range_dec turn)
  where
    refuses_not : {j : ℕ} → told a ≡ T.no j → ⊥
    refuses_not z = let y : ◌≡◌ {A = ℕ} 0 1 = cc in omega arith

    by : Dec (Fits (slices s) n) → Dec (InRange turn) → outs k l ≤ keys k l + agains k r
    by (no f) i = absurd (refuses_not (A.short f).told)
    by (yes x) (no f) = absurd (refuses_not (A.outside x f).told)
    by (yes x) (yes y) =
        let F = A.done x y in
        outs_few k F.sound (λ q p N.
        let b = rw F.view at N.pending in
        rw (change_other (λ z. []) free (range n 0) p (omega arith)) at b.member) r
